use Rattle.std.proofs.Common.{inr, refl}
use Rattle.nbd.specs.declared.fault.RequestFault.TheVariants as faults
use Rattle.nbd.proofs.Parts.{reads_none, sends_fault}
use Rattle.nbd.proofs.reading.answer_range.Goals as goal

pub returns-in_default-clause-answers : goal.returns-in_default-clause-answers
returns-in_default-clause-answers g c =
    sends_fault c.reply.result c.args.now c.args.range c.args.cookie faults.NoMemory
    (g.O.Write.contents c.args.output.now) (g.O.Write.contents c.reply.new.output) c.args.server.now
    c.args.server.now (reads_none c.args.server.now) (inr (refl, refl)) c.reply.ensures.sends
