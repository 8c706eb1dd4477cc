use Rattle.std.proofs.Common.{◌+◌, subst}
use Rattle.std.specs.Prelude.{Result}
use Rattle.bio.specs.declared.request.Bio.TheVariants as bios
use Rattle.nbd.specs.declared.fault.RequestFault.{RequestFault}
use Rattle.nbd.specs.Serving.{GivesResult}
use Rattle.nbd.proofs.Parts.{discarded_failed, discarded_more, ok_left}
use Rattle.nbd.proofs.writing.discard_parts.Goals as goal

pub returns-in-Err-clause-discards : goal.returns-in-Err-clause-discards
returns-in-Err-clause-discards g c =
    discarded_failed c.args.now c.args.range c.loop-done.done c.min.result c.args.server.now
    c.loop-done.server c.discard_part.new.server c.requires c.loop-done.invariant c.min.ensures
    c.in-Err.fault
    (subst (λ (r : Result Unit RequestFault). GivesResult c.args.now
    (bios.Discard (c.args.range.first + c.loop-done.done) c.min.result) r c.loop-done.server
    c.discard_part.new.server) c.in-Err.is c.discard_part.ensures.gives)

pub loop-done-preserved : goal.loop-done-preserved
loop-done-preserved g c =
    discarded_more c.args.now c.args.range c.loop-done.done c.min.result c.args.server.now
    c.loop-done.server c.discard_part.new.server c.requires c.loop-done.invariant c.min.ensures
    (c.servers_go_as_one.ensures.two _ _ _ c.loop-done.invariant.frame c.discard_part.ensures.goes)
    (subst (λ (r : Result Unit RequestFault). GivesResult c.args.now
    (bios.Discard (c.args.range.first + c.loop-done.done) c.min.result) r c.loop-done.server
    c.discard_part.new.server) (ok_left c.discard_part.result c.in_default.not-Err)
    c.discard_part.ensures.gives)
