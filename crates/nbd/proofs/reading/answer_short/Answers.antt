use Rattle.std.proofs.Common.{◌≡◌, ◌∙◌, ◌/◌, ap, arith, inl, length}
use Rattle.bio.specs.Content.{gather}
use Rattle.nbd.proofs.Parts.{fails_now, sends_after, sends_fault}
use Rattle.nbd.proofs.reading.answer_short.Goals as goal

pub returns-in_ok-send-in-Ok-clause-answers : goal.returns-in_ok-send-in-Ok-clause-answers
returns-in_ok-send-in-Ok-clause-answers g c =
    let sectors : length c.args.buffer.now / 512 ≡ c.args.range.count =
    omega (arith, c.requires.buffer) in
    sends_after c.send-in-Ok.result c.args.now c.args.range c.args.cookie c.reply_header.result
    c.read.new.buffer (g.O.Write.contents c.args.output.now) (g.O.Write.contents c.send.new.output)
    (g.O.Write.contents c.send-in-Ok.new.output) c.args.server.now c.read.new.self
    c.in_ok-send-in-Ok.ensures.sends c.send-in-Ok.ensures.sends c.reply_header.ensures c.read.ensures.only
    (c.in-Ok.ensures.bytes
    ∙ ap (gather (g.D.BlockDev.shown c.args.server.now.disk).content c.args.range.first) sectors)

pub returns-in-Err-clause-answers : goal.returns-in-Err-clause-answers
returns-in-Err-clause-answers g c =
    sends_fault c.reply.result c.args.now c.args.range c.args.cookie c.in-Err.fault
    (g.O.Write.contents c.args.output.now) (g.O.Write.contents c.reply.new.output) c.args.server.now
    c.read.new.self c.read.ensures.only
    (inl (fails_now c.args.now c.args.range c.args.buffer.now c.read.new.buffer c.in-Err.fault
    c.args.server.now c.read.new.self c.requires.buffer c.in-Err.ensures.fails)) c.reply.ensures.sends
