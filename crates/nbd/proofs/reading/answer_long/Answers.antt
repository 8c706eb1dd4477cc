use Rattle.std.proofs.Common.{inl}
use Rattle.bio.specs.Content.{gather}
use Rattle.nbd.proofs.Parts.{reads_both, reads_content, sends_after, sends_fault}
use Rattle.nbd.proofs.reading.answer_long.Goals as goal

pub returns-in_ok-send-in-Ok-clause-answers : goal.returns-in_ok-send-in-Ok-clause-answers
returns-in_ok-send-in-Ok-clause-answers g c =
    sends_after c.send_parts.result c.args.now c.args.range c.args.cookie c.reply_header.result
    (gather (g.D.BlockDev.shown c.try_parts.new.server.disk).content c.args.range.first
    c.args.range.count)
    (g.O.Write.contents c.args.output.now) (g.O.Write.contents c.send.new.output)
    (g.O.Write.contents c.send_parts.new.output) c.args.server.now c.send_parts.new.server
    c.in_ok-send-in-Ok.ensures.sends c.send_parts.ensures.sends c.reply_header.ensures
    (reads_both _ _ _ c.try_parts.ensures.only c.send_parts.ensures.only)
    (reads_content c.args.server.now c.try_parts.new.server c.args.range.first c.args.range.count
    c.try_parts.ensures.only)

pub returns-in_ok-send-in-Ok-clause-only : goal.returns-in_ok-send-in-Ok-clause-only
returns-in_ok-send-in-Ok-clause-only g c =
    reads_both _ _ _ c.try_parts.ensures.only c.send_parts.ensures.only

pub returns-in-Err-clause-answers : goal.returns-in-Err-clause-answers
returns-in-Err-clause-answers g c =
    sends_fault c.reply.result c.args.now c.args.range c.args.cookie c.in-Err.fault
    (g.O.Write.contents c.args.output.now) (g.O.Write.contents c.reply.new.output) c.args.server.now
    c.try_parts.new.server c.try_parts.ensures.only (inl c.in-Err.ensures.fails)
    c.reply.ensures.sends
