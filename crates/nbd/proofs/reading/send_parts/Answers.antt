use Rattle.std.proofs.Common.{◌≡◌, ◌∙◌, ◌+◌, ◌*◌, ◌/◌, ap, arith, length, take}
use Rattle.std.proofs.lemmas.Grind.{common_steps}
use Rattle.std.proofs.lemmas.List.{length-take-le}
use Rattle.bio.specs.Content.{gather}
use Rattle.nbd.proofs.Parts.{reads_both, reads_content, sent_more}
use Rattle.nbd.proofs.reading.send_parts.Goals as goal

pub returns-in_default-clause-only : goal.returns-in_default-clause-only
returns-in_default-clause-only g c = reads_both _ _ _ c.loop-done.invariant.2 c.read.ensures.only

pub returns-in_err-send-clause-only : goal.returns-in_err-send-clause-only
returns-in_err-send-clause-only g c = reads_both _ _ _ c.loop-done.invariant.2 c.read.ensures.only

pub loop-done-preserved : goal.loop-done-preserved
loop-done-preserved g c =
    let bytes = length-take-le (c.min-count.result * 512) c.loop-done.buffer (omega arith) in
    let sectors : length (take (c.min-count.result * 512) c.loop-done.buffer) / 512
    ≡ c.min-count.result = omega (arith, bytes) in (
      omega arith,
      grind (arith, common_steps),
      reads_both _ _ _ c.loop-done.invariant.2 c.read.ensures.only,
      c.servers_go_as_one.ensures.two _ _ _ c.loop-done.invariant.3 c.read.ensures.goes,
      sent_more (g.D.BlockDev.shown c.args.server.now.disk).content c.args.range.first c.loop-done.done c.min-count.result c.read.new.buffer (g.O.Write.contents c.args.output.now)
          (g.O.Write.contents c.loop-done.output) (g.O.Write.contents c.send.new.output)
          c.loop-done.invariant.4 c.in_ok-send.ensures.sends
          (c.in-Ok.ensures.bytes
          ∙ ap (gather (g.D.BlockDev.shown c.loop-done.server.disk).content
          (c.args.range.first + c.loop-done.done)) sectors
          ∙ reads_content c.args.server.now c.loop-done.server
          (c.args.range.first + c.loop-done.done) c.min-count.result c.loop-done.invariant.2),
    )
