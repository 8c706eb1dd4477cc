use Rattle.nbd.proofs.Plays.{plays_mark}
use Rattle.nbd.proofs.session.note_marks.Goals as goal

pub loop-preserved : goal.loop-preserved
loop-preserved g c = (
  c.servers_go_as_one.ensures.two _ _ _ c.loop.invariant.0 c.mark.ensures.goes,
  plays_mark _ _ _ _ _ c.loop.invariant.1 c.mark.ensures.notes,
)
