use Rattle.std.proofs.Common.{◌≡◌, None}
use Rattle.bio.specs.Places.{first_below}
use Rattle.dmlw_commands.proofs.QuestionEnds.{stops_at}
use Rattle.dmlw_commands.proofs.judge_image.moments.last_moment.Given as goal

abbrev pub invariant-loop-place : goal.invariant-loop-place
invariant-loop-place l = first_below (stops_at l.events) l.place ≡ None
