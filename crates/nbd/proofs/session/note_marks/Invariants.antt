use Rattle.std.proofs.Common.{[]}
use Rattle.nbd.specs.Requests.{Plays}
use Rattle.nbd.specs.Serving.{ServerFrame}
use Rattle.nbd.proofs.session.note_marks.Given as goal

-- Marks were recorded.
abbrev pub invariant-loop : goal.invariant-loop
invariant-loop g l =
    ServerFrame l.initial.server l.server × Plays [] [] l.initial.server l.server
