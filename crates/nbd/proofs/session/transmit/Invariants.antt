use Rattle.std.proofs.Common.{List, ℕ}
use Rattle.std.specs.Io.KnownBytes.{Appends, Consumes}
use Rattle.nbd.specs.Requests.{Plays}
use Rattle.nbd.specs.Serving.{ServerFrame}
use Rattle.nbd.proofs.session.transmit.Given as goal

-- Some steps were taken.
abbrev pub invariant-loop : goal.invariant-loop
invariant-loop g l =
    ServerFrame l.initial.server l.server × ((taken out : List ℕ)
    × Consumes (g.I.Read.remaining l.initial.input) (g.I.Read.remaining l.input) taken
    × Appends (g.O.Write.contents l.initial.output) (g.O.Write.contents l.output) out
    × Plays taken out l.initial.server l.server)
