use Rattle.nbd.proofs.Handshakes.{HasAsked}
use Rattle.nbd.proofs.negotiation.answer_options.Given as goal

-- Some options were read and answered, and none of them ended the handshake.
abbrev pub invariant-loop : goal.invariant-loop
invariant-loop g l =
    HasAsked l.export l.flags (g.I.Read.remaining l.initial.input) (g.I.Read.remaining l.input)
    (g.O.Write.contents l.initial.output) (g.O.Write.contents l.output)
