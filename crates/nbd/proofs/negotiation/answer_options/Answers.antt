use Rattle.nbd.proofs.Handshakes.{asked_begun, asked_on}
use Rattle.nbd.proofs.negotiation.answer_options.Goals as goal

pub returns-in-Some : goal.returns-in-Some
returns-in-Some g c =
    let sent = c.in_ok-end.ensures in
    record {
      begins = λ begun. asked_begun _ _ _ _ _ _ _ _ _ _ c.loop.invariant sent.1 sent.2 sent.3
          sent.4 (cc (c.in-Some.is, begun));
    }

pub loop-preserved : goal.loop-preserved
loop-preserved g c =
    let sent = c.in_ok-end.ensures in
    asked_on _ _ _ _ _ _ _ _ _ _ c.loop.invariant sent.1 sent.2 sent.3 sent.4
    c.in_default.not-Some
