use Rattle.std.proofs.Common.{◌*◌, ◌++◌, ℕ, inr, refl, subst}
use Rattle.std.proofs.KnownBytes.{Appends-trans, Consumes-trans}
use Rattle.bio.specs.declared.request.SectorSize.{SectorSize}
use Rattle.nbd.specs.Negotiation.{HandshakeBegins}
use Rattle.nbd.proofs.serving.play.Goals as goal

pub returns-in-Ok-clause-plays : goal.returns-in-Ok-clause-plays
returns-in-Ok-clause-plays g c = λ e.
    let first = c.negotiate.ensures.begins (cc (c.in-Ok-Begun.is, c.in-Ok-Begun.field-0-is)) in
    let next = c.in-Ok.ensures.disconnected in (
      first.0 ++ next.0,
      first.1 ++ next.1,
      Consumes-trans (g.I.Read.remaining c.args.input.now)
          (g.I.Read.remaining c.negotiate.new.input) (g.I.Read.remaining c.transmit.new.input) first.0
          next.0 first.2 next.2,
      Appends-trans (g.O.Write.contents c.args.output.now)
          (g.O.Write.contents c.negotiate.new.output) (g.O.Write.contents c.transmit.new.output)
          first.1 next.1 first.3 next.3,
      record {
        hello = first.0;
        greeted = first.1;
        begins = subst (λ (n : ℕ). HandshakeBegins
            (record { bytes = n * 512; block = c.args.server.now.size }) first.0 first.1)
            c.sectors.ensures.size
            (subst (λ (size : SectorSize). HandshakeBegins
            (record { bytes = c.sectors.result * 512; block = size }) first.0 first.1)
            c.block.ensures first.4);
        asked = next.0;
        replied = next.1;
        disconnects = next.4;
        heard = refl;
        said = refl;
      },
    )

pub returns-in-Err-transmit-clause-breaks : goal.returns-in-Err-transmit-clause-breaks
returns-in-Err-transmit-clause-breaks g c = λ end e.
    let first = c.negotiate.ensures.begins (cc (c.in-Ok-Begun.is, c.in-Ok-Begun.field-0-is)) in
    inr (
      first.0,
      first.1,
      g.I.Read.remaining c.negotiate.new.input,
      g.O.Write.contents c.negotiate.new.output,
      first.2,
      first.3,
      subst (λ (n : ℕ). HandshakeBegins
          (record { bytes = n * 512; block = c.args.server.now.size }) first.0 first.1)
          c.sectors.ensures.size
          (subst (λ (size : SectorSize). HandshakeBegins
          (record { bytes = c.sectors.result * 512; block = size }) first.0 first.1)
          c.block.ensures first.4),
      c.in-Err-transmit.ensures.broke_off,
    )
