use Rattle.std.proofs.Common.{◌++◌, ℕ, arith, refl, subst}
use Rattle.std.proofs.KnownBytes.{Appends-trans, Consumes-trans}
use Rattle.nbd.specs.Negotiation.{AgreesOnOptions, greeting}
use Rattle.nbd.proofs.negotiation.negotiate.Goals as goal

pub returns : goal.returns
returns g c =
    record {
      begins = λ begun.
          let agreed = c.answer_options.ensures.begins begun in (
            c.take.new.buffer ++ agreed.0,
            greeting ++ agreed.1,
            Consumes-trans _ _ _ _ _ c.in_ok-take.ensures.filled agreed.2,
            Appends-trans _ _ _ _ _ c.in_ok-send.ensures.sends agreed.3,
            record {
              flags = c.take.new.buffer;
              four = c.take.auto.buffer;
              known = omega (arith, c.read_u32-flags.ensures);
              options = agreed.0;
              replied = agreed.1;
              agrees = subst (λ (flags : ℕ). AgreesOnOptions c.args.export flags agreed.0 agreed.1)
                  c.read_u32-flags.ensures agreed.4;
              heard = refl;
              said = refl;
            },
          );
    }
