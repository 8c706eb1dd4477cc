use Rattle.std.proofs.Common.{arith, refl}
use Rattle.nbd.proofs.Frames.{consumed_more}
use Rattle.nbd.proofs.negotiation.read_option.Goals as goal

pub returns : goal.returns
returns g c = (
  record { head = c.take.new.buffer; body = c.take_all.new.bytes.items },
  record {
    header = c.in-Some.ensures.0;
    magic = c.in-Some.ensures.1;
    whole = omega (arith, c.in-Some.ensures.3, c.in_ok-take_all.ensures.length, c.in-Ok.ensures.len, c.in_ok-take_all.ensures);
  },
  c.in-Some.ensures.2,
  refl,
  consumed_more _ _ _ _ _ c.in_ok-take.ensures.filled c.in_ok-take_all.ensures.filled,
)
