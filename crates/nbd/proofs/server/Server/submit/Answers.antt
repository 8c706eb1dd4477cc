use Rattle.std.proofs.Common.{inr, refl}
use Rattle.nbd.proofs.Frames.{refused-only}
use Rattle.nbd.proofs.server.Server.submit.Goals as goal

pub returns-in_default-event : goal.returns-in_default-event
returns-in_default-event g c = record {
  submits = tt;
  short = (
    refl,
    inr (rw (← c.in-Ok.ensures.made) (refused-only _ c.event.result c.args.self.now.recorder
        c.event.new.self c.event.ensures.does c.in_default-event.not-Tracked
        c.in_default-event.not-Passed)),
  );
  device = refl;
  goes = record { recorder = c.event.ensures.goes; sectors = refl; block = refl };
}
