use Rattle.std.proofs.Common.{◌≡◌, ◌∙◌, Ok, ap, inl, inr, refl, subst, sym}
use Rattle.bio.specs.declared.request.Bio.{Bio}
use Rattle.bio.specs.Requests.{check_sized_answer, has_data}
use Rattle.recorder.specs.Calls.{core_of}
use Rattle.script_runner.proofs.LineSteps.{refused-only}
use Rattle.script_runner.proofs.LawfulRuns.{bio_suits, has_some}
use Rattle.script_runner.proofs.asking.ask.Goals as goal

pub bio_of-requires : goal.bio_of-requires
bio_of-requires g c = ((core_of c.args.recorder.now).sector_bytes, 1048576, c.requires)

pub event-requires : goal.event-requires
event-requires g c =
    let bytes = (core_of c.args.recorder.now).sector_bytes in
    subst (λ (bio : Bio). check_sized_answer bytes bio 1048576 ≡ Ok tt)
    (sym (c.in-Ok-clone.ensures.made ∙ c.in-Ok.ensures.made))
    (bio_suits bytes 1048576 c.args.submission c.requires)

pub returns-in_default-clause-asks : goal.returns-in_default-clause-asks
returns-in_default-clause-asks g c = inl (has_some _ c.in_default.ensures.no_data, refl)

pub returns-in_default-clone-clause-asks : goal.returns-in_default-clone-clause-asks
returns-in_default-clone-clause-asks g c =
    inl (
      ap has_data (sym c.in-Ok.ensures.made) ∙ has_some _ c.in_default-clone.ensures.no_data,
      refl,
    )

pub returns-in-Tracked-clause-asks : goal.returns-in-Tracked-clause-asks
returns-in-Tracked-clause-asks g c = (
  c.in-Ok.ensures.made,
  rw (← c.in-Ok-clone.ensures.made ∙ c.in-Ok.ensures.made) c.in-Tracked.ensures.does,
)

pub returns-in-Passed-clause-asks : goal.returns-in-Passed-clause-asks
returns-in-Passed-clause-asks g c = (
  c.in-Ok.ensures.made,
  rw (← c.in-Ok-clone.ensures.made ∙ c.in-Ok.ensures.made) c.in-Passed.ensures.does,
)

pub returns-in_default-event : goal.returns-in_default-event
returns-in_default-event g c = record {
  asks =
      inr (rw (← c.in-Ok-clone.ensures.made ∙ c.in-Ok.ensures.made) (refused-only _ c.event.result
      c.args.recorder.now c.event.new.self c.event.ensures.does c.in_default-event.not-Tracked
      c.in_default-event.not-Passed));
  goes = c.event.ensures.goes;
  log_time = c.event.ensures.time;
}
