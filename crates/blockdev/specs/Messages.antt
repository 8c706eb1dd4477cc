-- The refusals that report errors of messages, and views that a message leaves unchanged.
use Rattle.std.proofs.Common.{◌≡◌, ℕ, refl, ◌∙◌}
use Rattle.refusals.specs.declared.refusal.Refusal.{Refusal}
use Rattle.refusals.specs.declared.refusal.Refusal.TheVariants as refusals
use Rattle.bio.specs.Content.{Content}
use Rattle.blockdev.specs.declared.message.MessageError.{MessageError}
use Rattle.blockdev.specs.declared.message.MessageError.TheVariants as errors
use Rattle.blockdev.specs.View.{View}

-- the refusal that reports a message's error
abbrev pub message_refusal : MessageError → Refusal
message_refusal errors.BadMessage = refusals.BadMessage
message_refusal errors.AlreadyBad = refusals.AlreadyBad
message_refusal errors.NotBad = refusals.NotBad
message_refusal errors.Memory = refusals.Memory

-- The view `w` of a device is the earlier view `v`, unchanged.
pub record Unchanged (v w : View) : Type 0 where
  pub size : w.size ≡ v.size
  pub origin : w.origin ≡ v.origin
  pub content : w.content ≡ v.content
  -- a crash may leave the same contents, now and since any reading of the clock
  pub crash : (left : Content) → v.crash left → w.crash left
  pub crash_before : (left : Content) → w.crash left → v.crash left
  pub clock : w.clock ≡ v.clock
  pub since : (reading : ℕ) (left : Content) → v.since reading left → w.since reading left
  pub since_before : (reading : ℕ) (left : Content) → w.since reading left → v.since reading left
  pub faults : w.faults ≡ v.faults
  pub lies : w.lies ≡ v.lies
  pub can_lie : w.can_lie ≡ v.can_lie

-- If nothing happens, a view is unchanged.
pub unchanged_none : (v : View) → Unchanged v v
unchanged_none v = record {
  size = refl;
  origin = refl;
  content = refl;
  crash = λ left may. may;
  crash_before = λ left may. may;
  clock = refl;
  since = λ reading left may. may;
  since_before = λ reading left may. may;
  faults = refl;
  lies = refl;
  can_lie = refl;
}

-- If a view is unchanged after each of two steps, it is unchanged after both.
pub unchanged_both : (u v w : View) → Unchanged u v → Unchanged v w → Unchanged u w
unchanged_both u v w first second = record {
  size = second.size ∙ first.size;
  origin = second.origin ∙ first.origin;
  content = second.content ∙ first.content;
  crash = λ left may. second.crash left (first.crash left may);
  crash_before = λ left may. first.crash_before left (second.crash_before left may);
  clock = second.clock ∙ first.clock;
  since = λ reading left may. second.since reading left (first.since reading left may);
  since_before =
      λ reading left may. first.since_before reading left (second.since_before reading left may);
  faults = second.faults ∙ first.faults;
  lies = second.lies ∙ first.lies;
  can_lie = second.can_lie ∙ first.can_lie;
}
