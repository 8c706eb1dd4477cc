-- What a verdict on an image means.
use Rattle.std.specs.Prelude.{◌≡◌, ℕ, ◌<◌, ◌≤◌, true, false, Option, Some, None, codes, List, ◌++◌}
use Rattle.std.specs.Fmt.{decimal}
use Rattle.bio.specs.Content.{Content}
use Rattle.bio.specs.declared.event.CoreEvent.{CoreEvent}
use Rattle.bio.specs.Possible.{Possible, PossibleAt, has_kept, is_kept}
use Rattle.judge.specs.declared.verdict.Verdict.{Verdict}
use Rattle.judge.specs.declared.verdict.Verdict.TheVariants.{Yes, No}

-- `id` is the durable request over `sector` that was submitted last
pub record IsLastKept (events : List CoreEvent) (sector id : ℕ) : Type 0 where
  pub kept : is_kept events sector id ≡ true
  pub last : (later : ℕ) → is_kept events sector later ≡ true → later ≤ id

-- what rules out a value of `sector`: the durable request over it that was submitted last; none if
-- no durable request covers it
abbrev pub IsRuledOutBy : List CoreEvent → ℕ → Option ℕ → Type 0
IsRuledOutBy events sector None = has_kept events sector ≡ false
IsRuledOutBy events sector (Some id) = IsLastKept events sector id

-- `sector` is the lowest whose value the device could not hold, and `by` rules this value out
pub record FailsAt (events : List CoreEvent) (first now : Content) (sectors sector : ℕ)
    (by : Option ℕ) : Type 0 where
  pub within : sector < sectors
  pub fails : PossibleAt events first now sector → ⊥
  pub lowest : (lower : ℕ) → lower < sector → PossibleAt events first now lower
  pub ruled_out : IsRuledOutBy events sector by

-- what a verdict means for an image `now` of `sectors` sectors after the events, if `first` was on
-- the device before the events
abbrev pub IsVerdict : ℕ → List CoreEvent → Content → Content → Verdict → Type 0
IsVerdict sectors events first now Yes = Possible events first now
IsVerdict sectors events first now (No sector by) = FailsAt events first now sectors sector by

-- How a verdict is printed.

-- why the sector fails: a durable request rules its value out, or no submitted request has its
-- value
abbrev pub reason_text : Option ℕ → List ℕ
reason_text None = codes "holds no submitted value"
reason_text (Some id) = codes "ruled out by event " ++ decimal id

-- yes, or no with the lowest sector that fails and the reason
abbrev pub verdict_text : Verdict → List ℕ
verdict_text Yes = codes "yes"
verdict_text (No sector by) = codes "no sector " ++ decimal sector ++ codes " " ++ reason_text by
