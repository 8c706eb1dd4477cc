-- Worked examples of crashes, by computation, and for each clause of a call's effect an example
-- that it refuses.
use Rattle.std.proofs.Common.{sym, ap, ◌∙◌, arith, ◌≡◌, ℕ, suc, zero, ◌<◌, false, true}
use Rattle.std.proofs.Common.{List, [], ◌∷◌, length, Err, replicate, refl}
use Rattle.std.specs.Prelude.{slice_index_or}
use Rattle.bio.specs.Content.{Content, over, writes}
use Rattle.bio.specs.declared.outcome.DevError.TheVariants.{Memory}
use Rattle.blockdev.specs.View.{Flushes as flush, View}
use Rattle.sector_disk.specs.CandidateLaws.{is_current, picks_leave_one, syncs_start}
use Rattle.sector_disk.specs.Candidates.{Cache, Flushes, MayLeave, Puts, PastStep, cache_after, left_by}
use Rattle.sector_disk.specs.Candidates.{view_of}
use Rattle.sector_disk.specs.declared.disk.SectorDisk.{SectorDisk}
use Rattle.sector_disk.specs.DiskView.{PastBegins, DoesOnDisk, HasPast, past_steps}

-- Worked examples of crashes, by computation.

-- content of one value in each sector
abbrev all : ℕ → Content
all value sector = replicate 512 value

-- sectors of one value tell it
one_value : (a b : ℕ) → replicate 512 a ≡ replicate 512 b → a ≡ b
one_value a b same = grind (arith, slice_index_or)

-- a write of one value to sector 3
abbrev put : ℕ → PastStep
put value = Puts (writes 3 (replicate 512 value)) false

-- what a crash leaves in sector 3, by its pick and the past, the newest step first
abbrev left : List PastStep → List ℕ → List ℕ
left past picks = left_by (cache_after (all 0) past) picks 3

-- two writes: the pick 2 leaves the second, 3 the durable value
abbrev two : List PastStep
two = put 2 ∷ put 1 ∷ []

two-second : left two (2 ∷ []) ≡ replicate 512 2
unfolding over
two-second = refl

two-past : left two (3 ∷ []) ≡ replicate 512 0
unfolding over
two-past = refl

-- a write with FUA between two: the first is gone
abbrev between : List PastStep
between = put 3 ∷ Puts (writes 3 (replicate 512 2)) true ∷ put 1 ∷ []

between-none : left between [] ≡ replicate 512 2
unfolding over
between-none = refl

-- of the two writes a crash may leave the old value, the first one and the second one
abbrev after_two : Cache
after_two = cache_after (all 0) two

may-old : MayLeave after_two (left_by after_two [])
may-old = picks_leave_one after_two [] (is_current (all 0) two)

-- and nothing else
may-third : (content : Content) → MayLeave after_two content → content 3 ≡ replicate 512 3 → ⊥
unfolding over
may-third content may third = at (may 3).0 (may 3).1 (may 3).2
  where
    at : (k : ℕ) → k < 3 → slice_index_or
        (replicate 512 0 ∷ replicate 512 1 ∷ replicate 512 2 ∷ []) k (content 3) ≡ content 3 → ⊥
    at zero h same = let is = one_value 0 3 (same ∙ third) in omega arith
    at (suc zero) h same = let is = one_value 1 3 (same ∙ third) in omega arith
    at (suc (suc zero)) h same = let is = one_value 2 3 (same ∙ third) in omega arith
    at (suc (suc (suc k))) h same = omega arith

-- Of `PastBegins`, and of a call's effect: an example that breaks a clause, and so is refused.

-- a disk of 8 sectors of zeroes, to which nothing has happened
abbrev start : View
start = view_of 8 (all 0) []

-- its past begins with that
begins : PastBegins 8 (all 0) start
begins =
    record { size = refl; content = λ sector h. refl; only = syncs_start 8 (all 0); clock = refl }

-- a crash that leaves something else too
only : PastBegins 8 (all 0) (record start { crash = λ left. Unit {0} }) → ⊥
only told = let same = one_value 1 0 (told.only.only (all 1) tt 0) in omega arith

-- a past that lost a step
past : (old new : SectorDisk) → HasPast old new (Flushes ∷ past_steps old)
    → past_steps new ≡ past_steps old → ⊥
past old new has same = let lengths = ap length (sym has.past ∙ same) in omega arith

refuses_flush : (old new : SectorDisk) (now : ℕ) → DoesOnDisk old flush now (Err Memory) new → ⊥
refuses_flush old new now done = let same = done.0 in cc
