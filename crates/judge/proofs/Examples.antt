-- Verdicts by computation: two writes of sector 3, both ended, and a flush after them.
use Rattle.std.proofs.Common.{◌≡◌, ℕ, zero, suc, true, false, None, Some, List, [], ◌∷◌}
use Rattle.std.proofs.Common.{take, get_or, slice_get, replicate, refl, sym, ◌∙◌, inl, inr}
use Rattle.std.proofs.Common.{arith}
use Rattle.std.specs.Prelude.{◌≤◌, ◌<◌, ◌++◌, ◌==◌, if◌then◌else◌}
use Rattle.bio.specs.Content as contents
use Rattle.bio.specs.Content.{Content}
use Rattle.bio.specs.declared.event.CoreEvent.{CoreEvent}
use Rattle.bio.specs.declared.event.CoreEvent.TheVariants.{Submit, Complete}
use Rattle.bio.specs.declared.request.Bio.TheVariants.{Write, Flush}
use Rattle.bio.specs.Events.{is_flush_submit}
use Rattle.bio.specs.Possible.{PossibleAt, ended_ok, is_kept}
use Rattle.judge.specs.Accounts.{IsAccount, IsFirstOf, IsLastFlush, first_bytes, is_held_from}
use Rattle.judge.specs.Accounts.{last_below, place_at}
use Rattle.judge.proofs.AccountVerdict.{ruled_out}
use Rattle.judge.specs.Verdicts.{FailsAt, IsLastKept, IsRuledOutBy}
use Rattle.judge.specs.declared.accounts.Account.{Account}
use Rattle.judge.specs.declared.accounts.First.{First}
use Rattle.judge.specs.declared.accounts.First.TheVariants.{Zeroes}

-- the writes have the bytes 1 and 2
abbrev events : List CoreEvent
events =
    Submit (Write 3 (replicate 512 1) false false false) ∷ Submit
    (Write 3 (replicate 512 2) false false false)
    ∷ Complete 0 true ∷ Complete 1 true ∷ Submit Flush ∷ Complete 4 true ∷ []

-- sector 3 has this byte, and the others are zeroes
abbrev holding : ℕ → Content
holding byte sector = replicate 512 (if sector == 3 then byte else 0)

-- sector 3 could hold the older write's value: that ended after the newer one was submitted
durable-older : PossibleAt events (holding 0) (holding 1) 3
unfolding contents.over
durable-older = inr (0, refl, refl)

-- a byte is that of its list
byte_is : (a b : ℕ) → Some (replicate 512 a) ≡ Some (replicate 512 b) → a ≡ b
byte_is a b same = grind (arith, get_or)

-- and not what it held at first: that is ruled out by the newer one
gone-first : PossibleAt events (holding 0) (holding 0) 3 → ⊥
unfolding contents.over
gone-first (inl same) = let contra : true ≡ false = same.1 in cc
gone-first (inr (zero, is, kept)) = let contra = byte_is 1 0 is in absurd (omega arith)
gone-first (inr (suc zero, is, kept)) = let contra = byte_is 2 0 is in absurd (omega arith)
gone-first (inr (suc (suc zero), is, kept)) = cc
gone-first (inr (suc (suc (suc zero)), is, kept)) = cc
gone-first (inr (suc (suc (suc (suc zero))), is, kept)) = cc
gone-first (inr (suc (suc (suc (suc (suc zero)))), is, kept)) = cc
gone-first (inr (suc (suc (suc (suc (suc (suc id))))), is, kept)) = cc

ruling-out : last_below (is_kept events 3) 6 ≡ Some 1
ruling-out = refl

-- no durable request covers another sector
ruling-other : IsRuledOutBy events 4 None
ruling-other = refl

-- the newer write is the durable request over sector 3 that was submitted last
kept-newer : IsLastKept events 3 1
kept-newer = ruled_out events 3 (Some 1) refl

-- an earlier one isn't, nor is one that isn't durable
kept-older : IsLastKept events 3 0 → ⊥
kept-older told = let last = told.last 1 refl in omega arith

kept-flush : IsLastKept events 3 4 → ⊥
kept-flush told = let kept : false ≡ true = told.kept in cc

-- the sectors below it hold what they held at first
below-first : (lower : ℕ) → lower < 3 → PossibleAt events (holding 0) (holding 0) lower
below-first (suc (suc (suc lower))) below = absurd (omega arith)
below-first other below = inl (refl, refl)

-- so an image of zeroes fails at sector 3
failing : FailsAt events (holding 0) (holding 0) 16 3 (Some 1)
failing = grind (arith, gone-first, below-first, kept-newer)

-- not past its end, not where it is possible, not by an earlier request, and not by none
failing-outside : FailsAt events (holding 0) (holding 0) 3 3 (Some 1) → ⊥
failing-outside told = let within = told.within in omega arith

failing-possible : FailsAt events (holding 0) (holding 0) 16 4 None → ⊥
failing-possible told = told.fails (inl (refl, refl))

failing-older : FailsAt events (holding 0) (holding 0) 16 3 (Some 0) → ⊥
failing-older told = kept-older told.ruled_out

failing-unnamed : FailsAt events (holding 0) (holding 0) 16 3 None → ⊥
failing-unnamed told = let none : true ≡ false = told.ruled_out in cc

-- nor at a higher sector that fails too
abbrev other : Content
other sector = replicate 512 (if sector == 4 then 9 else 0)

failing-higher : FailsAt events (holding 0) other 16 4 None → ⊥
failing-higher told = gone-first (told.lowest 3 (omega arith))

-- the flush is the last one that ended with success; a write is none, one that hasn't ended isn't,
-- and one before another isn't
abbrev flushed : List CoreEvent
flushed = Submit Flush ∷ Complete 0 true ∷ []

flush-last : IsLastFlush flushed 0
flush-last = record { flush = refl; ended = refl; last = last }
  where
    last : (later : ℕ) → is_flush_submit (slice_get flushed later) ≡ true
        → ended_ok flushed later ≡ true → later ≤ 0
    last zero flush ended = omega arith
    last (suc zero) flush ended = cc
    last (suc (suc later)) flush ended = cc

flush-write : IsLastFlush events 1 → ⊥
flush-write told = let flush : false ≡ true = told.flush in cc

flush-open : IsLastFlush (take 5 events) 4 → ⊥
flush-open told = let ended : false ≡ true = told.ended in cc

flush-earlier : IsLastFlush (events ++ Submit Flush ∷ Complete 6 true ∷ []) 4 → ⊥
flush-earlier told = let last = told.last 6 refl refl in omega arith

-- sector 3 has the newer write's value, and could hold it; it has no other write's
held-newer : is_held_from events (holding 2) 3 1 ≡ true
unfolding contents.over
held-newer = refl

held-other : is_held_from events (holding 2) 3 0 ≡ false
unfolding contents.over
held-other = refl

-- a value that is gone isn't held
abbrev replaced : List CoreEvent
replaced =
    Submit (Write 3 (replicate 512 1) false false false) ∷ Complete 0 true ∷ Submit
    (Write 3 (replicate 512 2) false true false) ∷ Complete 2 true ∷ []

held-gone : is_held_from replaced (holding 1) 3 0 ≡ false
unfolding contents.over
held-gone = refl

-- a list has no place past its end
place-past : place_at (None ∷ Some 7 ∷ []) 2 ≡ None
place-past = refl

-- an account of no events has no request for its sector
account-none : (account : Account) → account.ends.items ≡ [] → account.last.items ≡ None ∷ []
    → account.held.items ≡ None ∷ [] → IsAccount [] (holding 0) 1 account
account-none account ends last held = grind (arith, slice_get)

-- an account has a request for a sector that has a request's value, and ends, and durable requests
none_some : (place : ℕ) → None ≡ Some place → ⊥
none_some place same = cc

account-held : (account : Account) → account.held.items ≡ []
    → IsAccount replaced (holding 2) 4 account → ⊥
unfolding contents.over
account-held account held told = grind (arith, none_some)

account-ends : (account : Account) → account.ends.items ≡ []
    → IsAccount replaced (holding 2) 4 account → ⊥
account-ends account ends told =
    none_some 1 (sym (rw ends) ∙ told.ends 0)

account-last : (account : Account) → account.last.items ≡ []
    → IsAccount replaced (holding 2) 4 account → ⊥
account-last account last told = grind (arith, none_some)

-- and one place for each sector, though no request covers any
account-shorter : (account : Account) → account.last.items ≡ []
    → IsAccount [] (holding 0) 1 account → ⊥
account-shorter account last told = grind arith

account-held-shorter : (account : Account) → account.held.items ≡ []
    → IsAccount [] (holding 0) 1 account → ⊥
account-held-shorter account held told = grind arith

-- zeroes were on a device of any size
zeroes-first : first_bytes Zeroes 3 ≡ 0 ∷ 0 ∷ 0 ∷ []
zeroes-first = refl

zeroes-fit : IsFirstOf 3 Zeroes
zeroes-fit = refl

-- and an image of fewer bytes on none
fewer-bytes : (first : First) → first_bytes first 2 ≡ 1 ∷ [] → IsFirstOf 2 first → ⊥
fewer-bytes first is fits = grind arith
