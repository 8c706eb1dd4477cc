-- Laws of `last_below`, `has_kept` and `is_held_from`.
use Rattle.std.proofs.Common.{◌≡◌, ℕ, zero, suc, ◌<◌, ◌≤◌, Bool, true, false, not, ◌||◌}
use Rattle.std.proofs.Common.{Option, Some, None, List, length, refl, ap, ◌∙◌, inl, inr, arith}
use Rattle.std.proofs.lemmas.Bool.{and_parts}
use Rattle.std.specs.Prelude.{slice_get, is_some}
use Rattle.std.proofs.lemmas.Slice.Eq.{bytes_eq-Decides}
use Rattle.std.specs.Str.{bytes_eq}
use Rattle.bio.specs.Content.{Content}
use Rattle.bio.specs.Places.{any_below}
use Rattle.bio.specs.PlaceLaws.{any_below-at, bool_cases, last_or_below, option_cases}
use Rattle.bio.specs.PlaceLaws.{or_second, slice_get-within}
use Rattle.bio.specs.declared.event.CoreEvent.{CoreEvent}
use Rattle.bio.specs.Possible.{has_kept, is_kept, is_replaced, values_at}
use Rattle.judge.specs.Accounts.{is_held_from, is_value, last_below}

-- Some index below `n` passes `test` exactly if `last_below` finds one.
pub any_below-last : (test : ℕ → Bool) (n : ℕ) → any_below test n ≡ is_some (last_below test n)
any_below-last test zero = refl
any_below-last test (suc n) = elim (bool_cases (test n)) [
  | inl here ↦
      grind (arith, or_second)
  | inr other ↦
      grind (arith, any_below-last test n)
]
  where
    or_false : (a : Bool) → (a || false) ≡ a
    or_false true = refl
    or_false false = refl

-- `place` is the last index below `n` that passes `test`
pub record IsLast (test : ℕ → Bool) (n place : ℕ) : Type 0 where
  pub within : place < n
  pub here : test place ≡ true
  pub last : (k : ℕ) → k < n → test k ≡ true → k ≤ place

-- If `last_below` finds `p`, `p` is the last index below `n` that passes.
pub last_below-found : (test : ℕ → Bool) (n p : ℕ) → last_below test n ≡ Some p → IsLast test n p
last_below-found test zero p e = cc
last_below-found test (suc n) p e =
    grind (arith, last_below-found test n p, bool_cases, last_or_below)

-- If `last_below` finds none, no index below `n` passes.
pub none_passes : (test : ℕ → Bool) (n : ℕ) → last_below test n ≡ None → any_below test n ≡ false
none_passes test n none = any_below-last test n ∙ ap is_some none

-- Some durable request covers the sector exactly if `last_below` finds one.
pub kept_last : (events : List CoreEvent) (sector : ℕ)
    → has_kept events sector ≡ is_some (last_below (is_kept events sector) (length events))
kept_last events sector = any_below-last (is_kept events sector) (length events)

-- If a durable request covers a sector, its index is within the list of events.
pub kept_within : (events : List CoreEvent) (sector id : ℕ) → is_kept events sector id ≡ true
    → id < length events
kept_within events sector id kept = grind (arith, option_cases, and_parts, slice_get-within)

-- If `bytes_eq` is true, the bytes are equal.
pub equal_bytes : (xs ys : List ℕ) → bytes_eq xs ys ≡ true → xs ≡ ys
equal_bytes xs ys e = (bytes_eq-Decides xs ys).0 e

-- If the bytes are equal, `bytes_eq` is true.
pub same_bytes : (xs ys : List ℕ) → xs ≡ ys → bytes_eq xs ys ≡ true
same_bytes xs ys e = (bytes_eq-Decides xs ys).1 e

-- If `is_value` holds, the value is `bytes`.
pub value_is : (value : Option (List ℕ)) (bytes : List ℕ) → is_value value bytes ≡ true
    → value ≡ Some bytes
value_is None bytes e = cc
value_is (Some value) bytes e = rw (equal_bytes value bytes e)

-- If the value is `bytes`, `is_value` holds.
pub is_value_found : (value : Option (List ℕ)) (bytes : List ℕ) → value ≡ Some bytes
    → is_value value bytes ≡ true
is_value_found value bytes e = grind (arith, same_bytes)

not_true : (b : Bool) → not b ≡ true → b ≡ false
not_true true e = cc
not_true false e = refl

-- If a request has a value for the sector, its index is within the list of events.
pub value-within : (events : List CoreEvent) (sector id : ℕ) (value : List ℕ)
    → values_at (slice_get events id) sector ≡ Some value → id < length events
value-within events sector id value is = grind (arith, option_cases, slice_get-within)

-- If `is_held_from` holds, the sector has the request's value, and the request isn't replaced
-- there.
pub held-parts : (events : List CoreEvent) (now : Content) (sector id : ℕ)
    → is_held_from events now sector id ≡ true
    → (values_at (slice_get events id) sector ≡ Some (now sector))
    × (is_replaced events sector id ≡ false)
held-parts events now sector id held = grind (arith, and_parts, value_is, not_true)

-- If the sector has the request's value, and the request isn't replaced there, `is_held_from`
-- holds.
pub parts-held : (events : List CoreEvent) (now : Content) (sector id : ℕ)
    → values_at (slice_get events id) sector ≡ Some (now sector)
    → is_replaced events sector id ≡ false → is_held_from events now sector id ≡ true
parts-held events now sector id value stays = grind (arith, is_value_found)

-- If the sector has a request's value, and the request isn't replaced there, some event passes
-- `is_held_from`.
pub held_somewhere : (events : List CoreEvent) (now : Content) (sector id : ℕ)
    → values_at (slice_get events id) sector ≡ Some (now sector)
    → is_replaced events sector id ≡ false
    → any_below (is_held_from events now sector) (length events) ≡ true
held_somewhere events now sector id value stays =
    any_below-at (is_held_from events now sector) (length events) id
    (value-within events sector id (now sector) value)
    (parts-held events now sector id value stays)
