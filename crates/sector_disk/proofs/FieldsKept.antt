-- Each call, each flush and each crash keeps the invariant of a disk's fields (`IsStorage`).
use Rattle.std.proofs.Common.{◌≡◌, ℕ, suc, zero, ◌+◌, ◌-◌, ◌/◌, ◌<◌, ◌≤◌, ◌&&◌, Bool, true, false}
use Rattle.std.proofs.Common.{Some, None, List, [], ◌∷◌, ◌++◌, length, take, drop, replicate, refl}
use Rattle.std.proofs.Common.{ap, subst, sym, ◌∙◌, inl, inr, arith}
use Rattle.std.proofs.lemmas.Bool.{and_parts, cases_lt, eq-eqb, eqb-true, le-leb, leb-true, lt-ltb}
use Rattle.std.proofs.lemmas.List.{get_or-drop, get_or-replicate, get_or-take, length-replicate}
use Rattle.std.proofs.lemmas.Option.{slice_get_past, unwrap_or-slice_get}
use Rattle.std.proofs.Math.ListN.{get_or}
use Rattle.std.specs.Prelude.{◌⊎◌, Option, not, nat_le, nat_lt, slice_get, unwrap_or}
use Rattle.bio.specs.Content.{Content, over, sector_of}
use Rattle.bio.specs.ContentLaws.{over-after, over-before, over-in}
use Rattle.bio.specs.PlaceLaws.{length-snoc, slice_get-append_front, slice_get-append_here}
use Rattle.sector_disk.specs.declared.call.PastCall.{PastCall}
use Rattle.sector_disk.specs.declared.call.PastChange.{PastChange}
use Rattle.sector_disk.specs.declared.call.PastChange.TheVariants.{Write, Image, Discard}
use Rattle.sector_disk.specs.Candidates.{Cache, Puts, cache_after, candidates_after}
use Rattle.sector_disk.specs.inside.Storage.{value_at, change_values_of, is_table, past_of, place_of}
use Rattle.sector_disk.specs.inside.Storage.{stored_steps, content_at, is_chain, is_open, is_plain}
use Rattle.sector_disk.specs.inside.Storage.{before_at, before_in, stored_cache, change_values}
use Rattle.sector_disk.specs.inside.Storage.{PlacesAreWithin, ArePlaced, IsStorage, IsPlaced, back, IsFilled}
use Rattle.sector_disk.specs.inside.Storage.{change_count}
use Rattle.sector_disk.proofs.ImageBack.{chain-within}

pub same_content : (c d : Content) → ((s : ℕ) → c s ≡ d s) → c ≡ d
same_content c d same = λ i s. same s i

pub whole_table : (n : ℕ) → is_table n n ≡ true
whole_table zero = refl
whole_table (suc n) = eq-eqb (suc n) (suc n) refl

pub table_cases : (sectors n : ℕ) → is_table sectors n ≡ true → (n ≡ 0) ⊎ (n ≡ sectors)
table_cases sectors zero is = inl refl
table_cases sectors (suc n) is = inr (eqb-true (suc n) sectors is)

pub place_past : (places : List ℕ) (sector : ℕ) → length places ≤ sector
    → place_of places sector ≡ 0
place_past places sector past = grind (arith, slice_get_past)

pub first_place : (n sector : ℕ) → place_of (replicate n 0) sector ≡ 0
first_place n sector =
    grind (arith, cases_lt, unwrap_or-slice_get, get_or-replicate, place_past, length-replicate)

new_place : (n : ℕ) (none table : List ℕ) → length none ≡ 0 → table ≡ replicate n 0 → (sector : ℕ)
    → place_of none sector ≡ place_of table sector
new_place n none table empty zeroes sector = grind (arith, place_past, first_place)

-- an empty table gives the index 0 for each sector, so a table of zeroes changes nothing
pub kept_opened : (sectors : ℕ) (calls : List PastCall) (newest base places others : List ℕ)
    (begun synced : ℕ) (flushed : Bool)
    → IsStorage sectors calls newest base begun synced flushed → length newest ≡ 0
    → places ≡ replicate sectors 0 → others ≡ []
    → IsStorage sectors calls places others begun synced flushed
kept_opened sectors calls newest base places others begun synced flushed kept empty zeroes
    bare =
    grind (arith, length-replicate, whole_table, place_past, same_content, new_place)

call-kept : (calls : List PastCall) (call : PastCall) (place : ℕ) → place < length calls
    → slice_get (calls ++ call ∷ []) place ≡ slice_get calls place
call-kept calls call place h = slice_get-append_front calls (call ∷ []) place h

pub value-kept : (calls : List PastCall) (call : PastCall) (place sector : ℕ) → place < length calls
    → value_at (calls ++ call ∷ []) place sector ≡ value_at calls place sector
value-kept calls call place sector h = grind (arith, call-kept)

before-kept : (calls : List PastCall) (call : PastCall) (place sector : ℕ) → place < length calls
    → before_at (calls ++ call ∷ []) place sector ≡ before_at calls place sector
before-kept calls call place sector h = grind (arith, call-kept)

open-kept : (calls : List PastCall) (call : PastCall) (synced place : ℕ) → place < length calls
    → is_open (calls ++ call ∷ []) synced place ≡ is_open calls synced place
open-kept calls call synced place h = grind (arith, call-kept)

within-kept : (calls : List PastCall) (call : PastCall) (place : ℕ) → place < length calls
    → nat_lt place (length (calls ++ call ∷ [])) ≡ nat_lt place (length calls)
within-kept calls call place h = grind (arith, lt-ltb, length-snoc)

chain-kept : (calls : List PastCall) (call : PastCall) (synced sector n place : ℕ)
    → is_chain calls synced sector n place ≡ true
    → is_chain (calls ++ call ∷ []) synced sector n place ≡ true
chain-kept calls call synced sector zero place e = e
chain-kept calls call synced sector (suc zero) place e =
    grind (arith, chain-within, within-kept, open-kept)
chain-kept calls call synced sector (suc (suc n)) place e =
    let within = chain-within calls synced sector (suc (suc n)) place e in
    let all = calls ++ call ∷ [] in
    let next : is_chain all synced sector (suc n) (before_at all place sector)
    ≡ is_chain calls synced sector (suc n) (before_at calls place sector) =
    ap (is_chain all synced sector (suc n)) (before-kept calls call place sector within)
    ∙ chain-kept calls call synced sector (suc n) (before_at calls place sector) (rest e)
    ∙ sym (rest e) in
    ap (λ b. b && (is_open all synced place
    && is_chain all synced sector (suc n) (before_at all place sector)))
    (within-kept calls call place within)
    ∙ ap (λ b. nat_lt place (length calls)
    && (b && is_chain all synced sector (suc n) (before_at all place sector)))
    (open-kept calls call synced place within)
    ∙ ap (λ b. nat_lt place (length calls) && (is_open calls synced place && b)) next
    ∙ e
  where
    rest : is_chain calls synced sector (suc (suc n)) place ≡ true
        → is_chain calls synced sector (suc n) (before_at calls place sector) ≡ true
    rest e = grind (arith, and_parts)

back-kept : (calls : List PastCall) (call : PastCall) (synced sector n place : ℕ)
    → is_chain calls synced sector n place ≡ true
    → back (calls ++ call ∷ []) sector n place ≡ back calls sector n place
back-kept calls call synced sector zero place e = refl
back-kept calls call synced sector (suc zero) place e = grind (arith, value-kept, chain-within)
back-kept calls call synced sector (suc (suc n)) place e =
    let within = chain-within calls synced sector (suc (suc n)) place e in
    let all = calls ++ call ∷ [] in
    ap (λ (p : ℕ). back all sector (suc n) p ++ value_at all place sector ∷ [])
    (before-kept calls call place sector within)
    ∙ ap (λ (xs : List (List ℕ)). xs ++ value_at all place sector ∷ [])
    (back-kept calls call synced sector (suc n) (before_at calls place sector) (rest e))
    ∙ ap (λ (v : List ℕ). back calls sector (suc n) (before_at calls place sector) ++ v ∷ [])
    (value-kept calls call place sector within)
  where
    rest : is_chain calls synced sector (suc (suc n)) place ≡ true
        → is_chain calls synced sector (suc n) (before_at calls place sector) ≡ true
    rest e = grind (arith, and_parts)

pub placed-kept : (calls : List PastCall) (call : PastCall) (synced sector place : ℕ) (now : List ℕ)
    (may : List (List ℕ))
    → IsPlaced calls synced sector place now may
    → IsPlaced (calls ++ call ∷ []) synced sector place now may
placed-kept calls call synced sector place now may placed =
    grind (arith, value-kept, chain-within, back-kept, chain-kept, length-snoc)

steps-kept : (calls : List PastCall) (call : PastCall) (begun n : ℕ) → begun + n ≤ length calls
    → stored_steps (calls ++ call ∷ []) begun n ≡ stored_steps calls begun n
steps-kept calls call begun zero h = refl
steps-kept calls call begun (suc n) h =
    grind (arith, steps-kept calls call begun n (omega arith), call-kept)

pub past-put : (calls : List PastCall) (call : PastCall) (begun : ℕ) → begun ≤ length calls
    → past_of (calls ++ call ∷ []) begun false
    ≡ Puts (change_values_of call) call.fua ∷ past_of calls begun call.after_flush
past-put calls call begun h =
    grind (
      arith,
      length calls - begun,
      length-snoc calls call,
      length (calls ++ call ∷ []) -
          begun,
      suc (length calls - begun),
      length calls,
      slice_get-append_here calls call [],
      steps-kept calls call begun (length calls - begun) (omega arith),
    )

pub start-put : (calls : List PastCall) (call : PastCall) (base : List ℕ) → PlacesAreWithin calls base
    → content_at (calls ++ call ∷ []) base ≡ content_at calls base
start-put calls call base within = grind (arith, same_content, value-kept)

pub values-in : (call : PastCall) (sector : ℕ) → call.first ≤ sector
    → sector < call.first + change_count call.change
    → (value : List ℕ) × (change_values_of call sector ≡ Some value)
values-in call sector low high = at call.change high
  where
    within : (count : ℕ) (value : ℕ → List ℕ) → sector < call.first + count
        → (v : List ℕ) × (over call.first count value sector ≡ Some v)
    within count value less =
        let place : sector ≡ call.first + (sector - call.first) = omega arith in (
          value (sector - call.first),
          ap (over call.first count value) place
              ∙ over-in call.first count value (sector - call.first) (omega arith),
        )

    at : (change : PastChange) → sector < call.first + change_count change
        → (value : List ℕ) × (change_values call.first change sector ≡ Some value)
    at (Write bytes) less = within (length bytes / 512) (sector_of bytes) less
    at (Image bytes) less = within (length bytes / 512) (sector_of bytes) less
    at (Discard count) less = within count (λ _. replicate 512 0) less

pub values-out : (call : PastCall) (sector : ℕ)
    → (sector < call.first) ⊎ (call.first + change_count call.change ≤ sector)
    → change_values_of call sector ≡ None
values-out call sector outside = at call.change outside
  where
    without : (count : ℕ) (value : ℕ → List ℕ)
        → (sector < call.first) ⊎ (call.first + count ≤ sector)
        → over call.first count value sector ≡ None
    without count value side = grind (arith, over-before, over-after)

    at : (change : PastChange) → (sector < call.first) ⊎ (call.first + change_count change ≤ sector)
        → change_values call.first change sector ≡ None
    at (Write bytes) side = without (length bytes / 512) (sector_of bytes) side
    at (Image bytes) side = without (length bytes / 512) (sector_of bytes) side
    at (Discard count) side = without count (λ _. replicate 512 0) side

here : (calls : List PastCall) (call : PastCall) → slice_get (calls ++ call ∷ []) (length calls) ≡ Some call
here calls call = slice_get-append_here calls call []

chain-more : (calls : List PastCall) (synced sector n place before : ℕ) → place < length calls
    → is_open calls synced place ≡ true
    → before_at calls place sector ≡ before → is_chain calls synced sector n before ≡ true
    → is_chain calls synced sector (suc n) place ≡ true
chain-more calls synced sector zero place before within opens is e = grind arith
chain-more calls synced sector (suc n) place before within opens is e = grind (arith, lt-ltb)

pub chain-alone : (calls : List PastCall) (synced sector place : ℕ) → place < length calls
    → is_open calls synced place ≡ false
    → is_chain calls synced sector 1 place ≡ true
chain-alone calls synced sector place within closed = grind (arith, lt-ltb)

placed-new : (calls : List PastCall) (call : PastCall) (synced sector before : ℕ) (now value : List ℕ)
    (may : List (List ℕ))
    → IsPlaced calls synced sector before now may → synced ≤ length calls
    → change_values_of call sector ≡ Some value → before_in (Some call) sector ≡ before
    → IsPlaced (calls ++ call ∷ []) synced sector (length calls) value
    (candidates_after (Some value) call.fua may)
placed-new calls call synced sector before now value may placed low is came = at call.fua refl
  where
    all : List PastCall
    all = calls ++ call ∷ []

    there : length calls < length (calls ++ call ∷ [])
    there = let more = length-snoc calls call in omega arith

    value_is : value_at (calls ++ call ∷ []) (length calls) sector ≡ value
    value_is =
        rw (here calls call, is)

    open_is : (fua : Bool) → call.fua ≡ fua
        → is_open (calls ++ call ∷ []) synced (length calls) ≡ not fua
    open_is fua e =
        rw (here calls call, le-leb synced (length calls) low) (ap not e)

    at : (fua : Bool) → call.fua ≡ fua
        → IsPlaced (calls ++ call ∷ []) synced sector (length calls) value
        (candidates_after (Some value) fua may)
    at true e = record {
      value = value_is;
      values = rw value_is;
      chain = chain-alone (calls ++ call ∷ []) synced sector (length calls) there (open_is true e);
      few = let h = there in omega arith;
    }
    at false e =
        let many = length-snoc may value in
        let kept = placed-kept calls call synced sector before now may placed in
        let before_is : before_at (calls ++ call ∷ []) (length calls) sector ≡ before =
        rw (here calls call) came in
        record {
          value = value_is;
          values =
              rw (many, before_is, kept.values, value_is);
          chain =
              rw many (chain-more (calls ++ call ∷ []) synced sector (length may) (length calls)
              before there (open_is false e) before_is kept.chain);
          few = let h = placed.few in let more = length-snoc calls call in omega arith;
        }

-- `before`, which the call stores, has the indices that `newest` had for the call's sectors
came-before : (newest before : List ℕ) (first count sector : ℕ)
    → before ≡ take count (drop first newest) → first ≤ sector → sector < first + count
    → unwrap_or (slice_get before (sector - first)) 0 ≡ place_of newest sector
came-before newest before first count sector is low high =
    grind (arith, unwrap_or-slice_get, get_or, get_or-take, get_or-drop)

cache-put : (calls : List PastCall) (call : PastCall) (base : List ℕ) (begun : ℕ) (flushed : Bool)
    → begun ≤ length calls → PlacesAreWithin calls base
    → call.after_flush ≡ flushed
    → stored_cache (calls ++ call ∷ []) base begun false
    ≡ cache_after (content_at calls base)
    (Puts (change_values_of call) call.fua ∷ past_of calls begun flushed)
cache-put calls call base begun flushed within base_within after =
    rw (start-put calls call base base_within) (ap (cache_after (content_at calls base))
    (past-put calls call begun within) ∙ rw after)

pub kept-put : (sectors : ℕ) (calls : List PastCall) (newest filled base : List ℕ) (begun synced : ℕ)
    (flushed : Bool) (call : PastCall)
    → IsStorage sectors calls newest base begun synced flushed → length newest ≡ sectors
    → call.after_flush ≡ flushed
    → call.before ≡ take (change_count call.change) (drop call.first newest)
    → IsFilled call.first (change_count call.change) (length calls) newest filled
    → IsStorage sectors (calls ++ call ∷ []) filled base begun synced false
kept-put sectors calls newest filled base begun synced flushed call kept opened after before fills =
    let more = length-snoc calls call in
    record {
      some = kept.some;
      few = kept.few;
      table = ap (is_table sectors) (fills.size ∙ opened) ∙ whole_table sectors;
      base_length = let few = kept.base_length in let size = fills.size in omega arith;
      begun_within = let h = kept.begun_within in omega arith;
      synced_some = kept.synced_some;
      synced_within = let h = kept.synced_within in omega arith;
      synced_now = λ is. cc;
      base_within = record { each = λ s. let h = kept.base_within.each s in omega arith };
      placed =
          let Placed : Cache → Type 0 =
          λ cache. ArePlaced (calls ++ call ∷ []) synced sectors filled cache in
          subst Placed (sym (cache-put calls call base begun flushed kept.begun_within
          kept.base_within after)) (record { each = each });
    }
  where
    cache : Cache
    cache = stored_cache calls base begun flushed

    each : (sector : ℕ) → sector < sectors
        → IsPlaced (calls ++ call ∷ []) synced sector (place_of filled sector)
        (unwrap_or (change_values_of call sector) ((stored_cache calls base begun flushed).now sector))
        (candidates_after (change_values_of call sector) call.fua
        ((stored_cache calls base begun flushed).may sector))
    each sector h =
        let old = kept.placed.each sector h in
        let now = (stored_cache calls base begun flushed).now sector in
        let may = (stored_cache calls base begun flushed).may sector in
        let Placed : ℕ → Option (List ℕ) → Type 0 =
        λ place o. IsPlaced (calls ++ call ∷ []) synced sector place (unwrap_or o now)
        (candidates_after o call.fua may) in
        let outside : (sector < call.first) ⊎ (call.first + change_count call.change ≤ sector) →
        Placed (place_of filled sector) (change_values_of call sector) =
        λ side.
        let Place : ℕ → Type 0 = λ place. Placed place (change_values_of call sector) in
        let Value : Option (List ℕ) → Type 0 = λ o. Placed (place_of newest sector) o in
        subst Place (sym (fills.outside sector side)) (
        subst Value (sym (values-out call sector side))
        (placed-kept calls call synced sector (place_of newest sector) now may old)
        ) in
        elim (cases_lt sector call.first) [
          | inl low ↦ outside (inl low)
          | inr from ↦ elim (cases_lt sector (call.first + change_count call.change)) [
            | inl high ↦
                let value = values-in call sector from high in
                let Place : ℕ → Type 0 = λ place. Placed place (change_values_of call sector) in
                let Value : Option (List ℕ) → Type 0 = λ o. Placed (length calls) o in
                subst Place (sym (fills.within sector from high)) (
                subst Value (sym value.1) (
                placed-new calls call synced sector
                (place_of newest sector) now value.0 may old kept.synced_within value.1
                (came-before newest call.before call.first
                (change_count call.change) sector before from high)
                )
                )
            | inr after_it ↦ outside (inr after_it)
          ]
        ]

-- For the prover: as `kept-put`, with equations for `all` and `count`
pub kept_added : (sectors : ℕ) (calls all : List PastCall) (newest filled base : List ℕ)
    (begun synced count : ℕ) (flushed : Bool) (call : PastCall)
    → all ≡ calls ++ call ∷ [] → IsStorage sectors calls newest base begun synced flushed
    → length newest ≡ sectors → call.after_flush ≡ flushed
    → count ≡ change_count call.change → call.before ≡ take count (drop call.first newest)
    → IsFilled call.first count (length calls) newest filled
    → IsStorage sectors all filled base begun synced false
kept_added sectors calls all newest filled base begun synced count flushed call added kept opened
    after counted before fills =
    let Kept : List PastCall → Type 0 = λ cs. IsStorage sectors cs filled base begun synced false in
    let Filled : ℕ → Type 0 = λ n. IsFilled call.first n (length calls) newest filled in
    subst Kept (sym added) (
    kept-put sectors calls newest filled base begun synced flushed call kept opened after
    (before ∙ rw counted) (subst Filled counted fills)
    )

pub past_added : (calls all : List PastCall) (call : PastCall) (begun : ℕ) → all ≡ calls ++ call ∷ []
    → begun ≤ length calls
    → past_of all begun false
    ≡ Puts (change_values_of call) call.fua ∷ past_of calls begun call.after_flush
past_added calls all call begun added within = grind (arith, past-put)

pub start_added : (calls all : List PastCall) (call : PastCall) (base : List ℕ) → all ≡ calls ++ call ∷ []
    → PlacesAreWithin calls base
    → content_at all base ≡ content_at calls base
start_added calls all call base added within =
    rw added (start-put calls call base within)

placed-alone : (calls : List PastCall) (synced sector place : ℕ) → place < length calls
    → is_open calls synced place ≡ false
    → IsPlaced calls synced sector place (value_at calls place sector)
    (value_at calls place sector ∷ [])
placed-alone calls synced sector place within closed = grind (arith, chain-alone)

all-closed : (calls : List PastCall) (place : ℕ) → place < length calls
    → is_open calls (length calls) place ≡ false
all-closed calls place within =
    ap (λ b. b && is_plain (slice_get calls place)) (above (nat_le (length calls) place) refl)
  where
    above : (b : Bool) → nat_le (length calls) place ≡ b → b ≡ false
    above true e = absurd (let low = leb-true (length calls) place e in omega arith)
    above false e = refl

pub kept_flushed : (sectors : ℕ) (calls : List PastCall) (newest base : List ℕ) (begun synced : ℕ)
    (flushed : Bool)
    → IsStorage sectors calls newest base begun synced flushed
    → IsStorage sectors calls newest base begun (length calls) true
kept_flushed sectors calls newest base begun synced flushed kept = record {
  some = kept.some;
  few = kept.few;
  table = kept.table;
  base_length = kept.base_length;
  begun_within = kept.begun_within;
  synced_some = let h = kept.synced_some in let most = kept.synced_within in omega arith;
  synced_within = omega arith;
  synced_now = λ is. refl;
  base_within = kept.base_within;
  placed = record { each = λ sector h. each flushed sector (kept.placed.each sector h) };
}
  where
    each : (b : Bool) (sector : ℕ)
        → IsPlaced calls synced sector (place_of newest sector)
        ((stored_cache calls base begun b).now sector) ((stored_cache calls base begun b).may sector)
        → IsPlaced calls (length calls) sector (place_of newest sector)
        ((stored_cache calls base begun true).now sector) ((stored_cache calls base begun true).may sector)
    each b sector old =
        grind (arith, chain-within, length, placed-alone, all-closed, true, false)

-- For the prover: as `kept_flushed`, with an equation for `count`
pub kept_synced : (sectors : ℕ) (calls : List PastCall) (newest base : List ℕ) (begun synced count : ℕ)
    (flushed : Bool)
    → IsStorage sectors calls newest base begun synced flushed → count ≡ length calls
    → IsStorage sectors calls newest base begun count true
kept_synced sectors calls newest base begun synced count flushed kept is =
    grind (arith, kept_flushed)

-- after a crash, the past begins with `places`, and all calls are durable
pub kept_begun : (sectors : ℕ) (calls : List PastCall) (places : List ℕ) → 0 < sectors
    → sectors ≤ 1048576 → is_table sectors (length places) ≡ true
    → PlacesAreWithin calls places
    → IsStorage sectors calls places places (length calls) (length calls) false
kept_begun sectors calls places some few table within = record {
  some = some;
  few = few;
  table = table;
  base_length = omega arith;
  begun_within = omega arith;
  synced_some = let first = within.each 0 in omega arith;
  synced_within = omega arith;
  synced_now = λ is. refl;
  base_within = within;
  placed =
      grind (arith, length, placed-alone, all-closed);
}

pub past_begun : (calls : List PastCall) → past_of calls (length calls) false ≡ []
past_begun calls = grind arith
