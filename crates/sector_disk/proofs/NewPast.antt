-- The past of a disk begins when the disk is made, and at a crash with the values that the picks
-- choose.
use Rattle.std.proofs.Common.{replicate, refl, ap, subst, sym, ◌∙◌, inl, inr, arith, ◌≡◌, ℕ, suc}
use Rattle.std.proofs.Common.{zero, ◌+◌, ◌-◌, ◌%◌, ◌/◌, ◌<◌, ◌≤◌, ◌&&◌, Bool, false, true, List, []}
use Rattle.std.proofs.Common.{◌∷◌, ◌++◌, length}
use Rattle.std.specs.Prelude.{◌⊎◌, nat_le, slice_get, unwrap_or}
use Rattle.std.proofs.lemmas.Bool.{and_parts, cases_lt, le-ltb, leb-true, lt-ltb}
use Rattle.std.proofs.lemmas.List.{get_or-set_other, get_or-set_same}
use Rattle.std.proofs.lemmas.Option.{unwrap_or-slice_get}
use Rattle.std.proofs.Math.ListN.{get_or, set}
use Rattle.std.proofs.Math.Nat.{mod-lt}
use Rattle.bio.specs.Content.{Content, discards, put, sector_of, writes}
use Rattle.bio.specs.ContentLaws.{put-writes}
use Rattle.bio.specs.PlaceLaws.{last_or_below}
use Rattle.blockdev.specs.View.{View}
use Rattle.sector_disk.proofs.ImageBack.{candidate-value, candidate-within, discarded}
use Rattle.sector_disk.proofs.FieldsKept.{kept_begun, past_begun, place_past, table_cases}
use Rattle.sector_disk.specs.CandidateLaws.{syncs_start}
use Rattle.sector_disk.specs.Candidates.{Cache, PastStep, choice_of, left_by, unsynced_below, view_of}
use Rattle.sector_disk.specs.declared.call.PastCall.{PastCall}
use Rattle.sector_disk.specs.declared.disk.SectorDisk.{SectorDisk}
use Rattle.sector_disk.specs.DiskView.{PastBegins, cache_of}
use Rattle.sector_disk.specs.inside.Storage.{AreChosen, ArePlaced, PlacesAreWithin, IsStorage, content_at}
use Rattle.sector_disk.specs.inside.Storage.{is_chain, is_open, is_plain, is_table, past_of}
use Rattle.sector_disk.specs.inside.Storage.{place_of, value_at, change_values_of, walk}

pub place_of-set_same : (places : List ℕ) (sector place : ℕ) → sector < length places
    → place_of (set places sector place) sector ≡ place
place_of-set_same places sector place h = grind (arith, unwrap_or-slice_get, get_or-set_same)

pub place_of-set_other : (places : List ℕ) (sector place other : ℕ) → other < sector
    → place_of (set places sector place) other ≡ place_of places other
place_of-set_other places sector place other h =
    grind (arith, unwrap_or-slice_get, get_or-set_other)

chain-some : (calls : List PastCall) (synced s n place : ℕ) → is_chain calls synced s n place ≡ true
    → 0 < n
chain-some calls synced s zero place e = let never : ⊥ = cc in absurd never
chain-some calls synced s (suc n) place e = omega arith

counted : (calls : List PastCall) (synced : ℕ) (newest : List ℕ) (sector count : ℕ) (cache : Cache)
    → ArePlaced calls synced (length newest) newest cache → sector < length newest
    → ((n : ℕ) → n ≤ length calls → is_chain calls synced sector n (get_or newest sector 0) ≡ true
    → count ≡ n)
    → count ≡ length (cache.may sector)
counted calls synced newest sector count cache placed h counts = grind (arith, unwrap_or-slice_get)

pub unsynced-next : (calls : List PastCall) (synced : ℕ) (newest : List ℕ)
    (sector count unsynced next : ℕ) (cache : Cache)
    → ArePlaced calls synced (length newest) newest cache → sector < length newest
    → ((n : ℕ) → n ≤ length calls → is_chain calls synced sector n (get_or newest sector 0) ≡ true
    → count ≡ n)
    → unsynced ≡ unsynced_below cache sector → (1 < count → next ≡ unsynced + 1)
    → (count ≤ 1 → next ≡ unsynced)
    → next ≡ unsynced_below cache (sector + 1)
unsynced-next calls synced newest sector count unsynced next cache placed h counts before more
    same =
    let is = counted calls synced newest sector count cache placed h counts in
    let one : sector + 1 ≡ suc sector = omega arith in
    at (cases_lt 1 count) is ∙ ap (unsynced_below cache) (sym one)
  where
    at : (1 < count) ⊎ (count ≤ 1) → count ≡ length (cache.may sector)
        → next ≡ unsynced_below cache (suc sector)
    at (inl many) is = grind (arith, lt-ltb)
    at (inr few) is = grind (arith, le-ltb)

pub chosen-next : (calls : List PastCall) (synced : ℕ) (newest picks chosen : List ℕ)
    (sector count unsynced pick place : ℕ) (cache : Cache)
    → ArePlaced calls synced (length newest) newest cache → sector < length newest
    → length chosen ≡ length newest
    → ((n : ℕ) → n ≤ length calls → is_chain calls synced sector n (get_or newest sector 0) ≡ true
    → count ≡ n)
    → unsynced ≡ unsynced_below cache sector → pick ≡ unwrap_or (slice_get picks unsynced) 0
    → place ≡ walk calls sector (count - 1 - pick % count) (get_or newest sector 0)
    → AreChosen calls cache picks sector chosen
    → AreChosen calls cache picks (sector + 1) (set chosen sector place)
chosen-next calls synced newest picks chosen sector count unsynced pick place cache placed h
    same_length counts before picked found earlier =
    let here = placed.each sector h in
    let may = cache.may sector in
    let is = counted calls synced newest sector count cache placed h counts in
    let start = place_of newest sector in
    let choice = choice_of cache picks sector in
    let some = chain-some calls synced sector (length may) start here.chain in
    let low : choice < length may =
    mod-lt (unwrap_or (slice_get picks (unsynced_below cache sector)) 0) some in
    let pick_is : pick % count ≡ choice =
    ap (λ (n : ℕ). pick % n) is
    ∙ ap (λ (n : ℕ). n % length may)
    (grind (arith, picked, before)) in
    let place_is : place ≡ walk calls sector (length may - 1 - choice) start =
    found
    ∙ ap (λ (n : ℕ). walk calls sector (n - 1 - pick % count) (get_or newest sector 0)) is
    ∙ ap (λ (n : ℕ). walk calls sector (length may - 1 - n) (get_or newest sector 0)) pick_is
    ∙ ap (walk calls sector (length may - 1 - choice))
    (sym (unwrap_or-slice_get newest sector 0)) in
    let value = candidate-value calls synced sector start (cache.now sector) may choice here low in
    let within =
    candidate-within calls synced sector start (cache.now sector) may choice here low in
    let set_is = place_of-set_same chosen sector place (omega arith) ∙ place_is in
    record {
      value = λ other less. elim (last_or_below other sector (omega arith)) [
        | inl last ↦
            grind (arith, last, set_is, value, ap (left_by cache picks) (sym last))
        | inr below ↦
            grind (arith, place_of-set_other)
      ];
      within = λ other less. elim (last_or_below other sector (omega arith)) [
        | inl last ↦
            grind (arith, set)
        | inr below ↦
            grind (arith, place_of-set_other)
      ];
    }

chain-one : (calls : List PastCall) (synced s n place : ℕ) → is_open calls synced place ≡ false
    → is_chain calls synced s n place ≡ true → n ≡ 1
chain-one calls synced s zero place closed e = let never : ⊥ = cc in absurd never
chain-one calls synced s (suc zero) place closed e = refl
chain-one calls synced s (suc (suc n)) place closed e = grind (arith, and_parts)

first-closed : (calls : List PastCall) (synced place : ℕ) → 0 < synced → place ≡ 0
    → is_open calls synced place ≡ false
first-closed calls synced place some is =
    ap (λ b. b && is_plain (slice_get calls place)) (above (nat_le synced place) refl)
  where
    above : (b : Bool) → nat_le synced place ≡ b → b ≡ false
    above true e = absurd (let low = leb-true synced place e in omega arith)
    above false e = refl

-- without a table, each sector has the first call's value, which is durable and its only candidate
pub first_chosen : (calls : List PastCall) (synced sectors : ℕ) (newest picks chosen : List ℕ)
    (cache : Cache) → length newest ≡ 0 → length chosen ≡ 0
    → 0 < synced → ArePlaced calls synced sectors newest cache
    → AreChosen calls cache picks sectors chosen
first_chosen calls synced sectors newest picks chosen cache none empty some placed = record {
  value = λ s h. ap (λ (p : ℕ). value_at calls p s) (start s h) ∙ (candidate s h).0;
  within = λ s h. let is = start s h in let low = (candidate s h).1 in omega arith;
}
  where
    back : (s : ℕ) → s < sectors → length (cache.may s) - 1 - choice_of cache picks s ≡ 0
    back s h = grind (arith, chain-one, first-closed, place_past)

    start : (s : ℕ) → s < sectors
        → place_of chosen s ≡ walk calls s (length (cache.may s) - 1 - choice_of cache picks s)
        (place_of newest s)
    start s h =
        place_past chosen s (omega arith)
        ∙ sym (place_past newest s (omega arith))
        ∙ sym (rw (back s h))

    candidate : (s : ℕ) → s < sectors
        → (value_at calls (walk calls s (length (cache.may s) - 1 - choice_of cache picks s)
        (place_of newest s)) s ≡ left_by cache picks s)
        × (walk calls s (length (cache.may s) - 1 - choice_of cache picks s)
        (place_of newest s) < length calls)
    candidate s h =
        grind (arith, chain-some, mod-lt, candidate-value, candidate-within)

pub begins_same : (n : ℕ) (c d : Content) (v : View) → ((s : ℕ) → s < n → c s ≡ d s) → PastBegins n c v
    → PastBegins n d v
begins_same n c d v same begins = grind arith

pub begins_fresh : (n : ℕ) (start content : Content) → ((s : ℕ) → s < n → start s ≡ content s)
    → PastBegins n content (view_of n start [])
begins_fresh n start content same = record {
  size = refl;
  content = same;
  only = syncs_start n start;
  clock = refl;
}

pub begins_made : (sectors n : ℕ) (calls none : List PastCall) (base : List ℕ) (call : PastCall)
    → calls ≡ none ++ call ∷ [] → none ≡ [] → base ≡ [] → sectors ≡ n
    → PastBegins n (put (change_values_of call) (λ _. replicate 512 0))
    (view_of sectors (content_at calls base) (past_of calls 1 false))
begins_made sectors n calls none base call one empty bare same =
    let Made : List PastCall → Type 0 =
    λ cs. PastBegins n (put (change_values_of call) (λ _. replicate 512 0))
    (view_of sectors (content_at cs base) (past_of cs 1 false)) in
    let Sized : ℕ → Type 0 =
    λ size. PastBegins n (put (change_values_of call) (λ _. replicate 512 0))
    (view_of size (content_at (call ∷ []) base) []) in
    subst Made (sym (one ∙ ap (λ (cs : List PastCall). cs ++ call ∷ []) empty))
    (subst Sized (sym same) (begins_fresh n (content_at (call ∷ []) base)
    (put (change_values_of call) (λ _. replicate 512 0)) (λ s h.
    ap (λ (places : List ℕ). value_at (call ∷ []) (place_of places s) s) bare)))

pub zeroes_made : (n : ℕ) (v : View) → PastBegins n (put (discards 0 n) (λ _. replicate 512 0)) v
    → PastBegins n (λ _. replicate 512 0) v
zeroes_made n v =
    begins_same n (put (discards 0 n) (λ _. replicate 512 0)) (λ _. replicate 512 0) v
    (λ s h. discarded 0 n s)

pub image_made : (bytes : List ℕ) (v : View)
    → PastBegins (length bytes / 512) (put (writes 0 bytes) (λ _. replicate 512 0)) v
    → PastBegins (length bytes / 512) (sector_of bytes) v
image_made bytes v =
    begins_same (length bytes / 512) (put (writes 0 bytes) (λ _. replicate 512 0))
    (sector_of bytes) v (λ s h.
    let same : s - 0 ≡ s = omega arith in
    put-writes 0 bytes (λ _. replicate 512 0) s (omega arith) (omega arith)
    ∙ ap (sector_of bytes) same)

pub chosen_of : (disk : SectorDisk) (calls : List PastCall) (newest picks chosen : List ℕ)
    → calls ≡ disk.calls.items → newest ≡ disk.newest.items
    → length chosen ≡ length newest
    → ((cache : Cache) → ArePlaced calls disk.synced (length newest) newest cache
    → AreChosen calls cache picks (length newest) chosen)
    → AreChosen disk.calls.items (cache_of disk) picks disk.sectors chosen
chosen_of disk calls newest picks chosen same_calls same_newest size choice =
    elim (table_cases disk.sectors (length disk.newest.items) disk.kept.table) [
      | inl none ↦
          first_chosen disk.calls.items disk.synced disk.sectors disk.newest.items picks chosen
          (cache_of disk) none (size ∙ ap length same_newest ∙ none)
          disk.kept.synced_some disk.kept.placed
      | inr whole ↦
          let count = ap length same_newest ∙ whole in
          let Calls : List PastCall → Type 0 =
          λ cs. AreChosen cs (cache_of disk) picks disk.sectors chosen in
          let Count : ℕ → Type 0 = λ n. AreChosen calls (cache_of disk) picks n chosen in
          let Placed : List PastCall → Type 0 =
          λ cs. ArePlaced cs disk.synced (length newest) newest (cache_of disk) in
          let Newest : List ℕ → Type 0 =
          λ places. ArePlaced disk.calls.items disk.synced (length newest) places
          (cache_of disk) in
          let Sized : ℕ → Type 0 =
          λ n. ArePlaced disk.calls.items disk.synced n disk.newest.items (cache_of disk) in
          subst Calls same_calls (subst Count count (
          choice (cache_of disk) (subst Placed (sym same_calls)
          (subst Newest (sym same_newest) (subst Sized (sym count) disk.kept.placed)))
          ))
    ]

chosen-within : (disk : SectorDisk) (picks chosen : List ℕ)
    → AreChosen disk.calls.items (cache_of disk) picks disk.sectors chosen
    → is_table disk.sectors (length chosen) ≡ true
    → PlacesAreWithin disk.calls.items chosen
chosen-within disk picks chosen choice table = grind (arith, cases_lt, place_past, table_cases)

pub kept_chosen : (disk : SectorDisk) (picks newest chosen : List ℕ) (count : ℕ)
    → AreChosen disk.calls.items (cache_of disk) picks disk.sectors chosen
    → is_table disk.sectors (length chosen) ≡ true → newest ≡ chosen
    → count ≡ length disk.calls.items
    → IsStorage disk.sectors disk.calls.items newest chosen count count false
kept_chosen disk picks newest chosen count choice table same is =
    grind (arith, kept_begun, chosen-within)

pub begins_chosen : (disk : SectorDisk) (picks chosen : List ℕ) (count : ℕ)
    → AreChosen disk.calls.items (cache_of disk) picks disk.sectors chosen
    → count ≡ length disk.calls.items
    → PastBegins disk.sectors (left_by (cache_of disk) picks)
    (view_of disk.sectors (content_at disk.calls.items chosen)
    (past_of disk.calls.items count false))
begins_chosen disk picks chosen count choice is =
    let Past : List PastStep → Type 0 =
    λ past. PastBegins disk.sectors (left_by (cache_of disk) picks)
    (view_of disk.sectors (content_at disk.calls.items chosen) past) in
    subst Past (sym (ap (λ (n : ℕ). past_of disk.calls.items n false) is
    ∙ past_begun disk.calls.items)) (
    begins_fresh disk.sectors (content_at disk.calls.items chosen) (left_by (cache_of disk) picks)
    (λ s h. choice.value s h)
    )
