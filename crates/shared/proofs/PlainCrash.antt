-- What a crash leaves of the log of a shared recorder, in the headline's plain definitions.
use Rattle.std.proofs.Common.{◌≡◌, ℕ, suc, ◌≤◌, true, IsTrue, List, [], ◌∷◌, length, take}
use Rattle.std.proofs.Common.{Some, refl, sym, subst, ◌∙◌, arith}
use Rattle.std.specs.Prelude.{◌↔◌, slice_get}
use Rattle.std.proofs.lemmas.Bool.{and_parts}
use Rattle.std.proofs.lemmas.List.{length-map, take-map}
use Rattle.bio.specs.Content.{Content}
use Rattle.bio.specs.declared.event.CoreEvent.{CoreEvent}
use Rattle.bio.specs.Events.{all_aligned, is_lawful_sized, is_well_formed}
use Rattle.bio.specs.RequestLaws.{lawful_parts}
use Rattle.log_format.specs.Entries.{is_sector_size}
use Rattle.log_format.specs.LogOf as logs
use Rattle.log_store.specs.Store.{IsLogPrefix, super_count}
use Rattle.pending.specs.CompletionList.{Item as Listed, completion_list, dm_log_writes, entries_of}
use Rattle.pending.specs.CompletionList.{ids_of}
use Rattle.pending.specs.CoreState.{CoreState, items_of}
use Rattle.pending.specs.Plain.{Belongs, CouldHold, GoesOn, HasPlainLog, IsCompletionList}
use Rattle.pending.specs.Plain.{LeavesPlainLog, ReplaysTo}
use Rattle.lock_state.specs.declared.note.LogItem.{LogItem}
use Rattle.lock_state.specs.Comparison.{IsTakenPrefix, listed_item}
use Rattle.lock_state.specs.PlacedItems.{entries_in}
use Rattle.shared.proofs.ClosedLog.{entries_long, first_entries}

-- the laws that are passed to `leaves_plain`
abbrev pub ListsPlain : Type 0
ListsPlain =
    (size : ℕ) (events : List CoreEvent) (ids : List ℕ) → is_well_formed events ≡ true
    → (ids ≡ ids_of (completion_list (dm_log_writes size) events)) ↔ IsCompletionList events ids

abbrev pub LogsPlain : Type 0
LogsPlain =
    (size : ℕ) (events : List CoreEvent) (ids : List ℕ) (disk : ℕ) (content : Content) (count : ℕ)
    → is_well_formed events ≡ true → IsCompletionList events ids
    → logs.HasLog disk content size
    (entries_of (take count (completion_list (dm_log_writes size) events)))
    → HasPlainLog size events (take count ids) disk content

abbrev pub BeginningsHeld : Type 0
BeginningsHeld =
    (size : ℕ) (events : List CoreEvent) (ids : List ℕ) (first after : Content) (moment count : ℕ)
    → IsTrue (is_sector_size size) → IsTrue (all_aligned size events)
    → is_well_formed events ≡ true → IsCompletionList events ids → moment ≤ length events
    → GoesOn events moment → Belongs events ids moment count
    → ReplaysTo events (take count ids) first after → CouldHold (take moment events) first after

long_within : (placed : List LogItem) (items : List Listed)
    → ((k : ℕ) (item : LogItem) → slice_get placed k ≡ Some item
    → slice_get items k ≡ Some (listed_item item)) → length placed ≤ length items
long_within [] items each = omega arith
long_within (x ∷ xs) [] each = absurd (let there = each 0 x refl in cc)
long_within (x ∷ xs) (y ∷ ys) each =
    let rest = long_within xs ys (λ k item at. each (suc k) item at) in omega (arith, rest)

pub leaves_plain : ListsPlain → LogsPlain → BeginningsHeld → (sectors size few : ℕ)
    (core : CoreState)
    (placed : List LogItem) (left : Content)
    → IsTrue (is_lawful_sized core.sector_bytes sectors core.events) → IsTakenPrefix core placed
    → IsLogPrefix size core.sector_bytes (entries_in placed) few left
    → LeavesPlainLog core.sector_bytes size few core.events left
leaves_plain lists stand held sectors size few core placed left lawful begins cut =
    let bytes = core.sector_bytes in
    let events = core.events in
    let items = items_of core in
    let ids = ids_of items in
    let parts = lawful_parts bytes sectors events lawful in
    let well_formed = (and_parts (is_well_formed events) _ parts.0).0 in
    let list = (lists bytes events ids well_formed).0 refl in
    let long = long_within placed items begins.each in
    let most = cut.most in
    let same_long = entries_long placed in
    let within : super_count left ≤ length placed = omega (arith, most, same_long) in
    let same : take (super_count left) (entries_in placed) ≡ entries_of (take (super_count left) items) =
    sym (first_entries placed items begins.each (super_count left) within)
    ∙ take-map (λ (i : Listed). i.1) (super_count left) items in
    record {
      sector_size = cut.log.sector_size;
      ids = ids;
      list = list;
      count = super_count left;
      least = cut.least;
      most =
          omega (arith, within, long, length-map items (λ (i : Listed). i.0));
      log =
          stand bytes events ids size left (super_count left) well_formed list
          (rw same at cut.log);
      possible = λ n moment first after within until on belongs replays.
          held bytes events ids first after moment n cut.log.sector_size parts.1 well_formed list
          until on belongs replays;
    }

-- the law that is passed to `plain_at`
abbrev pub PlacedPlain : Type 0
PlacedPlain =
    (sectors size few : ℕ) (core : CoreState) (placed : List LogItem) (left : Content)
    → IsTrue (is_lawful_sized core.sector_bytes sectors core.events) → IsTakenPrefix core placed
    → IsLogPrefix size core.sector_bytes (entries_in placed) few left
    → LeavesPlainLog core.sector_bytes size few core.events left

pub plain_at : PlacedPlain → (bytes sectors size few : ℕ) (core : CoreState) (placed : List LogItem)
    (left : Content) → core.sector_bytes ≡ bytes
    → IsTrue (is_lawful_sized bytes sectors core.events) → IsTakenPrefix core placed
    → IsLogPrefix size bytes (entries_in placed) few left
    → LeavesPlainLog bytes size few core.events left
plain_at law bytes sectors size few core placed left is lawful begins cut =
    subst (λ (n : ℕ). LeavesPlainLog n size few core.events left) is
    (law sectors size few core placed left
    (subst (λ (n : ℕ). IsTrue (is_lawful_sized n sectors core.events)) (sym is) lawful) begins
    (subst (λ (n : ℕ). IsLogPrefix size n (entries_in placed) few left) (sym is) cut))
