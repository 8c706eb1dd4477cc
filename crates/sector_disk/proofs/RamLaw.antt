-- Each call of a `RamDisk` satisfies the law of devices.
use Rattle.std.proofs.Common.{◌≡◌, ◌∙◌, ◌⊎◌, ℕ, ◌%◌, ◌+◌, ◌/◌, drop, take, ◌<◌, ◌≤◌, List, [], ◌∷◌, ◌++◌, Err, Ok, Result}
use Rattle.std.proofs.Common.{ap, arith, false, inl, inr, length, refl, replicate, sym}
use Rattle.std.specs.Prelude.{OnErr, OnOk, unwrap_or}
use Rattle.std.specs.declared.alloc.AllocError.{AllocError}
use Rattle.std.proofs.lemmas.Bool.{cases_lt}
use Rattle.bio.specs.Content.{Content, Patch, Patched, SameValues, between, below, put, sector_of}
use Rattle.bio.specs.Content.{writes}
use Rattle.bio.specs.ContentLaws.{over-after, over-below, patched-same, put-none, put-some}
use Rattle.bio.specs.ContentLaws.{writes-between}
use Rattle.blockdev.specs.JoinLaws.{goes_cut, goes_next, goes_none, lands_all, lands_first}
use Rattle.blockdev.specs.JoinLaws.{lands_next}
use Rattle.bio.specs.PlaceLaws.{slice_get-append_here}
use Rattle.blockdev.specs.Law.{DeviceFrame, WriteDone}
use Rattle.blockdev.specs.View.{View}
use Rattle.sector_disk.proofs.FieldsKept.{kept_begun, past_begun, whole_table}
use Rattle.sector_disk.proofs.NewPast.{begins_fresh}
use Rattle.sector_disk.specs.Candidates.{view_of}
use Rattle.sector_disk.specs.DiskView.{PastBegins}
use Rattle.sector_disk.specs.inside.Storage.{IsStorage, IsRam, is_table, past_of}
use Rattle.sector_disk.proofs.FieldsKept.{first_place, value-kept, values-in, values-out}
use Rattle.sector_disk.proofs.ImageBack.{written_whole}
use Rattle.sector_disk.specs.RamView.{DoesInRam, PutsValues, ram_view, view_in}
use Rattle.sector_disk.specs.declared.disk.ram.RamDisk.{RamDisk}
use Rattle.blockdev.specs.View.{Writes}
use Rattle.bio.specs.declared.outcome.DevError.{DevError}
use Rattle.bio.specs.declared.outcome.DevError.TheVariants.{Memory}
use Rattle.std.specs.Prelude.{Bool}
use Rattle.sector_disk.specs.declared.call.PastCall.{PastCall}
use Rattle.sector_disk.specs.declared.call.PastChange.TheVariants.{Image}
use Rattle.sector_disk.specs.inside.Storage.{PlacesAreWithin, IsFilled, content_at, change_count, place_of}
use Rattle.sector_disk.specs.inside.Storage.{value_at, value_in, change_values_of}

pub ram_goes : (patch : Patch) (size : ℕ) (old new : Content) (faults more : ℕ) → faults ≤ more
    → Patched patch old new → DeviceFrame patch (view_in size old faults) (view_in size new more)
ram_goes patch size old new faults more rises content = record {
  size = refl;
  origin = refl;
  content = content;
  crash = λ left may. (left, may, patched-same patch left);
  clock = omega arith;
  gains = λ reading left h may. inl may;
  keeps = λ reading left h may. may;
  faults = rises;
  lies = omega arith;
  can_lie = refl;
  honest = λ none. refl;
}

pub ram_done : (patch : Patch) (size : ℕ) (old new : Content) (faults : ℕ)
    → ((sector : ℕ) → new sector ≡ put patch old sector)
    → WriteDone patch false (view_in size old faults) (view_in size new faults)
ram_done patch size old new faults content =
    record { content = content; durable = λ fua. absurd cc }

pub content_added : (calls : List PastCall) (call : PastCall) (newest filled : List ℕ) (count : ℕ)
    → PlacesAreWithin calls newest → count ≡ change_count call.change
    → IsFilled call.first count (length calls) newest filled → (sector : ℕ)
    → content_at (calls ++ call ∷ []) filled sector
    ≡ put (change_values_of call) (content_at calls newest) sector
content_added calls call newest filled count within counted fills sector =
    elim (cases_lt sector call.first) [
      | inl low ↦ outside (inl low)
      | inr from ↦ elim (cases_lt sector (call.first + count)) [
        | inl high ↦
            let value = values-in call sector from (omega arith) in
            ap (λ place. value_at (calls ++ call ∷ []) place sector)
            (fills.within sector from high)
            ∙ ap (λ o. value_in o sector) (slice_get-append_here calls call [])
            ∙ ap (λ o. unwrap_or o (replicate 512 0)) value.1
            ∙ sym (put-some (change_values_of call) (content_at calls newest) sector value.0 value.1)
        | inr after ↦ outside (inr after)
      ]
    ]
  where
    outside : (sector < call.first) ⊎ (call.first + count ≤ sector)
        → content_at (calls ++ call ∷ []) filled sector
        ≡ put (change_values_of call) (content_at calls newest) sector
    outside side =
        ap (λ place. value_at (calls ++ call ∷ []) place sector) (fills.outside sector side)
        ∙ value-kept calls call (place_of newest sector) sector (within.each sector)
        ∙ sym (put-none (change_values_of call) (content_at calls newest) sector
        (values-out call sector (grind arith)))

-- the call was added to a disk's calls, or nothing is changed
pub record IsAdded (calls all : List PastCall) (newest filled : List ℕ) (call : PastCall) (count : ℕ)
    (r : Result (Unit {0}) AllocError) : Type 0 where
  pub counted : count ≡ change_count call.change
  pub added : OnOk r (all ≡ calls ++ call ∷ [])
  pub filled_in : OnOk r (IsFilled call.first count (length calls) newest filled)
  pub kept : OnErr r ((all ≡ calls) × (filled ≡ newest))

module _ (calls all : List PastCall) (newest filled : List ℕ) (call : PastCall) (count size faults : ℕ) where
  pub added_content : (r : Result (Unit {0}) AllocError) → PlacesAreWithin calls newest
      → IsAdded calls all newest filled call count r → OnOk r ((sector : ℕ)
      → content_at all filled sector ≡ put (change_values_of call) (content_at calls newest) sector)
  added_content (Ok done) within added = λ sector.
      ap (λ cs. content_at cs filled sector) added.added
      ∙ content_added calls call newest filled count within added.counted added.filled_in sector
  added_content (Err error) within added = tt

  pub added_goes : (r : Result (Unit {0}) AllocError) → PlacesAreWithin calls newest
      → IsAdded calls all newest filled call count r
      → DeviceFrame (change_values_of call) (view_in size (content_at calls newest) faults)
      (view_in size (content_at all filled) faults)
  added_goes (Ok done) within added =
      ram_goes (change_values_of call) size _ _ faults faults (omega arith)
      (λ sector. inr (added_content (Ok done) within added sector))
  added_goes (Err error) within added =
      ram_goes (change_values_of call) size _ _ faults faults (omega arith)
      (λ sector. inl (rw (added.kept.0, added.kept.1)))

  pub added_lands : (r : Result (Unit {0}) AllocError) → PlacesAreWithin calls newest
      → IsAdded calls all newest filled call count r
      → OnOk r (WriteDone (change_values_of call) false (view_in size (content_at calls newest) faults)
      (view_in size (content_at all filled) faults))
  added_lands (Ok done) within added =
      ram_done (change_values_of call) size _ _ faults (added_content (Ok done) within added)
  added_lands (Err error) within added = tt

pub content_same : (calls same : List PastCall) (newest table : List ℕ) → same ≡ calls → table ≡ newest
    → content_at same table ≡ content_at calls newest
content_same calls same newest table calls_are table_is = rw (calls_are, table_is)

pub goes_from : (first : ℕ) (kept bytes : List ℕ) (size faults : ℕ) (mid old : Content) (w : View)
    → kept ≡ bytes → mid ≡ old → DeviceFrame (writes first kept) (view_in size mid faults) w
    → DeviceFrame (writes first bytes) (view_in size old faults) w
goes_from first kept bytes size faults mid old w same is goes = grind arith

pub lands_from : (first : ℕ) (kept bytes : List ℕ) (size faults : ℕ) (mid old : Content) (w : View)
    (r : Result (Unit {0}) AllocError) → kept ≡ bytes → mid ≡ old
    → OnOk r (WriteDone (writes first kept) false (view_in size mid faults) w)
    → OnOk r (WriteDone (writes first bytes) false (view_in size old faults) w)
lands_from first kept bytes size faults mid old w r same is lands = grind arith

pub image_held : (image : List ℕ) (none calls : List PastCall) (newest : List ℕ) (call : PastCall) (n : ℕ)
    → none ≡ [] → calls ≡ none ++ call ∷ [] → call.first ≡ 0 → call.change ≡ Image image
    → newest ≡ replicate n 0 → (sector : ℕ) → sector < length image / 512
    → content_at calls newest sector ≡ sector_of image sector
image_held image none calls newest call n empty all zero_is change zeroes sector below =
    grind (arith, first_place, written_whole)

pub kept_table : (sectors : ℕ) (calls : List PastCall) (newest base : List ℕ) (begun : ℕ)
    → IsRam sectors calls newest → base ≡ newest → begun ≡ length calls
    → IsStorage sectors calls newest base begun begun false
kept_table sectors calls newest base begun ram same count =
    rw (same, count) (kept_begun sectors calls newest ram.some ram.few
    (ap (is_table sectors) ram.table ∙ whole_table sectors) ram.within)

pub begins_kept : (sectors : ℕ) (calls : List PastCall) (newest base : List ℕ) (begun : ℕ)
    → base ≡ newest → begun ≡ length calls
    → PastBegins sectors (content_at calls newest)
    (view_of sectors (content_at calls base) (past_of calls begun false))
begins_kept sectors calls newest base begun same count =
    rw (same, count, past_begun calls)
    (begins_fresh sectors (content_at calls newest) (content_at calls newest) (λ s h. refl))

-- the first `done` bytes of a write from sector `first` on are written, and nothing else
pub record PartIsWritten (first : ℕ) (bytes : List ℕ) (done : ℕ) (v w : View) : Type 0 where
  pub whole : done % 512 ≡ 0
  pub within : done ≤ length bytes
  pub goes : DeviceFrame (below (first + done / 512) (writes first bytes)) v w
  pub lands : WriteDone (below (first + done / 512) (writes first bytes)) false v w
  pub faults : w.faults ≡ v.faults

pub written_first : (first : ℕ) (bytes : List ℕ) (v : View) → PartIsWritten first bytes 0 v v
written_first first bytes v =
    let none = over-below (first + 0 / 512) first (length bytes / 512) (sector_of bytes) (omega arith) in
    record {
      whole = omega arith;
      within = omega arith;
      goes = goes_none _ v;
      lands = lands_first (first + 0 / 512) (writes first bytes) false v none;
      faults = refl;
    }

part_of : (first done count : ℕ) (bytes : List ℕ) → done % 512 ≡ 0 → count % 512 ≡ 0
    → done + count ≤ length bytes
    → SameValues (writes (first + done / 512) (take count (drop done bytes)))
    (between (first + done / 512) (first + (done + count) / 512) (writes first bytes))
part_of first done count bytes whole counted within =
    let same = writes-between first (done / 512) (count / 512) bytes (omega arith) in
    grind (
      arith,
      same,
    )

module _ (first done count taken : ℕ) (bytes : List ℕ) (u v w : View) (same : taken ≡ count)
    (counted : count % 512 ≡ 0) (most : done + count ≤ length bytes)
    (written : PartIsWritten first bytes done u v)
    (goes : DeviceFrame (writes (first + done / 512) (take taken (drop done bytes))) v w) where
  values : SameValues (writes (first + done / 512) (take taken (drop done bytes)))
      (between (first + done / 512) (first + (done + count) / 512) (writes first bytes))
  values =
      rw same (part_of first done count bytes written.whole counted most)

  next : DeviceFrame (below (first + (done + count) / 512) (writes first bytes)) u w
  next =
      goes_next (first + done / 512) (first + (done + count) / 512) (writes first bytes)
      (writes (first + done / 512) (take taken (drop done bytes))) u v w (omega arith) values
      written.goes goes

  pub written_fails : DeviceFrame (writes first bytes) u w
  written_fails = goes_cut (first + (done + count) / 512) (writes first bytes) u w next

  pub written_next
      : WriteDone (writes (first + done / 512) (take taken (drop done bytes))) false v w
      → w.faults ≡ v.faults → PartIsWritten first bytes (done + count) u w
  written_next lands same = record {
    whole = let h = written.whole in omega arith;
    within = most;
    goes = next;
    lands =
        lands_next (first + done / 512) (first + (done + count) / 512) (writes first bytes)
        (writes (first + done / 512) (take taken (drop done bytes))) false u v w (omega arith)
        values written.lands lands;
    faults = same ∙ written.faults;
  }

pub written_all : (first done : ℕ) (bytes : List ℕ) (u v : View) → PartIsWritten first bytes done u v
    → length bytes ≤ done → WriteDone (writes first bytes) false u v
written_all first done bytes u v written past =
    lands_all (first + done / 512) (writes first bytes) false u v
    (λ sector high. over-after first (length bytes / 512) (sector_of bytes) sector (omega arith))
    written.lands

pub does_all : (old new : RamDisk) (first now : ℕ) (bytes : List ℕ) (fua : Bool) → fua ≡ false
    → WriteDone (writes first bytes) false (ram_view old) (ram_view new) → new.faults ≡ old.faults
    → DoesInRam old (Writes first bytes fua) now (Ok now) new
does_all old new first now bytes fua plain lands same = rw plain (refl, lands.content, same)

pub puts_some : (patch : Patch) (now : ℕ) (r : Result ℕ DevError) (v w : View) → r ≡ Err Memory
    → DeviceFrame patch v w → w.faults ≡ v.faults → PutsValues patch now r v w
puts_some patch now r v w is goes same = rw is (goes.content, same)

pub does_some : (old new : RamDisk) (first now : ℕ) (bytes : List ℕ) (fua : Bool)
    (r : Result ℕ DevError) → fua ≡ false → r ≡ Err Memory
    → DeviceFrame (writes first bytes) (ram_view old) (ram_view new) → new.faults ≡ old.faults
    → DoesInRam old (Writes first bytes fua) now r new
does_some old new first now bytes fua r plain is goes same =
    rw plain (puts_some (writes first bytes) now r (ram_view old) (ram_view new) is goes same)
