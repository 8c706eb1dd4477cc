-- Proves which lines of a head are read, and why the others are refused, for both kinds of scripts.
use Rattle.std.proofs.Common.{⊎_elim, refl, ap, ◌∙◌, sym, arith, length, append_assoc, Option, Some}
use Rattle.std.proofs.Common.{None, Ok, Err, ◌⊎◌, inl, inr, ◌≡◌, ℕ, ◌+◌, ◌-◌, ◌<◌, ◌≤◌, Bool, true}
use Rattle.std.proofs.Common.{false, cond, List, [], ◌∷◌, ◌++◌}
use Rattle.std.specs.Prelude.{slice_get, ◌/◌, map, nat_le, nat_lt, Result, IfOk}
use Rattle.std.proofs.lemmas.Bool.{and_from, and_parts, cond-true, le-leb, leb-true, lt-ltb}
use Rattle.std.proofs.lemmas.Bool.{ltb-false, ltb-true}
use Rattle.std.proofs.lemmas.List.{append-nil, length-append, map-append}
use Rattle.std.specs.List.{AllByRecursion}
use Rattle.refusals.specs.declared.refusal.Refusal.{Refusal}
use Rattle.refusals.specs.declared.refusal.Refusal.TheVariants.{BadLine, OutOfRange}
use Rattle.refusals.specs.Words.{words_of}
use Rattle.bio.specs.declared.request.SectorSize.{SectorSize}
use Rattle.bio.specs.Requests.{bytes_of}
use Rattle.layer_table.specs.declared.layer_spec.LayerSpec.{LayerSpec}
use Rattle.layer_table.specs.declared.table_error.TableError.{TableError}
use Rattle.layer_table.specs.Layers.{top_sectors, LayersAreAllowed}
use Rattle.layer_table.specs.TableLines.{asked_in_range}
use Rattle.layer_table.specs.TableLines.{IsLayerSpec, table_refusal}
use Rattle.dmlw_script.proofs.ReaderLaws.{bind_at, fold, fold_append, made_err, made_ok}
use Rattle.dmlw_script.specs.declared.command.DiskName.{DiskName}
use Rattle.dmlw_script.specs.declared.command.DiskName.TheVariants as disks
use Rattle.dmlw_script.specs.declared.line.HeadLine.{HeadLine}
use Rattle.dmlw_script.specs.declared.line.HeadLine.TheVariants as head_lines
use Rattle.dmlw_script.specs.Fields.{head_fields, Says}
use Rattle.dmlw_script.specs.FirstFault.{bare, with_layer}
use Rattle.dmlw_script.specs.inside.Heads.{asked_layer, data_layer, head_step, layer_step, with_log}
use Rattle.dmlw_script.specs.inside.Stages.{Stage}
use Rattle.dmlw_script.specs.inside.Stages as heads
use Rattle.dmlw_script.specs.Plans.{top_of, Disk, IsDisk, is_disk_size, is_log_disk_size, layer_is_within}
use Rattle.dmlw_script.specs.Plans.{least_sectors}

pub top_is_last : (sectors : ℕ) (layers : List LayerSpec) (layer : LayerSpec)
    → slice_get layers (length layers - 1) ≡ Some layer → top_sectors sectors layers ≡ layer.length
top_is_last sectors [] layer e = absurd (cc)
top_is_last sectors (first ∷ []) layer e = grind arith
top_is_last sectors (first ∷ second ∷ layers) layer e =
    grind (arith, top_is_last first.length (second ∷ layers) layer)

pub top_push : (sectors : ℕ) (layers : List LayerSpec) (layer : LayerSpec)
    → top_sectors sectors (layers ++ layer ∷ []) ≡ layer.length
top_push sectors [] layer = refl
top_push sectors (first ∷ layers) layer = top_push first.length layers layer

stand_push : (sectors : ℕ) (layers : List LayerSpec) (layer : LayerSpec) → LayersAreAllowed sectors layers
    → IsLayerSpec layer → layer.offset + layer.length ≤ top_sectors sectors layers
    → LayersAreAllowed sectors (layers ++ layer ∷ [])
stand_push sectors [] layer stand is within = (is, within, tt)
stand_push sectors (first ∷ layers) layer stand is within =
    (stand.0, stand.1, stand_push first.length layers layer stand.2 is within)

pub bare_disk : (sectors : ℕ) → is_disk_size sectors ≡ true → IsDisk (bare sectors)
bare_disk sectors size = record { size = size; few = omega arith; stand = tt }

pub disk_push : (disk : Disk) (layer : LayerSpec) → IsDisk disk → length disk.layers < 4
    → IsLayerSpec layer → layer_is_within layer (top_of disk) ≡ true → IsDisk (with_layer disk layer)
disk_push disk layer is few fine within = grind (arith, length-append, stand_push, leb-true)

pub disk_small : (disk : Disk) → IsDisk disk → disk.sectors ≤ 1048576
disk_small disk is = grind (arith, leb-true, and_parts)

pub layer_specs : (sectors : ℕ) (layers : List LayerSpec) → LayersAreAllowed sectors layers
    → AllByRecursion IsLayerSpec layers
layer_specs sectors [] stand = tt
layer_specs sectors (layer ∷ layers) stand =
    (stand.0, layer_specs layer.length layers stand.2)

pub top_small : (sectors : ℕ) (layers : List LayerSpec) → LayersAreAllowed sectors layers
    → sectors ≤ 1048576 → top_sectors sectors layers ≤ 1048576
top_small sectors [] stand small = small
top_small sectors (layer ∷ layers) stand small =
    top_small layer.length layers stand.2 (let lengths = stand.0.sectors in lengths.few)

pub top_within : (sectors : ℕ) (layers : List LayerSpec) → LayersAreAllowed sectors layers
    → top_sectors sectors layers ≤ sectors
top_within sectors [] stand = omega arith
top_within sectors (layer ∷ layers) stand =
    let above : top_sectors layer.length layers ≤ layer.length =
    top_within layer.length layers stand.2 in
    let within : layer.offset + layer.length ≤ sectors = stand.1 in
    omega arith

abbrev pub AreLong : ℕ → List LayerSpec → Type 0
AreLong least layers = AllByRecursion (λ (layer : LayerSpec). least ≤ layer.length) layers

-- Each layer is at least as long as the top one, so it is enough to test the top.
pub long_below : (least sectors : ℕ) (layers : List LayerSpec) → LayersAreAllowed sectors layers
    → least ≤ top_sectors sectors layers → AreLong least layers
long_below least sectors [] stand long = tt
long_below least sectors (layer ∷ layers) stand long =
    grind (arith, long_below least layer.length layers stand.2 long, top_within)

pub long_enough : (sectors : ℕ) (layers : List LayerSpec) → LayersAreAllowed sectors layers
    → AreLong 1 layers
long_enough sectors [] stand = tt
long_enough sectors (layer ∷ layers) stand = grind (arith, long_enough layer.length layers stand.2)

pub tested_ok : {A : Type 0} (t : Bool) (r : Result A Refusal) (y : A) (refusal : Refusal)
    → cond t r (Err refusal) ≡ Ok y → (t ≡ true) × (r ≡ Ok y)
tested_ok true r y refusal e = (refl, e)
tested_ok false r y refusal e = absurd (cc)

cond_ok : {A : Type 0} (t : Bool) (x y : A) (refusal : Refusal) → cond t (Ok x) (Err refusal) ≡ Ok y
    → (t ≡ true) × (x ≡ y)
cond_ok true x y refusal e = (refl, cc)
cond_ok false x y refusal e = absurd (cc)

pub tested_err : {A : Type 0} (t : Bool) (r : Result A Refusal) (bad refusal : Refusal)
    → cond t r (Err bad) ≡ Err refusal
    → ((t ≡ false) × (bad ≡ refusal)) ⊎ ((t ≡ true) × (r ≡ Err refusal))
tested_err true r bad refusal e = inr (refl, e)
tested_err false r bad refusal e = inl (refl, cc)

pub cond_err : {A : Type 0} (t : Bool) (x : A) (bad refusal : Refusal)
    → cond t (Ok x) (Err bad) ≡ Err refusal → (t ≡ false) × (bad ≡ refusal)
cond_err true x bad refusal e = absurd (cc)
cond_err false x bad refusal e = (refl, cc)

abbrev pub under : ℕ → List LayerSpec → Disk
under sectors layers = record { sectors = sectors; layers = layers }

pub bare_is : (d : Disk) → d.layers ≡ [] → bare d.sectors ≡ d
bare_is d none = ap (under d.sectors) (sym none)

abbrev pub HeadHasRoom : SectorSize → Disk → Type 0
HeadHasRoom size disk = bytes_of size / 512 ≤ top_of disk

abbrev pub IsHead : Stage → Type 0
IsHead heads.Empty = Unit {0}
IsHead (heads.Data d) = IsDisk d × (d.layers ≡ [])
IsHead (heads.Whole d l size) = IsDisk d × IsDisk l × HeadHasRoom size l
IsHead (heads.Ended d l size picks) = IsDisk d × IsDisk l × HeadHasRoom size l

-- What a head line's own words guarantee about its meaning.
abbrev pub IsFineHead : HeadLine → Type 0
IsFineHead (head_lines.Data sectors) = Unit {0}
IsFineHead (head_lines.Log sectors size) = Unit {0}
IsFineHead (head_lines.Layer over asked) = IfOk asked IsLayerSpec

pub fine_head : (said : HeadLine) (verb : List ℕ) (left : Option (List ℕ))
    → Says verb left (head_fields said) → IsFineHead said
fine_head (head_lines.Layer over (Ok spec)) verb (Some words) says =
    asked_in_range (words_of words) spec says.1
fine_head (head_lines.Layer over (Ok spec)) verb None says = absurd says.1
fine_head said verb left says = tt

pub record HeadFits (least : ℕ) (disk : Disk) (spec : LayerSpec) : Type 0 where
  pub few : length disk.layers < 4
  pub within : layer_is_within spec (top_of disk) ≡ true
  pub long : least ≤ spec.length

-- The stage after one more head line; if `closed` is true, no layer may follow any more.
pub data Takes (closed : Bool) : Stage → HeadLine → Stage → Type 0 where
  data_size : (n : ℕ) → is_disk_size n ≡ true
      → Takes closed heads.Empty (head_lines.Data n) (heads.Data (bare n))
  log_size : (d : Disk) (n : ℕ) (size : SectorSize) → is_log_disk_size (bytes_of size) n ≡ true
      → Takes closed (heads.Data d) (head_lines.Log n size) (heads.Whole d (bare n) size)
  data_top : (d l : Disk) (size : SectorSize) (spec : LayerSpec) → closed ≡ false → l.layers ≡ []
      → HeadFits (least_sectors disks.Data size) d spec
      → Takes closed (heads.Whole d l size) (head_lines.Layer disks.Data (Ok spec))
      (heads.Whole (with_layer d spec) l size)
  log_top : (d l : Disk) (size : SectorSize) (spec : LayerSpec) → closed ≡ false
      → HeadFits (least_sectors disks.Log size) l spec
      → Takes closed (heads.Whole d l size) (head_lines.Layer disks.Log (Ok spec))
      (heads.Whole d (with_layer l spec) size)

data_taken : (d l : Disk) (size : SectorSize) (k : Stage) (asked : Result LayerSpec TableError)
    (layers : List LayerSpec) → l.layers ≡ layers → data_layer layers d l size asked ≡ Ok k
    → Takes false (heads.Whole d l size) (head_lines.Layer disks.Data asked) k
data_taken d l size k asked (layer ∷ layers) are e = absurd (cc)
data_taken d l size k asked [] none e = grind (arith, made_ok, false, data_top)

log_taken : (d l : Disk) (size : SectorSize) (k : Stage) (asked : Result LayerSpec TableError)
    → with_log d (layer_step (least_sectors disks.Log size) l asked) size ≡ Ok k
    → Takes false (heads.Whole d l size) (head_lines.Layer disks.Log asked) k
log_taken d l size k asked e = grind (arith, made_ok, false, log_top)

pub head_taken : (h k : Stage) (line : HeadLine) (closed : Bool) → head_step h closed line ≡ Ok k
    → Takes closed h line k
head_taken heads.Empty k (head_lines.Data n) closed e = grind (arith, cond_ok, data_size)
head_taken (heads.Data d) k (head_lines.Log n size) closed e = grind (arith, cond_ok, log_size)
head_taken (heads.Whole d l size) k (head_lines.Layer disks.Data asked) false e =
    grind (arith, data_taken)
head_taken (heads.Whole d l size) k (head_lines.Layer disks.Log asked) false e =
    log_taken d l size k asked e
head_taken h k line closed e = absurd (cc e)

pub head_kept : (closed : Bool) (h k : Stage) (line : HeadLine) → Takes closed h line k
    → IsFineHead line → IsHead h → IsHead k
head_kept closed h k line (data_size n fits) fine is = (bare_disk n fits, refl)
head_kept closed h k line (log_size d n size fits) fine is =
    grind (arith, and_parts, bare_disk, leb-true)
head_kept closed h k line (data_top d l size spec may none fits) fine is =
    (disk_push d spec is.0 fits.few fine fits.within, is.1, is.2)
head_kept closed h k line (log_top d l size spec may fits) fine is = (
  is.0,
  disk_push l spec is.1 fits.few fine fits.within,
  rw (top_push l.sectors l.layers spec) fits.long,
)

pub map_push : {A W : Type 0} (line : A → W) (first : List W) (xs : List A) (x : A)
    → first ++ map line (xs ++ x ∷ []) ≡ (first ++ map line xs) ++ line x ∷ []
map_push {W = W} line first xs x = grind (arith, map-append, append_assoc)

pub bodiless : {W : Type 0} (ls more : List W) (w : W) → more ≡ ls ++ w ∷ []
    → more ++ [] ≡ (ls ++ []) ++ w ∷ []
bodiless {W = W} ls more w e = grind (arith, append-nil)

-- `on_data` and `on_log` give the meaning of a layer's line, in one kind of script.
module _ {W : Type 0} (on_data on_log : LayerSpec → W) where
  abbrev pub layer_lines : Disk → Disk → List W
  layer_lines d l = map on_data d.layers ++ map on_log l.layers

  pub data_push : (d l : Disk) (spec : LayerSpec) → l.layers ≡ []
      → layer_lines (with_layer d spec) l ≡ layer_lines d l ++ on_data spec ∷ []
  data_push d l spec none = grind (arith, append-nil, map-append)

  pub log_push : (d l : Disk) (spec : LayerSpec)
      → layer_lines d (with_layer l spec) ≡ layer_lines d l ++ on_log spec ∷ []
  log_push d l spec = map_push on_log (map on_data d.layers) l.layers spec

  -- `at done` is the state of the reader after the lines of the layers `done`.
  some_again : {S : Type 0} (step : S → W → Result S Refusal) (line : LayerSpec → W)
      (least sectors : ℕ) (at : List LayerSpec → S)
      → ((done : List LayerSpec) (layer : LayerSpec)
      → layer_step least (under sectors done) (Ok layer)
      ≡ Ok (under sectors (done ++ layer ∷ []))
      → step (at done) (line layer) ≡ Ok (at (done ++ layer ∷ [])))
      → (done layers : List LayerSpec) → length done + length layers ≤ 4
      → LayersAreAllowed (top_sectors sectors done) layers → AreLong least layers
      → fold step (at done) (map line layers) ≡ Ok (at (done ++ layers))
  some_again step line least sectors at one done [] few stand long = grind (arith, append-nil)
  some_again step line least sectors at one done (layer ∷ layers) few stand long =
      grind (
        arith,
        some_again step line least sectors at one (done ++ layer ∷ []) layers,
        cond-true,
        lt-ltb,
        le-leb,
        bind_at,
        length-append,
        top_push,
        append_assoc,
      )

  pub layers_again : {S : Type 0} (step : S → W → Result S Refusal) (at : Disk → Disk → S)
      (size : SectorSize)
      → ((d top l : Disk) (layer : LayerSpec) → l.layers ≡ []
      → layer_step (least_sectors disks.Data size) d (Ok layer) ≡ Ok top
      → step (at d l) (on_data layer) ≡ Ok (at top l))
      → ((d l top : Disk) (layer : LayerSpec)
      → layer_step (least_sectors disks.Log size) l (Ok layer) ≡ Ok top
      → step (at d l) (on_log layer) ≡ Ok (at d top))
      → (d l : Disk) → IsDisk d → IsDisk l → HeadHasRoom size l
      → fold step (at (bare d.sectors) (bare l.sectors)) (layer_lines d l) ≡ Ok (at d l)
  layers_again step at size one other d l is_data is_log room =
      fold_append step (at (bare d.sectors) (bare l.sectors)) (at d (bare l.sectors))
      (map on_data d.layers) (map on_log l.layers)
      (some_again step on_data (least_sectors disks.Data size) d.sectors
      (λ (ls : List LayerSpec). at (under d.sectors ls) (bare l.sectors))
      (λ done layer taken. one (under d.sectors done) (under d.sectors (done ++ layer ∷ []))
      (bare l.sectors) layer refl taken) [] d.layers (omega (arith, is_data.few)) is_data.stand
      (long_enough d.sectors d.layers is_data.stand))
      ∙ some_again step on_log (least_sectors disks.Log size) l.sectors
      (λ (ls : List LayerSpec). at d (under l.sectors ls))
      (λ done layer taken. other d (under l.sectors done) (under l.sectors (done ++ layer ∷ []))
      layer taken) [] l.layers (omega (arith, is_log.few)) is_log.stand
      (long_below (bytes_of size / 512) l.sectors l.layers is_log.stand room)

  module _ {P : Type 0} (next : P → W → P) (after : P → List W → P)
      (nothing : (p : P) → after p [] ≡ p)
      (more : (p : P) (w : W) (ws : List W) → after p (w ∷ ws) ≡ after (next p w) ws) where
    pub after_both : (p : P) (ws vs : List W) → after p (ws ++ vs) ≡ after (after p ws) vs
    after_both p [] vs = grind arith
    after_both p (w ∷ ws) vs = grind (arith, after_both (next p w) ws vs)

    after_some : (line : LayerSpec → W) (at : List LayerSpec → P)
        → ((done : List LayerSpec) (layer : LayerSpec)
        → next (at done) (line layer) ≡ at (done ++ layer ∷ [])) →
        (done layers : List LayerSpec) → after (at done) (map line layers) ≡ at (done ++ layers)
    after_some line at one done [] = nothing (at done) ∙ ap at (sym (append-nil done))
    after_some line at one done (layer ∷ layers) =
        grind (arith, after_some line at one (done ++ layer ∷ []) layers, append_assoc)

    pub after_layers : (at : Disk → Disk → P)
        → ((d l : Disk) (layer : LayerSpec)
        → next (at d l) (on_data layer) ≡ at (with_layer d layer) l)
        → ((d l : Disk) (layer : LayerSpec)
        → next (at d l) (on_log layer) ≡ at d (with_layer l layer))
        → (d l : Disk) → after (at (bare d.sectors) (bare l.sectors)) (layer_lines d l) ≡ at d l
    after_layers at one other d l =
        after_both (at (bare d.sectors) (bare l.sectors)) (map on_data d.layers) (map on_log
        l.layers) ∙ rw (after_some on_data (λ (ls : List LayerSpec). at (under d.sectors ls)
        (bare l.sectors)) (λ done layer. one (under d.sectors done) (bare l.sectors) layer) []
        d.layers) (after_some on_log (λ (ls : List LayerSpec). at d (under l.sectors ls)) (λ
        done layer. other d (under l.sectors done) layer) [] l.layers)

pub sizes_again : (d l : Disk) (size : SectorSize) → IsDisk d → IsDisk l → HeadHasRoom size l
    → (is_disk_size d.sectors ≡ true) × (is_log_disk_size (bytes_of size) l.sectors ≡ true)
sizes_again d l size is_data is_log room = grind (arith, top_within, and_from, le-leb)

-- A head line may follow here; whether its layer fits is not considered.
abbrev pub HeadStands : Stage → HeadLine → Bool → Type 0
HeadStands heads.Empty (head_lines.Data n) closed = is_disk_size n ≡ true
HeadStands (heads.Data d) (head_lines.Log n size) closed =
    is_log_disk_size (bytes_of size) n ≡ true
HeadStands (heads.Whole d l size) (head_lines.Layer disks.Data asked) false =
    (length d.layers < 4) × (l.layers ≡ [])
HeadStands (heads.Whole d l size) (head_lines.Layer disks.Log asked) false = length l.layers < 4
HeadStands _ _ _ = ⊥

abbrev pub disk_over : DiskName → Disk → Disk → Disk
disk_over disks.Data d l = d
disk_over disks.Log d l = l

abbrev pub asked_refusal : (least : ℕ) → Disk → Result LayerSpec TableError → Option Refusal
asked_refusal least disk (Err error) = Some (table_refusal error)
asked_refusal least disk (Ok spec) =
    cond (layer_is_within spec (top_of disk)) (cond (nat_le least spec.length) None (Some BadLine))
    (Some OutOfRange)

-- A head line is refused because it may not follow here, or because it asks for no layer that fits.
pub data HeadRefused (closed : Bool) (refusal : Refusal) : Stage → HeadLine → Type 0 where
  misplaced : (h : Stage) (line : HeadLine) → (HeadStands h line closed → ⊥) → BadLine ≡ refusal
      → HeadRefused closed refusal h line
  no_layer : (d l : Disk) (size : SectorSize) (over : DiskName)
      (asked : Result LayerSpec TableError) → closed ≡ false
      → HeadStands (heads.Whole d l size) (head_lines.Layer over asked) false
      → asked_refusal (least_sectors over size) (disk_over over d l) asked ≡ Some refusal
      → HeadRefused closed refusal (heads.Whole d l size) (head_lines.Layer over asked)

asked_err : (least : ℕ) (disk : Disk) (asked : Result LayerSpec TableError) (refusal : Refusal)
    → asked_layer least disk asked ≡ Err refusal → asked_refusal least disk asked ≡ Some refusal
asked_err least disk (Err error) refusal e = cc
asked_err least disk (Ok spec) refusal e =
    by_tests (layer_is_within spec (top_of disk)) (nat_le least spec.length) e
  where
    by_tests : (within long : Bool)
        → cond within (cond long (Ok (with_layer disk spec)) (Err BadLine)) (Err OutOfRange)
        ≡ Err refusal
        → cond within (cond long None (Some BadLine)) (Some OutOfRange) ≡ Some refusal
    by_tests true true e = absurd (cc)
    by_tests true false e = cc
    by_tests false long e = cc

layer_err : (least : ℕ) (disk : Disk) (asked : Result LayerSpec TableError) (refusal : Refusal)
    → layer_step least disk asked ≡ Err refusal
    → ((4 ≤ length disk.layers) × (BadLine ≡ refusal))
    ⊎ ((length disk.layers < 4) × (asked_refusal least disk asked ≡ Some refusal))
layer_err least disk asked refusal e =
    ⊎_elim
    (λ (h : (nat_lt (length disk.layers) 4 ≡ false) × (BadLine ≡ refusal)).
    inl (ltb-false _ _ h.0, h.1))
    (λ (h : (nat_lt (length disk.layers) 4 ≡ true) × (asked_layer least disk asked ≡ Err refusal)).
    inr (ltb-true _ _ h.0, asked_err least disk asked refusal h.1))
    (tested_err (nat_lt (length disk.layers) 4) (asked_layer least disk asked) BadLine refusal e)

over_refused : (d l : Disk) (size : SectorSize) (over : DiskName)
    (asked : Result LayerSpec TableError) (refusal : Refusal)
    → (HeadStands (heads.Whole d l size) (head_lines.Layer over asked) false
    → length (disk_over over d l).layers < 4)
    → (length (disk_over over d l).layers < 4
    → HeadStands (heads.Whole d l size) (head_lines.Layer over asked) false)
    → layer_step (least_sectors over size) (disk_over over d l) asked ≡ Err refusal
    → HeadRefused false refusal (heads.Whole d l size) (head_lines.Layer over asked)
over_refused d l size over asked refusal stood stands e =
    ⊎_elim
    (λ (h : (4 ≤ length (disk_over over d l).layers) × (BadLine ≡ refusal)).
    misplaced (heads.Whole d l size) (head_lines.Layer over asked)
    (λ here. absurd (let few : length (disk_over over d l).layers < 4 = stood here in
    omega (arith, h.0))) h.1)
    (λ (h : (length (disk_over over d l).layers < 4)
    × (asked_refusal (least_sectors over size) (disk_over over d l) asked ≡ Some refusal)).
    no_layer d l size over asked refl (stands h.0) h.1)
    (layer_err (least_sectors over size) (disk_over over d l) asked refusal e)

data_refused : (d l : Disk) (size : SectorSize) (asked : Result LayerSpec TableError)
    (refusal : Refusal) (layers : List LayerSpec) → l.layers ≡ layers
    → data_layer layers d l size asked ≡ Err refusal
    → HeadRefused false refusal (heads.Whole d l size) (head_lines.Layer disks.Data asked)
data_refused d l size asked refusal (layer ∷ layers) are e =
    misplaced (heads.Whole d l size) (head_lines.Layer disks.Data asked)
    (λ stands. let both = sym are ∙ stands.1 in cc) (cc)
data_refused d l size asked refusal [] none e = grind (arith, over_refused, made_err)

pub head_refused : (h : Stage) (line : HeadLine) (closed : Bool) (refusal : Refusal)
    → head_step h closed line ≡ Err refusal → HeadRefused closed refusal h line
head_refused heads.Empty (head_lines.Data n) closed refusal e =
    let p = cond_err (is_disk_size n) (heads.Data (bare n)) BadLine refusal e in
    misplaced heads.Empty (head_lines.Data n) (λ stands. let both = sym stands ∙ p.0 in cc) p.1
head_refused (heads.Data d) (head_lines.Log n size) closed refusal e =
    let p =
    cond_err (is_log_disk_size (bytes_of size) n)
    (heads.Whole d (bare n) size) BadLine refusal e in
    misplaced (heads.Data d) (head_lines.Log n size)
    (λ stands. let both = sym stands ∙ p.0 in cc) p.1
head_refused (heads.Whole d l size) (head_lines.Layer disks.Data asked) false refusal e =
    grind (arith, data_refused)
head_refused (heads.Whole d l size) (head_lines.Layer disks.Log asked) false refusal e =
    grind (arith, over_refused, made_err)
head_refused h line closed refusal e = misplaced h line (λ stands. stands) (cc)
