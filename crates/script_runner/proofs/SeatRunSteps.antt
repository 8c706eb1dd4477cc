-- Proves the result of a run from the results of its seats, its recorder and its disks.
use Rattle.std.proofs.Common.{◌≡◌, ◌∙◌, ◌⊎◌, ⊎_elim, ℕ, zero, suc, ◌+◌, ◌*◌, ◌/◌, ◌<◌, ◌≤◌, List}
use Rattle.std.proofs.Common.{[], ◌∷◌, ◌++◌, length, map, take, slice_get, Option, Some, ap}
use Rattle.std.proofs.Common.{append-nil, append_assoc, arith, inl, inr, refl, subst, sym}
use Rattle.refusals.specs.declared.run_error.End.{End}
use Rattle.bio.specs.declared.outcome.Status.{Status}
use Rattle.bio.specs.declared.request.SectorSize.{SectorSize}
use Rattle.bio.specs.declared.request.SectorSize.TheVariants as sizes
use Rattle.bio.specs.Requests.{bytes_of}
use Rattle.blockdev.specs.View.{Origin, View}
use Rattle.dmlw_script.specs.Plans.{top_of, Disk}
use Rattle.dmlw_script.specs.RunPlans.{RunPlan}
use Rattle.layer_table.specs.declared.stack.Stack.{Stack}
use Rattle.layer_table.specs.Layers.{disk_of, stack_does, stack_shown, top_origin}
use Rattle.layer_table.specs.StackLaws.{part_of_disk}
use Rattle.lock_state.specs.Comparison.{Receipt}
use Rattle.lock_state.specs.History.{Part}
use Rattle.lock_state.specs.PlacedItems.{Ground, KeepsGround, ground_of}
use Rattle.log_format.specs.declared.entry.Entry.{Entry}
use Rattle.log_format.specs.LogLaws.{log_within}
use Rattle.log_format.specs.LogOf.{IsLogOf, log_sectors}
use Rattle.pending.specs.CoreState.{CoreState}
use Rattle.refusals.specs.declared.refusal.Refusal.{Refusal}
use Rattle.refusals.specs.declared.refusal.Refusal.TheVariants as refusals
use Rattle.refusals.specs.declared.run_error.RunError.{RunError}
use Rattle.refusals.specs.Errors.{memory_error, refused_by}
use Rattle.script_runner.specs.declared.recording.Lies.{Lies}
use Rattle.script_runner.specs.DiskRun.{IsStackOf, seen_on}
use Rattle.sector_disk.specs.declared.disk.SectorDisk.{SectorDisk}
use Rattle.sector_disk.specs.DiskView.{shown_of}
use Rattle.sector_disk.specs.CandidateLaws.{content_whole, disk_lawful}
use Rattle.bio.specs.Content.{AgreeBelow, Content, gather, sector_of}
use Rattle.bio.specs.ContentLaws.{length-gather, sector_of-gather}
use Rattle.script_runner.specs.declared.tally.Tally.{Tally}
use Rattle.script_runner.specs.inside.{AreNewPlayers, FitsRecorder, HavePlayed, IsUnplayed, PlayerView}
use Rattle.script_runner.specs.inside.{new_player}
use Rattle.script_runner.specs.SeatRuns.{FailsRun, HasRun, HaveRun, IsForeignClose, IsOpenRun}
use Rattle.script_runner.specs.SeatRuns.{IsUnaskedRun, IsUnclosed, RunsSeats, begins_of, busy, foreign}
use Rattle.script_runner.specs.SeatRuns.{joined, memory, thread, unasked}
use Rattle.script_runner.proofs.Seats.{take_next}
use Rattle.shared.specs.Close.{AreClosedParts, HasOpenRequest, IsClosed, LeavesLog}
use Rattle.shared.specs.declared.closing.Closed.{Closed}

module _ {A : Type 0} where
  get_push : (xs : List A) (y x : A) (k : ℕ) → slice_get (xs ++ y ∷ []) k ≡ Some x
      → (slice_get xs k ≡ Some x) ⊎ ((k ≡ length xs) × (y ≡ x))
  get_push [] y x zero e = inr (refl, cc)
  get_push [] y x (suc k) e = absurd (cc)
  get_push (z ∷ zs) y x zero e = inl e
  get_push (z ∷ zs) y x (suc k) e =
      ⊎_elim (λ was. inl was) (λ t. inr (ap suc t.0, t.1)) (get_push zs y x k e)

  length_push : (xs : List A) (x : A) → length (xs ++ x ∷ []) ≡ length xs + 1
  length_push [] x = refl
  length_push (y ∷ xs) x = let rest = length_push xs x in omega (arith, rest)

  pub long_push : (xs : List A) (x : A) → length (xs ++ x ∷ []) ≡ suc (length xs)
  long_push [] x = refl
  long_push (y ∷ xs) x = ap suc (long_push xs x)

  map_there : {B : Type 0} (f : A → B) (xs : List A) (k : ℕ) (x : A) → slice_get xs k ≡ Some x
      → slice_get (map f xs) k ≡ Some (f x)
  map_there f [] k x e = absurd (cc)
  map_there f (y ∷ xs) zero x e = grind (arith, let same : y ≡ x = cc in same)
  map_there f (y ∷ xs) (suc k) x e = map_there f xs k x e

  map_from : {B : Type 0} (f : A → B) (xs : List A) (k : ℕ) (y : B)
      → slice_get (map f xs) k ≡ Some y → (x : A) × (slice_get xs k ≡ Some x) × (f x ≡ y)
  map_from f [] k y e = absurd (cc)
  map_from f (x ∷ xs) zero y e = (x, refl, cc)
  map_from f (x ∷ xs) (suc k) y e = map_from f xs k y e

  pub map_push : {B : Type 0} (f : A → B) (xs : List A) (x : A)
      → map f (xs ++ x ∷ []) ≡ map f xs ++ f x ∷ []
  map_push f [] x = refl
  map_push f (y ∷ ys) x = grind (arith, map_push f ys x)

  map_long : {B : Type 0} (f : A → B) (xs : List A) → length (map f xs) ≡ length xs
  map_long f [] = refl
  map_long f (x ∷ xs) = ap suc (map_long f xs)

  pub map_next : {B : Type 0} (f : A → B) (xs : List A) (k next : ℕ) (x : A) (made : List B)
      → next ≡ suc k → slice_get xs k ≡ Some x
      → made ≡ map f (take k xs) → made ++ f x ∷ [] ≡ map f (take next xs)
  map_next f xs k next x made is there so =
      ap (λ ys. ys ++ f x ∷ []) so ∙ sym (map_push f (take k xs) x)
      ∙ sym (ap (map f) (ap (λ n. take n xs) is ∙ take_next xs k x there))

pub players_push : (many next : ℕ) (players : List PlayerView) (player : PlayerView) → next ≡ suc many
    → AreNewPlayers many players → player ≡ new_player many
    → AreNewPlayers next (players ++ player ∷ [])
players_push many next players player is new here = record {
  count =
      let count = new.count in
      let long = length_push players player in omega (arith, is, count, long);
  each = λ number one there.
      ⊎_elim (λ (was : slice_get players number ≡ Some one). new.each number one was)
      (λ (last : (number ≡ length players) × (player ≡ one)). sym last.1 ∙ here
      ∙ ap new_player (sym (last.0 ∙ new.count)))
      (get_push players player one number there);
}

pub joined_push : (lists : List (List Receipt)) (receipts : List Receipt)
    → joined (lists ++ receipts ∷ []) ≡ joined lists ++ receipts
joined_push [] receipts = append-nil receipts
joined_push (first ∷ lists) receipts =
    grind (arith, joined_push lists receipts, sym (append_assoc first (joined lists) receipts))

pub joined_next : (players : List PlayerView) (player : PlayerView) (made : List Receipt)
    → made ≡ joined (map (λ (p : PlayerView). p.receipts) players)
    → made ++ player.receipts ≡ joined (map (λ (p : PlayerView). p.receipts) (players ++ player ∷ []))
joined_next players player made so = grind (arith, joined_push, map, map_push)

pub mapped_next : {B : Type 0} (of : PlayerView → B) (players : List PlayerView) (player : PlayerView)
    (made next : List B) (value : B) → next ≡ made ++ value ∷ []
    → made ≡ map of players → value ≡ of player → next ≡ map of (players ++ player ∷ [])
mapped_next {B} of players player made next value pushed so has =
    grind (arith, pushed, so, has, sym (map_push of players player))

pub seats_long : (players : List PlayerView) (seats : List Part) (many : ℕ) → length players ≡ many
    → seats ≡ map (λ (p : PlayerView). p.part) players → length seats ≡ many
seats_long players seats many count is =
    ap length is ∙ map_long (λ (p : PlayerView). p.part) players ∙ count

pub top_size : (disk : Disk) (stack : Stack) → IsStackOf disk stack
    → (stack_shown stack).size ≡ top_of disk
top_size disk stack is = grind (arith, is.over.size, is.blank.size)

stack_origin : (disk : Disk) (stack : Stack) → IsStackOf disk stack
    → (stack_shown stack).origin ≡ record { sector = top_origin 0 disk.layers; disk = disk.sectors }
stack_origin disk stack is =
    grind (arith, is.over.origin, is.blank.size)

one_fits : (size : SectorSize) (sectors : ℕ) → bytes_of size / 512 ≤ sectors
    → 0 < log_sectors (bytes_of size) sectors
one_fits sizes.B512 sectors room = omega (arith, room)
one_fits sizes.B4096 sectors room = omega (arith, room)

-- If the content of the log's device has a log, the image of its disk has it too.
image_log : (size : SectorSize) (disk : Disk) (device : Stack) (seen : Content) (image : List ℕ)
    → bytes_of size / 512 ≤ top_of disk
    → (stack_shown device).size ≡ top_of disk
    → (stack_shown device).origin ≡ record { sector = top_origin 0 disk.layers; disk = disk.sectors }
    → AgreeBelow disk.sectors (shown_of (disk_of device)).content (sector_of image)
    → ((sector : ℕ) → seen sector
    ≡ (shown_of (disk_of device)).content ((stack_shown device).origin.sector + sector))
    → (es : List Entry) → IsLogOf (stack_shown device).size seen (bytes_of size) es
    → IsLogOf (top_of disk) (seen_on disk image) (bytes_of size) es
image_log size disk device seen image room top place agree looks es log =
    let part = part_of_disk device in
    let within = part.within in
    let content = (shown_of (disk_of device)).content in
    let sector_is : (stack_shown device).origin.sector ≡ top_origin 0 disk.layers =
    grind (arith, place) in
    let sectors : (shown_of (disk_of device)).size ≡ disk.sectors =
    grind (arith, sym part.disk, place) in
    let some : 0 < log_sectors (bytes_of size) (stack_shown device).size =
    one_fits size (stack_shown device).size (omega (arith, room, top)) in
    subst (λ (n : ℕ). IsLogOf n (seen_on disk image) (bytes_of size) es) top
    (log_within (stack_shown device).size seen (seen_on disk image) (bytes_of size) es some
    (λ sector h. agree (top_origin 0 disk.layers + sector) (omega arith)
    ∙ ap (λ (n : ℕ). content (n + sector)) (sym sector_is) ∙ sym (looks sector)) log)

image_long : (disk : SectorDisk) (image : List ℕ) (sectors : ℕ)
    → image ≡ gather (shown_of disk).content 0 (shown_of disk).size → (shown_of disk).size ≡ sectors
    → length image ≡ 512 * sectors
image_long disk image sectors is size =
    ap (λ (bytes : List ℕ). length bytes) is
    ∙ length-gather (shown_of disk).size (shown_of disk).content 0 (shown_of disk).size
    (content_whole disk) (omega arith) ∙ ap (λ (n : ℕ). 512 * n) size

image_agrees : (disk : SectorDisk) (image : List ℕ) (sectors : ℕ)
    → image ≡ gather (shown_of disk).content 0 (shown_of disk).size → (shown_of disk).size ≡ sectors
    → AgreeBelow sectors (shown_of disk).content (sector_of image)
image_agrees disk image sectors is size sector below =
    ap (λ (bytes : List ℕ). sector_of bytes sector) is
    ∙ sector_of-gather (shown_of disk).size (shown_of disk).content (content_whole disk) sector
    (omega (arith, size, below))

-- `log` is the log's stack before its log is made, and `device` is this stack after the close.
pub record IsLogStack (plan : RunPlan) (log device : Stack) (image : List ℕ) : Type 0 where
  pub room : bytes_of plan.log_size / 512 ≤ top_of plan.log_disk
  pub blank : IsStackOf plan.log_disk log
  pub stands : KeepsGround (ground_of (stack_shown log)) (stack_shown device)
  pub bytes : image ≡ gather (shown_of (disk_of device)).content 0 (shown_of (disk_of device)).size

disk_size : (plan : RunPlan) (log device : Stack) (image : List ℕ)
    → IsLogStack plan log device image → (shown_of (disk_of device)).size ≡ plan.log_disk.sectors
disk_size plan log device image is =
    sym (part_of_disk device).disk
    ∙ ap (λ (p : Origin). p.disk) (is.stands.origin ∙ stack_origin plan.log_disk log is.blank)

leaves_image : (plan : RunPlan) (log device : Stack) (image : List ℕ) (few : ℕ) (core : CoreState)
    (end : Option End) → IsLogStack plan log device image
    → ((left : Content) → (stack_shown device).crash left
    → LeavesLog (bytes_of plan.log_size) (stack_shown device).size few core end left)
    → LeavesLog (bytes_of plan.log_size) (top_of plan.log_disk) few core end
    (seen_on plan.log_disk image)
leaves_image plan log device image few core end is leaves =
    let disk = disk_of device in
    let seen = (part_of_disk device).crash (shown_of disk).content (disk_lawful disk).current in
    let left = leaves seen.0 seen.1 in record {
      count = left.count;
      least = left.least;
      log =
          image_log plan.log_size plan.log_disk device seen.0 image is.room
          (is.stands.size ∙ top_size plan.log_disk log is.blank)
          (is.stands.origin ∙ stack_origin plan.log_disk log is.blank)
          (image_agrees disk image plan.log_disk.sectors is.bytes
          (disk_size plan log device image is)) seen.2 _ left.log;
      whole = left.whole;
    }

each_ran : (plan : RunPlan) (players : List PlayerView) (seats : List Part) (tallies : List Tally)
    → HavePlayed plan.calls plan.seats players
    → seats ≡ map (λ (p : PlayerView). p.part) players → tallies ≡ map (λ (p : PlayerView). p.tally) players
    → (number : ℕ) (seat : Part) → slice_get seats number ≡ Some seat
    → HasRun plan.calls tallies (map (λ (p : PlayerView). p.receipts) players) number seat
each_ran plan players seats tallies played parts told number seat there =
    let found =
    map_from (λ (p : PlayerView). p.part) players number seat
    (sym (grind (arith, parts)) ∙ there) in
    let player = found.0 in record {
      tally = player.tally;
      counted =
          grind (arith, told, map_there (λ (p : PlayerView). p.tally) players number player found.1);
      receipts = player.receipts;
      kept = map_there (λ (p : PlayerView). p.receipts) players number player found.1;
      ran =
          rw found.2 at (played.each number player found.1);
    }

-- What `run_on` gives a recorder of `plan`, whose log is made on the stack `log`.
pub record SuitsRun (begins : ℕ → Type 0) (ground : Ground) (bytes sectors many : ℕ)
    (plan : RunPlan) (log : Stack) : Type 0 where
  pub fits : FitsRecorder bytes sectors plan
  pub begun : (reading : ℕ) → begins reading → begins_of bytes log reading
  pub on : ground ≡ ground_of (stack_shown log)
  pub seats : plan.seats ≡ many
  pub blank : IsStackOf plan.log_disk log

-- The parts of a closed recorder, where the log began at a reading that may be any of `others`.
parts_begun : (begins others : ℕ → Type 0) (ground : Ground) (bytes sectors : ℕ)
    (device_view log_view : View) (receipts : List Receipt) (closed : Closed Stack Stack)
    → ((reading : ℕ) → begins reading → others reading)
    → AreClosedParts stack_does begins ground bytes sectors device_view log_view receipts closed
    → AreClosedParts stack_does others ground bytes sectors device_view log_view receipts closed
parts_begun begins others ground bytes sectors device_view log_view receipts closed more parts =
    record {
      shut = parts.shut;
      legal = parts.legal;
      sector_size = parts.sector_size;
      taken = parts.taken;
      hazard = parts.hazard;
      status = parts.status;
      keeps_ground = parts.keeps_ground;
      end = parts.end;
      stop = parts.stop;
      stop_cause = parts.stop_cause;
      causes = parts.causes;
      device_size = parts.device_size;
      holds = parts.holds;
      crash = parts.crash;
      any_moment = λ lies.
          let since = parts.any_moment lies in record {
            reading = since.reading;
            one = more since.reading since.one;
            past = since.past;
            leaves = since.leaves;
          };
      told = parts.told;
    }

-- The close of a recorder of `plan`, in the terms of the plan.
closes_run : (begins : ℕ → Type 0) (ground : Ground) (bytes sectors many : ℕ) (plan : RunPlan)
    (log : Stack) (device_view log_view : View) (seats : List Part)
    (receipts all : List Receipt) (closed : Closed Stack Stack)
    → SuitsRun begins ground bytes sectors many plan log → receipts ≡ all
    → IsClosed stack_does begins ground bytes sectors many device_view log_view seats receipts closed
    → IsClosed stack_does (begins_of (bytes_of plan.log_size) log) (ground_of (stack_shown log))
    (bytes_of plan.log_size) (top_of plan.data_disk) plan.seats device_view log_view seats all closed
closes_run begins ground bytes sectors many plan log device_view log_view seats receipts all closed
    suits kept close =
    subst (λ (x : (ℕ × ℕ) × ((ℕ × Ground) × List Receipt)). IsClosed stack_does (begins_of x.0.0 log)
    x.1.0.1 x.0.0 x.0.1 x.1.0.0 device_view log_view seats x.1.1 closed)
    (λ i. (
      (sym suits.fits.log_size i, sym suits.fits.data_size i),
      ((sym suits.seats i, suits.on i), kept i),
    ))
    (record {
      parts = parts_begun _ _ _ _ _ _ _ _ _ suits.begun close.parts;
      legal = close.legal;
      counts = close.counts;
      agrees = close.agrees;
      receives = close.receives;
      log = close.log;
      crash = close.crash;
      any_moment = λ lies.
          let since = close.any_moment lies in record {
            begun = since.begun;
            one = suits.begun since.begun since.one;
            past = since.past;
            leaves = since.leaves;
          };
      told = close.told;
    })

-- The same of a close that is refused as `Foreign`.
foreign_close : (begins : ℕ → Type 0) (ground : Ground) (bytes sectors many : ℕ) (plan : RunPlan)
    (log : Stack) (seats : List Part) (receipts all : List Receipt)
    → SuitsRun begins ground bytes sectors many plan log → receipts ≡ all
    → IsForeignClose begins ground bytes sectors many seats receipts
    → IsForeignClose (begins_of (bytes_of plan.log_size) log) (ground_of (stack_shown log))
    (bytes_of plan.log_size) (top_of plan.data_disk) plan.seats seats all
foreign_close begins ground bytes sectors many plan log seats receipts all suits kept is =
    subst (λ (x : (ℕ × ℕ) × ((ℕ × Ground) × List Receipt)). IsForeignClose (begins_of x.0.0 log)
    x.1.0.1 x.0.0 x.0.1 x.1.0.0 seats x.1.1)
    (λ i. (
      (sym suits.fits.log_size i, sym suits.fits.data_size i),
      ((sym suits.seats i, suits.on i), kept i),
    ))
    (record {
      closed = is.closed;
      mismatch = record {
        parts = parts_begun _ _ _ _ _ _ _ _ _ suits.begun is.mismatch.parts;
        counts = is.mismatch.counts;
        differs = is.mismatch.differs;
      };
    })

pub is_run : (begins : ℕ → Type 0) (ground : Ground) (bytes sectors many : ℕ) (plan : RunPlan)
    (log : Stack) (players : List PlayerView) (seats : List Part) (tallies : List Tally)
    (receipts : List Receipt) (closed : Closed Stack Stack) (status : Status) (lies : Lies)
    (image : List ℕ)
    → SuitsRun begins ground bytes sectors many plan log → 0 < plan.seats
    → bytes_of plan.log_size / 512 ≤ top_of plan.log_disk
    → HavePlayed plan.calls plan.seats players
    → seats ≡ map (λ (p : PlayerView). p.part) players → tallies ≡ map (λ (p : PlayerView). p.tally) players
    → receipts ≡ joined (map (λ (p : PlayerView). p.receipts) players)
    → IsClosed stack_does begins ground bytes sectors many (stack_shown closed.device)
    (stack_shown closed.log) seats receipts closed
    → status ≡ closed.status
    → lies ≡ record {
      data_disk = (stack_shown closed.device).lies;
      log_disk = (stack_shown closed.log).lies;
    }
    → image ≡ gather (shown_of (disk_of closed.log)).content 0 (shown_of (disk_of closed.log)).size
    → RunsSeats plan tallies status lies image
is_run begins ground bytes sectors many plan log players seats tallies receipts closed status lies
    image suits some room played parts told kept close so lied left =
    let here =
    closes_run begins ground bytes sectors many plan log (stack_shown closed.device)
    (stack_shown closed.log) seats receipts (joined (map (λ (p : PlayerView). p.receipts) players))
    closed suits kept close in
    let is : IsLogStack plan log closed.log image =
    record { room = room; blank = suits.blank; stands = here.parts.keeps_ground; bytes = left } in
    let none : lies.log_disk ≡ (stack_shown closed.log).lies = grind (arith, lied) in
    record {
      seats = seats;
      count = seats_long players seats plan.seats played.count parts;
      tallied =
          ap length told ∙ map_long (λ (p : PlayerView). p.tally) players
          ∙ played.count;
      some = some;
      given = map (λ (p : PlayerView). p.receipts) players;
      ran = each_ran plan players seats tallies played parts told;
      log = log;
      blank = suits.blank;
      closed = closed;
      close = here;
      told = so;
      lied = lied;
      honest = λ never.
          grind arith;
      bytes = left;
      size =
          image_long (disk_of closed.log) image plan.log_disk.sectors left
          (disk_size plan log closed.log image is);
      logged =
          λ zero. leaves_image plan log closed.log image closed.settled closed.core.state closed.end
          is (here.crash (sym none ∙ zero));
    }

have_run : (plan : RunPlan) (players : List PlayerView) (seats : List Part) (tallies : List Tally)
    → HavePlayed plan.calls plan.seats players → seats ≡ map (λ (p : PlayerView). p.part) players
    → tallies ≡ map (λ (p : PlayerView). p.tally) players
    → HaveRun plan seats (map (λ (p : PlayerView). p.receipts) players)
have_run plan players seats tallies played parts told = record {
  count = seats_long players seats plan.seats played.count parts;
  tallies = tallies;
  ran = each_ran plan players seats tallies played parts told;
}

open_run : (bytes sectors : ℕ) (plan : RunPlan) (players : List PlayerView)
    → FitsRecorder bytes sectors plan → HavePlayed plan.calls plan.seats players
    → HasOpenRequest bytes sectors → IsOpenRun plan
open_run bytes sectors plan players fits played found = record {
  seats = map (λ (p : PlayerView). p.part) players;
  given = map (λ (p : PlayerView). p.receipts) players;
  made = have_run plan players _ (map (λ (p : PlayerView). p.tally) players) played refl refl;
  found =
      subst (λ (x : ℕ × ℕ). HasOpenRequest x.0 x.1)
      (λ i. (sym fits.log_size i, sym fits.data_size i)) found;
}

unasked_run : (plan : RunPlan) (players : List PlayerView) → HavePlayed plan.calls plan.seats players
    → IsUnaskedRun plan
unasked_run plan players played = record {
  seats = map (λ (p : PlayerView). p.part) players;
  given = map (λ (p : PlayerView). p.receipts) players;
  made = have_run plan players _ (map (λ (p : PlayerView). p.tally) players) played refl refl;
}

pub fails_unplayed : (bytes sectors : ℕ) (plan : RunPlan) (refusal : Refusal) (fault : RunError)
    → FitsRecorder bytes sectors plan
    → IsUnplayed bytes sectors plan.calls plan.seats refusal → fault ≡ refused_by refusal
    → FailsRun plan fault
fails_unplayed bytes sectors plan refusal fault fits why same =
    subst (FailsRun plan) (sym same) (⊎_elim
    (λ (is : refusal ≡ refusals.Memory). subst (λ (r : Refusal). FailsRun plan (refused_by r))
    (sym is) memory)
    (λ other. ⊎_elim
    (λ (is : refusal ≡ refusals.NoThread). subst (λ (r : Refusal). FailsRun plan (refused_by r))
    (sym is) thread)
    (λ held. subst (λ (r : Refusal). FailsRun plan (refused_by r)) (sym held.0)
    (busy (open_run bytes sectors plan held.1.0.0 fits held.1.0.1 held.1.1)))
    other)
    why)

pub fails_unclosed : (begins : ℕ → Type 0) (ground : Ground) (bytes sectors many : ℕ)
    (plan : RunPlan) (log : Stack) (players : List PlayerView) (seats : List Part)
    (tallies : List Tally) (receipts : List Receipt) (refusal : Refusal) (fault : RunError)
    → SuitsRun begins ground bytes sectors many plan log
    → HavePlayed plan.calls plan.seats players → seats ≡ map (λ (p : PlayerView). p.part) players
    → tallies ≡ map (λ (p : PlayerView). p.tally) players
    → receipts ≡ joined (map (λ (p : PlayerView). p.receipts) players)
    → IsUnclosed begins ground bytes sectors many seats receipts refusal
    → fault ≡ refused_by refusal → FailsRun plan fault
fails_unclosed begins ground bytes sectors many plan log players seats tallies receipts refusal
    fault suits played parts told kept why same =
    subst (FailsRun plan) (sym same) (⊎_elim
    (λ (is : refusal ≡ refusals.Busy). subst (λ (r : Refusal). FailsRun plan (refused_by r))
    (sym is) (unasked (unasked_run plan players played)))
    (λ (is : (refusal ≡ refusals.Foreign)
    × IsForeignClose begins ground bytes sectors many seats receipts). subst
    (λ (r : Refusal). FailsRun plan (refused_by r)) (sym is.0) (foreign (record {
      seats = seats;
      given = map (λ (p : PlayerView). p.receipts) players;
      made = have_run plan players seats tallies played parts told;
      log = log;
      blank = suits.blank;
      close = foreign_close begins ground bytes sectors many plan log seats receipts _ suits kept is.1;
    })))
    why)

pub fails_memory : (plan : RunPlan) (fault : RunError) → fault ≡ memory_error → FailsRun plan fault
fails_memory plan fault same = subst (FailsRun plan) (sym same) memory
