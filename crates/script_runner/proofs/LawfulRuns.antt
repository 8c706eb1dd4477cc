-- Proves that a run's events are lawful for a device with the size of the data disk's top.
use Rattle.std.proofs.Common.{arith, ◌∷◌, ◌++◌, Result, Ok, Err, ap, inl, inr, refl, subst, sym}
use Rattle.std.proofs.Common.{◌≡◌, ◌∙◌, ◌≤◌, ℕ, zero, suc, Bool, true, false, Option, Some, None}
use Rattle.std.proofs.Common.{List, []}
use Rattle.std.specs.Prelude.{◌==◌, ◌&&◌, IsTrue, if◌then◌else◌, is_ok, length, replicate, ◌*◌, ◌/◌}
use Rattle.std.specs.Prelude.{◌%◌, slice_get}
use Rattle.std.proofs.lemmas.Bool.{and_from}
use Rattle.std.proofs.lemmas.List.{length-replicate}
use Rattle.std.proofs.lemmas.List.Folds.{list_all-append}
use Rattle.std.proofs.Math.Nat.{mul-div_cancel, mul-mod_left, zero-mod}
use Rattle.std.specs.List.{list_all}
use Rattle.refusals.specs.declared.run_error.End.{End}
use Rattle.refusals.specs.declared.refusal.Refusal.TheVariants as refusals
use Rattle.bio.specs.declared.event.CoreEvent.{CoreEvent}
use Rattle.bio.specs.declared.event.CoreEvent.TheVariants as events
use Rattle.bio.specs.declared.request.BadBio.TheVariants.{NotWhole}
use Rattle.bio.specs.declared.request.Bio.{Bio}
use Rattle.bio.specs.declared.request.Bio.TheVariants as bios
use Rattle.bio.specs.PlaceLaws.{bool_cases, well_formed-lawful}
use Rattle.bio.specs.Events.{has_no_close, is_lawful, is_open_at, is_recording, is_text}
use Rattle.bio.specs.Events.{is_well_formed, is_within}
use Rattle.bio.specs.RequestLaws.{sized_passed, sized_passes}
use Rattle.bio.specs.Requests.{bytes_of, check_answer, check_sized_answer, range_answer}
use Rattle.bio.specs.Requests.{unless_unaligned}
use Rattle.blockdev.specs.declared.device.BlockDev.{Ghosts}
use Rattle.pending.specs.CoreState.{CoreState, added_to, records, stopped_by}
use Rattle.recorder.specs.Calls.{Closes, Completes, Drains, Marks, Stops, SubmitsRequest, Turns, core_of}
use Rattle.recorder.specs.declared.recorder.Recorder.{Recorder}
use Rattle.recorder.specs.declared.reply.Reply.{Reply}
use Rattle.recorder.specs.declared.reply.Reply.TheVariants as replies
use Rattle.recorder.specs.declared.reply.Turn.{Turn}
use Rattle.recorder.specs.declared.reply.Turn.TheVariants as turns
use Rattle.dmlw_script.specs.declared.command.Command.{Command}
use Rattle.dmlw_script.specs.declared.command.Command.TheVariants as commands
use Rattle.dmlw_script.specs.declared.command.Step.{Step}
use Rattle.dmlw_script.specs.declared.command.Step.TheVariants as steps
use Rattle.dmlw_script.specs.declared.command.Submission.{Submission}
use Rattle.dmlw_script.specs.declared.command.Submission.TheVariants as submits
use Rattle.dmlw_script.specs.declared.command.DiskName.TheVariants as disks
use Rattle.dmlw_script.specs.declared.script_id.ScriptId.{ScriptId}
use Rattle.dmlw_script.specs.Plans.{IsPlan, IsWellFormed, ScriptValue, name_at, range_test}
use Rattle.dmlw_script.specs.Plans.{submission_answer, top_of}
use Rattle.script_runner.specs.declared.request.Request.{Request}
use Rattle.script_runner.specs.declared.request.Request.TheVariants as requests
use Rattle.script_runner.specs.declared.running.Running.{Running}
use Rattle.script_runner.specs.DiskRun.{stack_answering, DiskRun, Starts}
use Rattle.script_runner.specs.Lines.{Answering, BecomesRequest, EndsRequest, RecordsEnd, TakesStep, reply_of}
use Rattle.script_runner.specs.Runs.{RunsLines}
use Rattle.script_runner.specs.Submissions.{bio_of, fits_device}

pub bio_suits : (bytes sectors : ℕ) (submission : Submission)
    → submission_answer bytes sectors submission ≡ Ok tt
    → check_sized_answer bytes (bio_of submission) sectors ≡ Ok tt
bio_suits bytes sectors (submits.Write first count byte options) passes =
    whole (length (replicate (count * 512) byte)) (length-replicate (count * 512) byte) ∙ passes
  where
    whole : (n : ℕ) → n ≡ count * 512
        → unless_unaligned (first % (bytes / 512) == 0 && n / 512 % (bytes / 512) == 0)
        (if n % 512 == 0 then range_answer first (n / 512) sectors else Err NotWhole)
        ≡ unless_unaligned (first % (bytes / 512) == 0 && count % (bytes / 512) == 0)
        (range_answer first count sectors)
    whole n is =
        rw is (rw (mul-mod_left count 512, mul-div_cancel count {n = 512} (omega arith)) refl)
bio_suits bytes sectors submits.Flush passes =
    sized_passes bytes bios.Flush sectors refl (flush_aligned (bytes / 512))
  where
    flush_aligned : (per : ℕ) → (0 % per == 0 && 0 % per == 0) ≡ true
    flush_aligned per = rw (zero-mod per) refl
bio_suits bytes sectors (submits.Discard first count) passes = passes

pub bio_passes : (bytes sectors : ℕ) (submission : Submission)
    → submission_answer bytes sectors submission ≡ Ok tt
    → is_ok (check_answer (bio_of submission) sectors) ≡ true
bio_passes bytes sectors submission passes =
    ap is_ok (sized_passed bytes (bio_of submission) sectors
    (bio_suits bytes sectors submission passes)).0

range_larger : (bytes first count few many : ℕ) → few ≤ many
    → range_test bytes few first count ≡ Ok tt → range_test bytes many first count ≡ Ok tt
range_larger bytes first count few many more passes =
    grind (arith, sized_passed bytes (bios.Read first count) few passes, sized_passes)

pub fits_larger : (bytes : ℕ) (submission : Submission) (few many : ℕ) → few ≤ many
    → submission_answer bytes few submission ≡ Ok tt
    → submission_answer bytes many submission ≡ Ok tt
fits_larger bytes (submits.Write first count byte options) few many more passes =
    range_larger bytes first count few many more passes
fits_larger bytes submits.Flush few many more passes = refl
fits_larger bytes (submits.Discard first count) few many more passes =
    range_larger bytes first count few many more passes

request_fits : {L : Type 0} {l : Ghosts L} (bytes sectors : ℕ) (submission : Submission)
    (request : Request) (old new : Recorder L l)
    → submission_answer bytes sectors submission ≡ Ok tt → BecomesRequest (bio_of submission) request old new
    → fits_device sectors request ≡ true
request_fits bytes sectors submission (requests.Asked bio id) old new passes asks =
    grind (arith, asks.0, bio_passes bytes sectors submission passes)
request_fits bytes sectors submission requests.NotAsked old new passes asks = refl

pub pushed_fit : {L : Type 0} {l : Ghosts L} (bytes sectors : ℕ) (submission : Submission)
    (request : Request) (old new : Recorder L l) (before after : List Request) (room : Bool)
    → submission_answer bytes sectors submission ≡ Ok tt → BecomesRequest (bio_of submission) request old new
    → after ≡ (if room then before ++ request ∷ [] else before)
    → IsTrue (list_all (fits_device sectors) before) → IsTrue (list_all (fits_device sectors) after)
pushed_fit bytes sectors submission request old new before after false passes asks is fit =
    rw is fit
pushed_fit {L} {l} bytes sectors submission request old new before after true passes asks is fit =
    grind (arith, list_all-append, and_from, request_fits)

pub has_some : (some : Bool) → (some ≡ false → false ≡ true) → some ≡ true
has_some true refused = refl
has_some false refused = refused refl

-- Each request among the events passes the check of a device of `sectors` sectors.
abbrev AreWithin : ℕ → List CoreEvent → Type 0
AreWithin sectors events = (place : ℕ) → is_within sectors (slice_get events place) ≡ true

within_snoc : (sectors : ℕ) (es : List CoreEvent) (e : CoreEvent) → AreWithin sectors es
    → is_within sectors (Some e) ≡ true → AreWithin sectors (es ++ e ∷ [])
within_snoc sectors [] e within here zero = here
within_snoc sectors [] e within here (suc place) = refl
within_snoc sectors (first ∷ es) e within here zero = within zero
within_snoc sectors (first ∷ es) e within here (suc place) =
    within_snoc sectors es e (λ p. within (suc p)) here place

grown_within : (sectors : ℕ) (core grown : CoreState) (e : CoreEvent) → grown ≡ added_to core e
    → is_within sectors (Some e) ≡ true
    → AreWithin sectors core.events → AreWithin sectors grown.events
grown_within sectors core grown e is here within =
    rw is (within_snoc sectors core.events e within here)

same_within : (sectors : ℕ) (core same : CoreState) → same ≡ core → AreWithin sectors core.events
    → AreWithin sectors same.events
same_within sectors core same is within =
    rw is within

stopped_within : (sectors : ℕ) (core : CoreState) (cause : End) → AreWithin sectors core.events
    → AreWithin sectors (stopped_by core cause).events
stopped_within sectors core cause within = by_case (is_recording core.events)
  where
    by_case : (going : Bool)
        → AreWithin sectors (if going then core.events ++ events.Stop cause ∷ [] else core.events)
    by_case true = within_snoc sectors core.events (events.Stop cause) within refl
    by_case false = within

stops_within : {L : Type 0} {l : Ghosts L} (sectors : ℕ) (cause : End) (old new : Recorder L l)
    → Stops cause old new
    → AreWithin sectors (core_of old).events → AreWithin sectors (core_of new).events
stops_within sectors cause old new stops within =
    rw stops.events (stopped_within sectors (core_of old) cause within)

submitted_within : {L : Type 0} {l : Ghosts L} (sectors : ℕ) (bio : Bio) (reply : Reply)
    (old new : Recorder L l) → SubmitsRequest bio reply old new
    → is_ok (check_answer bio sectors) ≡ true → AreWithin sectors (core_of old).events
    → AreWithin sectors (core_of new).events
submitted_within {L} {l} sectors bio reply old new submits passes within =
    elim (bool_cases (records (core_of old) bio)) [
      | inl recorded ↦ elim (submits.recorded recorded) [
        | inl tracked ↦
            grind (arith, grown_within)
        | inr refused ↦ stops_within {l = l} sectors _ old new refused.1 within
      ]
      | inr other ↦
          same_within sectors (core_of old) (core_of new) (submits.passed other).1.core within
    ]

completed_within : {L : Type 0} {l : Ghosts L} (sectors id : ℕ) (ok : Bool) (reply : Reply)
    (old new : Recorder L l) → Completes id ok reply old new
    → AreWithin sectors (core_of old).events → AreWithin sectors (core_of new).events
completed_within sectors id ok reply old new completes within =
    elim (bool_cases (is_open_at (core_of old).events id)) [
      | inl opened ↦
          grind (arith, grown_within)
      | inr other ↦
          same_within sectors (core_of old) (core_of new) (completes.unknown other).1 within
    ]

marked_within : {L : Type 0} {l : Ghosts L} (sectors : ℕ) (text : List ℕ) (reply : Reply)
    (old new : Recorder L l) → Marks text reply old new
    → AreWithin sectors (core_of old).events → AreWithin sectors (core_of new).events
marked_within sectors text reply old new marks within = elim (bool_cases (is_text text)) [
  | inl heard ↦ elim (bool_cases (is_recording (core_of old).events)) [
    | inl going ↦ elim (marks.recorded heard going) [
      | inl queued ↦
          grown_within sectors (core_of old) (core_of new) (events.Mark text) queued.1 refl within
      | inr refused ↦ same_within sectors (core_of old) (core_of new) refused.1 within
    ]
    | inr over ↦ same_within sectors (core_of old) (core_of new) (marks.passed heard over).1 within
  ]
  | inr bad ↦ same_within sectors (core_of old) (core_of new) (marks.unheard bad) within
]

closed_within : {L : Type 0} {l : Ghosts L} (sectors : ℕ) (reply : Reply) (old new : Recorder L l)
    → Closes reply old new
    → AreWithin sectors (core_of old).events → AreWithin sectors (core_of new).events
closed_within sectors reply old new closes within = elim closes.answer [
  | inl done ↦
      rw done.1 (by_case (has_no_close (core_of old).events))
  | inr other ↦ elim other [
    | inl busy ↦ same_within sectors (core_of old) (core_of new) busy.1 within
    | inr memory ↦ same_within sectors (core_of old) (core_of new) memory.1 within
  ]
]
  where
    by_case : (going : Bool)
        → AreWithin sectors (if going then added_to (core_of old) events.Close else
        (core_of old)).events
    by_case true = within_snoc sectors (core_of old).events events.Close within refl
    by_case false = within

turned_within : {L : Type 0} {l : Ghosts L} (sectors : ℕ) (turn : Turn) (old new : Recorder L l)
    → Turns turn old new
    → AreWithin sectors (core_of old).events → AreWithin sectors (core_of new).events
turned_within {L} {l} sectors turn old new turned within = by_end old.end refl
  where
    going : (core_of new).events ≡ (core_of old).events → AreWithin sectors (core_of new).events
    going same = rw same within

    by_turn : (turn : Turn) → old.end ≡ None → Turns turn old new
        → AreWithin sectors (core_of new).events
    by_turn turns.Nothing on did =
        same_within sectors (core_of old) (core_of new) (did.logging on).1.core within
    by_turn (turns.Placed index) on did = going (did.logging on).0.events
    by_turn (turns.Settled index) on did = going (did.logging on).0.events
    by_turn (turns.Ended cause) on did =
        stops_within {l = l} sectors cause old new (did.logging on).stops within

    by_end : (end : Option End) → old.end ≡ end → AreWithin sectors (core_of new).events
    by_end None is = by_turn turn is turned
    by_end (Some cause) is =
        same_within sectors (core_of old) (core_of new) (turned.ended cause is).1.core within

drained_within : {L : Type 0} {l : Ghosts L} (sectors : ℕ) (answer : Result Unit End)
    (old new : Recorder L l) → Drains answer old new
    → AreWithin sectors (core_of old).events → AreWithin sectors (core_of new).events
drained_within {L} {l} sectors answer old new drains within = by_end old.end refl
  where
    by_answer : (answer : Result Unit End) → old.end ≡ None → Drains answer old new
        → AreWithin sectors (core_of new).events
    by_answer (Ok done) on drained =
        rw ((drained.logging on).0.events) within
    by_answer (Err cause) on drained =
        stops_within {l = l} sectors cause old new (drained.logging on) within

    by_end : (end : Option End) → old.end ≡ end → AreWithin sectors (core_of new).events
    by_end None is = by_answer answer is drains
    by_end (Some cause) is =
        same_within sectors (core_of old) (core_of new) (drains.ended cause is).1.core within

asked_within : {L : Type 0} {l : Ghosts L} (sectors : ℕ) (bio : Bio) (request : Request)
    (old new : Recorder L l) → BecomesRequest bio request old new
    → is_ok (check_answer bio sectors) ≡ true → AreWithin sectors (core_of old).events
    → AreWithin sectors (core_of new).events
asked_within {L} {l} sectors bio (requests.Asked kept id) old new asks passes within =
    submitted_within {l = l} sectors bio (reply_of id) old new asks.1 passes within
asked_within {L} {l} sectors bio requests.NotAsked old new asks passes within = elim asks [
  | inl unasked ↦
      rw unasked.1 within
  | inr refused ↦
      submitted_within {l = l} sectors bio
      (replies.Refused refusals.Memory) old new refused passes within
]

heard_within : {L : Type 0} {l : Ghosts L} (sectors : ℕ) (id : Option ℕ) (ok : Bool)
    (old new : Recorder L l) → RecordsEnd id ok old new
    → AreWithin sectors (core_of old).events → AreWithin sectors (core_of new).events
heard_within {L} {l} sectors (Some id) ok old new hears within =
    completed_within {l = l} sectors id ok hears.0 old new hears.1 within
heard_within {L} {l} sectors None ok old new hears within =
    rw hears within

ended_within : {D L : Type 0} {d : Ghosts D} {l : Ghosts L} (sectors : ℕ) (found : Option Request)
    (name : ScriptId) (text : List ℕ) (old new : Running D L d l)
    → EndsRequest found name text old new → AreWithin sectors (core_of old.recorder).events
    → AreWithin sectors (core_of new.recorder).events
ended_within {D} {L} {d} {l} sectors None name text old new does within = absurd does
ended_within {D} {L} {d} {l} sectors (Some requests.NotAsked) name text old new does within =
    rw does.1 within
ended_within {D} {L} {d} {l} sectors (Some (requests.Asked bio id)) name text old new does within =
    heard_within {l = l} sectors id (is_ok does.answer) old.recorder new.recorder does.hears within

step_within : {D L : Type 0} {d : Ghosts D} {l : Ghosts L} (m : Answering D L) (sectors : ℕ)
    (step : Step) (text : List ℕ) (old new : Running D L d l) → TakesStep m step text old new
    → AreWithin sectors (core_of old.recorder).events
    → AreWithin sectors (core_of new.recorder).events
step_within {D} {L} {d} {l} m sectors steps.Close text old new does within =
    drained_within {l = l} sectors does.answer does.closed new.recorder does.drains
    (closed_within {l = l} sectors replies.Closed old.recorder does.closed does.closes within)
step_within {D} {L} {d} {l} m sectors (steps.Read first count) text old new does within =
    rw does.log within
step_within {D} {L} {d} {l} m sectors steps.Turn text old new does within =
    turned_within {l = l} sectors does.turn old.recorder new.recorder does.turns within
step_within {D} {L} {d} {l} m sectors (steps.Mark mark) text old new does within =
    marked_within {l = l} sectors mark does.reply old.recorder new.recorder does.marks within
step_within {D} {L} {d} {l} m sectors (steps.At time) text old new does within =
    same_within sectors (core_of old.recorder) (core_of new.recorder) does.core within
step_within {D} {L} {d} {l} m sectors
    (steps.Message disks.Data layer asked) text old new does within =
    rw does.log within
step_within {D} {L} {d} {l} m sectors
    (steps.Message disks.Log layer asked) text old new does within =
    same_within sectors (core_of old.recorder) (core_of new.recorder) does.core within

lines_within : {D L : Type 0} {d : Ghosts D} {l : Ghosts L} (m : Answering D L) (bytes sectors : ℕ)
    (names : List ScriptId) (before body : List Command) (text : List ℕ) (old new : Running D L d l)
    → IsWellFormed bytes sectors before body → RunsLines m names body text old new
    → AreWithin sectors (core_of old.recorder).events
    → AreWithin sectors (core_of new.recorder).events
lines_within {D} {L} {d} {l} m bytes sectors names before [] text old new fit ran within =
    rw ran.1 within
lines_within {D} {L} {d} {l} m bytes sectors names before
    (commands.Submit submission ∷ body) text old new fit ran within =
    let does = ran.4.does in
    lines_within {d = d} {l = l} m bytes sectors names
    (before ++ commands.Submit submission ∷ []) body ran.2 ran.0 new fit.1 ran.5
    (asked_within {l = l} sectors
    (bio_of submission) does.request old.recorder ran.0.recorder does.asks
    (bio_passes bytes sectors submission fit.0.0) within)
lines_within {D} {L} {d} {l} m bytes sectors names before
    (commands.Complete request ∷ body) text old new fit ran within =
    lines_within {d = d} {l = l} m bytes sectors names
    (before ++ commands.Complete request ∷ []) body ran.2 ran.0 new fit.1 ran.5
    (ended_within {d = d} {l = l} sectors (slice_get old.requests.items request)
    (name_at names request) ran.1 old ran.0 ran.4.does within)
lines_within {D} {L} {d} {l} m bytes sectors names before
    (commands.Step step ∷ body) text old new fit ran within =
    lines_within {d = d} {l = l} m bytes sectors names
    (before ++ commands.Step step ∷ []) body ran.2 ran.0 new fit.1 ran.5
    (step_within {d = d} {l = l} m sectors step ran.1 old ran.0 ran.4.does within)

pub run_lawful : (plan : ScriptValue) (text : List ℕ) (start last : DiskRun) → IsPlan plan
    → Starts plan start → RunsLines stack_answering plan.names plan.commands text start last
    → is_well_formed (core_of last.recorder).events ≡ true
    → is_lawful (top_of plan.data_disk) (core_of last.recorder).events ≡ true
run_lawful plan text start last is starts ran well_formed =
    let none : AreWithin (top_of plan.data_disk) (core_of start.recorder).events =
    subst (λ (c : CoreState). AreWithin (top_of plan.data_disk) c.events)
    (sym starts.log_disk.begun.core) (λ place. refl) in
    let within =
    lines_within stack_answering (bytes_of plan.log_size)
    (top_of plan.data_disk) plan.names [] plan.commands text start last is.well_formed ran
    none in
    well_formed-lawful (top_of plan.data_disk) (core_of last.recorder).events well_formed
    (λ place here. within place)
