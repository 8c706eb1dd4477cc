-- Proves what a script's lines do to the log, and what happens to the requests that they submit.
-- After a close, the store has placed the whole log, unless logging ended (`LogIsWritten`).
use Rattle.std.proofs.Common.{append_assoc, None, inl, ◌∙◌, ◌⊎◌, ap, refl, length, ℕ, Bool, true}
use Rattle.std.proofs.Common.{false, not, Option, Some, arith, inr, subst, sym, List, [], ◌∷◌}
use Rattle.std.proofs.Common.{◌++◌, Result, Ok, Err, ◌≡◌}
use Rattle.std.specs.Prelude.{is_ok, slice_get}
use Rattle.std.proofs.lemmas.Bool.{and_parts}
use Rattle.std.proofs.lemmas.List.{append-nil}
use Rattle.std.proofs.lemmas.Option.{slice_get_within}
use Rattle.std.specs.List.{AllZip}
use Rattle.refusals.specs.declared.refusal.Refusal.TheVariants as refusals
use Rattle.refusals.specs.declared.run_error.End.{End}
use Rattle.bio.specs.declared.event.CoreEvent.{CoreEvent}
use Rattle.bio.specs.declared.event.CoreEvent.TheVariants as events
use Rattle.bio.specs.declared.request.Bio.{Bio}
use Rattle.bio.specs.Events.{can_follow, has_no_close, has_no_stop, is_close, is_open_at}
use Rattle.bio.specs.Events.{is_recording, is_text, is_well_formed}
use Rattle.bio.specs.PlaceLaws.{bool_cases, is_well_formed-snoc, last_or_below, length-snoc}
use Rattle.bio.specs.PlaceLaws.{slice_get-append_front, slice_get-append_here}
use Rattle.bio.specs.RequestLaws.{lawful_parts}
use Rattle.bio.specs.Requests.{is_tracked}
use Rattle.blockdev.specs.declared.device.BlockDev.{Ghosts}
use Rattle.log_format.specs.declared.entry.Entry.{Entry}
use Rattle.log_store.specs.Calls.{Same}
use Rattle.pending.specs.CoreState.{CoreState, added_to, records}
use Rattle.pending.specs.GrowthLaws.{none-grown}
use Rattle.recorder.specs.Calls.{Completes, Drains, IsUnchanged, Marks, SubmitsRequest, Turns, core_of}
use Rattle.recorder.specs.Calls.{recorder_view}
use Rattle.recorder.specs.declared.recorder.Recorder.{Recorder}
use Rattle.recorder.specs.declared.reply.Reply.{Reply}
use Rattle.recorder.specs.declared.reply.Reply.TheVariants as replies
use Rattle.recorder.specs.declared.reply.Turn.{Turn}
use Rattle.recorder.specs.declared.reply.Turn.TheVariants as turns
use Rattle.recorder.specs.Growth.{RecorderFrame}
use Rattle.recorder.specs.RecorderView.{EventsGrow, listed_entries}
use Rattle.dmlw_script.specs.declared.command.Command.{Command}
use Rattle.dmlw_script.specs.declared.command.Command.TheVariants as commands
use Rattle.dmlw_script.specs.declared.command.DiskName.TheVariants as disks
use Rattle.dmlw_script.specs.declared.command.Step.{Step}
use Rattle.dmlw_script.specs.declared.command.Step.TheVariants as steps
use Rattle.dmlw_script.specs.declared.command.Submission.{Submission}
use Rattle.dmlw_script.specs.declared.script_id.ScriptId.{ScriptId}
use Rattle.dmlw_script.specs.Plans.{name_at}
use Rattle.script_runner.specs.declared.request.Request.{Request}
use Rattle.script_runner.specs.declared.request.Request.TheVariants as requests
use Rattle.script_runner.specs.declared.running.Running.{Running}
use Rattle.script_runner.specs.Lines.{Answering, BecomesRequest, EndsRequest, RecordsEnd, RunsLine, TakesStep}
use Rattle.script_runner.specs.Lines.{reply_of}
use Rattle.script_runner.specs.Runs.{LogIsWritten, RunsLines, TrackedAreRecorded, IsRequestOf}
use Rattle.script_runner.specs.Runs.{submissions_of}
use Rattle.script_runner.specs.Submissions.{bio_of}

pub kept_unchanged : {L : Type 0} {l : Ghosts L} (old new : Recorder L l) → LogIsWritten old
    → IsUnchanged old new → LogIsWritten new
kept_unchanged old new written same = grind (arith, length)

pub kept_recording : {L : Type 0} {l : Ghosts L} (new : Recorder L l)
    → has_no_close (core_of new).events ≡ true → LogIsWritten new
kept_recording new recording = λ closed on. absurd (let both = sym recording ∙ closed in cc)

unclosed : (core grown : CoreState) (event : CoreEvent) → grown ≡ added_to core event
    → is_close (Some event) ≡ false → has_no_close core.events ≡ true
    → has_no_close grown.events ≡ true
unclosed core grown event is other recording = grind (arith, none-grown, not)

kept_ended : {L : Type 0} {l : Ghosts L} (new : Recorder L l) (cause : End) → new.end ≡ Some cause
    → LogIsWritten new
kept_ended new cause ended = λ closed on. absurd (let both = sym ended ∙ on in cc)

pub kept_submit : {L : Type 0} {l : Ghosts L} (bio : Bio) (reply : Reply) (old new : Recorder L l)
    → SubmitsRequest bio reply old new → LogIsWritten old → LogIsWritten new
kept_submit {L} {l} bio reply old new submits written =
    elim (bool_cases (records (core_of old) bio)) [
      | inl recorded ↦ elim (submits.recorded recorded) [
        | inl tracked ↦
            let going =
            (and_parts (is_recording (core_of old).events) (is_tracked bio) recorded).0 in
            let recording =
            (and_parts (has_no_stop (core_of old).events)
            (has_no_close (core_of old).events) going).1 in
            kept_recording {l = l} new
            (unclosed (core_of old) (core_of new) (events.Submit bio) tracked.1.core refl recording)
        | inr refused ↦ kept_ended {l = l} new _ refused.1.end
      ]
      | inr passes ↦ kept_unchanged {l = l} old new written (submits.passed passes).1
    ]

pub kept_complete : {L : Type 0} {l : Ghosts L} (id : ℕ) (ok : Bool) (reply : Reply)
    (old new : Recorder L l) → Completes id ok reply old new → LogIsWritten old → LogIsWritten new
kept_complete {L} {l} id ok reply old new completes written =
    elim (bool_cases (is_open_at (core_of old).events id)) [
      | inl opened ↦
          let is = (completes.recorded opened).1 in
          let lawful =
          (and_parts (is_well_formed (core_of new).events) _
          (lawful_parts _ 1048576 (core_of new).events new.kept.lawful).0).0 in
          let well_formed : is_well_formed ((core_of old).events ++ events.Complete id ok ∷ [])
          ≡ true =
          grind (arith, is, lawful) in
          let parts =
          and_parts (is_well_formed (core_of old).events)
          (can_follow (core_of old).events (Some (events.Complete id ok)))
          (sym (is_well_formed-snoc (core_of old).events (events.Complete id ok)) ∙ well_formed) in
          let recording =
          (and_parts (has_no_close (core_of old).events)
          (is_open_at (core_of old).events id) parts.1).0 in
          kept_recording {l = l} new
          (unclosed (core_of old) (core_of new) (events.Complete id ok) is refl recording)
      | inr other ↦
          grind (arith, kept_unchanged)
    ]

pub kept_mark : {L : Type 0} {l : Ghosts L} (text : List ℕ) (reply : Reply) (old new : Recorder L l)
    → Marks text reply old new → LogIsWritten old → LogIsWritten new
kept_mark {L} {l} text reply old new marks written = elim (bool_cases (is_text text)) [
  | inl heard ↦ elim (bool_cases (is_recording (core_of old).events)) [
    | inl going ↦ elim (marks.recorded heard going) [
      | inl queued ↦
          let recording =
          (and_parts (has_no_stop (core_of old).events)
          (has_no_close (core_of old).events) going).1 in
          kept_recording {l = l} new
          (unclosed (core_of old) (core_of new) (events.Mark text) queued.1 refl recording)
      | inr refused ↦
          kept_unchanged {l = l} old new written
          (record { core = refused.1; store = marks.log; end = marks.end })
    ]
    | inr over ↦
        kept_unchanged {l = l} old new written
        (record { core = (marks.passed heard over).1; store = marks.log; end = marks.end })
  ]
  | inr bad ↦
      kept_unchanged {l = l} old new written
      (record { core = marks.unheard bad; store = marks.log; end = marks.end })
]

none-behind : (log : List Entry) (n : ℕ) (e : Entry) → n ≡ length log → slice_get log n ≡ Some e → ⊥
none-behind log n e all found = let within = slice_get_within log n e found in omega arith

pub kept_turn : {L : Type 0} {l : Ghosts L} (turn : Turn) (old new : Recorder L l)
    → Turns turn old new → LogIsWritten old → LogIsWritten new
kept_turn {L} {l} turn old new turned written = by_end old.end refl
  where
    placing : (index : ℕ) (e : Entry) → old.end ≡ None → (core_of new).events ≡ (core_of old).events
        → index ≡ old.store.placed
        → slice_get (listed_entries (core_of old)) index ≡ Some e → LogIsWritten new
    placing index e on same number entry = elim (bool_cases (has_no_close (core_of old).events)) [
      | inl recording ↦ kept_recording {l = l} new (ap has_no_close same ∙ recording)
      | inr closed ↦
          absurd (none-behind (listed_entries (core_of old)) index e (number ∙ written closed on) entry)
    ]

    by_turn : (turn : Turn) → old.end ≡ None → Turns turn old new → LogIsWritten new
    by_turn turns.Nothing on did = kept_unchanged {l = l} old new written (did.logging on).1
    by_turn (turns.Placed index) on did =
        let placed = did.logging on in
        placing index placed.2.0 on placed.0.events placed.2.2.number placed.2.2.entry
    by_turn (turns.Settled index) on did =
        let placed = did.logging on in
        placing index placed.2.0 on placed.0.events placed.2.2.number placed.2.2.entry
    by_turn (turns.Ended cause) on did = kept_ended {l = l} new cause (did.logging on).stops.end

    by_end : (end : Option End) → old.end ≡ end → LogIsWritten new
    by_end None is = by_turn turn is turned
    by_end (Some cause) is = kept_unchanged {l = l} old new written (turned.ended cause is).1

pub kept_close : {L : Type 0} {l : Ghosts L} (answer : Result Unit End) (closed new : Recorder L l)
    → Drains answer closed new → LogIsWritten new
kept_close {L} {l} answer closed new drains = by_end closed.end refl
  where
    by_answer : (answer : Result Unit End) → closed.end ≡ None → Drains answer closed new
        → LogIsWritten new
    by_answer (Ok done) on drained = λ is_closed goes. (drained.logging on).1
    by_answer (Err cause) on drained = kept_ended {l = l} new cause (drained.logging on).end

    by_end : (end : Option End) → closed.end ≡ end → LogIsWritten new
    by_end None is = by_answer answer is drains
    by_end (Some cause) is = kept_ended {l = l} new cause ((drains.ended cause is).1.end ∙ is)

-- The law `several_calls_go_as_one` proves `GoesNone` and `GoesTwice`.
abbrev pub GoesNone : {L : Type 0} → (l : Ghosts L) → Type 0
GoesNone {L} l = (r : Recorder L l) → RecorderFrame (recorder_view r) (recorder_view r)

abbrev pub GoesTwice : {L : Type 0} → (l : Ghosts L) → Type 0
GoesTwice {L} l =
    (old mid new : Recorder L l) → RecorderFrame (recorder_view old) (recorder_view mid)
    → RecorderFrame (recorder_view mid) (recorder_view new)
    → RecorderFrame (recorder_view old) (recorder_view new)

pub lines_go : {D L : Type 0} {d : Ghosts D} {l : Ghosts L} → GoesNone l → GoesTwice l
    → (m : Answering D L) (names : List ScriptId) (body : List Command) (text : List ℕ)
    (old new : Running D L d l)
    → RunsLines m names body text old new
    → RecorderFrame (recorder_view old.recorder) (recorder_view new.recorder)
lines_go {D} {L} {d} {l} none twice m names [] text old new ran =
    rw ran.1 (none old.recorder)
lines_go none twice m names (command ∷ body) text old new ran =
    twice old.recorder ran.0.recorder new.recorder ran.4.goes
    (lines_go none twice m names body ran.2 ran.0 new ran.5)

asked_written : {L : Type 0} {l : Ghosts L} (bio : Bio) (request : Request) (old new : Recorder L l)
    → BecomesRequest bio request old new → LogIsWritten old → LogIsWritten new
asked_written {L} {l} bio (requests.Asked kept id) old new asks written =
    kept_submit {l = l} bio (reply_of id) old new asks.1 written
asked_written {L} {l} bio requests.NotAsked old new asks written = elim asks [
  | inl unasked ↦ rw unasked.1 written
  | inr refused ↦ kept_submit {l = l} bio (replies.Refused refusals.Memory) old new refused written
]

ended_written : {L : Type 0} {l : Ghosts L} (id : Option ℕ) (ok : Bool) (old new : Recorder L l)
    → RecordsEnd id ok old new → LogIsWritten old → LogIsWritten new
ended_written {L} {l} (Some id) ok old new hears written =
    kept_complete {l = l} id ok hears.0 old new hears.1 written
ended_written {L} {l} None ok old new hears written =
    rw hears written

found_written : {D L : Type 0} {d : Ghosts D} {l : Ghosts L} (found : Option Request)
    (name : ScriptId) (text : List ℕ) (old new : Running D L d l)
    → EndsRequest found name text old new → LogIsWritten old.recorder → LogIsWritten new.recorder
found_written {D} {L} {d} {l} None name text old new does written = absurd does
found_written {D} {L} {d} {l} (Some requests.NotAsked) name text old new does written =
    rw does.1 written
found_written {D} {L} {d} {l} (Some (requests.Asked bio id)) name text old new does written =
    ended_written {l = l} id (is_ok does.answer) old.recorder new.recorder does.hears written

time_written : {L : Type 0} {l : Ghosts L} (old new : Recorder L l) → core_of new ≡ core_of old
    → new.end ≡ old.end
    → Same (recorder_view old).store (recorder_view new).store → LogIsWritten old → LogIsWritten new
time_written {L} {l} old new core end same written = λ closed on.
    let placed =
    written (sym (grind (arith, core)) ∙ closed)
    (sym end ∙ on) in
    grind (arith, same.placed, placed, core)

line_written : {D L : Type 0} {d : Ghosts D} {l : Ghosts L} (m : Answering D L)
    (names : List ScriptId) (command : Command) (text : List ℕ) (old new : Running D L d l)
    → RunsLine m names command text old new → LogIsWritten old.recorder → LogIsWritten new.recorder
line_written {D} {L} {d} {l} m names (commands.Submit submission) text old new line written =
    asked_written {l = l} (bio_of submission) line.does.request old.recorder new.recorder
    line.does.asks written
line_written {D} {L} {d} {l} m names (commands.Complete request) text old new line written =
    grind (arith, found_written)
line_written {D} {L} {d} {l} m names (commands.Step steps.Close) text old new line written =
    kept_close {l = l} line.does.answer line.does.closed new.recorder line.does.drains
line_written {D} {L} {d} {l} m names
    (commands.Step (steps.Read first count)) text old new line written =
    rw line.does.log written
line_written {D} {L} {d} {l} m names (commands.Step steps.Turn) text old new line written =
    kept_turn {l = l} line.does.turn old.recorder new.recorder line.does.turns written
line_written {D} {L} {d} {l} m names (commands.Step (steps.Mark mark)) text old new line written =
    kept_mark {l = l} mark line.does.reply old.recorder new.recorder line.does.marks written
line_written {D} {L} {d} {l} m names (commands.Step (steps.At time)) text old new line written =
    grind (arith, time_written)
line_written {D} {L} {d} {l} m names
    (commands.Step (steps.Message disks.Data layer asked)) text old new line written =
    rw line.does.log written
line_written {D} {L} {d} {l} m names
    (commands.Step (steps.Message disks.Log layer asked)) text old new line written =
    grind (arith, time_written)

pub lines_written : {D L : Type 0} {d : Ghosts D} {l : Ghosts L} (m : Answering D L)
    (names : List ScriptId) (body : List Command) (text : List ℕ) (old new : Running D L d l)
    → RunsLines m names body text old new → LogIsWritten old.recorder → LogIsWritten new.recorder
lines_written {D} {L} {d} {l} m names [] text old new ran written =
    rw ran.1 written
lines_written {D} {L} {d} {l} m names (command ∷ body) text old new ran written =
    lines_written {d = d} {l = l} m names body ran.2 ran.0 new ran.5
    (line_written {d = d} {l = l} m names command ran.1 old ran.0 ran.4 written)

asks_stands : {L : Type 0} {l : Ghosts L} (submission : Submission) (request : Request)
    (old new : Recorder L l) → BecomesRequest (bio_of submission) request old new
    → IsRequestOf submission request
asks_stands submission (requests.Asked bio id) old new asks = asks.0
asks_stands submission requests.NotAsked old new asks = tt

ended_keeps : {D L : Type 0} {d : Ghosts D} {l : Ghosts L} (found : Option Request)
    (name : ScriptId) (text : List ℕ) (old new : Running D L d l)
    → EndsRequest found name text old new → new.requests.items ≡ old.requests.items
ended_keeps None name text old new does = absurd does
ended_keeps (Some requests.NotAsked) name text old new does = does.0.kept
ended_keeps (Some (requests.Asked bio id)) name text old new does = does.kept

step_keeps : {D L : Type 0} {d : Ghosts D} {l : Ghosts L} (m : Answering D L) (step : Step)
    (text : List ℕ) (old new : Running D L d l)
    → TakesStep m step text old new → new.requests.items ≡ old.requests.items
step_keeps m steps.Close text old new does = does.keeps.kept
step_keeps m (steps.Read first count) text old new does = does.kept
step_keeps m steps.Turn text old new does = does.keeps.kept
step_keeps m (steps.Mark mark) text old new does = does.kept
step_keeps m (steps.At time) text old new does = does.keeps.kept
step_keeps m (steps.Message disks.Data layer asked) text old new does = does.kept
step_keeps m (steps.Message disks.Log layer asked) text old new does = does.keeps.kept

-- The run gets one more request for each of these submissions, in their order.
abbrev Adds : {D L : Type 0} {d : Ghosts D} {l : Ghosts L} → List Submission → Running D L d l
    → Running D L d l → Type 0
Adds asked old new =
    (more : List Request) × (new.requests.items ≡ old.requests.items ++ more)
    × AllZip IsRequestOf asked more

adds_later : {D L : Type 0} {d : Ghosts D} {l : Ghosts L} (asked : List Submission)
    (old mid new : Running D L d l) → mid.requests.items ≡ old.requests.items
    → Adds asked mid new → Adds asked old new
adds_later asked old mid new same adds =
    (adds.0, grind (arith, adds.1, same), adds.2)

pub lines_ask : {D L : Type 0} {d : Ghosts D} {l : Ghosts L} (m : Answering D L)
    (names : List ScriptId) (body : List Command) (text : List ℕ) (old new : Running D L d l)
    → RunsLines m names body text old new → Adds (submissions_of body) old new
lines_ask {D} {L} {d} {l} m names [] text old new ran = grind (arith, append-nil)
lines_ask {D} {L} {d} {l} m names (commands.Submit submission ∷ body) text old new ran =
    grind (
      arith,
      lines_ask {d = d} {l = l} m names body ran.2 ran.0 new ran.5,
      append_assoc
          old.requests.items ((ran.4.does).request ∷ []) (lines_ask {d = d} {l = l} m names body ran.2
          ran.0 new ran.5).0,
      asks_stands {l = l} submission (ran.4.does).request old.recorder
          ran.0.recorder (ran.4.does).asks,
    )
lines_ask {D} {L} {d} {l} m names (commands.Complete request ∷ body) text old new ran =
    adds_later {d = d} {l = l} (submissions_of body) old ran.0 new
    (ended_keeps {d = d} {l = l} (slice_get old.requests.items request)
    (name_at names request) ran.1 old ran.0 ran.4.does)
    (lines_ask {d = d} {l = l} m names body ran.2 ran.0 new ran.5)
lines_ask {D} {L} {d} {l} m names (commands.Step step ∷ body) text old new ran =
    adds_later {d = d} {l = l} (submissions_of body) old ran.0 new
    (step_keeps {d = d} {l = l} m step ran.1 old ran.0 ran.4.does)
    (lines_ask {d = d} {l = l} m names body ran.2 ran.0 new ran.5)

pub stays : (old new : List CoreEvent) (id : ℕ) (event : CoreEvent) → EventsGrow old new
    → slice_get old id ≡ Some event → slice_get new id ≡ Some event
stays old new id event (more, is) stands =
    ap (λ (es : List CoreEvent). slice_get es id) is
    ∙ slice_get-append_front old more id (slice_get_within old id event stands) ∙ stands

pub queued_stands : {L : Type 0} {l : Ghosts L} (text : List ℕ) (reply : Reply) (id : ℕ)
    (old new : Recorder L l) → Marks text reply old new → reply ≡ replies.Queued id
    → slice_get (core_of new).events id ≡ Some (events.Mark text)
queued_stands {L} {l} text reply id old new marks queued = elim (bool_cases (is_text text)) [
  | inl heard ↦ elim (bool_cases (is_recording (core_of old).events)) [
    | inl going ↦ elim (marks.recorded heard going) [
      | inl (place, is) ↦
          ap (λ (n : ℕ). slice_get (core_of new).events n)
          (queued_id id (length (core_of old).events) (sym queued ∙ place))
          ∙ ap (λ (c : CoreState). slice_get c.events (length (core_of old).events)) is
          ∙ slice_get-append_here (core_of old).events (events.Mark text) []
      | inr refused ↦ absurd (not_refused id (sym queued ∙ refused.0))
    ]
    | inr over ↦ absurd (not_passed id (sym queued ∙ (marks.passed heard over).0))
  ]
  | inr bad ↦ absurd (not_refused id (sym queued ∙ marks.bad_text.1 bad))
]
  where
    queued_id : (m n : ℕ) → replies.Queued m ≡ replies.Queued n → m ≡ n
    queued_id m n is = cc

    not_refused : {refusal : _} (m : ℕ) → replies.Queued m ≡ replies.Refused refusal → ⊥
    not_refused m is = cc

    not_passed : (m : ℕ) → replies.Queued m ≡ replies.Passed → ⊥
    not_passed m is = cc

tracked_stands : {L : Type 0} {l : Ghosts L} (bio : Bio) (id : ℕ) (old new : Recorder L l)
    → SubmitsRequest bio (reply_of (Some id)) old new
    → slice_get (core_of new).events id ≡ Some (events.Submit bio)
tracked_stands {L} {l} bio id old new submits = elim (bool_cases (records (core_of old) bio)) [
  | inl recorded ↦ elim (submits.recorded recorded) [
    | inl (reply, tracked) ↦
        grind (arith, length, slice_get-append_here)
    | inr (reply, stops) ↦ absurd (not_refused id reply)
  ]
  | inr passes ↦ absurd (not_passed id (submits.passed passes).0)
]
  where
    tracked_id : (m n : ℕ) → replies.Tracked m ≡ replies.Tracked n → m ≡ n
    tracked_id m n is = cc

    not_refused : {refusal : _} (m : ℕ) → replies.Tracked m ≡ replies.Refused refusal → ⊥
    not_refused m is = cc

    not_passed : (m : ℕ) → replies.Tracked m ≡ replies.Passed → ⊥
    not_passed m is = cc

last_case : (items : List Request) (last request : Request) (place : ℕ)
    → slice_get (items ++ last ∷ []) place ≡ Some request
    → (slice_get items place ≡ Some request) ⊎ (last ≡ request)
last_case items last request place found =
    let within = slice_get_within (items ++ last ∷ []) place request found in
    elim (last_or_below place (length items) (let size = length-snoc items last in omega arith)) [
      | inl here ↦
          grind (arith, slice_get-append_here)
      | inr below ↦ inl (sym (slice_get-append_front items (last ∷ []) place below) ∙ found)
    ]
  where
    some_same : {a b : Request} → Some a ≡ Some b → a ≡ b
    some_same is = cc

asked_stands : {L : Type 0} {l : Ghosts L} (bio asked : Bio) (request : Request) (id : ℕ)
    (old new : Recorder L l) → BecomesRequest asked request old new
    → request ≡ requests.Asked bio (Some id)
    → slice_get (core_of new).events id ≡ Some (events.Submit bio)
asked_stands {L} {l} bio asked (requests.Asked kept (Some other)) id old new asks is =
    let parts = same_asked is in
    subst (λ (n : ℕ). slice_get (core_of new).events n ≡ Some (events.Submit bio)) parts.1
    (tracked_stands {l = l} asked other old new asks.1
    ∙ ap (λ (b : Bio). Some (events.Submit b)) (sym asks.0 ∙ parts.0))
  where
    same_asked : requests.Asked kept (Some other) ≡ requests.Asked bio (Some id)
        → (kept ≡ bio) × (other ≡ id)
    same_asked is = (cc, cc)
asked_stands bio asked (requests.Asked kept None) id old new asks is = absurd (cc is)
asked_stands bio asked requests.NotAsked id old new asks is = absurd (cc is)

kept_followed : {D L : Type 0} {d : Ghosts D} {l : Ghosts L} (old new : Running D L d l)
    → new.requests.items ≡ old.requests.items
    → EventsGrow (core_of old.recorder).events (core_of new.recorder).events → TrackedAreRecorded old
    → TrackedAreRecorded new
kept_followed old new same grows followed = λ place bio id found.
    stays (core_of old.recorder).events (core_of new.recorder).events id
    (events.Submit bio) grows
    (followed place bio id (grind (arith, same, found)))

line_followed : {D L : Type 0} {d : Ghosts D} {l : Ghosts L} (m : Answering D L)
    (names : List ScriptId) (command : Command) (text : List ℕ) (old new : Running D L d l)
    → RunsLine m names command text old new → TrackedAreRecorded old → TrackedAreRecorded new
line_followed {D} {L} {d} {l} m names (commands.Submit submission) text old new line followed =
    λ place bio id found.
    elim (last_case old.requests.items line.does.request (requests.Asked bio (Some id)) place
    (grind (arith, line.does.kept, found))) [
      | inl before ↦
          stays (core_of old.recorder).events (core_of new.recorder).events id
          (events.Submit bio) line.goes.events (followed place bio id before)
      | inr last ↦
          asked_stands {l = l} bio
          (bio_of submission) line.does.request id old.recorder new.recorder line.does.asks last
    ]
line_followed {D} {L} {d} {l} m names (commands.Complete request) text old new line followed =
    kept_followed {d = d} {l = l} old new
    (ended_keeps {d = d} {l = l} (slice_get old.requests.items request)
    (name_at names request) text old new line.does)
    line.goes.events followed
line_followed {D} {L} {d} {l} m names (commands.Step step) text old new line followed =
    kept_followed {d = d} {l = l} old new
    (step_keeps {d = d} {l = l} m step text old new line.does) line.goes.events followed

pub lines_followed : {D L : Type 0} {d : Ghosts D} {l : Ghosts L} (m : Answering D L)
    (names : List ScriptId) (body : List Command) (text : List ℕ) (old new : Running D L d l)
    → RunsLines m names body text old new → TrackedAreRecorded old → TrackedAreRecorded new
lines_followed {D} {L} {d} {l} m names [] text old new ran followed =
    rw ran.1 followed
lines_followed {D} {L} {d} {l} m names (command ∷ body) text old new ran followed =
    lines_followed {d = d} {l = l} m names body ran.2 ran.0 new ran.5
    (line_followed {d = d} {l = l} m names command ran.1 old ran.0 ran.4 followed)
