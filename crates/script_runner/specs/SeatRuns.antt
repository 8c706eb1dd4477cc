-- The result of a run of several seats.
-- The outcomes of a seat's calls, and their counts.
use Rattle.std.specs.Prelude.{None, if◌then◌else◌, ◌≡◌, ◌==◌, ◌⊎◌, ℕ, ◌+◌, ◌<◌, ◌-◌, ◌^◌, Bool}
use Rattle.std.specs.Prelude.{true, ◌*◌, false, List, [], ◌∷◌, ◌++◌, Option, length, slice_get}
use Rattle.std.specs.Prelude.{Some}
use Rattle.refusals.specs.declared.refusal.Refusal.{Refusal}
use Rattle.refusals.specs.declared.refusal.Refusal.TheVariants as refusals
use Rattle.refusals.specs.declared.run_error.End.{End}
use Rattle.refusals.specs.declared.run_error.End.TheVariants as ends
use Rattle.refusals.specs.declared.run_error.RunError.{RunError}
use Rattle.refusals.specs.declared.run_error.RunError.TheVariants.{LoggingEnded}
use Rattle.refusals.specs.Errors.{refused_by}
use Rattle.bio.specs.Content.{gather}
use Rattle.bio.specs.declared.outcome.Status.{Status}
use Rattle.bio.specs.Requests.{bytes_of}
use Rattle.sector_disk.specs.DiskView.{shown_of}
use Rattle.layer_table.specs.declared.stack.Stack.{Stack}
use Rattle.layer_table.specs.Layers.{disk_of, some_drops, stack_does, stack_shown}
use Rattle.log_store.specs.Calls.{HasFaulted}
use Rattle.lock_state.specs.Comparison.{Receipt}
use Rattle.lock_state.specs.History.{Part, new_part, one_if}
use Rattle.lock_state.specs.PlacedItems.{Ground, ground_of}
use Rattle.shared.specs.SeatCalls.{Answered, AddsMark}
use Rattle.shared.specs.Close.{HasOpenRequest, IsClosed, IsMismatched, LeavesLog}
use Rattle.shared.specs.PlainCrash.{IsCreated}
use Rattle.shared.specs.declared.answer.Answer.{Answer}
use Rattle.shared.specs.declared.answer.Answer.TheVariants as answers
use Rattle.shared.specs.declared.answer.MarkAnswer.{MarkAnswer}
use Rattle.shared.specs.declared.answer.MarkAnswer.TheVariants as marks
use Rattle.shared.specs.declared.closing.Closed.{Closed}
use Rattle.dmlw_script.specs.declared.run_line.RunCall.{RunCall}
use Rattle.dmlw_script.specs.declared.run_line.RunCall.TheVariants.{Mark, Submit}
use Rattle.dmlw_script.specs.declared.run_line.SeatCall.{SeatCall}
use Rattle.dmlw_script.specs.Plans.{top_of}
use Rattle.dmlw_script.specs.RunPlans.{RunPlan}
use Rattle.script_runner.specs.declared.recording.Lies.{Lies}
use Rattle.script_runner.specs.declared.tally.Outcome.{Outcome}
use Rattle.script_runner.specs.declared.tally.Outcome.TheVariants.{Done, Failed, Logged, NotLogged}
use Rattle.script_runner.specs.declared.tally.Outcome.TheVariants.{Refused}
use Rattle.script_runner.specs.declared.tally.Tally.{Tally}
use Rattle.script_runner.specs.DiskRun.{IsStackOf, seen_on}
use Rattle.script_runner.specs.Submissions.{bio_of}

-- The outcome of a request, given the recorder's answer. A script of seats has no reads.
abbrev pub outcome_of : Answer Receipt → Outcome
outcome_of answers.Done = Done
outcome_of (answers.Read bytes) = Done
outcome_of (answers.Logged receipt) = Logged
outcome_of (answers.Failed error) = Failed
outcome_of (answers.NotLogged cause) = NotLogged
outcome_of (answers.Refused bad) = Refused

-- The outcome of a mark, given the recorder's answer.
abbrev pub mark_outcome : MarkAnswer Receipt → Outcome
mark_outcome (marks.Logged receipt) = Logged
mark_outcome (marks.NotLogged cause) = NotLogged
mark_outcome (marks.Refused refusal) = Refused

-- The receipt in the answer to a request, if there is one.
abbrev pub receipt_in : {C : Type 0} → Answer C → Option C
receipt_in answers.Done = None
receipt_in (answers.Read bytes) = None
receipt_in (answers.Logged receipt) = Some receipt
receipt_in (answers.Failed error) = None
receipt_in (answers.NotLogged cause) = None
receipt_in (answers.Refused bad) = None

-- The receipt in the answer to a mark, if there is one.
abbrev pub mark_receipt_in : {C : Type 0} → MarkAnswer C → Option C
mark_receipt_in (marks.Logged receipt) = Some receipt
mark_receipt_in (marks.NotLogged cause) = None
mark_receipt_in (marks.Refused refusal) = None

-- The result of a call: its outcome, and the receipt that the seat got, if any.
pub record CallResult : Type 0 where
  pub outcome : Outcome
  pub receipt : Option Receipt

-- The receipts, and after them one more if there is one.
abbrev pub and_kept : List Receipt → Option Receipt → List Receipt
and_kept receipts None = receipts
and_kept receipts (Some receipt) = receipts ++ receipt ∷ []

-- The receipts of these calls, in their order.
abbrev pub receipts_of : List CallResult → List Receipt
receipts_of [] = []
receipts_of (came ∷ others) = and_kept [] came.receipt ++ receipts_of others

-- The lists of receipts, joined into one list.
abbrev pub joined : List (List Receipt) → List Receipt
joined [] = []
joined (receipts ∷ others) = receipts ++ joined others

-- Whether an outcome is the one in the name.
abbrev pub is_done : Outcome → Bool
is_done Done = true
is_done _ = false

abbrev pub is_logged : Outcome → Bool
is_logged Logged = true
is_logged _ = false

abbrev pub is_failed : Outcome → Bool
is_failed Failed = true
is_failed _ = false

abbrev pub is_not_logged : Outcome → Bool
is_not_logged NotLogged = true
is_not_logged _ = false

abbrev pub is_refused : Outcome → Bool
is_refused Refused = true
is_refused _ = false

-- How many of the calls have an outcome for which `comes` is true.
abbrev pub how_many : (Outcome → Bool) → List CallResult → ℕ
how_many comes [] = 0
how_many comes (came ∷ others) = one_if (comes came.outcome) + how_many comes others

-- How many of the calls have each outcome.
abbrev pub tally_of : List CallResult → Tally
tally_of calls = record {
  done = how_many is_done calls;
  logged = how_many is_logged calls;
  failed = how_many is_failed calls;
  not_logged = how_many is_not_logged calls;
  refused = how_many is_refused calls;
}

-- The tally if no call was made.
abbrev pub no_calls : Tally
no_calls = record { done = 0; logged = 0; failed = 0; not_logged = 0; refused = 0 }

-- The tally after one more call with this outcome.
abbrev pub tally_with : Tally → Outcome → Tally
tally_with tally Done = record tally { done = tally.done + 1 }
tally_with tally Logged = record tally { logged = tally.logged + 1 }
tally_with tally Failed = record tally { failed = tally.failed + 1 }
tally_with tally NotLogged = record tally { not_logged = tally.not_logged + 1 }
tally_with tally Refused = record tally { refused = tally.refused + 1 }

-- Each count of the tally can grow by one.
pub record TallyHasRoom (tally : Tally) : Type 0 where
  pub done : tally.done < 2 ^ 64 - 1
  pub logged : tally.logged < 2 ^ 64 - 1
  pub failed : tally.failed < 2 ^ 64 - 1
  pub not_logged : tally.not_logged < 2 ^ 64 - 1
  pub refused : tally.refused < 2 ^ 64 - 1

-- A seat made `call`. The recorder gave an answer, and the seat's part changed from `old` to `new`
-- as this answer allows. `came` has the outcome of the answer, and the receipt if the answer has
-- one.
abbrev pub MakesCall : Part → RunCall → CallResult → Part → Type 0
MakesCall old (Submit submission) came new =
    (answer : Answer Receipt) × Answered old (bio_of submission) answer new
    × (came ≡ record { outcome = outcome_of answer; receipt = receipt_in answer })
MakesCall old (Mark text) came new =
    (answer : MarkAnswer Receipt) × AddsMark old text answer new
    × (came ≡ record { outcome = mark_outcome answer; receipt = mark_receipt_in answer })

-- A seat made these calls in order. The n-th `CallResult` is the result of the n-th call.
abbrev pub AreMade : Part → List RunCall → List CallResult → Part → Type 0
AreMade old [] [] new = new ≡ old
AreMade old [] (came ∷ others) new = ⊥
AreMade old (call ∷ calls) [] new = ⊥
AreMade old (call ∷ calls) (came ∷ others) new =
    (between : Part) × MakesCall old call came between × AreMade between calls others new

-- The calls in the lines of seat `number`, in their order.
abbrev pub seat_calls : ℕ → List SeatCall → List RunCall
seat_calls number [] = []
seat_calls number (line ∷ lines) =
    if line.seat == number then line.call ∷ seat_calls number lines else seat_calls number lines

-- A new seat `number` made the calls of its lines in order. `tally` counts their outcomes, and
-- `receipts` are the receipts that the seat got.
pub record IsSeatRun (lines : List SeatCall) (number : ℕ) (seat : Part) (tally : Tally)
    (receipts : List Receipt) : Type 0 where
  pub calls : List CallResult
  pub made : AreMade (new_part number) (seat_calls number lines) calls seat
  pub told : tally ≡ tally_of calls
  pub kept : receipts ≡ receipts_of calls

-- Seat `number` made its calls. Its tally and its receipts are at index `number` of `tallies` and
-- `given`.
pub record HasRun (lines : List SeatCall) (tallies : List Tally) (given : List (List Receipt))
    (number : ℕ) (seat : Part) : Type 0 where
  pub tally : Tally
  pub counted : slice_get tallies number ≡ Some tally
  pub receipts : List Receipt
  pub kept : slice_get given number ≡ Some receipts
  pub ran : IsSeatRun lines number seat tally receipts

-- The clock of the log's device may have the reading `reading` when a log with sectors of `bytes`
-- bytes has just been created on the stack `log`. The log of a run begins at such a reading.
abbrev pub begins_of : ℕ → Stack → ℕ → Type 0
begins_of bytes log reading =
    (made : Stack) × IsCreated stack_does bytes log made × (reading ≡ (stack_shown made).clock)

-- `plan` ran: each of its seats made its calls, and then the recorder was closed. `tallies` has the
-- tally of each seat, in their order. `status` is the log's status, `lies` counts the lies of the
-- layers, and `image` has the bytes of the log's disk.
pub record RunsSeats (plan : RunPlan) (tallies : List Tally) (status : Status) (lies : Lies)
    (image : List ℕ) : Type 0 where
  -- each seat of the script made the calls of its lines in order
  pub seats : List Part
  pub count : length seats ≡ plan.seats
  pub some : 0 < plan.seats
  pub tallied : length tallies ≡ plan.seats
  -- the receipts of each seat
  pub given : List (List Receipt)
  pub ran : (number : ℕ) (seat : Part) → slice_get seats number ≡ Some seat
      → HasRun plan.calls tallies given number seat
  -- the recorder's log was made on a stack as the script's log disk asks
  pub log : Stack
  pub blank : IsStackOf plan.log_disk log
  -- the recorder was closed with all seats, and with all receipts that the seats got. Its log began
  -- when it had just been created
  pub closed : Closed Stack Stack
  pub close : IsClosed stack_does (begins_of (bytes_of plan.log_size) log)
      (ground_of (stack_shown log)) (bytes_of plan.log_size) (top_of plan.data_disk) plan.seats
      (stack_shown closed.device) (stack_shown closed.log) seats (joined given) closed
  pub told : status ≡ closed.status
  pub lied : lies ≡ record {
    data_disk = (stack_shown closed.device).lies;
    log_disk = (stack_shown closed.log).lies;
  }
  -- if no layer of the log may drop writes, no layer of the log lied
  pub honest : some_drops plan.log_disk.layers ≡ false → lies.log_disk ≡ 0
  -- `image` has the bytes of the log's disk below its layers. The disk has the size that the script
  -- names
  pub bytes : image ≡ gather (shown_of (disk_of closed.log)).content 0
      (shown_of (disk_of closed.log)).size
  pub size : length image ≡ 512 * plan.log_disk.sectors
  -- unless a layer of the log lied, `image` has a log, seen through the layers. It is a prefix of
  -- the history's completion list
  pub logged : lies.log_disk ≡ 0 →
      LeavesLog (bytes_of plan.log_size)
      (top_of plan.log_disk) closed.settled closed.core.state closed.end
      (seen_on plan.log_disk image)

-- One comparison fails: these seats or receipts don't agree with what the recorder's locks guarded.
-- The other parameters are those of `IsMismatched`.
pub record IsForeignClose (begins : ℕ → Type 0) (ground : Ground) (bytes sectors many : ℕ)
    (seats : List Part) (receipts : List Receipt) : Type 0 where
  pub closed : Closed Stack Stack
  pub mismatch : IsMismatched stack_does begins ground bytes sectors many
      (stack_shown closed.device) (stack_shown closed.log) seats receipts closed

-- Why a close with these seats and receipts is refused: it says that the recorder wasn't asked to
-- close, or a seat or receipt doesn't agree with what the recorder's locks guarded.
abbrev pub IsUnclosed : (ℕ → Type 0) → Ground → ℕ → ℕ → ℕ → List Part → List Receipt → Refusal
    → Type 0
IsUnclosed begins ground bytes sectors many seats receipts refusal =
    (refusal ≡ refusals.Busy)
    ⊎ ((refusal ≡ refusals.Foreign)
    × IsForeignClose begins ground bytes sectors many seats receipts)

-- The seats of `plan` made their calls. These are the seats after them, and the receipts of each.
pub record HaveRun (plan : RunPlan) (seats : List Part) (given : List (List Receipt)) : Type 0 where
  pub count : length seats ≡ plan.seats
  pub tallies : List Tally
  pub ran : (number : ℕ) (seat : Part) → slice_get seats number ≡ Some seat
      → HasRun plan.calls tallies given number seat

-- The seats of `plan` made their calls, but the seats or their receipts don't agree with what the
-- recorder's locks guarded.
pub record IsForeignRun (plan : RunPlan) : Type 0 where
  pub seats : List Part
  pub given : List (List Receipt)
  pub made : HaveRun plan seats given
  -- the recorder's log was made on a stack as the script's log disk asks
  pub log : Stack
  pub blank : IsStackOf plan.log_disk log
  pub close : IsForeignClose (begins_of (bytes_of plan.log_size) log) (ground_of (stack_shown log))
      (bytes_of plan.log_size) (top_of plan.data_disk) plan.seats seats (joined given)

-- The seats of `plan` made their calls, and then the recorder refused to close, because it found a
-- request under its lock that hadn't ended.
pub record IsOpenRun (plan : RunPlan) : Type 0 where
  pub seats : List Part
  pub given : List (List Receipt)
  pub made : HaveRun plan seats given
  pub found : HasOpenRequest (bytes_of plan.log_size) (top_of plan.data_disk)

-- The seats of `plan` made their calls, and the recorder was asked to close, but its close says that
-- it wasn't. No contract of `shared` says that a recorder stays closed between two calls.
pub record IsUnaskedRun (plan : RunPlan) : Type 0 where
  pub seats : List Part
  pub given : List (List Receipt)
  pub made : HaveRun plan seats given

-- No log could be made on the script's log disk, by the cause `end`. If that is Device, the log's
-- device failed; it is never Full.
pub record IsUnmadeLog (plan : RunPlan) (end : End) : Type 0 where
  pub old : Stack
  pub new : Stack
  pub blank : IsStackOf plan.log_disk old
  pub failed : end ≡ ends.Device → HasFaulted (stack_shown old) (stack_shown new)
  pub fits : end ≡ ends.Full → ⊥

-- Why a run of `plan` fails. Memory ran out, the writer's thread can't be started, or the recorder
-- found a request open when it was asked to close. Or its close says that it wasn't asked, or a seat
-- or receipt doesn't agree with it. Or no log could be made. The fault names no line. `memory` and
-- `thread` have no premise, because the system may refuse memory and threads at any time.
pub data FailsRun (plan : RunPlan) : RunError → Type 0 where
  memory : FailsRun plan (refused_by refusals.Memory)
  thread : FailsRun plan (refused_by refusals.NoThread)
  busy : IsOpenRun plan → FailsRun plan (refused_by refusals.Busy)
  unasked : IsUnaskedRun plan → FailsRun plan (refused_by refusals.Busy)
  foreign : IsForeignRun plan → FailsRun plan (refused_by refusals.Foreign)
  unmade : (end : End) → IsUnmadeLog plan end → FailsRun plan (LoggingEnded end)
