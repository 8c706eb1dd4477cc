-- What each request of a session does to the recorder and to the data device, and what the client
-- is answered. `old` is the server before the request, and `new` after it.
use Rattle.std.specs.Prelude.{◌≡◌, ◌⊎◌, ℕ, List, true, Result, Ok, Err, Option, Some, None, is_ok, is_some}
use Rattle.refusals.specs.declared.refusal.Refusal.TheVariants as refusals
use Rattle.refusals.specs.declared.run_error.End.{End}
use Rattle.bio.specs.declared.outcome.DevError.{DevError}
use Rattle.bio.specs.declared.request.Bio.{Bio}
use Rattle.bio.specs.Requests.{has_data, has_fua}
use Rattle.blockdev.specs.declared.device.BlockDev.{Ghosts}
use Rattle.log_store.specs.Calls.{Same}
use Rattle.recorder.specs.Acknowledged.{IsAcknowledged}
use Rattle.recorder.specs.Calls.{Closes, Drains, Marks, SubmitsRequest, core_of, recorder_view}
use Rattle.recorder.specs.Growth.{RecorderFrame}
use Rattle.recorder.specs.declared.recorder.Recorder.{Recorder}
use Rattle.recorder.specs.declared.reply.Reply.{Reply}
use Rattle.recorder.specs.declared.reply.Reply.TheVariants as replies
use Rattle.script_runner.specs.Lines.{PassesRequest, RecordsEnd, reply_of}
use Rattle.nbd.specs.declared.fault.RequestFault.{RequestFault}
use Rattle.nbd.specs.declared.fault.RequestFault.TheVariants as faults
use Rattle.nbd.specs.declared.server.Server.{Server}
use Rattle.nbd.specs.Wire.{fault_of_device}

-- The time of the recorder's later calls is set to `now`. Nothing else of it changes.
pub record IsTimed {L : Type 0} {l : Ghosts L} (now : ℕ) (old new : Recorder L l) : Type 0 where
  pub core : core_of new ≡ core_of old
  pub end : new.end ≡ old.end
  pub store : Same (recorder_view old).store (recorder_view new).store
  pub device : new.store.device ≡ old.store.device
  pub time : new.store.time ≡ now

-- How any call may change a server: its recorder as the recorder's own calls may. The data device
-- keeps its size.
pub record ServerFrame {D L : Type 0} {d : Ghosts D} {l : Ghosts L}
    (old new : Server D L d l) : Type 0 where
  pub recorder : RecorderFrame (recorder_view old.recorder) (recorder_view new.recorder)
  pub sectors : (d.shown new.disk).size ≡ (d.shown old.disk).size
  pub block : new.size ≡ old.size

-- The log's writer takes turns, until nothing is left to write or logging ends.
abbrev pub Empties : {L : Type 0} {l : Ghosts L} → Recorder L l → Recorder L l → Type 0
Empties old new = (drained : Result Unit End) × Drains drained old new

-- the result of a request that the data device answered so
abbrev pub result_of : Result ℕ DevError → Result Unit RequestFault
result_of (Ok end) = Ok tt
result_of (Err error) = Err (fault_of_device error)

-- A request is passed to the data device at the time `now`, and its end is recorded with the
-- device's result.
pub record CarriesOut {D L : Type 0} {d : Ghosts D} {l : Ghosts L} (now : ℕ) (bio : Bio)
    (id : Option ℕ) (result : Result Unit RequestFault) (old new : Server D L d l) : Type 0 where
  pub answer : Result ℕ DevError
  pub hands_over : PassesRequest d.does now bio answer old.disk new.disk
  pub ends : RecordsEnd id (is_ok answer) old.recorder new.recorder
  pub is : result ≡ result_of answer

-- A request is recorded from its submission to its end, at the time `now`. In between it is done on
-- the data device, whose result is recorded. At last the log's writer takes turns.
pub record RecordsRequest {D L : Type 0} {d : Ghosts D} {l : Ghosts L} (now : ℕ) (bio : Bio)
    (id : Option ℕ) (result : Result Unit RequestFault) (old new : Server D L d l) : Type 0 where
  pub timed : Server D L d l
  pub times : IsTimed now old.recorder timed.recorder
  pub before : timed.disk ≡ old.disk
  -- None if the request isn't recorded, because logging has ended
  pub submitted : Server D L d l
  pub submits : SubmitsRequest bio (reply_of id) timed.recorder submitted.recorder
  pub waits : submitted.disk ≡ timed.disk
  pub done : Server D L d l
  pub carries_out : CarriesOut now bio id result submitted done
  pub empties : Empties done.recorder new.recorder
  pub after : new.disk ≡ done.disk

-- Memory for a submission ran out: for the request's data, and nothing changes, or in the recorder,
-- and logging ends.
abbrev pub IsShort : {L : Type 0} {l : Ghosts L} → Bio → Recorder L l → Recorder L l → Type 0
IsShort bio old new = ((has_data bio ≡ true) × (new ≡ old))
    ⊎ SubmitsRequest bio (replies.Refused refusals.Memory) old new

-- Memory for a request ran out, and the data device isn't called.
pub record LacksRequestMemory {D L : Type 0} {d : Ghosts D} {l : Ghosts L} (now : ℕ) (bio : Bio)
    (old new : Server D L d l) : Type 0 where
  pub timed : Server D L d l
  pub times : IsTimed now old.recorder timed.recorder
  pub short : IsShort bio timed.recorder new.recorder
  pub device : new.disk ≡ old.disk

-- The recorder acknowledges the request. Or logging has ended, so that nothing can be acknowledged
-- any more.
abbrev pub IsSure : {L : Type 0} {l : Ghosts L} → Option ℕ → Recorder L l → Type 0
IsSure (Some id) recorder = IsAcknowledged (recorder_view recorder) id ⊎ (is_some recorder.end ≡ true)
IsSure None recorder = is_some recorder.end ≡ true

-- Why a request fails: the data device failed it; or memory ran out; or the data device did it, but
-- it has FUA and the recorder isn't sure of it.
abbrev pub FailsRequest : {D L : Type 0} {d : Ghosts D} {l : Ghosts L} → ℕ → Bio → RequestFault → Server D L d l
    → Server D L d l → Type 0
FailsRequest now bio fault old new =
    ((id : Option ℕ) × RecordsRequest now bio id (Err fault) old new)
    ⊎ ((LacksRequestMemory now bio old new × (fault ≡ faults.NoMemory))
    ⊎ (((has_data bio ≡ true) × (new ≡ old) × (fault ≡ faults.NoMemory))
    ⊎ ((id : Option ℕ) × RecordsRequest now bio id (Ok tt) old new × (has_fua bio ≡ true)
    × (fault ≡ faults.Io))))

-- What a request gives. Ok: the data device did it, and if it has FUA, the recorder is sure of it.
abbrev pub GivesResult : {D L : Type 0} {d : Ghosts D} {l : Ghosts L} → ℕ → Bio → Result Unit RequestFault
    → Server D L d l → Server D L d l → Type 0
GivesResult now bio (Ok done) old new =
    (id : Option ℕ) × RecordsRequest now bio id (Ok tt) old new
    × (has_fua bio ≡ true → IsSure id new.recorder)
GivesResult now bio (Err fault) old new = FailsRequest now bio fault old new

-- A mark is passed to the recorder.
abbrev pub Notes : {L : Type 0} {l : Ghosts L} → List ℕ → Recorder L l → Recorder L l → Type 0
Notes text old new = (reply : Reply) × Marks text reply old new

-- Recording is closed.
abbrev pub IsClosedBy : {L : Type 0} {l : Ghosts L} → Recorder L l → Recorder L l → Type 0
IsClosedBy old new = Closes replies.Closed old new

-- A mark is passed to the recorder at the time `now`, and then the log's writer takes turns.
pub record NotesMark {D L : Type 0} {d : Ghosts D} {l : Ghosts L} (now : ℕ) (text : List ℕ)
    (old new : Server D L d l) : Type 0 where
  pub timed : Server D L d l
  pub times : IsTimed now old.recorder timed.recorder
  pub noted : Server D L d l
  pub notes : Notes text timed.recorder noted.recorder
  pub empties : Empties noted.recorder new.recorder
  pub device : new.disk ≡ old.disk

-- Recording is closed at the time `now`. Then the log's writer takes turns until the log is complete
-- or logging ends.
pub record EndsLog {D L : Type 0} {d : Ghosts D} {l : Ghosts L} (now : ℕ)
    (old new : Server D L d l) : Type 0 where
  pub timed : Server D L d l
  pub times : IsTimed now old.recorder timed.recorder
  pub closed : Server D L d l
  pub closes : IsClosedBy timed.recorder closed.recorder
  pub empties : Empties closed.recorder new.recorder
  pub device : new.disk ≡ old.disk
