-- What `serve` leaves: the log of a recorder that began with the disks of a script's head. And why
-- it fails.
use Rattle.std.specs.Prelude.{◌≡◌, ◌≢◌, ◌⊎◌, ◌/◌, ℕ, List, [], IfOk, Option, Some, None, Result, Ok, false, length}
use Rattle.std.specs.Io.KnownBytes.{Appends, Consumes}
use Rattle.refusals.specs.declared.refusal.Refusal.{Refusal}
use Rattle.refusals.specs.declared.refusal.Refusal.TheVariants as refusals
use Rattle.refusals.specs.declared.run_error.Fault.{Fault}
use Rattle.refusals.specs.declared.run_error.RunError.{RunError}
use Rattle.refusals.specs.declared.run_error.RunError.TheVariants.{Refused}
use Rattle.refusals.specs.Errors.{IsFileError, memory_error, refused_by}
use Rattle.bio.specs.Content.{sector_of}
use Rattle.bio.specs.Requests.{bytes_of}
use Rattle.sector_disk.specs.DiskView.{PastBegins, shown_of}
use Rattle.layer_table.specs.declared.stack.Stack.{Stack}
use Rattle.layer_table.specs.Layers.{AreOver, disk_of, layers_of, layers_under, on_stack}
use Rattle.layer_table.specs.Layers.{some_drops, stack_shown}
use Rattle.log_format.specs.LogOf.{IsLogOf, status_of}
use Rattle.log_store.specs.Calls.{store_of}
use Rattle.log_store.specs.Store.{store_entries}
use Rattle.recorder.specs.Calls.{core_of, recorder_view}
use Rattle.recorder.specs.Growth.{ReplaysToPossible}
use Rattle.recorder.specs.RecorderView.{listed_entries}
use Rattle.dmlw_script.specs.FirstFault.{IsFaultOf}
use Rattle.dmlw_script.specs.Grammar.{IsLineOf, IsTextOf}
use Rattle.dmlw_script.specs.Plans.{Disk, ScriptValue, top_of}
use Rattle.dmlw_script.specs.Words.{lines_of}
use Rattle.dmlw_files.specs.Files.{FileHoldsImage, FileIsWithin, MatchesContents, Write, image_of}
use Rattle.dmlw_files.specs.Files.{with_write}
use Rattle.script_runner.specs.DiskRun.{IsCounted, IsNew, IsUnmade, seen_on}
use Rattle.nbd.specs.declared.server.Server.{Server}
use Rattle.nbd.specs.declared.serving.Served.{Served as Ending}
use Rattle.nbd.specs.declared.serving.Served.TheVariants.{BrokeOff, Disconnected}
use Rattle.nbd.specs.declared.session.SessionEnd.{SessionEnd}
use Rattle.nbd.specs.Serving.{EndsLog, ServerFrame}
use Rattle.nbd.specs.Sessions.{IsBroken, SessionIsPlayed}
use Rattle.dmlw_serve.specs.declared.session.ServedSession.{ServedSession}

-- A server over two stacks: one for the data, and one for the log.
abbrev pub DiskServer : Type 0
DiskServer = Server Stack Stack on_stack on_stack

-- The script is only a head: no line follows it.
pub record IsOnlyHead (script : ScriptValue) : Type 0 where
  pub commands : script.commands ≡ []
  pub ending : script.ending ≡ None

-- `stack` is a disk that holds `image`, under the layers of `disk`. The image is as large as the
-- disk. Each layer is loaded at time 0, and wasn't called yet.
pub record IsStackWithImage (disk : Disk) (image : List ℕ) (stack : Stack) : Type 0 where
  pub size : length image / 512 ≡ disk.sectors
  pub holds : PastBegins disk.sectors (sector_of image) (shown_of (disk_of stack))
  pub layers : layers_of stack ≡ layers_under disk.layers 0 []
  pub over : AreOver disk.layers (shown_of (disk_of stack)) (stack_shown stack)

-- `server` is as a session begins: the data disk holds `first`, and the log is new and empty, each
-- under the layers that the script names.
pub record Begun (script : ScriptValue) (first : List ℕ) (server : DiskServer) : Type 0 where
  pub data_disk : IsStackWithImage script.data_disk first server.disk
  pub log_disk : IsNew (bytes_of script.log_size) script.log_disk server.recorder

-- A client that disconnected sent `taken`, and `out` was sent back. Its requests change the server
-- from `begun` to `last`, and the close of recording leaves `ended`.
pub record IsHeard (taken out : List ℕ) (begun ended : DiskServer) : Type 0 where
  pub last : DiskServer
  pub played : SessionIsPlayed taken out begun last
  pub now : ℕ
  pub closed : EndsLog now last ended

-- What is reported of a session that left the server `server`: how it ended, the log's status, and
-- the lies of the layers.
pub record Reports (server : DiskServer) (how : Result Ending Refusal)
    (served : ServedSession) : Type 0 where
  pub end : served.end ≡ how
  pub counted : IsCounted served.status server.recorder
  pub data_lies : served.lies.data_disk ≡ (stack_shown server.disk).lies
  pub log_lies : served.lies.log_disk ≡ (stack_shown server.recorder.store.device).lies
  -- unless a layer of the log lied, the status is that of a log of the placed entries
  pub tells : served.lies.log_disk ≡ 0
      → served.status ≡ status_of (core_of server.recorder).sector_bytes
      (store_entries (store_of server.recorder.store)) server.recorder.end

-- What a session of `script` leaves that began with the server `begun`: the image `image` of the
-- log's disk, and what is reported of it. From its beginning to its end the server changed only as
-- its own calls change it. So what `ServerFrame` says of a crash holds of the whole session.
pub record Leaves (script : ScriptValue) (begun : DiskServer) (served : ServedSession) (image : List ℕ)
    (heard_from heard_to said_from said_to : Option (List ℕ)) : Type 0 where
  pub ended : DiskServer
  pub goes : ServerFrame begun ended
  pub left : image ≡ image_of (disk_of ended.recorder.store.device)
  pub reported : Reports ended served.end served
  -- the log's sectors have the size that the script names
  pub sector_bytes : (core_of ended.recorder).sector_bytes ≡ bytes_of script.log_size
  -- if no layer of the log may drop writes, no layer of the log lied
  pub honest : some_drops script.log_disk.layers ≡ false → served.lies.log_disk ≡ 0
  -- unless a layer of the log lied, `image` has a log, seen through the layers. It is a prefix of
  -- the completion list of the recorder's events. It has all entries that were settled, and all
  -- that were acknowledged. Each prefix of it replays to what the recorded device could hold
  pub beginning : served.lies.log_disk ≡ 0 →
      ReplaysToPossible (recorder_view ended.recorder) (recorder_view ended.recorder)
      (seen_on script.log_disk image)
  -- if recording was closed and logging didn't end, the log is the whole completion list
  pub whole : served.lies.log_disk ≡ 0 → (how : Ending) → served.end ≡ Ok how
      → served.status.end ≡ None →
      IsLogOf (top_of script.log_disk) (seen_on script.log_disk image) (bytes_of script.log_size)
      (listed_entries (core_of ended.recorder))
  -- however the session ended, recording was closed at last, unless this was refused
  pub closed : IfOk served.end (λ how. (now : ℕ) × (last : DiskServer) × ServerFrame begun last
      × EndsLog now last ended)
  -- If the client disconnected, its bytes are those of a session. What the session asks for was
  -- done, and then recording was closed.
  pub heard : served.end ≡ Ok Disconnected → (taken out : List ℕ)
      × Consumes heard_from heard_to taken × Appends said_from said_to out
      × IsHeard taken out begun ended
  -- If the session broke off, what was asked for up to there was done. Then recording was closed.
  pub broken : (why : SessionEnd) → served.end ≡ Ok (BrokeOff why) → (now : ℕ)
      × (last : DiskServer) × IsBroken heard_from said_from begun last × EndsLog now last ended

-- A session over the head `text` and the first content `first` left the image `image` of the log's
-- disk.
pub record LeavesImage (text first : List ℕ) (served : ServedSession) (image : List ℕ)
    (heard_from heard_to said_from said_to : Option (List ℕ)) : Type 0 where
  pub script : ScriptValue
  pub spelled : IsTextOf text script
  pub head : IsOnlyHead script
  pub begun : DiskServer
  pub begins : Begun script first begun
  pub leaves : Leaves script begun served image heard_from heard_to said_from said_to

-- A session over the files of the head and of the first content ended, and then the write of the file
-- `log` was asked for, with the image that the session left of the log's disk. `before` and `after`
-- are the writes of files that were asked for.
pub record EndsInWrite (head first : Option (List ℕ)) (log : List ℕ)
    (before after : Option (List Write)) (served : ServedSession)
    (heard_from heard_to said_from said_to : Option (List ℕ)) : Type 0 where
  pub text : List ℕ
  pub content : List ℕ
  pub image : List ℕ
  pub spelled : MatchesContents head text
  pub held : MatchesContents first content
  pub leaves : LeavesImage text content served image heard_from heard_to said_from said_to
  pub asked : after ≡ with_write before log image

-- Why no server can be made of a script's head and a first content.
pub data FailsStart (script : ScriptValue) (image : List ℕ) : RunError → Type 0 where
  -- memory ran out
  short : FailsStart script image memory_error
  -- the image isn't as large as the data disk
  other_size : length image / 512 ≢ script.data_disk.sectors
      → FailsStart script image (refused_by refusals.File)
  -- no log could be made
  unmade : (fault : RunError) → length image / 512 ≡ script.data_disk.sectors
      → IsUnmade (bytes_of script.log_size) script.log_disk fault → FailsStart script image fault

-- Why `serve` fails before its session, where the files of the head, of the first content and of the
-- log hold what is given.
pub data FailsServing (text first log : Option (List ℕ)) : RunError → Type 0 where
  -- the log is the file of the head or of the first content, so both hold the same
  same_file : (text ≡ log) ⊎ (first ≡ log) → FailsServing text first log (refused_by refusals.File)
  -- the file of the head can't be read as a text, or memory ran out for it
  unread_head : (fault : RunError) → IsFileError fault
      → (FileIsWithin 4194304 text → fault ≡ memory_error) → FailsServing text first log fault
  -- the head's text isn't a script's
  script : (head : List ℕ) (fault : Fault) → MatchesContents text head
      → IsFaultOf head fault fault.line → FailsServing text first log (Refused fault)
  -- the script has a line after its head. The fault is at the first such line
  longer : (head : List ℕ) (script : ScriptValue) (line : ℕ) → MatchesContents text head
      → IsTextOf head script → IsLineOf (lines_of head) script 0 line
      → FailsServing text first log
      (Refused (record { line = Some line; refusal = refusals.BadLine }))
  -- the file of the first content can't be read as an image, or memory ran out for it
  unread_first : (fault : RunError) → IsFileError fault
      → (FileHoldsImage first → fault ≡ memory_error) → FailsServing text first log fault
  -- no server can be made of both
  unstarted : (head image : List ℕ) (script : ScriptValue) (fault : RunError)
      → MatchesContents text head → MatchesContents first image → IsTextOf head script
      → IsOnlyHead script → FailsStart script image fault → FailsServing text first log fault
