-- The value of a recorder's script, which doesn't depend on any text, and the meanings of its
-- lines.
use Rattle.std.specs.Prelude.{◌≡◌, ℕ, ◌+◌, ◌/◌, ◌^◌, ◌<◌, ◌≤◌, ◌==◌, nat_le, Bool, true, false}
use Rattle.std.specs.Prelude.{◌&&◌, List, [], ◌∷◌, ◌++◌, Option, Some, None, is_some, Result, Ok}
use Rattle.std.specs.Prelude.{length, map, position, slice_index_or, count_by, if◌then◌else◌}
use Rattle.std.specs.List.{list_any, AllByRecursion, IsDistinct}
use Rattle.bio.specs.Requests.{bytes_of, check_sized_answer}
use Rattle.bio.specs.declared.request.BadBio.{BadBio}
use Rattle.bio.specs.declared.request.Bio.TheVariants.{Read}
use Rattle.bio.specs.declared.request.SectorSize.{SectorSize}
use Rattle.dmlw_script.specs.declared.command.Command.{Command}
use Rattle.dmlw_script.specs.declared.command.Command.TheVariants as commands
use Rattle.dmlw_script.specs.declared.command.Submission.{Submission}
use Rattle.dmlw_script.specs.declared.command.Submission.TheVariants as submits
use Rattle.dmlw_script.specs.declared.command.Step.{Step}
use Rattle.dmlw_script.specs.declared.command.Step.TheVariants as steps
use Rattle.dmlw_script.specs.declared.command.DiskName.{DiskName}
use Rattle.dmlw_script.specs.declared.command.DiskName.TheVariants as disks
use Rattle.dmlw_script.specs.declared.script_id.ScriptId.{ScriptId}
use Rattle.dmlw_script.specs.LineMeaning.{LineMeaning}
use Rattle.dmlw_script.specs.LineMeaning as parsed_lines
use Rattle.dmlw_script.specs.declared.line.HeadLine.TheVariants as head_lines
use Rattle.dmlw_script.specs.declared.line.BodyLine.{BodyLine}
use Rattle.dmlw_script.specs.declared.line.BodyLine.TheVariants as body_lines
use Rattle.dmlw_script.specs.Words.{is_line_text, is_id, script_id, same_name}
use Rattle.layer_table.specs.Layers.{top_sectors, LayersAreAllowed}
use Rattle.layer_table.specs.declared.layer_spec.LayerSpec.{LayerSpec}

-- a disk of a script: its number of sectors, and the layers over it, the lowest first
pub record Disk : Type 0 where
  pub sectors : ℕ
  pub layers : List LayerSpec

-- The value of a recorder's script. `log_size` is the size of the log's sectors. `names` are the
-- ids of the requests, in the order of the submissions. `commands` are the lines of the body.
-- `ending` has the picks of the crash of the log disk that ends the script, if one does.
pub record ScriptValue : Type 0 where
  pub data_disk : Disk
  pub log_disk : Disk
  pub log_size : SectorSize
  pub names : List ScriptId
  pub commands : List Command
  pub ending : Option (List ℕ)

-- a disk may have `sectors` sectors: 1 to 1,048,576
abbrev pub is_disk_size : ℕ → Bool
is_disk_size sectors = nat_le 1 sectors && nat_le sectors 1048576

-- a log disk may have `sectors` sectors, if the log's sectors have `bytes` bytes: the disk has room
-- for one of the log's sectors
abbrev pub is_log_disk_size : ℕ → ℕ → Bool
is_log_disk_size bytes sectors = is_disk_size sectors && nat_le (bytes / 512) sectors

-- The least number of sectors of a layer over a disk. Over the data disk it is 1; over the log disk
-- the layer must hold one of the log's sectors.
abbrev pub least_sectors : DiskName → SectorSize → ℕ
least_sectors disks.Data size = 1
least_sectors disks.Log size = bytes_of size / 512

-- the number of sectors at the top of a disk: those of its uppermost layer, or its own if it has no
-- layers
abbrev pub top_of : Disk → ℕ
top_of disk = top_sectors disk.sectors disk.layers

-- the layer is within the device below it, which has `sectors` sectors
abbrev pub layer_is_within : LayerSpec → ℕ → Bool
layer_is_within layer sectors = nat_le (layer.offset + layer.length) sectors

-- The disk may be in a script. It has an allowed size and at most four layers. A table line can ask
-- for each layer, and each is within the device below it.
pub record IsDisk (disk : Disk) : Type 0 where
  pub size : is_disk_size disk.sectors ≡ true
  pub few : length disk.layers ≤ 4
  pub stand : LayersAreAllowed disk.sectors disk.layers

-- the disk with this name
abbrev pub named_disk : DiskName → ScriptValue → Disk
named_disk disks.Data plan = plan.data_disk
named_disk disks.Log plan = plan.log_disk

-- the number of the request with the id `name`, if there is one: the index of `name` in `names`
abbrev pub request_of : ScriptId → List ScriptId → Option ℕ
request_of name names = position (same_name name) names

-- the stored id is that of a word that is an id
abbrev pub IsName : ScriptId → Type 0
IsName name = (word : List ℕ) × (is_id word ≡ true) × (name ≡ script_id word)

-- the command submits a request
abbrev pub is_submission : Command → Bool
is_submission (commands.Submit submission) = true
is_submission (commands.Complete request) = false
is_submission (commands.Step step) = false

-- the number of submissions in these commands
abbrev pub submissions : List Command → ℕ
submissions body = count_by is_submission body

-- the command ends the request with the number `request`
abbrev pub ends_request : ℕ → Command → Bool
ends_request request (commands.Submit submission) = false
ends_request request (commands.Complete ended) = ended == request
ends_request request (commands.Step step) = false

-- one of these commands ends the request with the number `request`
abbrev pub is_ended : ℕ → List Command → Bool
is_ended request body = list_any (ends_request request) body

-- The result of the test of `count` sectors from sector `first` on, as for a read of them. The
-- log's sectors have `bytes` bytes, and the data disk's top has `sectors` sectors.
abbrev pub range_test : (bytes sectors first count : ℕ) → Result (Unit {0}) BadBio
range_test bytes sectors first count = check_sized_answer bytes (Read first count) sectors

-- The result of the test of the sectors that a submission covers, with `bytes` and `sectors` as in
-- `range_test`. A flush always passes.
abbrev pub submission_answer : (bytes sectors : ℕ) → Submission → Result (Unit {0}) BadBio
submission_answer bytes sectors (submits.Write first count byte options) =
    range_test bytes sectors first count
submission_answer bytes sectors submits.Flush = Ok tt
submission_answer bytes sectors (submits.Discard first count) = range_test bytes sectors first count

-- The result of the test of the sectors that a step covers, with `bytes` and `sectors` as in
-- `range_test`. Only a read covers sectors; any other step passes.
abbrev pub step_answer : (bytes sectors : ℕ) → Step → Result (Unit {0}) BadBio
step_answer bytes sectors (steps.Read first count) = range_test bytes sectors first count
step_answer bytes sectors step = Ok tt

-- if the submission is a write, its value is a byte
abbrev pub WritesByte : Submission → Type 0
WritesByte (submits.Write first count byte options) = byte < 256
WritesByte submission = Unit {0}

-- The values of a step fit in a line. The text of a mark or of a message may be in a line. A time
-- and the number of a message's layer are below 2^64.
abbrev pub HasLineText : Step → Type 0
HasLineText (steps.Mark text) = is_line_text text ≡ true
HasLineText (steps.At time) = time < 2 ^ 64
HasLineText (steps.Message over layer text) = (layer < 2 ^ 64) × (is_line_text text ≡ true)
HasLineText step = Unit {0}

-- the time after a step, if the time before it is `time`
abbrev pub time_at_step : ℕ → Step → ℕ
time_at_step time (steps.At later) = later
time_at_step time step = time

-- the time after a command, if the time before it is `time`
abbrev pub time_at : ℕ → Command → ℕ
time_at time (commands.Submit submission) = time
time_at time (commands.Complete request) = time
time_at time (commands.Step step) = time_at_step time step

-- the time after these commands, if the time before them is `time`
abbrev pub time_from : ℕ → List Command → ℕ
time_from time [] = time
time_from time (command ∷ body) = time_from (time_at time command) body

-- the time after these commands: the time of the last `at`, or 0 if there is none
abbrev pub time_after : List Command → ℕ
time_after body = time_from 0 body

-- if the step is an `at`, its time is at least `time`, the time before it
abbrev pub IsInTime : ℕ → Step → Type 0
IsInTime time (steps.At later) = time ≤ later
IsInTime time step = Unit {0}

-- The command may follow the commands `before`, with `bytes` and `sectors` as in `range_test`. A
-- submission's sectors pass their test, and a write writes a byte. An end is the end of a request
-- that was submitted and hasn't ended. A step's sectors pass their test, its values fit in a line,
-- and it doesn't decrease the time.
abbrev pub CanFollow : (bytes sectors : ℕ) → List Command → Command → Type 0
CanFollow bytes sectors before (commands.Submit submission) =
    (submission_answer bytes sectors submission ≡ Ok tt) × WritesByte submission
CanFollow bytes sectors before (commands.Complete request) =
    (request < submissions before) × (is_ended request before ≡ false)
CanFollow bytes sectors before (commands.Step step) =
    (step_answer bytes sectors step ≡ Ok tt) × HasLineText step
    × IsInTime (time_after before) step

-- each command may follow `before` and the commands between `before` and it
abbrev pub IsWellFormed : (bytes sectors : ℕ) → List Command → List Command → Type 0
IsWellFormed bytes sectors before [] = Unit {0}
IsWellFormed bytes sectors before (command ∷ body) =
    CanFollow bytes sectors before command
    × IsWellFormed bytes sectors (before ++ command ∷ []) body

-- if a crash ends the script, each of its picks is below 2^64
abbrev pub ArePicks : Option (List ℕ) → Type 0
ArePicks None = Unit {0}
ArePicks (Some picks) = AllByRecursion (λ pick. pick < 2 ^ 64) picks

-- The value is a script. Its disks may be in a script, and the top of the log disk has room for one
-- of the log's sectors. Each of its ids is an id, no two are the same, and there is one for each
-- submission. Each command may follow those before it, on the top of the data disk. Each pick of
-- its crash is below 2^64.
pub record IsPlan (plan : ScriptValue) : Type 0 where
  pub data_disk : IsDisk plan.data_disk
  pub log_disk : IsDisk plan.log_disk
  pub room : bytes_of plan.log_size / 512 ≤ top_of plan.log_disk
  pub ids : AllByRecursion IsName plan.names
  pub distinct : IsDistinct same_name plan.names
  pub numbered : length plan.names ≡ submissions plan.commands
  pub well_formed : IsWellFormed (bytes_of plan.log_size) (top_of plan.data_disk) [] plan.commands
  pub picks : ArePicks plan.ending

-- the id of the request with the number `request`; an empty id if there is none
abbrev pub name_at : List ScriptId → ℕ → ScriptId
name_at names request = slice_index_or names request (script_id [])

-- The number of the request that the command submits or ends is below `requests`. `before` requests
-- were submitted before the command.
abbrev pub HasName : ℕ → ℕ → Command → Type 0
HasName requests before (commands.Submit submission) = before < requests
HasName requests before (commands.Complete request) = request < requests
HasName requests before (commands.Step step) = Unit {0}

-- the meaning of a command's line, if `before` requests were submitted before the command
abbrev pub line_at : List ScriptId → ℕ → Command → BodyLine
line_at names before (commands.Submit submission) =
    body_lines.Submit (name_at names before) submission
line_at names before (commands.Complete request) = body_lines.Complete (name_at names request)
line_at names before (commands.Step step) = body_lines.Step step

-- the number of requests submitted before the next command, if `before` were submitted before this
-- command
abbrev pub count_after_command : ℕ → Command → ℕ
count_after_command before (commands.Submit submission) = before + 1
count_after_command before (commands.Complete request) = before
count_after_command before (commands.Step step) = before

-- the meanings of the lines of a body, if `before` requests were submitted before it
abbrev pub lines_of_body : List ScriptId → ℕ → List Command → List LineMeaning
lines_of_body names before [] = []
lines_of_body names before (command ∷ body) =
    parsed_lines.Body (line_at names before command) ∷ lines_of_body names
    (count_after_command before command) body

-- `lines`, and after them the crash that ends the script, if one does
abbrev pub with_ending : Option (List ℕ) → List LineMeaning → List LineMeaning
with_ending None lines = lines
with_ending (Some picks) lines = lines ++ parsed_lines.Crash picks ∷ []

-- the meanings of a script's lines after its head, in their order
abbrev pub lines_after_head : ScriptValue → List LineMeaning
lines_after_head plan = with_ending plan.ending (lines_of_body plan.names 0 plan.commands)

-- the number of lines after the head: one for each command, and one for the crash, if there is one
abbrev pub count_after_head : ScriptValue → ℕ
count_after_head plan = length plan.commands + (if is_some plan.ending then 1 else 0)

-- the meaning of the line of the layer `spec` over a disk
abbrev pub layer_line : DiskName → LayerSpec → LineMeaning
layer_line over spec = parsed_lines.Head (head_lines.Layer over (Ok spec))

-- the meaning of the line of a data disk of `sectors` sectors
abbrev pub data_line : ℕ → LineMeaning
data_line sectors = parsed_lines.Head (head_lines.Data sectors)

-- the meaning of the line of a log disk of `sectors` sectors, with log sectors of this size
abbrev pub log_line : ℕ → SectorSize → LineMeaning
log_line sectors size = parsed_lines.Head (head_lines.Log sectors size)

-- The meanings of the lines of a head, in their order: the line of the data disk, then that of the
-- log disk. Then come the layers of the data disk, and then those of the log disk.
abbrev pub head_of : Disk → Disk → SectorSize → List LineMeaning
head_of data_disk log_disk log_size =
    data_line data_disk.sectors ∷ log_line log_disk.sectors log_size
    ∷ (map (layer_line disks.Data) data_disk.layers ++ map (layer_line disks.Log) log_disk.layers)

-- the number of lines of a script's head: one for each disk, and one for each layer
abbrev pub head_count : ScriptValue → ℕ
head_count plan = 2 + length plan.data_disk.layers + length plan.log_disk.layers

-- the meanings of all lines of a script, in their order
abbrev pub lines_of_script : ScriptValue → List LineMeaning
lines_of_script plan = head_of plan.data_disk plan.log_disk plan.log_size ++ lines_after_head plan
