-- The fault of a text that is no recorder's script: the first line at fault, and the refusal.
use Rattle.std.specs.Prelude.{◌≡◌, ℕ, ◌<◌, Bool, true, false, not, List, [], ◌∷◌, ◌++◌, Option}
use Rattle.std.specs.Prelude.{Some, None, Err, Result, Ok, length, nat_le, if◌then◌else◌}
use Rattle.std.specs.List.{list_any}
use Rattle.bio.specs.Refusals.{bad_bio_refusal}
use Rattle.bio.specs.Requests.{bytes_of}
use Rattle.refusals.specs.declared.refusal.Refusal.{Refusal}
use Rattle.refusals.specs.declared.refusal.Refusal.TheVariants.{BadLine, BadId, OutOfRange}
use Rattle.bio.specs.declared.request.BadBio.{BadBio}
use Rattle.refusals.specs.declared.run_error.Fault.{Fault}
use Rattle.bio.specs.declared.request.SectorSize.{SectorSize}
use Rattle.dmlw_script.specs.declared.command.DiskName.{DiskName}
use Rattle.dmlw_script.specs.declared.command.DiskName.TheVariants as disks
use Rattle.dmlw_script.specs.LineMeaning.{LineMeaning}
use Rattle.dmlw_script.specs.LineMeaning as parsed_lines
use Rattle.dmlw_script.specs.declared.line.HeadLine.{HeadLine}
use Rattle.dmlw_script.specs.declared.line.HeadLine.TheVariants as head_lines
use Rattle.dmlw_script.specs.declared.line.BodyLine.{BodyLine}
use Rattle.dmlw_script.specs.declared.line.BodyLine.TheVariants as body_lines
use Rattle.dmlw_script.specs.Grammar.{of_recorder}
use Rattle.dmlw_script.specs.Language.{after_all, IsFault, IsFirst, LineOrder}
use Rattle.dmlw_script.specs.Words.{same_name, lines_of}
use Rattle.dmlw_script.specs.Plans.{named_disk, is_disk_size, is_ended, is_log_disk_size, layer_is_within}
use Rattle.dmlw_script.specs.Plans.{least_sectors, time_at_step, request_of, step_answer}
use Rattle.dmlw_script.specs.Plans.{submission_answer, top_of, Disk, IsInTime, ScriptValue}
use Rattle.layer_table.specs.declared.layer_spec.LayerSpec.{LayerSpec}
use Rattle.layer_table.specs.TableLines.{table_refusal}

-- How much of a script was read, as far as the next line depends on it. `data_due`: nothing.
-- `log_due`: the line of the data disk. `in_head`: the lines of both disks, and any layers.
-- `in_body`: the head and at least one line of the body, at this time. `at_end`: no line may
-- follow.
pub data Prefix : Type 0 where
  data_due : Prefix
  log_due : Disk → Prefix
  in_head : Disk → Disk → Prefix
  in_body : Disk → Disk → ℕ → Prefix
  at_end : Prefix

-- the disk of `sectors` sectors with no layers
abbrev pub bare : ℕ → Disk
bare sectors = record { sectors = sectors; layers = [] }

-- the disk with the layer `spec` on top
abbrev pub with_layer : Disk → LayerSpec → Disk
with_layer disk spec = record disk { layers = disk.layers ++ spec ∷ [] }

-- the time after a line of the body, if the time before it is `time`
abbrev pub time_at_line : ℕ → BodyLine → ℕ
time_at_line time (body_lines.Submit name submission) = time
time_at_line time (body_lines.Complete name) = time
time_at_line time (body_lines.Step step) = time_at_step time step

-- How much was read after one more line with this meaning. The result is `at_end` after a crash,
-- after a line that asks for no layer, and after a kind of line that can't follow.
abbrev pub next : Prefix → LineMeaning → Prefix
next data_due (parsed_lines.Head (head_lines.Data sectors)) = log_due (bare sectors)
next (log_due data_disk) (parsed_lines.Head (head_lines.Log sectors size)) =
    in_head data_disk (bare sectors)
next (in_head data_disk log_disk) (parsed_lines.Head (head_lines.Layer disks.Data (Ok spec))) =
    in_head (with_layer data_disk spec) log_disk
next (in_head data_disk log_disk) (parsed_lines.Head (head_lines.Layer disks.Log (Ok spec))) =
    in_head data_disk (with_layer log_disk spec)
next (in_head data_disk log_disk) (parsed_lines.Body line) =
    in_body data_disk log_disk (time_at_line 0 line)
next (in_body data_disk log_disk time) (parsed_lines.Body line) =
    in_body data_disk log_disk (time_at_line time line)
next _ _ = at_end

-- if the line of the body sets the time, the new time is at least `time`
abbrev pub ComesInTime : ℕ → BodyLine → Type 0
ComesInTime time (body_lines.Submit name submission) = Unit {0}
ComesInTime time (body_lines.Complete name) = Unit {0}
ComesInTime time (body_lines.Step step) = IsInTime time step

-- A line with this meaning may follow, as far as its own words decide. First come the data disk and
-- the log disk, each of an allowed size; the log disk has room for one log sector. Then come up to
-- four layers of the data disk, then up to four of the log disk. Then comes the body, in which the
-- time never decreases. A crash may follow the head or the body, and nothing may follow a crash.
abbrev pub MayFollowInScript : Prefix → LineMeaning → Type 0
MayFollowInScript data_due (parsed_lines.Head (head_lines.Data sectors)) = is_disk_size sectors ≡
    true
MayFollowInScript (log_due data_disk) (parsed_lines.Head (head_lines.Log sectors size)) =
    is_log_disk_size (bytes_of size) sectors ≡ true
MayFollowInScript (in_head data_disk log_disk) (parsed_lines.Head
    (head_lines.Layer disks.Data asked)) =
    (length data_disk.layers < 4) × (log_disk.layers ≡ [])
MayFollowInScript (in_head data_disk log_disk) (parsed_lines.Head
    (head_lines.Layer disks.Log asked)) =
    length log_disk.layers < 4
MayFollowInScript (in_head data_disk log_disk) (parsed_lines.Body line) = ComesInTime 0 line
MayFollowInScript (in_head data_disk log_disk) (parsed_lines.Crash picks) = Unit {0}
MayFollowInScript (in_body data_disk log_disk time)
    (parsed_lines.Body line) = ComesInTime time line
MayFollowInScript (in_body data_disk log_disk time) (parsed_lines.Crash picks) = Unit {0}
MayFollowInScript _ _ = ⊥

-- the request was submitted (`Some`, with its number), and hasn't ended
abbrev pub is_open : Option ℕ → ScriptValue → Bool
is_open None plan = false
is_open (Some request) plan = not (is_ended request plan.commands)

-- the refusal of a test of sectors, if the test fails
abbrev pub test_refusal : Result (Unit {0}) BadBio → Option Refusal
test_refusal (Ok fine) = None
test_refusal (Err bad) = Some (bad_bio_refusal bad)

-- The refusal of a line of the body after the lines of `plan`, if there is one. `BadId`: the id of
-- a submission isn't new, or the request of an end isn't open. If the id is good, the sectors must
-- pass their test.
abbrev pub body_refusal : ScriptValue → BodyLine → Option Refusal
body_refusal plan (body_lines.Submit name submission) =
    if list_any (same_name name) plan.names then Some BadId
    else test_refusal (submission_answer (bytes_of plan.log_size)
    (top_of plan.data_disk) submission)
body_refusal plan (body_lines.Complete name) =
    if is_open (request_of name plan.names) plan then None else Some BadId
body_refusal plan (body_lines.Step step) =
    test_refusal (step_answer (bytes_of plan.log_size) (top_of plan.data_disk) step)

-- The refusal of a line of the head after the lines of a script with these disks, if there is one.
-- Only a layer's line is refused. If it asks for no layer, the refusal is the one for its table
-- line. If the layer isn't within the device below it, the refusal is `OutOfRange`. If the layer
-- has too few sectors, the refusal is `BadLine`.
abbrev pub head_refusal : (DiskName → Disk) → SectorSize → HeadLine → Option Refusal
head_refusal disk size (head_lines.Data sectors) = None
head_refusal disk size (head_lines.Log sectors log_sectors) = None
head_refusal disk size (head_lines.Layer over (Err error)) = Some (table_refusal error)
head_refusal disk size (head_lines.Layer over (Ok spec)) =
    if layer_is_within spec (top_of (disk over)) then
    (if nat_le (least_sectors over size) spec.length then None else Some BadLine)
    else Some OutOfRange

-- the refusal of a line after the lines of `plan`, if there is one
abbrev pub line_refusal : ScriptValue → LineMeaning → Option Refusal
line_refusal plan (parsed_lines.Head line) =
    head_refusal (λ over. named_disk over plan) plan.log_size line
line_refusal plan (parsed_lines.Body line) = body_refusal plan line
line_refusal plan (parsed_lines.Crash picks) = None

-- how much was read, starting from `prefix`, after lines with these meanings
abbrev pub prefix_after : Prefix → List LineMeaning → Prefix
prefix_after prefix ss = after_all next prefix ss

-- the order of the lines of a recorder's script, and their refusals
abbrev pub recorder_order : LineOrder LineMeaning ScriptValue Prefix
recorder_order = record {
  start = data_due;
  next = next;
  MayFollow = MayFollowInScript;
  refusal = line_refusal;
}

-- the line with this number is the first at fault, and `refusal` is why (`IsFirst`)
abbrev pub IsFirstFault : List (List ℕ) → ℕ → Refusal → Type 0
IsFirstFault lines line refusal = IsFirst of_recorder recorder_order lines line refusal

-- A fault that names a line names the first line at fault. A fault that names no line reports that
-- memory ran out.
abbrev pub IsFaultOf : List ℕ → Fault → Option ℕ → Type 0
IsFaultOf text fault line = IsFault of_recorder recorder_order (lines_of text) fault line
