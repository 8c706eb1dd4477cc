-- The fault of a text that is no run's script: the first line at fault, and the refusal.
use Rattle.std.specs.Prelude.{◌≡◌, ℕ, ◌<◌, ◌≤◌, List, [], Option, None}
use Rattle.std.specs.Prelude.{Ok, length, true}
use Rattle.bio.specs.Requests.{bytes_of}
use Rattle.refusals.specs.declared.run_error.Fault.{Fault}
use Rattle.refusals.specs.declared.refusal.Refusal.{Refusal}
use Rattle.dmlw_script.specs.declared.command.DiskName.{DiskName}
use Rattle.dmlw_script.specs.declared.command.DiskName.TheVariants as disks
use Rattle.dmlw_script.specs.declared.line.HeadLine.TheVariants as head_lines
use Rattle.dmlw_script.specs.Words.{lines_of}
use Rattle.dmlw_script.specs.Plans.{is_disk_size, is_log_disk_size}
use Rattle.dmlw_script.specs.Plans.{top_of, Disk}
use Rattle.dmlw_script.specs.FirstFault.{bare, head_refusal, test_refusal, with_layer}
use Rattle.dmlw_script.specs.Grammar.{of_run}
use Rattle.dmlw_script.specs.Language.{after_all, IsFault, IsFirst, LineOrder}
use Rattle.dmlw_script.specs.RunPlans.{call_answer, RunPlan}
use Rattle.dmlw_script.specs.declared.run_line.RunLine.{RunLine}
use Rattle.dmlw_script.specs.declared.run_line.RunLine.TheVariants as run_lines

-- How much of a run's script was read, as far as the next line depends on it. `data_due`: nothing.
-- `log_due`: the line of the data disk. `seats_due`: the lines of both disks. `in_head`: also the
-- number of seats, and any layers. `in_body`: the head with this many seats, and at least one line
-- of the body. `at_end`: no line may follow.
pub data RunPrefix : Type 0 where
  data_due : RunPrefix
  log_due : Disk → RunPrefix
  seats_due : Disk → Disk → RunPrefix
  in_head : Disk → Disk → ℕ → RunPrefix
  in_body : ℕ → RunPrefix
  at_end : RunPrefix

-- How much was read after one more line with this meaning. The result is `at_end` after a line that
-- asks for no layer, and after a kind of line that can't follow.
abbrev pub next : RunPrefix → RunLine → RunPrefix
next data_due (run_lines.Head (head_lines.Data sectors)) = log_due (bare sectors)
next (log_due data_disk) (run_lines.Head (head_lines.Log sectors size)) =
    seats_due data_disk (bare sectors)
next (seats_due data_disk log_disk) (run_lines.Seats count) = in_head data_disk log_disk count
next (in_head data_disk log_disk count) (run_lines.Head (head_lines.Layer disks.Data (Ok spec))) =
    in_head (with_layer data_disk spec) log_disk count
next (in_head data_disk log_disk count) (run_lines.Head (head_lines.Layer disks.Log (Ok spec))) =
    in_head data_disk (with_layer log_disk spec) count
next (in_head data_disk log_disk count) (run_lines.Body said) = in_body count
next (in_body count) (run_lines.Body said) = in_body count
next _ _ = at_end

-- A line with this meaning may follow, as far as its own words decide. First come the data disk and
-- the log disk, each of an allowed size; the log disk has room for one log sector. Then comes the
-- number of seats, 1 to 64. Then come up to four layers of the data disk, then up to four of the
-- log disk. Then comes the body, whose lines name seats below the number of seats.
abbrev pub MayFollowInRun : RunPrefix → RunLine → Type 0
MayFollowInRun data_due (run_lines.Head (head_lines.Data sectors)) = is_disk_size sectors ≡ true
MayFollowInRun (log_due data_disk) (run_lines.Head (head_lines.Log sectors size)) =
    is_log_disk_size (bytes_of size) sectors ≡ true
MayFollowInRun (seats_due data_disk log_disk) (run_lines.Seats count) = (1 ≤ count) × (count ≤ 64)
MayFollowInRun (in_head data_disk log_disk count)
    (run_lines.Head (head_lines.Layer disks.Data asked)) = (length data_disk.layers < 4)
    × (log_disk.layers ≡ [])
MayFollowInRun (in_head data_disk log_disk count)
    (run_lines.Head (head_lines.Layer disks.Log asked)) = length log_disk.layers < 4
MayFollowInRun (in_head data_disk log_disk count) (run_lines.Body said) = said.seat < count
MayFollowInRun (in_body count) (run_lines.Body said) = said.seat < count
MayFollowInRun _ _ = ⊥

-- the disk with this name
abbrev pub run_disk : DiskName → RunPlan → Disk
run_disk disks.Data plan = plan.data_disk
run_disk disks.Log plan = plan.log_disk

-- The refusal of a line after the lines of `plan`, if there is one. A layer's line is refused by
-- `head_refusal`. A call is refused if its sectors don't pass their test.
abbrev pub line_refusal : RunPlan → RunLine → Option Refusal
line_refusal plan (run_lines.Head line) =
    head_refusal (λ over. run_disk over plan) plan.log_size line
line_refusal plan (run_lines.Seats count) = None
line_refusal plan (run_lines.Body said) =
    test_refusal (call_answer (bytes_of plan.log_size) (top_of plan.data_disk) said.call)

-- how much was read, starting from `prefix`, after lines with these meanings
abbrev pub prefix_after : RunPrefix → List RunLine → RunPrefix
prefix_after prefix more = after_all next prefix more

-- the order of the lines of a run's script, and their refusals
abbrev pub run_order : LineOrder RunLine RunPlan RunPrefix
run_order = record {
  start = data_due;
  next = next;
  MayFollow = MayFollowInRun;
  refusal = line_refusal;
}

-- the line with this number is the first at fault, and `refusal` is why (`IsFirst`)
abbrev pub IsFirstRunFault : List (List ℕ) → ℕ → Refusal → Type 0
IsFirstRunFault lines line refusal = IsFirst of_run run_order lines line refusal

-- A fault that names a line names the first line at fault. A fault that names no line reports that
-- memory ran out.
abbrev pub IsRunFaultAt : List ℕ → Fault → Option ℕ → Type 0
IsRunFaultAt text fault line = IsFault of_run run_order (lines_of text) fault line
