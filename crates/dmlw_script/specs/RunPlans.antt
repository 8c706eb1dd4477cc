-- The value of a run's script, which doesn't depend on any text, and the meanings of its lines.
use Rattle.std.specs.Prelude.{◌≡◌, ℕ, ◌<◌, ◌≤◌, ◌/◌, List, ◌∷◌, ◌++◌, Result, Ok, map, true}
use Rattle.std.specs.List.{AllByRecursion}
use Rattle.bio.specs.declared.request.BadBio.{BadBio}
use Rattle.bio.specs.declared.request.SectorSize.{SectorSize}
use Rattle.bio.specs.Requests.{bytes_of}
use Rattle.dmlw_script.specs.declared.command.DiskName.TheVariants as disks
use Rattle.dmlw_script.specs.declared.line.HeadLine.TheVariants as head_lines
use Rattle.dmlw_script.specs.declared.run_line.RunCall.{RunCall}
use Rattle.dmlw_script.specs.declared.run_line.RunCall.TheVariants.{Submit, Mark}
use Rattle.dmlw_script.specs.declared.run_line.SeatCall.{SeatCall}
use Rattle.dmlw_script.specs.declared.run_line.RunLine.{RunLine}
use Rattle.dmlw_script.specs.declared.run_line.RunLine.TheVariants.{Head, Seats, Body}
use Rattle.dmlw_script.specs.Words.{is_line_text}
use Rattle.dmlw_script.specs.Plans.{submission_answer, top_of, Disk, IsDisk, WritesByte}
use Rattle.layer_table.specs.declared.layer_spec.LayerSpec.{LayerSpec}

-- The value of a run's script. `log_size` is the size of the log's sectors, and `seats` the number
-- of seats. `calls` are the calls of the seats, in the order of the lines.
pub record RunPlan : Type 0 where
  pub data_disk : Disk
  pub log_disk : Disk
  pub log_size : SectorSize
  pub seats : ℕ
  pub calls : List SeatCall

-- The result of the test of the sectors that a call covers. The log's sectors have `bytes` bytes,
-- and the data disk's top has `sectors` sectors. A mark always passes.
abbrev pub call_answer : (bytes sectors : ℕ) → RunCall → Result (Unit {0}) BadBio
call_answer bytes sectors (Submit submission) = submission_answer bytes sectors submission
call_answer bytes sectors (Mark text) = Ok tt

-- the values of a call fit in a line: a write writes a byte, and the text of a mark may be in a
-- line
abbrev pub FitsLine : RunCall → Type 0
FitsLine (Submit submission) = WritesByte submission
FitsLine (Mark text) = is_line_text text ≡ true

-- The line may be in a body with `seats` seats, with `bytes` and `sectors` as in `call_answer`. Its
-- seat is below `seats`, its call's sectors pass their test, and the call's values fit in a line.
pub record IsAllowed (bytes sectors seats : ℕ) (line : SeatCall) : Type 0 where
  pub seat : line.seat < seats
  pub tested : call_answer bytes sectors line.call ≡ Ok tt
  pub spelled : FitsLine line.call

-- The value is a run's script. Its disks may be in a script, and the top of the log disk has room
-- for one of the log's sectors. There are 1 to 64 seats, and each line of the body is allowed
-- (`IsAllowed`).
pub record IsRunPlan (plan : RunPlan) : Type 0 where
  pub data_disk : IsDisk plan.data_disk
  pub log_disk : IsDisk plan.log_disk
  pub room : bytes_of plan.log_size / 512 ≤ top_of plan.log_disk
  pub some_seat : 1 ≤ plan.seats
  pub few_seats : plan.seats ≤ 64
  pub calls : AllByRecursion
      (IsAllowed (bytes_of plan.log_size) (top_of plan.data_disk) plan.seats) plan.calls

-- the meaning of the line of a layer over the data disk
abbrev pub data_layer : LayerSpec → RunLine
data_layer spec = Head (head_lines.Layer disks.Data (Ok spec))

-- the meaning of the line of a layer over the log disk
abbrev pub log_layer : LayerSpec → RunLine
log_layer spec = Head (head_lines.Layer disks.Log (Ok spec))

-- The meanings of the lines of a run's head, in their order: the data disk, the log disk, and the
-- number of seats. Then come the layers of the data disk, and then those of the log disk.
abbrev pub run_head : RunPlan → List RunLine
run_head plan =
    Head (head_lines.Data plan.data_disk.sectors) ∷ Head
    (head_lines.Log plan.log_disk.sectors plan.log_size) ∷ Seats plan.seats
    ∷ (map data_layer plan.data_disk.layers ++ map log_layer plan.log_disk.layers)

-- the meanings of all lines of a run's script, in their order
abbrev pub lines_of_run : RunPlan → List RunLine
lines_of_run plan = run_head plan ++ map Body plan.calls
