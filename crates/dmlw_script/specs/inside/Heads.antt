-- What the readers of both kinds of scripts do with each line of a head, step by step.
use Rattle.std.specs.Prelude.{ℕ, Bool, true, false, ◌∷◌, [], List, Result, Ok, Err, length, nat_le}
use Rattle.std.specs.Prelude.{nat_lt, if◌then◌else◌}
use Rattle.bio.specs.Requests.{bytes_of}
use Rattle.bio.specs.declared.request.SectorSize.{SectorSize}
use Rattle.refusals.specs.declared.refusal.Refusal.{Refusal}
use Rattle.refusals.specs.declared.refusal.Refusal.TheVariants.{BadLine, OutOfRange}
use Rattle.layer_table.specs.declared.layer_spec.LayerSpec.{LayerSpec}
use Rattle.layer_table.specs.declared.table_error.TableError.{TableError}
use Rattle.layer_table.specs.TableLines.{table_refusal}
use Rattle.dmlw_script.specs.declared.command.DiskName.{DiskName}
use Rattle.dmlw_script.specs.declared.command.DiskName.TheVariants as disks
use Rattle.dmlw_script.specs.declared.head.Head.{Head}
use Rattle.dmlw_script.specs.declared.head.HeadPart.{HeadPart}
use Rattle.dmlw_script.specs.declared.head.HeadPart.TheVariants as parts
use Rattle.dmlw_script.specs.inside.Drafts.{◌>>=◌}
use Rattle.dmlw_script.specs.inside.Stages.{Stage}
use Rattle.dmlw_script.specs.inside.Stages as heads
use Rattle.dmlw_script.specs.declared.line.HeadLine.{HeadLine}
use Rattle.dmlw_script.specs.declared.line.HeadLine.TheVariants as head_lines
use Rattle.dmlw_script.specs.Plans.{is_disk_size, is_log_disk_size, layer_is_within, least_sectors}
use Rattle.dmlw_script.specs.Plans.{top_of, Disk}
use Rattle.dmlw_script.specs.FirstFault.{bare, with_layer}

-- How much was read, for a head that has come to this part. The head has these disks and log
-- sectors of this size, and the crash has these picks.
abbrev pub stage_at : List ℕ → Disk → Disk → SectorSize → HeadPart → Stage
stage_at picks data_disk log_disk size parts.Nothing = heads.Empty
stage_at picks data_disk log_disk size parts.Data = heads.Data data_disk
stage_at picks data_disk log_disk size parts.Whole = heads.Whole data_disk log_disk size
stage_at picks data_disk log_disk size parts.Ended = heads.Ended data_disk log_disk size picks

-- how much was read into `head`, with `picks` as the picks of a crash
abbrev pub stage_of : List ℕ → Head → Stage
stage_of picks head = stage_at picks head.data_disk head.log_disk head.log_size head.part

-- the disk with one more layer; `BadLine` if the layer has fewer than `least` sectors
abbrev pub long_layer : (least : ℕ) → Disk → LayerSpec → Result Disk Refusal
long_layer least disk spec =
    if nat_le least spec.length then Ok (with_layer disk spec) else Err BadLine

-- The disk with the layer that a table line asks for. The layer must be within the device below it
-- (otherwise `OutOfRange`), and have at least `least` sectors.
abbrev pub asked_layer : (least : ℕ) → Disk → Result LayerSpec TableError → Result Disk Refusal
asked_layer least disk (Err error) = Err (table_refusal error)
asked_layer least disk (Ok spec) =
    if layer_is_within spec (top_of disk) then long_layer least disk spec else Err OutOfRange

-- the disk with one more layer, as in `asked_layer`; `BadLine` if the disk already has four layers
abbrev pub layer_step : (least : ℕ) → Disk → Result LayerSpec TableError → Result Disk Refusal
layer_step least disk asked =
    if nat_lt (length disk.layers) 4 then asked_layer least disk asked else Err BadLine

-- the head with the data disk that `read` gives, or the refusal of `read`
abbrev pub with_data : Result Disk Refusal → Disk → SectorSize → Result Stage Refusal
with_data read log_disk size = read >>= λ data_disk. Ok (heads.Whole data_disk log_disk size)

-- the head with the log disk that `read` gives, or the refusal of `read`
abbrev pub with_log : Disk → Result Disk Refusal → SectorSize → Result Stage Refusal
with_log data_disk read size = read >>= λ log_disk. Ok (heads.Whole data_disk log_disk size)

-- The head with one more layer over the data disk. The first argument is the layers of the log
-- disk; if there are any, `BadLine`.
abbrev pub data_layer : List LayerSpec → Disk → Disk → SectorSize → Result LayerSpec TableError
    → Result Stage Refusal
data_layer [] data_disk log_disk size asked =
    with_data (layer_step (least_sectors disks.Data size) data_disk asked) log_disk size
data_layer (layer ∷ layers) data_disk log_disk size asked = Err BadLine

-- the head with one more layer over the disk `over`; `BadLine` if the first argument is true, so
-- that no layer may follow
abbrev pub layer_in : Bool → Disk → Disk → SectorSize → DiskName → Result LayerSpec TableError
    → Result Stage Refusal
layer_in true data_disk log_disk size over asked = Err BadLine
layer_in false data_disk log_disk size disks.Data asked =
    data_layer log_disk.layers data_disk log_disk size asked
layer_in false data_disk log_disk size disks.Log asked =
    with_log data_disk (layer_step (least_sectors disks.Log size) log_disk asked) size

-- The head with one more line. First comes the data disk, then the log disk with the size of the
-- log's sectors, then the layers. If `began` is true, no layer may follow.
abbrev pub head_step : Stage → Bool → HeadLine → Result Stage Refusal
head_step heads.Empty began (head_lines.Data sectors) =
    if is_disk_size sectors then Ok (heads.Data (bare sectors)) else Err BadLine
head_step (heads.Data data_disk) began (head_lines.Log sectors size) =
    if is_log_disk_size (bytes_of size) sectors then Ok
    (heads.Whole data_disk (bare sectors) size) else Err BadLine
head_step (heads.Whole data_disk log_disk log_size) began (head_lines.Layer over asked) =
    layer_in began data_disk log_disk log_size over asked
head_step _ _ _ = Err BadLine
