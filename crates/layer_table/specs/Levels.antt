-- The slots of a stack that have a layer, and the disk below them.
use Rattle.std.specs.Prelude.{Bool, List, []}
use Rattle.blockdev.specs.declared.device.BlockDev.{Ghosts}
use Rattle.sector_disk.specs.declared.disk.SectorDisk.{SectorDisk}
use Rattle.layer_table.specs.declared.levels.one.One.{One}
use Rattle.layer_table.specs.declared.levels.three.Three.{Three}
use Rattle.layer_table.specs.declared.levels.two.Two.{Two}
use Rattle.layer_table.specs.declared.slot.Slot.{Slot}
use Rattle.layer_table.specs.Slots.{device_of, shape_with}

-- for the lowest slot, the two lowest and the three lowest: whether each has a layer, the top first
abbrev pub shape_one : One → List Bool
shape_one level = shape_with (λ disk. []) level.top

abbrev pub shape_two : Two → List Bool
shape_two level = shape_with shape_one level.top

abbrev pub shape_three : Three → List Bool
shape_three level = shape_with shape_two level.top

-- the same for the four slots of a stack: whether each has a layer, the top first
abbrev pub shape_of : {g : Ghosts Three} → Slot Three g → List Bool
shape_of slot = shape_with shape_three slot

-- the disk below the lowest slot, the two lowest and the three lowest
abbrev pub disk_one : One → SectorDisk
disk_one level = device_of level.top

abbrev pub disk_two : Two → SectorDisk
disk_two level = disk_one (device_of level.top)

abbrev pub disk_three : Three → SectorDisk
disk_three level = disk_two (device_of level.top)
