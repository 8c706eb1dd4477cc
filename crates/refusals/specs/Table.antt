-- The one table of refusals: the number and the name of each.
use Rattle.std.specs.Prelude.{◌≡◌, ℕ, ◌-◌, List, [], ◌∷◌, Some, slice_get, codes, refl}
use Rattle.refusals.specs.declared.refusal.Refusal.{Refusal}
use Rattle.refusals.specs.declared.refusal.Refusal.TheVariants as refusals

-- the number and the name of a refusal
abbrev pub row_of : Refusal → ℕ × List ℕ
row_of refusals.Io = (1, codes "Io")
row_of refusals.Memory = (2, codes "Memory")
row_of refusals.PastEnd = (3, codes "PastEnd")
row_of refusals.TooLong = (4, codes "TooLong")
row_of refusals.NotWhole = (5, codes "NotWhole")
row_of refusals.BadMessage = (6, codes "BadMessage")
row_of refusals.AlreadyBad = (7, codes "AlreadyBad")
row_of refusals.NotBad = (8, codes "NotBad")
row_of refusals.UnknownTarget = (9, codes "UnknownTarget")
row_of refusals.WrongCount = (10, codes "WrongCount")
row_of refusals.BadNumber = (11, codes "BadNumber")
row_of refusals.OutOfRange = (12, codes "OutOfRange")
row_of refusals.BadMagic = (13, codes "BadMagic")
row_of refusals.BadVersion = (14, codes "BadVersion")
row_of refusals.BadSectorSize = (15, codes "BadSectorSize")
row_of refusals.BadMark = (16, codes "BadMark")
row_of refusals.TooLarge = (17, codes "TooLarge")
row_of refusals.Full = (18, codes "Full")
row_of refusals.Device = (19, codes "Device")
row_of refusals.EndMemory = (20, codes "Memory")
row_of refusals.CutShort = (21, codes "CutShort")
row_of refusals.Failed = (22, codes "Failed")
row_of refusals.BadText = (23, codes "BadText")
row_of refusals.Busy = (24, codes "Busy")
row_of refusals.NoSuchMark = (25, codes "NoSuchMark")
row_of refusals.NoFlush = (26, codes "NoFlush")
row_of refusals.PastTarget = (27, codes "PastTarget")
row_of refusals.Unaligned = (28, codes "Unaligned")
row_of refusals.BadFeature = (29, codes "BadFeature")
row_of refusals.BadLine = (30, codes "BadLine")
row_of refusals.BadId = (31, codes "BadId")
row_of refusals.File = (32, codes "File")
row_of refusals.PastEntries = (33, codes "PastEntries")
row_of refusals.BadMoment = (34, codes "BadMoment")
row_of refusals.BadStep = (35, codes "BadStep")
row_of refusals.AfterClose = (36, codes "AfterClose")
row_of refusals.Foreign = (37, codes "Foreign")
row_of refusals.NoThread = (38, codes "NoThread")

-- the refusals in the order of their numbers
abbrev pub all_refusals : List Refusal
all_refusals =
    refusals.Io ∷
    refusals.Memory ∷
    refusals.PastEnd ∷
    refusals.TooLong ∷
    refusals.NotWhole ∷
    refusals.BadMessage ∷
    refusals.AlreadyBad ∷
    refusals.NotBad ∷
    refusals.UnknownTarget ∷
    refusals.WrongCount ∷
    refusals.BadNumber ∷
    refusals.OutOfRange ∷
    refusals.BadMagic ∷
    refusals.BadVersion ∷
    refusals.BadSectorSize ∷
    refusals.BadMark ∷
    refusals.TooLarge ∷
    refusals.Full ∷
    refusals.Device ∷
    refusals.EndMemory ∷
    refusals.CutShort ∷
    refusals.Failed ∷
    refusals.BadText ∷
    refusals.Busy ∷
    refusals.NoSuchMark ∷
    refusals.NoFlush ∷
    refusals.PastTarget ∷
    refusals.Unaligned ∷
    refusals.BadFeature ∷
    refusals.BadLine ∷
    refusals.BadId ∷
    refusals.File ∷
    refusals.PastEntries ∷
    refusals.BadMoment ∷
    refusals.BadStep ∷
    refusals.AfterClose ∷
    refusals.Foreign ∷
    refusals.NoThread ∷
    []

-- Each refusal is in `all_refusals` at the index that is its number minus 1, so two refusals differ
-- in their numbers.
pub number_names : (r : Refusal) → slice_get all_refusals ((row_of r).0 - 1) ≡ Some r
number_names refusals.Io = refl
number_names refusals.Memory = refl
number_names refusals.PastEnd = refl
number_names refusals.TooLong = refl
number_names refusals.NotWhole = refl
number_names refusals.BadMessage = refl
number_names refusals.AlreadyBad = refl
number_names refusals.NotBad = refl
number_names refusals.UnknownTarget = refl
number_names refusals.WrongCount = refl
number_names refusals.BadNumber = refl
number_names refusals.OutOfRange = refl
number_names refusals.BadMagic = refl
number_names refusals.BadVersion = refl
number_names refusals.BadSectorSize = refl
number_names refusals.BadMark = refl
number_names refusals.TooLarge = refl
number_names refusals.Full = refl
number_names refusals.Device = refl
number_names refusals.EndMemory = refl
number_names refusals.CutShort = refl
number_names refusals.Failed = refl
number_names refusals.BadText = refl
number_names refusals.Busy = refl
number_names refusals.NoSuchMark = refl
number_names refusals.NoFlush = refl
number_names refusals.PastTarget = refl
number_names refusals.Unaligned = refl
number_names refusals.BadFeature = refl
number_names refusals.BadLine = refl
number_names refusals.BadId = refl
number_names refusals.File = refl
number_names refusals.PastEntries = refl
number_names refusals.BadMoment = refl
number_names refusals.BadStep = refl
number_names refusals.AfterClose = refl
number_names refusals.Foreign = refl
number_names refusals.NoThread = refl
