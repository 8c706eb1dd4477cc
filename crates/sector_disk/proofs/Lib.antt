-- The lemmas of `sector_disk`. The proof of each function is in the folder of its source file.
pub mod FieldsKept
pub mod DeviceLaw
pub mod NewPast
pub mod Examples
pub mod PackedParts
pub mod Ram
pub mod RamLaw
mod ImageBack
