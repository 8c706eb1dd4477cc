-- The definitions that the contracts of `lock_state` are written in.
pub mod Calls
pub mod Comparison
pub mod FirstStop
pub mod History
pub mod PlacedItems
pub mod Receipts
pub mod HandleRules
