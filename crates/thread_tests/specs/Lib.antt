-- The definitions of `thread_tests`' contracts.
pub use Rattle.lock_state.specs.PlacedItems
pub mod Disks
