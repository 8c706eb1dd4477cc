-- The definitions that the contracts of `replay` are written in.
pub use Rattle.blockdev.specs.View
pub use Rattle.log_format.specs.Replay
pub use Rattle.log_reader.specs.DiskLog
pub use Rattle.bio.specs.Content
pub use Rattle.log_format.specs.Entries
pub use Rattle.log_format.specs.LogOf
pub use Rattle.log_store.specs.Calls as StoreCalls
pub use Rattle.log_store.specs.Store
pub mod Refusals
pub mod Replays
pub mod Calls
pub mod Copies
pub mod ResizeLaws
pub mod inside
