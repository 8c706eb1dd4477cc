-- The definitions that the contracts of `pending` use.
pub use Rattle.bio.specs.Requests
pub use Rattle.bio.specs.Events
pub use Rattle.bio.specs.Possible
pub use Rattle.log_format.specs.Entries
pub use Rattle.log_format.specs.Replay
pub use Rattle.bio.specs.Content
pub mod ChainsView
pub mod Lends
pub mod QueueEvent
pub mod Plain
pub mod CompletionList
pub mod CoreState
pub mod GrowthLaws
pub mod inside
