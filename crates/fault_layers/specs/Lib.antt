-- The definitions that the contracts of `fault_layers` are written in.
pub use Rattle.bio.specs.Moments
pub use Rattle.blockdev.specs.View
pub use Rattle.blockdev.specs.OwnCounts
pub use Rattle.blockdev.specs.Law
pub use Rattle.blockdev.specs.Messages
pub use Rattle.bio.specs.Content
pub mod Verdicts
pub mod Window
pub mod WindowLaws
pub mod Decision
pub mod DelayLaws
