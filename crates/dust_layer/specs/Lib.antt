-- The definitions that the contracts of `dust_layer` are written in.
pub use Rattle.blockdev.specs.View
pub use Rattle.blockdev.specs.Law
pub use Rattle.blockdev.specs.Messages
pub mod Walk
pub mod Orders
pub mod inside
pub mod DustRule
pub mod CarryLaws
