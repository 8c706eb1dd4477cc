-- The definitions that the contracts of `world` are written in.
pub mod Machine
pub mod Texts
pub mod Cells
pub mod inside
pub use Rattle.bio.specs.Events
pub use Rattle.bio.specs.Possible
pub use Rattle.judge.specs.Accounts
pub use Rattle.bio.specs.Content
