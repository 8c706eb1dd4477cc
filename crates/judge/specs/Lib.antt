-- The definitions that the contracts of `judge` are written in.
pub mod Verdicts
pub mod Accounts
pub mod Laws
pub mod inside
pub use Rattle.bio.specs.Events
pub use Rattle.bio.specs.Possible
pub use Rattle.bio.specs.Content
