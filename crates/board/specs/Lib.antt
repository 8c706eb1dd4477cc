-- The definitions that the contracts of `board` are written in.
pub mod Published
pub mod PublishedLaws
