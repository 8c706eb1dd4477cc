-- The definitions that only `dmlw_script` uses: the proofs of this crate, and the contracts of its
-- private functions.
pub mod LineParser
pub mod Stages
pub mod Heads
pub mod Drafts
pub mod Readers
