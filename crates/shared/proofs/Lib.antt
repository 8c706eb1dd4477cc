-- The lemmas of `shared`. The proof of each function is in the folder of its source file.
pub mod ClosedLog
pub mod PlainCrash
pub mod PublishedStatus
mod Examples
