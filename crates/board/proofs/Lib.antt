-- The lemmas of `board`. The proof of each function is in the folder of its source file.
pub mod Moves
mod Examples
