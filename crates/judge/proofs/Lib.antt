-- The lemmas of `judge`. The proof of each function is in the folder of its source file.
pub mod HeldValues
pub mod AccountVerdict
pub mod Examples
