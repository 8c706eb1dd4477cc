-- The lemmas of `bio`; the proof of a function is in the folder of its source file.
pub mod Examples
