-- The lemmas of `dmlw`. The proof of a function is in the folder named after its source file.
pub mod PlainWords
pub mod PlainCommands
pub mod Ends
