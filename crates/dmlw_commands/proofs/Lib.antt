-- The lemmas of `dmlw_commands`. The proof of a function is in the folder named after its source
-- file.
pub mod ImageLog
pub mod ListLines
pub mod CommandEnds
mod ReplayOnDisk
mod CopyOnDisks
mod QuestionEnds
