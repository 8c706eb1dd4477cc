-- The lemmas of `dmlw_serve`. The proof of a function is in the folder named after its source file.
pub mod Sessions
