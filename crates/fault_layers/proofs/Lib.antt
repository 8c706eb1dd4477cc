-- The lemmas of `fault_layers`. The proof of a function is in the folder named after its source
-- file.
pub mod Examples
