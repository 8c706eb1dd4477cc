-- The lemmas of `dmlw_files`. The proof of a function is in the folder named after its source file.
mod Ranges
