-- The lemmas of `headline`. The proof of each function is in the folder of its source file.
mod HeadlineHolds
mod Examples
