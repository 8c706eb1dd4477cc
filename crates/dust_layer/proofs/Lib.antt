-- The lemmas of `dust_layer`. The proof of each function is in the folder of its source file.
mod BlockWalk
mod ReadParts
mod OrderLaws
mod ListLaws
mod Examples
