-- The lemmas of `layer_table`. The proof of a function is in the folder named after its source
-- file.
mod Examples
mod StackLayers
