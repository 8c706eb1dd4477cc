-- The lemmas of `replay`. The proof of each function is in the folder of its source file.
pub mod Loops
mod Counterexamples
pub mod CopyLoops
pub mod StoreCalls
