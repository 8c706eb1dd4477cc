-- The lemmas of `nbd`. The proof of each function is in the folder of its source file.
pub mod Breaks
mod Examples
pub mod Frames
pub mod Handshakes
pub mod Parts
pub mod Plays
