-- The definitions of `sector_disk` that only its proofs use: no other crate cites them.
pub mod Storage
pub mod Pieces
pub mod Packed
