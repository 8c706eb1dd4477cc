-- The definitions of `pending` that no other crate uses.
pub mod Tables
pub mod LastRows
pub mod Owners
pub mod Release
pub mod Steps
pub mod Representation
