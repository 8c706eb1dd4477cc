-- The definitions of `dmlw`'s contracts.
pub mod Commands
pub mod CommandLine
pub mod Endings
