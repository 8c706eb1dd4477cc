-- The definitions that the contracts of `dmlw_serve` are written in.
pub mod Counts
pub mod Serves
