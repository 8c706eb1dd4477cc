-- The definitions that the contracts of `sector_disk` are written in.
pub mod Candidates
pub mod CandidateLaws
pub mod DiskView
pub mod RamView
pub mod inside
