-- The definitions that the contracts of `refusals` are written in.
pub mod Table
pub mod Words
pub mod WordLaws
pub mod Errors
