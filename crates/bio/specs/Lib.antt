-- The definitions that the contracts of `bio` are written in.
pub mod Places
pub mod Content
pub mod PlaceLaws
pub mod ContentLaws
pub mod Moments
pub mod Refusals
pub mod Requests
pub mod Events
pub mod Possible
pub mod RequestLaws
pub mod inside
