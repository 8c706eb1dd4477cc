-- The definitions that the contracts of `nbd` are written in.
pub mod Wire
pub mod Negotiation
pub mod Serving
pub mod Requests
pub mod Sessions
