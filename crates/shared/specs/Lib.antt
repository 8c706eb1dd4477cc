-- The definitions that the contracts of `shared` are written in.
pub mod SeatCalls
pub mod Published
pub mod Close
pub mod PlainCrash
