-- The definitions that the contracts of `blockdev` are written in.
pub mod View
pub mod Law
pub mod JoinLaws
pub mod OwnCounts
pub mod Messages
