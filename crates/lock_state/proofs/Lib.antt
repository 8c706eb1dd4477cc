-- The lemmas of `lock_state`. The proof of each function is in the folder of its source file.
pub mod Lists
pub mod LogLock
pub mod RecordingEnd
pub mod QueueLock
pub mod CloseWrites
pub mod SeatList
pub mod Examples
pub mod HandleMoves
