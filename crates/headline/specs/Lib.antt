-- The definitions that the contracts of `headline` are written in.
pub use Rattle.log_reader.specs.Reader
pub use Rattle.log_reader.specs.DiskLog
pub use Rattle.pending.specs.CompletionList
pub use Rattle.recorder.specs.Calls
pub use Rattle.replay.specs.Replays
pub use Rattle.bio.specs.Content
pub mod Headline
pub mod ReopenedLog
