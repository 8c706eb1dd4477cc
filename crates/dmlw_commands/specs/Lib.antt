-- The definitions that the contracts of `dmlw_commands` are written in.
pub use Rattle.dmlw_files.specs.Files
pub use Rattle.replay.specs.Replays as LogReplays
pub use Rattle.replay.specs.Copies
pub use Rattle.refusals.specs.Words
pub use Rattle.script_runner.specs.SeatRuns
pub mod Seen
pub mod Makings
pub mod Lists
pub mod Records
pub mod Ends
pub mod EndLaws
pub mod Replays
pub mod LogCopies
pub mod Judgements
