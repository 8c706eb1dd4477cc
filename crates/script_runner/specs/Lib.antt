-- The definitions of `script_runner`'s contracts.
pub use Rattle.bio.specs.Requests
pub use Rattle.bio.specs.Events
pub use Rattle.blockdev.specs.View
pub use Rattle.dmlw_script.specs.Plans
pub use Rattle.recorder.specs.Calls as RecorderCalls
pub use Rattle.recorder.specs.Growth
pub use Rattle.refusals.specs.Errors
pub use Rattle.log_format.specs.LogOf
pub use Rattle.layer_table.specs.Layers
pub use Rattle.layer_table.specs.StackMessages
pub use Rattle.blockdev.specs.Messages
pub use Rattle.pending.specs.CompletionList
pub use Rattle.recorder.specs.Acknowledged
pub use Rattle.recorder.specs.RecorderView
pub use Rattle.sector_disk.specs.Candidates
pub use Rattle.sector_disk.specs.DiskView
pub use Rattle.dmlw_script.specs.RunPlans
pub use Rattle.lock_state.specs.Comparison
pub use Rattle.lock_state.specs.History
pub use Rattle.shared.specs.SeatCalls
pub use Rattle.shared.specs.Close as Closes
pub mod CallLaws
pub mod Submissions
pub mod Lines
pub mod Runs
pub mod DiskRun
pub mod SeatRuns
pub mod inside
