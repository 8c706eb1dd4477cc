-- The lemmas of `world`. The proof of each function is in the folder of its source file.
pub mod Calls
pub mod RunIsPossible
pub mod SectorSteps
pub mod EventSteps
pub mod PossibleChoice
pub mod Examples
pub mod Lists
pub mod MachineSteps
