-- The lemmas of `script_runner`. The proof of a function is in the folder named after its source
-- file.
mod LineSteps
mod Scripts
mod Logs
mod DiskRun
mod LawfulRuns
mod SeatRunSteps
mod Seats
