-- A law about the report of a command, for the proofs of this crate and of crates that use it.
use Rattle.std.specs.Prelude.{◌≡◌, ℕ, true, false, List, [], ◌++◌}
use Rattle.std.specs.Io.KnownBytes.{Appends}
use Rattle.dmlw_commands.specs.declared.ending.Ended.{Ended}
use Rattle.dmlw_commands.specs.declared.exit.Exit.{Exit}
use Rattle.dmlw_commands.specs.Ends.{ErrStream, ReportsLine}

-- `ReportsLine` holds if the exit is `exit`, and the error stream got `line` and then `more`.
-- `more` has to be empty unless the command explains itself.
pub ends_told : (t : ErrStream) (more : List ℕ) (exit : Exit) (line : List ℕ) (ended : Ended)
    → (t.explains ≡ false → more ≡ [])
    → ended.exit ≡ exit → (line ≡ [] → more ≡ [] → t.after ≡ t.before)
    → (ended.err_taken ≡ true → Appends t.before t.after (line ++ more))
    → ReportsLine t exit line ended
ends_told t more exit line ended silent exits quiet told = record {
  exits = exits;
  told = λ yes. (more, silent, told yes);
  quiet = λ off none. quiet none (silent off);
}
