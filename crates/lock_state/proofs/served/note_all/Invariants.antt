use Rattle.std.proofs.Common.{◌≡◌, length, take}
use Rattle.lock_state.specs.Comparison.{AllNotesMatch}
use Rattle.lock_state.proofs.served.note_all.Given as goal

abbrev pub invariant-loop-place : goal.invariant-loop-place
invariant-loop-place l =
    AllNotesMatch (take l.place l.calls) l.notes × (length l.notes ≡ length l.fn.notes)
