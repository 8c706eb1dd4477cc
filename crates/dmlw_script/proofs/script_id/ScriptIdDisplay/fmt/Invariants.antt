use Rattle.std.proofs.Common.{take}
use Rattle.std.specs.Char.{encode_utf8}
use Rattle.std.specs.Fmt.{HasWritten, IsPlainFormatter}
use Rattle.std.specs.List.{flat_map}
use Rattle.dmlw_script.proofs.script_id.ScriptIdDisplay.fmt.Given as goal

-- If the formatter is plain, the characters before the current one have been written.
abbrev pub invariant-loop-letter : goal.invariant-loop-letter
invariant-loop-letter g l =
    IsPlainFormatter l.initial.f
    → HasWritten g.W.Write.write_str_gives l.initial.f
    (flat_map encode_utf8 (take l.letter-index l.letter-items)) l.f
