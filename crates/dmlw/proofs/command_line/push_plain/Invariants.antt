use Rattle.std.proofs.Common.{◌≡◌, ◌++◌, map, not, take}
use Rattle.std.specs.List.{filter}
use Rattle.dmlw.specs.CommandLine.{is_explain}
use Rattle.dmlw.proofs.command_line.push_plain.Given as goal

abbrev pub invariant-loop-word : goal.invariant-loop-word
invariant-loop-word g l =
    map (λ word. word.now) l.plain.items
    ≡ map (λ word. word.now) l.initial.plain.items
    ++ filter (λ word. not (is_explain word)) (map g.S.AsStr.text (take l.word-index l.words))
