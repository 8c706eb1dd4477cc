use Rattle.std.proofs.Common.{◌≡◌, ap, sym, ◌∙◌, []}
use Rattle.dmlw_script.specs.Words.{lines_of}
use Rattle.dmlw_script.specs.inside.Readers.{read_run_lines, read_run_text, run_progress}
use Rattle.dmlw_script.proofs.ReaderLaws.{end_is_script}
use Rattle.dmlw_script.proofs.RunLaws.{runner}
use Rattle.dmlw_script.proofs.run_reader.read_run.Goals as goal

pub finish-requires : goal.finish-requires
finish-requires c =
    let p = run_progress c.loop-line.reader in
    let whole : read_run_lines p c.loop-line.number [] ≡ read_run_text c.args.text.now =
    ap (λ t. read_run_lines p c.loop-line.number (lines_of t)) (sym c.in_default.ensures)
    ∙ c.loop-line.invariant.read in
    end_is_script runner p c.loop-line.number (lines_of c.args.text.now) whole
