use Rattle.std.proofs.Common.{◌≡◌, ap, sym, ◌∙◌, []}
use Rattle.dmlw_script.specs.Words.{lines_of}
use Rattle.dmlw_script.specs.inside.Readers.{progress_of, read_lines, read_text}
use Rattle.dmlw_script.proofs.ReaderLaws.{end_is_script}
use Rattle.dmlw_script.proofs.RecorderLaws.{recorder}
use Rattle.dmlw_script.proofs.reader.read.Goals as goal

pub finish-requires : goal.finish-requires
finish-requires c =
    let p = progress_of c.loop-line.reader in
    let whole : read_lines p c.loop-line.number [] ≡ read_text c.args.text.now =
    ap (λ t. read_lines p c.loop-line.number (lines_of t)) (sym c.in_default.ensures)
    ∙ c.loop-line.invariant.read in
    end_is_script recorder p c.loop-line.number (lines_of c.args.text.now) whole
