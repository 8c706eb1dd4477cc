use Rattle.std.proofs.Common.{◌*◌, rules}
use Rattle.std.specs.Prelude.{slice_index_or}
use Rattle.script_runner.proofs.LineSteps.{byte_printed}
use Rattle.script_runner.proofs.print.print_first_bytes.Goals as goal

pub loop-sector-preserved : goal.loop-sector-preserved
loop-sector-preserved g c =
    byte_printed c.loop-sector.sector c.args.bytes.now
    (slice_index_or c.args.bytes.now (c.loop-sector.sector * 512) 0) _
    (g.O.Write.contents c.args.out.now) (g.O.Write.contents c.loop-sector.out)
    (g.O.Write.contents c.write_all.new.self)
    c.loop-sector.invariant (search rules) (search rules) c.in_ok-write_all.ensures.bytes
