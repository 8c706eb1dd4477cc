use Rattle.std.proofs.Common.{◌*◌, arith}
use Rattle.sector_disk.proofs.Ram.{value_put}
use Rattle.sector_disk.proofs.call.replace_in.Goals as goal

pub returns-clause-done : goal.returns-clause-done
returns-clause-done c = λ yes.
    value_put c.args.call.now c.in-Image.image c.replace.new.self c.args.part.now c.args.first
    (c.args.first * 512) c.if-call-ne0.false c.in-Image.is (omega arith)
    c.in_ok-replace.ensures.ok (omega arith) (omega arith)
