use Rattle.std.proofs.Common.{◌∙◌, length, sym}
use Rattle.sector_disk.proofs.PackedParts.{read_in}
use Rattle.sector_disk.proofs.pieces.Image.read_run.Goals as goal

pub returns-in-Some-clause-within : goal.returns-in-Some-clause-within
returns-in-Some-clause-within c = λ done.
    (read_in c.self.inside.pieces.items c.deref.result.now c.args.self.now c.in-Some.piece.now
    c.args.from (length c.args.buffer.now) c.self.invariant.whole c.self.view_is
    c.deref.ensures.value c.in-Some.ensures.lookup.0 c.in-Some.ensures.lookup.1
    (c.read_run.ensures.within done)).0

pub returns-in-Some-clause-read : goal.returns-in-Some-clause-read
returns-in-Some-clause-read c = λ done. c.read_run.ensures.read done ∙ sym
    (read_in c.self.inside.pieces.items c.deref.result.now c.args.self.now c.in-Some.piece.now
    c.args.from (length c.args.buffer.now) c.self.invariant.whole c.self.view_is
    c.deref.ensures.value c.in-Some.ensures.lookup.0 c.in-Some.ensures.lookup.1
    (c.read_run.ensures.within done)).1
