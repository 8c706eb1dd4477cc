use Rattle.std.proofs.Common.{IfSome, None, Option, Some, ◌∙◌, sym}
use Rattle.sector_disk.proofs.PackedParts.{read_in}
use Rattle.sector_disk.proofs.pieces.Image.stored.Goals as goal

-- what follows from two facts of a value that may be there
some_both : {X : Type 0} (P Q R : X → Type 0) (o : Option X) → IfSome o P → IfSome o Q
    → ((x : X) → P x → Q x → R x) → IfSome o R
some_both P Q R None p q all = tt
some_both P Q R (Some x) p q all = all x p q

pub returns-clause-within : goal.returns-clause-within
returns-clause-within c =
    some_both _ _ _ c.stored.result c.stored.ensures.within c.stored.ensures.within
    (λ part less again.
    (read_in c.self.inside.pieces.items c.deref.result.now c.args.self.now c.in_ok-get.field-0.now
    c.args.from c.args.count c.self.invariant.whole c.self.view_is
    c.deref.ensures.value c.in_ok-get.ensures.lookup.0 c.in_ok-get.ensures.lookup.1 less).0)

pub returns-clause-part : goal.returns-clause-part
returns-clause-part c =
    some_both _ _ _ c.stored.result c.stored.ensures.within c.stored.ensures.part
    (λ part less is. is ∙ sym
    (read_in c.self.inside.pieces.items c.deref.result.now c.args.self.now c.in_ok-get.field-0.now
    c.args.from c.args.count c.self.invariant.whole c.self.view_is
    c.deref.ensures.value c.in_ok-get.ensures.lookup.0 c.in_ok-get.ensures.lookup.1 less).1)
