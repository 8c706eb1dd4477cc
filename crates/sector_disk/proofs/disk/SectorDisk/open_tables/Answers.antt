use Rattle.std.proofs.Common.{length, sym, ◌∙◌, arith}
use Rattle.std.proofs.lemmas.List.{length-replicate}
use Rattle.std.proofs.lemmas.Bool.{eqb-true}
use Rattle.sector_disk.proofs.FieldsKept.{kept_opened}
use Rattle.sector_disk.proofs.disk.SectorDisk.open_tables.Goals as goal

pub invariant_of-self : goal.invariant_of-self
invariant_of-self c =
    let old = c.args.self.now in
    record {
      kept =
          kept_opened old.sectors old.calls.items old.newest.items old.base.items
          c.in_ok-newest.newest.items c.in_ok-self.field-0.items
          old.begun old.synced old.flushed old.kept
          (let none = eqb-true old.newest.len 0
          (sym c.is_empty.ensures ∙ c.if-not-is_empty.false) in omega arith)
          (c.in_ok-newest.ensures.items_if_clones_equal (λ y same. same))
          c.in_ok-self.ensures.items;
      room =
          grind (arith, length, length-replicate);
    }
