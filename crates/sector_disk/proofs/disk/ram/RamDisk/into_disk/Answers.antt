use Rattle.std.proofs.Common.{◌∙◌, ap, arith, length}
use Rattle.sector_disk.proofs.RamLaw.{begins_kept, kept_table}
use Rattle.sector_disk.proofs.disk.ram.RamDisk.into_disk.Goals as goal

pub invariant_of-result : goal.invariant_of-result
invariant_of-result c =
    let self = c.args.self in
    let base = c.in_ok-to_vec.ensures.items_if_clones_equal (λ x y same. same)
    ∙ c.deref.ensures.value in
    record {
      room = let size = ap length base in omega (arith, c.in_ok-to_vec.field-0.ok.1);
      kept =
          kept_table self.sectors self.calls.items self.newest.items c.in_ok-to_vec.field-0.items
          c.len-begun.result self.kept base (c.len-begun.ensures ∙ self.calls.ok.0);
    }

pub returns : goal.returns
returns c =
    let self = c.args.self in
    begins_kept self.sectors self.calls.items self.newest.items c.in_ok-to_vec.field-0.items
    c.len-begun.result
    (c.in_ok-to_vec.ensures.items_if_clones_equal (λ x y same. same) ∙ c.deref.ensures.value)
    (c.len-begun.ensures ∙ self.calls.ok.0)
