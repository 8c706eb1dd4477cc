use Rattle.std.proofs.Common.{ap, arith, length, ◌∙◌}
use Rattle.sector_disk.specs.inside.Storage.{is_table}
use Rattle.sector_disk.proofs.NewPast.{begins_chosen, chosen_of, kept_chosen}
use Rattle.sector_disk.proofs.disk.SectorDisk.crash.Goals as goal

pub invariant_of-self : goal.invariant_of-self
invariant_of-self c =
    let old = c.args.self.now in
    let picks = c.args.picks.now in
    let chosen = c.choose.new.chosen.items in
    let choice =
    chosen_of old c.deref.result.now c.deref-2.result.now picks chosen c.deref.ensures.value
    c.deref-2.ensures.value c.choose.ensures.length c.choose.ensures.chosen in
    let table =
    ap (is_table old.sectors) (c.choose.ensures.length ∙ ap length c.deref-2.ensures.value)
    ∙ old.kept.table in
    let count = c.len-self.ensures ∙ old.calls.ok.0 in
    record {
      kept = kept_chosen old picks c.copy_over.new.copy.items chosen c.len-self.result choice
          table (c.copy_over.ensures ∙ c.deref-3.ensures.value) count;
      room =
          let size = ap length (c.copy_over.ensures ∙ c.deref-3.ensures.value) in
          omega (arith, c.choose.new.chosen.ok);
    }

pub returns : goal.returns
returns c =
    let old = c.args.self.now in
    let picks = c.args.picks.now in
    let chosen = c.choose.new.chosen.items in
    let choice =
    chosen_of old c.deref.result.now c.deref-2.result.now picks chosen c.deref.ensures.value
    c.deref-2.ensures.value c.choose.ensures.length c.choose.ensures.chosen in
    begins_chosen old picks chosen c.len-self.result choice (c.len-self.ensures ∙ old.calls.ok.0)
