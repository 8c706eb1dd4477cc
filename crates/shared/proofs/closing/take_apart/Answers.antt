use Rattle.std.proofs.Common.{◌≡◌, List, Some, rules, subst, sym}
use Rattle.std.specs.Prelude.{slice_get}
use Rattle.lock_state.specs.Comparison.{Receipt}
use Rattle.lock_state.specs.PlacedItems.{entries_in}
use Rattle.lock_state.specs.Receipts.{KeepsReceipt}
use Rattle.lock_state.specs.declared.note.LogItem.{LogItem}
use Rattle.shared.proofs.closing.take_apart.Goals as goal

pub returns-clause-parts : goal.returns-clause-parts
returns-clause-parts g c shut has = record {
  shut = shut;
  legal = search rules;
  sector_size = search rules;
  taken = search rules;
  hazard = search rules;
  status = search rules;
  keeps_ground = search rules;
  end = search rules;
  stop = search rules;
  stop_cause = has;
  causes = search rules;
  device_size = search rules;
  holds = search rules;
  crash = search rules;
  any_moment = search rules;
  told = λ lies k receipt there.
      subst (λ (items : List LogItem). KeepsReceipt g.R.Run.sector_bytes
      (g.L.BlockDev.shown c.into_parts-log.result.device) (entries_in items) receipt)
      (sym c.into_parts-log.ensures.placed)
      (c.into_parts-log.ensures.told lies k receipt
      (subst (λ (receipts : List Receipt). slice_get receipts k ≡ Some receipt)
      (sym c.as_mut_slice.ensures.value) there));
}
