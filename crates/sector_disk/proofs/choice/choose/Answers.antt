use Rattle.std.proofs.Common.{◌∙◌, arith}
use Rattle.std.proofs.lemmas.List.{length-set}
use Rattle.sector_disk.proofs.NewPast.{chosen-next, unsynced-next}
use Rattle.sector_disk.proofs.choice.choose.Goals as goal
use Rattle.sector_disk.proofs.choice.choose.Goals.{then-count-gt1, else-count-gt1}

pub loop-sector-preserved : goal.loop-sector-preserved
loop-sector-preserved c =
    let before = c.loop-sector.invariant in
    let sector = c.loop-sector.sector in
    let counts = c.count_candidates-count.ensures.count in
    record {
      length_kept =
          length-set c.loop-sector.chosen.items sector c.walk_back.result ∙ before.length_kept;
      few = elim c.if-count-gt1.branch [
        | then-count-gt1 w ↦ omega arith
        | else-count-gt1 w ↦
            omega arith
      ];
      chosen = λ cache placed.
          let old = before.chosen cache placed in (
            unsynced-next c.args.calls.now c.args.synced c.args.newest.now sector
                c.count_candidates-count.result c.loop-sector.unsynced c.if-count-gt1.unsynced cache
                placed
                c.loop-sector-test.true counts old.0
                (λ many. elim c.if-count-gt1.branch [
                  | then-count-gt1 w ↦ w.unsynced-is
                  | else-count-gt1 w ↦ absurd (omega arith)
                ])
                (λ one. elim c.if-count-gt1.branch [
                  | then-count-gt1 w ↦ absurd (omega arith)
                  | else-count-gt1 w ↦ w.unsynced-is
                ]),
            chosen-next c.args.calls.now c.args.synced c.args.newest.now c.args.picks.now
                c.loop-sector.chosen.items sector c.count_candidates-count.result
                c.loop-sector.unsynced
                c.pick_at.result c.walk_back.result cache placed c.loop-sector-test.true
                before.length_kept counts old.0 c.pick_at.ensures c.walk_back.ensures old.1,
          );
    }
