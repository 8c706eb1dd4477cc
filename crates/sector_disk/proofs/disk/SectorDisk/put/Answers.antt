use Rattle.std.proofs.Common.{ap, arith, drop, refl, take, ◌∙◌}
use Rattle.sector_disk.proofs.FieldsKept.{kept_added, past_added, start_added}
use Rattle.sector_disk.proofs.disk.SectorDisk.put.Goals as goal

pub invariant_of-self-2 : goal.invariant_of-self-2
invariant_of-self-2 c =
    let old = c.open_tables.new.self in
    let before =
    c.in_ok-before.ensures ∙ ap
    (λ xs. take c.sectors-count.result (drop c.args.first xs)) c.deref.ensures.value in
    let done = c.in_ok-add_call.ensures in
    record {
      kept =
          kept_added old.sectors old.calls.items c.add_call.new.calls.items old.newest.items
          c.add_call.new.newest.items old.base.items
          old.begun old.synced c.sectors-count.result old.flushed _ done.calls old.kept
          c.in_ok-open_tables.ensures.made refl c.sectors-count.ensures before done.newest;
      room = let size = done.newest.size in let room = old.room in omega arith;
    }

pub returns-clause-ok : goal.returns-clause-ok
returns-clause-ok c =
    let old = c.open_tables.new.self in
    let same = c.open_tables.ensures.same in
    let done = c.in_ok-add_call.ensures in
    record {
      sectors = same.sectors;
      start =
          start_added old.calls.items c.add_call.new.calls.items _ old.base.items done.calls
          old.kept.base_within ∙ same.start;
      past =
          past_added old.calls.items c.add_call.new.calls.items _ old.begun done.calls
          old.kept.begun_within ∙ rw same.past;
    }
