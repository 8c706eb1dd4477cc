use Rattle.std.proofs.Common.{◌≡◌, ◌≢◌, ◌<◌, ◌≤◌, ℕ, List, length, Some, slice_get, sym, ap, ◌∙◌}
use Rattle.std.proofs.Common.{subst, arith}
use Rattle.std.specs.Prelude.{MatchBool}
use Rattle.pending.specs.CoreState.{items_of}
use Rattle.bio.specs.declared.event.CoreEvent.{CoreEvent}
use Rattle.bio.specs.PlaceLaws.{slice_get-of_get_or, slice_get-within}
use Rattle.lock_state.specs.Comparison.{listed_item}
use Rattle.lock_state.specs.History.{Queue}
use Rattle.lock_state.proofs.SeatList.{taken_as, taken_match}
use Rattle.lock_state.proofs.queue.QueueState.is_taken_as.Goals as goal

pub unreachable-requires : goal.unreachable-requires
unreachable-requires g c =
    let kept = c.self.invariant.0 in
    let below : c.args.k < c.self.inside.core.state.taken =
    omega (arith, c.requires, ap (λ (q : Queue). q.core.taken) c.self.view_is) in
    let is =
    taken_as _ _ c.self.inside.core.state c.self.inside.taken.items c.args.k
    c.list_has_what_is_queued.ensures.only kept.lawful kept.within kept.took below in
    let here =
    slice_get-of_get_or c.self.inside.taken.items c.args.k c.index-id.result.now
    (slice_get-within c.self.inside.taken.items c.args.k is.item.0 is.noted)
    c.index-id.ensures in
    let same : is.item.0 ≡ c.index-id.result.now = let a = is.noted in cc in
    let past : length c.events.result.now ≤ c.place.result = c.in-None.ensures.lookup.3 in
    omega (
      arith,
      is.within,
      same,
      past,
      c.place.ensures,
      ap length c.events.ensures.events,
    )

pub returns : goal.returns
returns g c =
    let kept = c.self.invariant.0 in
    let below : c.args.k < c.self.inside.core.state.taken =
    omega (arith, c.requires, ap (λ (q : Queue). q.core.taken) c.self.view_is) in
    let is =
    taken_as _ _ c.self.inside.core.state c.self.inside.taken.items c.args.k
    c.list_has_what_is_queued.ensures.only kept.lawful kept.within kept.took below in
    let here =
    slice_get-of_get_or c.self.inside.taken.items c.args.k c.index-id.result.now
    (slice_get-within c.self.inside.taken.items c.args.k is.item.0 is.noted)
    c.index-id.ensures in
    let found = c.in-Some.ensures.lookup in
    let event =
    slice_get-of_get_or c.events.result.now c.place.result c.in-Some.event.now found.3.0 found.1 in
    let stands =
    ap (λ (x : List CoreEvent × ℕ). slice_get x.0 x.1)
    (λ i. (sym c.events.ensures.events i, sym c.place.ensures i)) ∙ event in
    subst (λ (q : Queue). MatchBool c.is_item.result
    (slice_get (items_of q.core) c.args.k ≡ Some (listed_item c.args.item.now))
    (slice_get (items_of q.core) c.args.k ≢ Some (listed_item c.args.item.now)))
    c.self.view_is
    (taken_match c.sector_bytes-bytes.result c.self.inside.core.state c.self.inside.taken.items
    c.args.k c.index-id.result.now c.in-Some.event.now c.is_item.result c.args.item.now
    (sym (c.sector_bytes-bytes.ensures.bytes
    ∙ ap (λ (q : Queue). q.core.sector_bytes) (sym c.self.view_is))) is here stands
    c.is_item.ensures)
