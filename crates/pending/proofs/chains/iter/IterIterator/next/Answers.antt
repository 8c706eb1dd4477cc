use Rattle.std.proofs.Common.{◌≡◌, ◌<◌, ◌∷◌, length, Some, None, ap, ◌∙◌, refl, arith, rules}
use Rattle.std.specs.Borrow.{Bor}
use Rattle.std.proofs.lemmas.List.{get_or_read_under}
use Rattle.pending.specs.inside.Tables.{values_left, IsLook, value_at}
use Rattle.pending.proofs.BackLaws.{copied-some, way-step}
use Rattle.pending.proofs.chains.iter.IterIterator.next.Given as given
use Rattle.pending.proofs.chains.iter.IterIterator.next.Goals as goal

pub next-row-requires : goal.next-row-requires
next-row-requires g c = ((c.self.invariant).way c.in_ok-self.field-0 c.in_ok-self.was).within

pub offset_bounds-rows-row : goal.offset_bounds-rows-row
offset_bounds-rows-row g c =
    let look = c.self.invariant in
    let way = look.way c.in_ok-self.field-0 c.in_ok-self.was in
    let step =
    way-step c.self.inside.links.now.next.items c.self.inside.rows.now c.self.inside.last
    c.in_ok-self.field-0 c.next-row.result _
    look.sized way c.next-row.ensures refl in
    let small = step.0 in omega arith

pub bounds-rows-row : goal.bounds-rows-row
bounds-rows-row g c =
    let look = c.self.invariant in
    let way = look.way c.in_ok-self.field-0 c.in_ok-self.was in
    let step =
    way-step c.self.inside.links.now.next.items c.self.inside.rows.now c.self.inside.last
    c.in_ok-self.field-0 c.next-row.result _
    look.sized way c.next-row.ensures refl in
    let small = step.0 in omega arith

step : (g : given.Over) (c : goal.After-self-1 g)
    → (c.next-row.result < length c.self.inside.rows.now)
    × ((value : g.row.T.Denot) × (value_at c.self.inside.rows.now c.next-row.result ≡ Some value)
    × (values_left c.self.inside.links.now.next.items c.self.inside.rows.now c.self.inside.last
    (Some c.in_ok-self.field-0)
    ≡ value ∷ values_left c.self.inside.links.now.next.items c.self.inside.rows.now
    c.self.inside.last c.unless_last-self-inside.result))
    × IsLook c.self.inside.links.now.next.items c.self.inside.rows.now c.self.inside.last
    c.unless_last-self-inside.result
step g c =
    let look = c.self.invariant in
    let way = look.way c.in_ok-self.field-0 c.in_ok-self.was in
    way-step c.self.inside.links.now.next.items c.self.inside.rows.now c.self.inside.last
    c.in_ok-self.field-0 c.next-row.result c.unless_last-self-inside.result
    look.sized way c.next-row.ensures c.unless_last-self-inside.ensures

pub invariant_of-self : goal.invariant_of-self
invariant_of-self g c = (step g c).2

found : (g : given.Over) (c : goal.After-self-1 g)
    → (reference : Bor g.row.T.Denot) × (c.as_ref-value.result ≡ Some reference)
    × (reference.now ≡ (step g c).1.0)
found g c =
    let rows = c.self.inside.rows.now in
    let read =
    get_or_read_under rows c.next-row.result
    (length rows) c.index-rows-row.result None c.index-rows-row.is (step g c).0 refl in
    copied-some c.as_ref-value.result (step g c).1.0
    (c.as_ref-value.ensures.value ∙ read ∙ (step g c).1.1)

parts : (g : given.Over) (c : goal.After-self-1 g)
    → c.args.self.now ≡ (found g c).0.now ∷ values_left c.self.inside.links.now.next.items
    c.self.inside.rows.now c.self.inside.last c.unless_last-self-inside.result
parts g c = grind arith

pub returns-clause-steps : goal.returns-clause-steps
returns-clause-steps g c = rw (found g c).1 (parts g c)

pub returns-clause-goes : goal.returns-clause-goes
returns-clause-goes g c =
    let shorter = ap length (parts g c) in
    rw (found g c).1 (search rules)
