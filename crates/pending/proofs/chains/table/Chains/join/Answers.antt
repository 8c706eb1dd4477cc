use Rattle.std.proofs.Common.{◌≡◌, None, map, ap, ◌∙◌, [], ◌++◌, vec_capacity}
use Rattle.pending.specs.ChainsView.{chain_in, joined}
use Rattle.pending.specs.inside.Tables.{seen_chains, seen_lasts, values_of, walked_in, IsTable}
use Rattle.pending.proofs.RingLaws.{map-joined}
use Rattle.pending.proofs.TableLaws.{in-neither, keeps-room, seen-of, table-moved}
use Rattle.pending.proofs.TableLaws.{walk-rest}
use Rattle.pending.proofs.MarkLaws.{marked-of, marks-left, joined-counts}
use Rattle.pending.proofs.chains.table.Chains.join.Given as given
use Rattle.pending.proofs.chains.table.Chains.join.Goals as goal

rests : (g : given.Over) (c : goal.After-join g) → walked_in c.self.inside.walk ≡ None
rests g c = rw (← c.self.view_is) at c.requires.rests

table : (g : given.Over) (c : goal.After-join g)
    → IsTable c.join.new.links.next.items
    (seen_lasts c.join.new.links.lasts.items c.self.inside.walk) c.self.inside.rows.items
    (joined (seen_chains c.self.inside.links c.self.inside.walk) c.args.from c.args.onto)
table g c =
    let chains = seen_chains c.self.inside.links c.self.inside.walk in
    table-moved c.self.invariant.sound (rests g c) c.join.new.links 4 c.join.ensures.changes
    (joined chains c.args.from c.args.onto)
    (λ h. c.join.ensures.holds [] chains h)
    (in-neither chains c.args.from c.args.onto []
    (chain_in chains c.args.onto
    ++ chain_in chains c.args.from) c.requires.from.0 c.requires.onto.0)

pub invariant_of-self : goal.invariant_of-self
invariant_of-self g c =
    marked-of c.join.new.links c.self.inside.rows.items c.self.inside.walk _ (table g c)
    (walk-rest c.join.new.links.lasts.items c.self.inside.walk (rests g c))
    (marks-left c.args.from c.self.invariant.known c.leave.ensures
    (λ apart row. joined-counts (seen_chains c.self.inside.links c.self.inside.walk) c.args.from
    c.args.onto row apart))

pub returns-clause-chains : goal.returns-clause-chains
returns-clause-chains g c =
    let rows = c.self.inside.rows.items in
    rw (← c.self.view_is)
    (ap (map (values_of rows)) (seen-of c.join.new.links rows c.self.inside.walk _ (table g c))
    ∙ map-joined rows (seen_chains c.self.inside.links c.self.inside.walk) c.args.from c.args.onto)

pub returns-clause-room : goal.returns-clause-room
returns-clause-room g c =
    let chains = seen_chains c.self.inside.links c.self.inside.walk in
    rw (← c.self.view_is)
    (keeps-room c.self.inside.links c.join.new.links c.self.inside.rows.items
    (vec_capacity c.self.inside.rows) 4 c.self.inside.walk c.self.inside.walk
    c.join.ensures.changes
    (ap (λ cs. chain_in cs 0)
    (seen-of c.join.new.links c.self.inside.rows.items c.self.inside.walk _ (table g c))
    ∙ in-neither chains c.args.from c.args.onto []
    (chain_in chains c.args.onto
    ++ chain_in chains c.args.from) c.requires.from.0 c.requires.onto.0))
