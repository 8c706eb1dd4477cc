use Rattle.std.proofs.Common.{◌≡◌, None, map, ap, ◌∙◌, [], ◌++◌, vec_capacity}
use Rattle.pending.specs.ChainsView.{chain_in, fronted}
use Rattle.pending.specs.inside.Tables.{seen_chains, seen_lasts, values_of, walked_in, IsTable}
use Rattle.pending.proofs.RingLaws.{map-fronted}
use Rattle.pending.proofs.TableLaws.{in-neither, keeps-room, seen-of, table-moved}
use Rattle.pending.proofs.TableLaws.{walk-rest}
use Rattle.pending.proofs.MarkLaws.{marked-of, marks-left, fronted-counts}
use Rattle.pending.proofs.chains.table.Chains.put_before.Given as given
use Rattle.pending.proofs.chains.table.Chains.put_before.Goals as goal

rests : (g : given.Over) (c : goal.After-put_before g) → walked_in c.self.inside.walk ≡ None
rests g c = rw (← c.self.view_is) at c.requires.rests

table : (g : given.Over) (c : goal.After-put_before g)
    → IsTable c.put_before.new.links.next.items
    (seen_lasts c.put_before.new.links.lasts.items c.self.inside.walk) c.self.inside.rows.items
    (fronted (seen_chains c.self.inside.links c.self.inside.walk) c.args.from c.args.onto)
table g c =
    let chains = seen_chains c.self.inside.links c.self.inside.walk in
    table-moved c.self.invariant.sound (rests g c) c.put_before.new.links 3 c.put_before.ensures.changes
    (fronted chains c.args.from c.args.onto)
    (λ h. c.put_before.ensures.holds [] chains h)
    (in-neither chains c.args.from c.args.onto []
    (chain_in chains c.args.from
    ++ chain_in chains c.args.onto) c.requires.from.0 c.requires.onto.0)

pub invariant_of-self : goal.invariant_of-self
invariant_of-self g c =
    marked-of c.put_before.new.links c.self.inside.rows.items c.self.inside.walk _ (table g c)
    (walk-rest c.put_before.new.links.lasts.items c.self.inside.walk (rests g c))
    (marks-left c.args.from c.self.invariant.known c.leave.ensures
    (λ apart row. fronted-counts (seen_chains c.self.inside.links c.self.inside.walk) c.args.from
    c.args.onto row apart))

pub returns-clause-chains : goal.returns-clause-chains
returns-clause-chains g c =
    let rows = c.self.inside.rows.items in
    rw (← c.self.view_is)
    (ap (map (values_of rows)) (seen-of c.put_before.new.links rows c.self.inside.walk _ (table g c))
    ∙ map-fronted rows (seen_chains c.self.inside.links c.self.inside.walk) c.args.from c.args.onto)

pub returns-clause-room : goal.returns-clause-room
returns-clause-room g c =
    let chains = seen_chains c.self.inside.links c.self.inside.walk in
    rw (← c.self.view_is)
    (keeps-room c.self.inside.links c.put_before.new.links c.self.inside.rows.items
    (vec_capacity c.self.inside.rows) 3 c.self.inside.walk c.self.inside.walk
    c.put_before.ensures.changes
    (ap (λ cs. chain_in cs 0)
    (seen-of c.put_before.new.links c.self.inside.rows.items c.self.inside.walk _ (table g c))
    ∙ in-neither chains c.args.from c.args.onto []
    (chain_in chains c.args.from
    ++ chain_in chains c.args.onto) c.requires.from.0 c.requires.onto.0))
