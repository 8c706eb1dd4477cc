use Rattle.std.proofs.Common.{◌++◌, map, drop, take, Some, ap, sym, ◌∙◌, arith, vec_capacity}
use Rattle.pending.specs.ChainsView.{chain_in, lifted}
use Rattle.pending.specs.inside.Tables.{seen_chains, seen_lasts, values_of, walked_in, IsTable}
use Rattle.pending.proofs.HoldsLaws.{last-is-row, none-at}
use Rattle.pending.proofs.RingLaws.{chain-map}
use Rattle.pending.proofs.TableLaws.{in-neither, keeps-room, seen-of}
use Rattle.pending.proofs.WalkLaws.{both-changes, lift-within, nothing-lifted, shown-lifted}
use Rattle.pending.proofs.WalkLaws.{sound-at, walk-last, walked-is, walked-last, lift-cut}
use Rattle.pending.proofs.WalkLaws.{lift-loose, lift-made}
use Rattle.pending.proofs.MarkLaws.{lifted-counts, marked-of, marks-removed}
use Rattle.pending.proofs.CallLaws.{first-row}
use Rattle.pending.proofs.chains.table.Chains.lift.Given as given
use Rattle.pending.proofs.chains.table.Chains.lift.Goals as goal

pub returns-in_default-at-clause-chains : goal.returns-in_default-at-clause-chains
returns-in_default-at-clause-chains g c =
    grind (arith, walked-last, nothing-lifted, chain-map, none-at)

pub next-row-requires : goal.next-row-requires
next-row-requires g c =
    let s = sound-at c.self.inside.walk (Some c.in-Some.walk) c.in-Some.is c.self.invariant.sound in
    last-is-row s.table.holds c.in-Some.walk.chain c.in-Some-at.at
    (walk-last c.in-Some.walk s ∙ c.in-Some-at.is)

pub cut-left-requires : goal.cut-left-requires
cut-left-requires g c =
    let step =
    sound-at c.self.inside.walk (Some c.in-Some.walk) c.in-Some.is c.self.invariant.sound in
    let next_step =
    walk-last c.in-Some.walk (sound-at c.self.inside.walk (Some c.in-Some.walk) c.in-Some.is
    c.self.invariant.sound) in
    grind arith

pub put_first-requires : goal.put_first-requires
put_first-requires g c =
    let onto = rw (← c.self.view_is) at c.requires.onto in
    let apart = rw (← c.self.view_is) at c.requires.apart in
    lift-loose c.self.inside.links c.cut-left.new.links c.self.inside.rows.items c.in-Some.walk
    c.next-row.result c.args.onto c.cut-left.result
    (lift-cut c.self.inside.links c.cut-left.new.links c.self.inside.rows.items c.self.inside.walk
    c.in-Some.walk c.in-Some-at.at c.next-row.result
    c.cut-left.result c.self.invariant.sound c.in-Some.is c.in-Some-at.is c.next-row.ensures
    c.cut-left.ensures.holds)
    c.cut-left.ensures.changes c.cut-left.ensures.lasts
    (λ e. apart (ap walked_in c.in-Some.is ∙ rw (← e)))
    (lift-within c.self.invariant.sound c.args.onto onto.1)

table : (g : given.Over) (c : goal.After-self-1 g)
    → IsTable c.put_first.new.links.next.items
    (seen_lasts c.put_first.new.links.lasts.items
    (Some (record { chain = c.in-Some.walk.chain; at = c.cut-left.result })))
    c.self.inside.rows.items
    (lifted (seen_chains c.self.inside.links c.self.inside.walk) c.in-Some.walk.chain
    c.args.onto)
table g c =
    let onto = rw (← c.self.view_is) at c.requires.onto in
    let apart = rw (← c.self.view_is) at c.requires.apart in
    lift-made c.self.inside.links c.cut-left.new.links c.put_first.new.links
    c.self.inside.rows.items c.self.inside.walk c.in-Some.walk c.in-Some-at.at
    c.next-row.result c.args.onto c.cut-left.result c.self.invariant.sound c.in-Some.is c.in-Some-at.is
    c.next-row.ensures onto.0
    (λ e. apart (ap walked_in c.in-Some.is ∙ ap Some (sym e)))
    (lift-within c.self.invariant.sound c.args.onto onto.1)
    c.cut-left.ensures.changes c.put_first.ensures.changes c.cut-left.ensures.lasts
    c.put_first.ensures.lasts
    (lift-cut c.self.inside.links c.cut-left.new.links c.self.inside.rows.items c.self.inside.walk
    c.in-Some.walk c.in-Some-at.at c.next-row.result
    c.cut-left.result c.self.invariant.sound c.in-Some.is c.in-Some-at.is c.next-row.ensures
    c.cut-left.ensures.holds)
    c.put_first.ensures.holds

pub invariant_of-self : goal.invariant_of-self
invariant_of-self g c =
    let s = sound-at c.self.inside.walk (Some c.in-Some.walk) c.in-Some.is c.self.invariant.sound in
    let long = c.put_first.ensures.changes.chains ∙ c.cut-left.ensures.changes.chains in
    let less = s.walks.1 in
    let apart = rw (← c.self.view_is) at c.requires.apart in
    let last =
    walked-last c.self.inside.walk c.in-Some.walk c.in-Some.walk.chain c.self.invariant.sound
    c.in-Some.is (ap walked_in c.in-Some.is) in
    let first =
    first-row (c.self.invariant.sound).table.holds c.in-Some.walk.chain c.in-Some-at.at
    c.next-row.result (last.1 ∙ c.in-Some-at.is) c.next-row.ensures in
    marked-of c.put_first.new.links c.self.inside.rows.items
    (Some (record { chain = c.in-Some.walk.chain; at = c.cut-left.result })) _ (table g c)
    (s.walks.0, omega arith)
    (marks-removed c.next-row.result c.remove.ensures c.self.invariant.known
    (λ r other. lifted-counts (seen_chains c.self.inside.links c.self.inside.walk)
    c.in-Some.walk.chain c.args.onto c.next-row.result r first.0 first.1 other
    (λ e. apart (ap walked_in c.in-Some.is ∙ ap Some (sym e)))))

pub returns-clause-chains : goal.returns-clause-chains
returns-clause-chains g c = λ chain walked.
    let seen = rw (← c.self.view_is) at walked in
    let same = walked-is c.self.inside.walk c.in-Some.walk chain c.in-Some.is seen in
    let last = walked-last c.self.inside.walk c.in-Some.walk chain c.self.invariant.sound
    c.in-Some.is seen in
    let rows = c.self.inside.rows.items in
    let chains = seen_chains c.self.inside.links c.self.inside.walk in
    rw (← c.self.view_is)
    (ap (map (values_of rows)) (seen-of c.put_first.new.links rows
    (Some (record { chain = c.in-Some.walk.chain; at = c.cut-left.result })) _ (table g c))
    ∙ ap (λ k. map (values_of rows) (lifted chains k c.args.onto)) same
    ∙ shown-lifted (c.self.invariant.sound).table chain c.args.onto last.0)

pub returns-clause-room : goal.returns-clause-room
returns-clause-room g c =
    let onto = rw (← c.self.view_is) at c.requires.onto in
    let s = sound-at c.self.inside.walk (Some c.in-Some.walk) c.in-Some.is c.self.invariant.sound in
    let walk = c.in-Some.walk in
    let chains = seen_chains c.self.inside.links c.self.inside.walk in
    let both = both-changes c.cut-left.ensures.changes c.put_first.ensures.changes in
    rw (← c.self.view_is)
    (keeps-room c.self.inside.links c.put_first.new.links c.self.inside.rows.items
    (vec_capacity c.self.inside.rows) 3 c.self.inside.walk
    (Some (record { chain = walk.chain; at = c.cut-left.result })) both
    (ap (λ cs. chain_in cs 0)
    (seen-of c.put_first.new.links c.self.inside.rows.items
    (Some (record { chain = walk.chain; at = c.cut-left.result })) _ (table g c))
    ∙ in-neither chains walk.chain c.args.onto (drop 1 (chain_in chains walk.chain))
    (take 1 (chain_in chains walk.chain) ++ chain_in chains c.args.onto) s.walks.0 onto.0))
