use Rattle.std.proofs.Common.{ℕ, List, [], ◌∷◌, ◌++◌, map, Option, None, ap, sym, ◌∙◌, subst, refl}
use Rattle.std.proofs.lemmas.List.{map-append}
use Rattle.pending.specs.inside.Tables.{seen_chains, seen_lasts, values_of, IsTable, WalksChain}
use Rattle.pending.proofs.TableLaws.{seen-grown, seen-of, table-at, walk-grown}
use Rattle.pending.proofs.CallLaws.{begun-table}
use Rattle.pending.proofs.MarkLaws.{begun-counts, marked-of, marks-kept}
use Rattle.pending.proofs.chains.table.Chains.begin.Given as given
use Rattle.pending.proofs.chains.table.Chains.begin.Goals as goal

table : (g : given.Over) (c : goal.After-begin g)
    → IsTable c.begin.new.self.next.items
    (seen_lasts c.begin.new.self.lasts.items c.self.inside.walk) c.self.inside.rows.items
    (seen_chains c.self.inside.links c.self.inside.walk ++ [] ∷ [])
table g c =
    let chains = seen_chains c.self.inside.links c.self.inside.walk ++ [] ∷ [] in
    let rows = c.self.inside.rows.items in
    let lasts = c.self.inside.links.lasts.items in
    let P : List ℕ → Type 0 =
    λ n. IsTable n (seen_lasts c.begin.new.self.lasts.items c.self.inside.walk) rows chains in
    subst P (sym (ap (λ v. v.items) c.begin.ensures.next))
    (table-at (seen_lasts lasts c.self.inside.walk ++ None ∷ [])
    (seen_lasts c.begin.new.self.lasts.items c.self.inside.walk) chains chains
    (sym (ap (λ ls. seen_lasts ls c.self.inside.walk) c.begin.ensures.lasts
    ∙ seen-grown lasts c.self.inside.walk (c.self.invariant.sound).walks))
    refl (begun-table (c.self.invariant.sound).table))

pub invariant_of-self : goal.invariant_of-self
invariant_of-self g c =
    let P : List (Option ℕ) → Type 0 = λ ls. WalksChain ls c.self.inside.walk in
    marked-of c.begin.new.self c.self.inside.rows.items c.self.inside.walk _ (table g c)
    (subst P (sym c.begin.ensures.lasts)
    (walk-grown c.self.inside.links.lasts.items c.self.inside.walk (c.self.invariant.sound).walks))
    (marks-kept c.self.invariant.known
    (λ row. begun-counts (seen_chains c.self.inside.links c.self.inside.walk) row))

pub returns-clause-chains : goal.returns-clause-chains
returns-clause-chains g c =
    let rows = c.self.inside.rows.items in
    rw (← c.self.view_is)
    (ap (map (values_of rows)) (seen-of c.begin.new.self rows c.self.inside.walk _ (table g c))
    ∙ map-append (values_of rows) (seen_chains c.self.inside.links c.self.inside.walk) ([] ∷ []))
