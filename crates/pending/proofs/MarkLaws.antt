-- How calls keep the marks of the rows of chain 1.
use Rattle.std.proofs.Common.{◌≡◌, ◌≢◌, ℕ, ◌<◌, ◌≤◌, List, [], ◌∷◌, ◌++◌, length, drop, take, set}
use Rattle.std.proofs.Common.{None, Option, Some, ap, sym, length-set, inl, inr, arith, Bool, true}
use Rattle.std.proofs.Common.{false}
use Rattle.std.proofs.lemmas.Bool.{cases_eq, cases_lt}
use Rattle.std.proofs.lemmas.List.{get_or_past, get_or-set_same, get_or-set_other}
use Rattle.pending.specs.ChainsView.{chain_in, fronted, joined, lengthened, lifted, preceded}
use Rattle.pending.specs.ChainsView.{shortened, turned}
use Rattle.pending.specs.declared.chains.links.Links.{Links}
use Rattle.pending.specs.declared.chains.walk.Walk.{Walk}
use Rattle.pending.specs.inside.Tables.{AreMarks, IsMarked, IsTable, WalksChain, is_marked}
use Rattle.pending.specs.inside.Tables.{last_in, seen_chains, seen_lasts, times, walked_in}
use Rattle.pending.proofs.CallLaws.{sound-same}
use Rattle.pending.proofs.HoldsLaws.{default-grown, last-again}
use Rattle.pending.proofs.RingLaws.{in-other, in-put, times-append, times-other, times-same}
use Rattle.pending.proofs.TableLaws.{seen-of, sound-of}
use Rattle.pending.proofs.WalkLaws.{rest-made, walk-made}

pub marks-seen : {T : Type 0} (links : Links) (rows : List (Option T)) (walk : Option Walk)
    (chains : List (List ℕ)) (marks : List Bool)
    → IsTable links.next.items (seen_lasts links.lasts.items walk) rows chains
    → AreMarks marks chains → AreMarks marks (seen_chains links walk)
marks-seen links rows walk chains marks t known = rw (seen-of links rows walk chains t) known

pub marks-kept : {marks : List Bool} {chains other : List (List ℕ)} → AreMarks marks chains
    → ((row : ℕ) → times row (chain_in chains 1) ≤ times row (chain_in other 1))
    → AreMarks marks other
marks-kept {marks} {chains} {other} known more = record {
  within = λ row marked. let some = known.within row marked in let kept = more row in omega arith;
}

-- A row still marked after `row`'s mark is removed is another row, and was marked before.
pub mark-left : (marks : List Bool) (row r : ℕ) → is_marked (set marks row false) r ≡ true
    → (r ≢ row) × (is_marked marks r ≡ true)
mark-left marks row r marked = elim (cases_eq r row) [
  | inl same ↦ elim (cases_lt row (length marks)) [
    | inl within ↦ grind (arith, get_or-set_same, false, set)
    | inr past ↦ grind (arith, get_or_past, set, false, length-set)
  ]
  | inr other ↦ (other, grind (arith, get_or-set_other))
]

pub marks-removed : {marks new : List Bool} {chains other : List (List ℕ)} (row : ℕ)
    → new ≡ set marks row false → AreMarks marks chains
    → ((r : ℕ) → r ≢ row → times r (chain_in chains 1) ≤ times r (chain_in other 1))
    → AreMarks new other
marks-removed {marks} {new} {chains} {other} row is known more = grind (arith, mark-left)

-- The first row of chain 1 gets a mark.
pub marks-set : {marks new : List Bool} {chains : List (List ℕ)} (row : ℕ) (rest : List ℕ)
    → new ≡ set marks row true → AreMarks marks chains → chain_in chains 1 ≡ row ∷ rest
    → AreMarks new chains
marks-set {marks} {new} {chains} row rest is known first =
    grind (arith, cases_eq, times-same, get_or-set_other)

pub marks-left : {marks new : List Bool} {chains other : List (List ℕ)} (from : ℕ)
    → AreMarks marks chains
    → ((row : ℕ) → is_marked new row ≡ true → (from ≢ 1) × (is_marked marks row ≡ true))
    → (from ≢ 1 → (r : ℕ) → times r (chain_in chains 1) ≤ times r (chain_in other 1))
    → AreMarks new other
marks-left {marks} {new} {chains} {other} from known left more = grind arith

-- If chain 1 is replaced, its rows are among the new ones.
pub put-counts : (chains : List (List ℕ)) (chain row : ℕ) (rows : List ℕ)
    → (chain ≡ 1 → times row (chain_in chains 1) ≤ times row rows)
    → times row (chain_in chains 1) ≤ times row (chain_in (set chains chain rows) 1)
put-counts chains chain row rows more = elim (cases_eq chain 1) [
  | inl same ↦ elim (cases_lt chain (length chains)) [
    | inl within ↦ grind (arith, in-put, set)
    | inr past ↦ let none = ap (times row) (get_or_past chains 1 [] (omega arith)) in omega arith
  ]
  | inr other ↦
      let kept = ap (times row) (in-other chains chain 1 rows (λ e. other (sym e))) in omega arith
]

pub begun-counts : (chains : List (List ℕ)) (row : ℕ)
    → times row (chain_in chains 1) ≤ times row (chain_in (chains ++ [] ∷ []) 1)
begun-counts chains row = let same = ap (times row) (default-grown chains 1 []) in omega arith

pub longer-counts : (chains : List (List ℕ)) (chain row r : ℕ)
    → times r (chain_in chains 1)
    ≤ times r (chain_in (lengthened (shortened chains 0) chain row) 1)
longer-counts chains chain row r = grind (arith, put-counts, drop, times-append)

-- A chain other than chain 1 is emptied, and chain `onto` gets more rows.
moved-counts : (chains : List (List ℕ)) (from onto r : ℕ) (rows : List ℕ) → from ≢ 1
    → times r (chain_in chains onto) ≤ times r rows
    → times r (chain_in chains 1) ≤ times r (chain_in (set (set chains from []) onto rows) 1)
moved-counts chains from onto r rows apart more = grind (arith, put-counts, in-other, set)

pub joined-counts : (chains : List (List ℕ)) (from onto r : ℕ) → from ≢ 1
    → times r (chain_in chains 1) ≤ times r (chain_in (joined chains from onto) 1)
joined-counts chains from onto r apart = grind (arith, moved-counts, times-append)

pub fronted-counts : (chains : List (List ℕ)) (from onto r : ℕ) → from ≢ 1
    → times r (chain_in chains 1) ≤ times r (chain_in (fronted chains from onto) 1)
fronted-counts chains from onto r apart = grind (arith, moved-counts, times-append)

-- The first row of a chain is taken out.
shorter-counts : (chains : List (List ℕ)) (chain row r : ℕ) (rest : List ℕ)
    → chain_in chains chain ≡ row ∷ rest → r ≢ row
    → times r (chain_in chains 1) ≤ times r (chain_in (shortened chains chain) 1)
shorter-counts chains chain row r rest is apart = grind (arith, put-counts, drop, times-other)

pub taken-counts : (chains : List (List ℕ)) (chain row r : ℕ) (rest : List ℕ)
    → chain_in chains chain ≡ row ∷ rest → r ≢ row
    → times r (chain_in chains 1)
    ≤ times r (chain_in (preceded (shortened chains chain) 0 row) 1)
taken-counts chains chain row r rest is apart = grind (arith, shorter-counts, put-counts)

pub lifted-counts : (chains : List (List ℕ)) (from onto row r : ℕ) (rest : List ℕ)
    → chain_in chains from ≡ row ∷ rest → r ≢ row → onto ≢ from
    → times r (chain_in chains 1) ≤ times r (chain_in (lifted chains from onto) 1)
lifted-counts chains from onto row r rest is other apart =
    grind (arith, shorter-counts, in-other, drop, put-counts, take, times-append)

turned-times : (r : ℕ) (rows : List ℕ) → times r rows ≡ times r (drop 1 rows ++ take 1 rows)
turned-times r [] = omega arith
turned-times r (row ∷ rows) = omega (arith, times-append r rows (row ∷ []), times-append r (row ∷ []) rows)

pub turned-counts : (chains : List (List ℕ)) (chain r : ℕ)
    → times r (chain_in chains 1) ≤ times r (chain_in (turned chains chain) 1)
turned-counts chains chain r = grind (arith, put-counts, drop, take, turned-times)

-- The chain is turned back: turning the new rows gives the old ones.
pub back-counts : (chains : List (List ℕ)) (chain r : ℕ) (new : List ℕ)
    → drop 1 new ++ take 1 new ≡ chain_in chains chain
    → times r (chain_in chains 1) ≤ times r (chain_in (set chains chain new) 1)
back-counts chains chain r new is = grind (arith, put-counts, turned-times)

module _ {T : Type 0} where
  pub marked-of : (links : Links) (rows : List (Option T)) (walk : Option Walk)
      (chains : List (List ℕ)) {marks : List Bool}
      → IsTable links.next.items (seen_lasts links.lasts.items walk) rows chains
      → WalksChain links.lasts.items walk → AreMarks marks chains
      → IsMarked links rows walk marks
  marked-of links rows walk chains {marks} t walks known = record {
    sound = sound-of links rows walk chains t walks;
    known = marks-seen links rows walk chains marks t known;
  }

  -- The links and the rows have the same items as before.
  pub marked-same : (links new : Links) (rows other : List (Option T)) (walk : Option Walk)
      (marks : List Bool) → new.next.items ≡ links.next.items
      → new.lasts.items ≡ links.lasts.items → other ≡ rows → IsMarked links rows walk marks
      → IsMarked new other walk marks
  marked-same links new rows other walk marks e d f s = record {
    sound = sound-same links new rows other walk e d f s.sound;
    known = grind arith;
  }

  pub walk-marked : (links : Links) (rows : List (Option T)) (walk : Option Walk) (chain : ℕ)
      (at : Option ℕ) (marks : List Bool) → IsMarked links rows walk marks
      → walked_in walk ≡ None → 0 < chain → chain < length links.lasts.items
      → at ≡ last_in links.lasts.items chain
      → IsMarked links rows (Some (record { chain = chain; at = at })) marks
  walk-marked links rows walk chain at marks s rest shown less is = record {
    sound = walk-made links rows walk chain at s.sound rest shown less is;
    known = grind (arith, set, last-again);
  }

  pub rest-marked : (links new : Links) (rows : List (Option T)) (walk : Option Walk) (w : Walk)
      (marks : List Bool) → IsMarked links rows walk marks → walk ≡ Some w
      → new.next.items ≡ links.next.items → new.lasts.items ≡ set links.lasts.items w.chain w.at
      → IsMarked new rows None marks
  rest-marked links new rows walk w marks s is same noted = grind (arith, rest-made)
