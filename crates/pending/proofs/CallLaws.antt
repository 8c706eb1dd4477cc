-- The table after a call that takes a value out or puts a value in.
use Rattle.std.proofs.Common.{◌≡◌, ℕ, zero, suc, ◌+◌, ◌-◌, ◌<◌, ◌≤◌, max, List, [], ◌∷◌, ◌++◌}
use Rattle.std.proofs.Common.{length, map, get_or, set, drop, replicate, Option, Some, None, refl}
use Rattle.std.proofs.Common.{ap, sym, ◌∙◌, subst, arith, length-append, min, vec_capacity}
use Rattle.std.proofs.lemmas.List.{length-map, length-replicate, get_or_at, get_or-set_other}
use Rattle.std.proofs.lemmas.List.{set_at}
use Rattle.std.proofs.lemmas.List.Sums.{sum_by-cons}
use Rattle.std.specs.List.{sum_by}
use Rattle.std.specs.Prelude.{slice_get, OnSome, Bool, true, false, not, is_some, ◌==◌}
use Rattle.std.proofs.lemmas.Bool.{ne_eqb}
use Rattle.pending.specs.declared.chains.links.Links.{Links}
use Rattle.pending.specs.declared.chains.walk.Walk.{Walk}
use Rattle.pending.specs.ChainsView.{chain_in, count_in, lengthened, new_rows_room, preceded}
use Rattle.pending.specs.ChainsView.{shortened}
use Rattle.pending.specs.inside.Tables.{Changes, IsLoose, after, last_in, times, HoldChains, chains_of}
use Rattle.pending.specs.inside.Tables.{seen_chains, seen_lasts, value_at, values_of, shown_of}
use Rattle.pending.specs.inside.Tables.{walked_in, IsOpen, IsSound, IsTable, WalksChain}
use Rattle.pending.proofs.RingLaws.{chain-map, value-there, values-first, times-same, in-put}
use Rattle.pending.proofs.RingLaws.{in-other, there}
use Rattle.pending.proofs.HoldsLaws.{none-at, default-grown, first-of, holds-more}
use Rattle.pending.proofs.HoldsLaws.{holds-same, is-row, ring-at}
use Rattle.pending.proofs.TableLaws.{chain-full, chain-length, closed-filled, closed-free}
use Rattle.pending.proofs.TableLaws.{free-none, nothing-cut, open-taken, table-rest}

pub on-some : {A : Type 0} (found : Option A) (P : Type 0) → P → OnSome found P
on-some found P p = grind arith

seen-free : (lasts : List (Option ℕ)) (walk : Option Walk) → WalksChain lasts walk
    → last_in (seen_lasts lasts walk) 0 ≡ last_in lasts 0
seen-free lasts walk walks = grind (arith, get_or-set_other)

not-some : (found : Option ℕ) → is_some found ≡ false → found ≡ None
not-some None none = refl
not-some (Some x) none = cc

pub begun-filled : {X : Type 0} (chains : List (List X)) (chain : ℕ) (x : X) → chain ≡ length chains
    → lengthened (chains ++ [] ∷ []) chain x ≡ chains ++ (x ∷ []) ∷ []
begun-filled chains chain x is = grind (arith, get_or_at, set_at)

pub default-in : {X : Type 0} (n i : ℕ) (d : X) → get_or (replicate n d) i d ≡ d
default-in zero i d = refl
default-in (suc n) zero d = refl
default-in (suc n) (suc i) d = default-in n i d

pub sum-none : {X : Type 0} (f : X → ℕ) (n : ℕ) (x : X) → f x ≡ 0 → sum_by f (replicate n x) ≡ 0
sum-none f zero x none = refl
sum-none f (suc n) x none = omega (arith, sum_by-cons f x (replicate n x), sum-none f n x none)

pub holds-none : (n : ℕ) → HoldChains [] (replicate n None) [] (replicate n [])
holds-none n = grind (arith, length-replicate, default-in, sum-none)

pub first-row : {next : List ℕ} {lasts : List (Option ℕ)} {loose : List ℕ} {chains : List (List ℕ)}
    → HoldChains next lasts loose chains
    → (chain last row : ℕ) → last_in lasts chain ≡ Some last → row ≡ after next last
    → (rest : List ℕ) × (chain_in chains chain ≡ row ∷ rest)
first-row {next} {lasts} {loose} {chains} h chain last row noted is =
    grind (arith, first-of, ring-at)

pub longer-free : (chains : List (List ℕ)) (row : ℕ) → 0 < length chains
    → length (chain_in (preceded chains 0 row) 0) ≡ 1 + length (chain_in chains 0)
longer-free chains row within = grind (arith, in-put)

pub shorter-free : (chains : List (List ℕ))
    → length (chain_in (shortened chains 0) 0) ≡ length (chain_in chains 0) - 1
shorter-free chains = by_chain (chain_in chains 0) refl
  where
    by_chain : (free : List ℕ) → chain_in chains 0 ≡ free
        → length (chain_in (shortened chains 0) 0) ≡ length (chain_in chains 0) - 1
    by_chain [] is = grind (arith, nothing-cut)
    by_chain (row ∷ free) is = grind (arith, there, length, in-put, drop)

pub free-kept : (chains : List (List ℕ)) (chain : ℕ) (rows : List ℕ) → 0 < chain
    → chain_in (set chains chain rows) 0 ≡ chain_in chains 0
free-kept chains chain rows shown = in-other chains chain 0 rows (λ e. absurd (omega arith))

module _ {T : Type 0} where
  pub first-value : {next : List ℕ} {lasts : List (Option ℕ)} {rows : List (Option T)}
      {chains : List (List ℕ)} → IsTable next lasts rows chains
      → (chain row : ℕ) (rest : List ℕ) → 0 < chain → chain_in chains chain ≡ row ∷ rest
      → (value : T) × (value_at rows row ≡ Some value)
      × (slice_get (chain_in (map (values_of rows) chains) chain) 0 ≡ Some value)
  first-value {next} {lasts} {rows} {chains} t chain row rest shown is =
      let front = times-same row row rest refl in
      let counts = ap (times row) is in
      let found = value-there (value_at rows row) (chain-full t chain row shown (omega arith)) in (
        found.0,
        found.1,
        rw (chain-map (values_of rows) chains chain refl ∙ ap (values_of rows) is ∙
            values-first rows row rest found.0 found.1),
      )

  pub row-within : {next : List ℕ} {lasts : List (Option ℕ)} {rows : List (Option T)}
      {chains : List (List ℕ)} → IsTable next lasts rows chains
      → (chain row : ℕ) (rest : List ℕ) → chain_in chains chain ≡ row ∷ rest → row < length rows
  row-within {next} {lasts} {rows} {chains} t chain row rest is =
      let front = times-same row row rest refl in
      let counts = ap (times row) is in
      let small = is-row t.holds chain row (omega arith) in
      let sized = t.sized in
      omega arith

  pub chain-noted : {next : List ℕ} {lasts : List (Option ℕ)} {rows : List (Option T)}
      {chains : List (List ℕ)} → IsTable next lasts rows chains
      → (chain : ℕ) → chain < length (map (values_of rows) chains) → chain < length lasts
  chain-noted {next} {lasts} {rows} {chains} t chain less = grind (arith, length-map)

  pub loose-open : {next : List ℕ} {lasts : List (Option ℕ)} {rows : List (Option T)} {row : ℕ}
      {chains : List (List ℕ)} → IsOpen next lasts rows row chains
      → (chain : ℕ) → chain < length lasts → IsLoose next lasts chain row
  loose-open {next} {lasts} {rows} {row} {chains} o chain less = grind arith

  pub open-within : {next : List ℕ} {lasts : List (Option ℕ)} {rows : List (Option T)} {row : ℕ}
      {chains : List (List ℕ)} → IsOpen next lasts rows row chains
      → row < length rows
  open-within {next} {lasts} {rows} {row} {chains} o =
      let one = times-same row row [] refl in
      let small = is-row o.holds 0 row (omega arith) in
      let sized = o.sized in
      omega arith

  -- Each row has a value or is free.
  pub table-count : {next : List ℕ} {lasts : List (Option ℕ)} {rows : List (Option T)}
      {chains : List (List ℕ)} → IsTable next lasts rows chains
      → count_in (map (values_of rows) chains) + length (chain_in chains 0) ≡ length rows
  table-count {next} {lasts} {rows} {chains} t = by_chains chains t refl
    where
      rest_count : (more : List (List ℕ))
          → ((chain : ℕ) → length (values_of rows (chain_in more chain))
          ≡ length (chain_in more chain))
          → sum_by length (map (values_of rows) more) ≡ sum_by length more
      rest_count [] same = refl
      rest_count (rs ∷ more) same =
          let here = same 0 in
          let step = sum_by-cons length rs more in
          let next_step = sum_by-cons length (values_of rows rs) (map (values_of rows) more) in
          omega (arith, rest_count more (λ chain. same (suc chain)))

      by_chains : (cs : List (List ℕ)) → IsTable next lasts rows cs → cs ≡ chains
          → count_in (map (values_of rows) chains) + length (chain_in chains 0) ≡ length rows
      by_chains [] u e = absurd (let size = (u.holds).size in let f = u.free in omega arith)
      by_chains (free ∷ more) u e =
          let P : List (List ℕ) → Type 0 =
          λ cs. count_in (map (values_of rows) cs) + length (chain_in cs 0) ≡ length rows in
          let none = ap length (free-none u) in
          let all = (u.holds).all in
          let sized = u.sized in
          subst P e (omega (
            arith,
            sum_by-cons length free more,
            sum_by-cons length (values_of rows free) (map (values_of rows) more),
            rest_count more (λ chain. chain-length u (suc chain) (omega arith)),
          ))

  -- Before a value was put in, there were `before` rows, and `free` of them were free.
  pub table-rows : {next : List ℕ} {lasts : List (Option ℕ)} {rows : List (Option T)}
      {chains : List (List ℕ)} → IsTable next lasts rows chains
      → (before free : ℕ) → length rows ≡ max before (before - free + 1) → free ≤ before
      → length (chain_in chains 0) ≡ free - 1
      → length rows ≡ max before (count_in (map (values_of rows) chains))
  table-rows {next} {lasts} {rows} {chains} t before free grew few less = grind (arith, table-count)

  pub room-of : {links : Links} {rows : List (Option T)} {walk : Option Walk} → (capacity : ℕ)
      → IsSound links rows walk
      → new_rows_room (shown_of links rows capacity walk)
      ≡ min (vec_capacity links.next - length links.next.items) (capacity - length rows)
  room-of capacity s = let count = table-count s.table in omega arith

  pub all-new : {links : Links} {rows : List (Option T)} {walk : Option Walk} → (capacity : ℕ)
      → IsSound links rows walk → is_some (last_in links.lasts.items 0) ≡ false
      → new_rows_room (shown_of links rows capacity walk)
      ≡ (shown_of links rows capacity walk).spare
  all-new {links} {rows} {walk} capacity s none =
      grind (arith, seen-free, not-some, none-at, table-count)

  pub free-few : {next : List ℕ} {lasts : List (Option ℕ)} {rows : List (Option T)}
      {chains : List (List ℕ)} → IsTable next lasts rows chains
      → length (chain_in chains 0) ≤ length rows
  free-few t = let count = table-count t in omega arith

  -- `mid` are the links after the chain's first row was taken out.
  pub taken-open : {links : Links} {rows : List (Option T)} {walk : Option Walk}
      → IsSound links rows walk → walked_in walk ≡ None
      → (chain last row : ℕ) → 0 < chain → last_in links.lasts.items chain ≡ Some last
      → row ≡ after links.next.items last
      → (mid : Links) → Changes links mid 1
      → (HoldChains links.next.items links.lasts.items [] (seen_chains links walk)
      → HoldChains mid.next.items mid.lasts.items (row ∷ []) (shortened (seen_chains links walk) chain))
      → IsOpen mid.next.items mid.lasts.items (set rows row None) row
      (shortened (seen_chains links walk) chain)
  taken-open {links} {rows} {walk} s rest chain last row shown noted is mid changes step =
      grind (arith, table-rest, first-row, open-taken)

  -- `new` are the links after the loose row was put before the free rows.
  pub taken-table : {mid : Links} {rows : List (Option T)} {row : ℕ} {chains : List (List ℕ)}
      → IsOpen mid.next.items mid.lasts.items rows row chains
      → (new : Links) → Changes mid new 2
      → new.lasts.items ≡ set mid.lasts.items 0 (last_in new.lasts.items 0)
      → (HoldChains mid.next.items mid.lasts.items (row ∷ []) chains
      → HoldChains new.next.items (set mid.lasts.items 0 (last_in new.lasts.items 0)) []
      (preceded chains 0 row))
      → IsTable new.next.items new.lasts.items rows (preceded chains 0 row)
  taken-table {mid} {rows} {row} {chains} o new changes noted step =
      grind (arith, closed-free, holds-same)

  pub filled-table : {mid : Links} {rows : List (Option T)} {row : ℕ} {chains : List (List ℕ)}
      → IsOpen mid.next.items mid.lasts.items rows row chains
      → (new : Links) (most chain : ℕ) (value : T) → 0 < chain → Changes mid new most
      → (HoldChains mid.next.items mid.lasts.items (row ∷ []) chains
      → HoldChains new.next.items new.lasts.items [] (lengthened chains chain row))
      → IsTable new.next.items new.lasts.items (set rows row (Some value))
      (lengthened chains chain row)
  filled-table {mid} {rows} {row} {chains} o new most chain value shown changes step =
      grind (arith, closed-filled)

  pub sound-same : (links new : Links) (rows other : List (Option T)) (walk : Option Walk)
      → new.next.items ≡ links.next.items
      → new.lasts.items ≡ links.lasts.items → other ≡ rows → IsSound links rows walk
      → IsSound new other walk
  sound-same links new rows other walk e d f s =
      let P : List ℕ → Type 0 =
      λ n. IsTable n (seen_lasts new.lasts.items walk) other
      (chains_of n (seen_lasts new.lasts.items walk)) in
      let Q : List (Option ℕ) → Type 0 =
      λ l. IsTable links.next.items (seen_lasts l walk) other
      (chains_of links.next.items (seen_lasts l walk)) in
      let R : List (Option T) → Type 0 =
      λ r. IsTable links.next.items (seen_lasts links.lasts.items walk) r
      (seen_chains links walk) in
      let W : List (Option ℕ) → Type 0 = λ l. WalksChain l walk in
      record {
        table = subst P (sym e) (subst Q (sym d) (subst R (sym f) s.table));
        walks = subst W (sym d) s.walks;
      }

  pub begun-table : {next : List ℕ} {lasts : List (Option ℕ)} {rows : List (Option T)}
      {chains : List (List ℕ)} → IsTable next lasts rows chains
      → IsTable next (lasts ++ None ∷ []) rows (chains ++ [] ∷ [])
  begun-table {next} {lasts} {rows} {chains} t = record {
    holds = holds-more t.holds;
    sized = t.sized;
    free = let f = t.free in omega (arith, length-append lasts (None ∷ []));
    full = λ row less. let f = t.full row less in
        let e = ap (times row) (default-grown chains 0 []) in omega arith;
  }

  pub new-table : (more : ℕ) (rows : List (Option T)) → rows ≡ []
      → IsTable [] (replicate (suc more) None) rows (replicate (suc more) [])
  new-table more rows empty = record {
    holds = holds-none (suc more);
    sized = ap length empty;
    free = omega arith;
    full = λ row less. absurd (let e = ap length empty in omega arith);
  }

  pub map-none : (rows : List (Option T)) (more : ℕ)
      → map (values_of rows) (replicate more []) ≡ replicate more []
  map-none rows zero = refl
  map-none rows (suc more) = grind (arith, map-none rows more)

  -- A chain is empty if and only if it has no last row.
  pub empty-is : {next : List ℕ} {lasts : List (Option ℕ)} {rows : List (Option T)}
      {chains : List (List ℕ)} → IsTable next lasts rows chains
      → (chain : ℕ) (last : Option ℕ) (empty : Bool) → 0 < chain → last ≡ last_in lasts chain
      → is_some last ≡ not empty
      → empty ≡ (length (values_of rows (chain_in chains chain)) == 0)
  empty-is {next} {lasts} {rows} {chains} t chain None true shown noted there =
      grind (arith, none-at)
  empty-is {next} {lasts} {rows} {chains} t chain None false shown noted there = cc
  empty-is {next} {lasts} {rows} {chains} t chain (Some last) true shown noted there = cc
  empty-is {next} {lasts} {rows} {chains} t chain (Some last) false shown noted there =
      grind (arith, ring-at, chain-length, ne_eqb)
