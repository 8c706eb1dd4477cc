-- Laws of rows in lists, of links that lead over rows (ways, rings, chains), and of rows' values.
use Rattle.std.proofs.Common.{◌<◌, ◌≤◌, List, [], ◌∷◌, length, map, get_or, ◌++◌, set, Option, Some}
use Rattle.std.proofs.Common.{None, refl, ap, sym, arith, length-append, ◌≡◌, ◌≢◌, ℕ, zero}
use Rattle.std.proofs.Common.{suc, ◌+◌}
use Rattle.std.specs.Prelude.{is_some, IfSome, true}
use Rattle.std.proofs.lemmas.Bool.{cases_lt, eq-eqb, ne_eqb}
use Rattle.std.proofs.lemmas.List.{get_or-set_same, get_or-set_other, get_or_append_left, map-set}
use Rattle.std.proofs.lemmas.List.{get_or_past}
use Rattle.std.proofs.lemmas.List.Sums.{sum_by-cons, sum_by-set}
use Rattle.std.specs.List.{sum_by}
use Rattle.pending.specs.ChainsView.{chain_in, fronted, joined}
use Rattle.pending.specs.inside.Tables.{filled, after, times, value_at, values_of}
use Rattle.pending.specs.inside.Tables.{Leads, IsRing, IsChain}

pub times-same : (row other : ℕ) (rows : List ℕ) → other ≡ row
    → times row (other ∷ rows) ≡ 1 + times row rows
times-same row other rows same = grind (arith, eq-eqb)

pub times-other : (row other : ℕ) (rows : List ℕ) → other ≢ row
    → times row (other ∷ rows) ≡ times row rows
times-other row other rows apart = grind (arith, ne_eqb)

pub times-append : (row : ℕ) (xs ys : List ℕ) → times row (xs ++ ys) ≡ times row xs + times row ys
times-append row [] ys = omega arith
times-append row (x ∷ xs) ys = omega (arith, times-append row xs ys)

pub not-first : (row other : ℕ) (rows : List ℕ) → times row (other ∷ rows) ≡ 0 → other ≢ row
not-first row other rows none same = absurd (let e = times-same row other rows same in omega arith)

pub leads-append : (next : List ℕ) (from : ℕ) (xs : List ℕ) (by : ℕ) (ys : List ℕ) (to : ℕ)
    → Leads next from xs by → Leads next by ys to
    → Leads next from (xs ++ ys) to
leads-append next from [] by ys to first second = grind arith
leads-append next from (x ∷ xs) by ys to first second =
    (first.0, leads-append next x xs by ys to first.1 second)

pub leads-front : (next : List ℕ) (from : ℕ) (xs : List ℕ) (row : ℕ) (ys : List ℕ) (to : ℕ)
    → Leads next from (xs ++ row ∷ ys) to
    → Leads next from (xs ++ row ∷ []) row
leads-front next from [] row ys to leads = (leads.0, refl)
leads-front next from (x ∷ xs) row ys to leads = (leads.0, leads-front next x xs row ys to leads.1)

pub leads-back : (next : List ℕ) (from : ℕ) (xs : List ℕ) (row : ℕ) (ys : List ℕ) (to : ℕ)
    → Leads next from (xs ++ row ∷ ys) to
    → Leads next row ys to
leads-back next from [] row ys to leads = leads.1
leads-back next from (x ∷ xs) row ys to leads = leads-back next x xs row ys to leads.1

pub leads-end : (next : List ℕ) (from row : ℕ) (rows : List ℕ) (to : ℕ)
    → Leads next from (row ∷ rows) to
    → (front : List ℕ) × (row ∷ rows ≡ front ++ to ∷ [])
leads-end next from row [] to leads = grind arith
leads-end next from row (other ∷ rows) to leads =
    let rest = leads-end next row other rows to leads.1 in
    (row ∷ rest.0, rw rest.1)

-- A way is a list of rows that links lead over (`Leads`); it follows the links of its sources.
abbrev pub sources : ℕ → List ℕ → List ℕ
sources from [] = []
sources from (row ∷ rows) = from ∷ sources row rows

pub times-sources : (next : List ℕ) (from : ℕ) (rows : List ℕ) (to row : ℕ)
    → Leads next from rows to
    → times row (sources from rows) + times row (to ∷ []) ≡ times row (from ∷ rows)
times-sources next from [] to row leads = grind arith
times-sources next from (other ∷ rows) to row leads =
    omega (arith, times-sources next other rows to row leads.1)

-- Only the links of the rows `one` and `two` may differ.
pub record SameBut (next new : List ℕ) (one two : ℕ) : Type 0 where
  pub at : (row : ℕ) → row ≢ one → row ≢ two → after new row ≡ after next row

pub same-but-one : (next : List ℕ) (row to : ℕ) → SameBut next (set next row to) row row
same-but-one next row to = grind (arith, get_or-set_other)

pub same-but-two : (next : List ℕ) (one to two by : ℕ)
    → SameBut next (set (set next one to) two by) one two
same-but-two next one to two by = grind (arith, get_or-set_other)

pub leads-kept : (next new : List ℕ) (from : ℕ) (rows : List ℕ) (to one two : ℕ)
    → Leads next from rows to → SameBut next new one two
    → times one (sources from rows) ≡ 0 → times two (sources from rows) ≡ 0 → Leads new from rows to
leads-kept next new from [] to one two leads same first second = leads
leads-kept next new from (row ∷ rows) to one two leads same first second =
    grind (arith, leads-kept next new row rows to one two leads.1 same, not-first, times-other)

pub ring-kept : (next new : List ℕ) (last : ℕ) (rows : List ℕ) (one two : ℕ) → IsRing next last rows
    → SameBut next new one two
    → times one rows ≡ 0 → times two rows ≡ 0 → IsRing new last rows
ring-kept next new last rows one two ring same first second =
    let step = times-sources next last rows last one ring.leads in
    let next_step = times-sources next last rows last two ring.leads in
    grind (arith, leads-kept)

pub chain-kept : (next new : List ℕ) (last : Option ℕ) (rows : List ℕ) (one two : ℕ)
    → IsChain next last rows → SameBut next new one two
    → times one rows ≡ 0 → times two rows ≡ 0 → IsChain new last rows
chain-kept next new last rows one two chain same first second = grind (arith, ring-kept)

pub sources-none : (next : List ℕ) (from : ℕ) (rows : List ℕ) (to row : ℕ) → Leads next from rows to
    → times row (from ∷ rows) ≡ 0
    → times row (sources from rows) ≡ 0
sources-none next from rows to row leads none =
    omega (arith, times-sources next from rows to row leads)

-- A way that has its end only once doesn't follow its end's link, so this link may be written.
pub sources-end : (next : List ℕ) (from : ℕ) (rows : List ℕ) (to : ℕ) → Leads next from rows to
    → times to (from ∷ rows) ≤ 1
    → times to (sources from rows) ≡ 0
sources-end next from rows to leads few =
    let one = times-same to to [] refl in omega (arith, times-sources next from rows to to leads)

pub last-counts : (next : List ℕ) (last : ℕ) (rows : List ℕ) → IsRing next last rows
    → 0 < times last rows
last-counts next last [] ring = ring.some
last-counts next last (row ∷ rows) ring =
    let end = leads-end next last row rows last ring.leads in
    let one = times-same last last [] refl in
    let e = ap (times last) end.1 in
    omega (arith, times-append last end.0 (last ∷ []))

pub ring-parts : (next : List ℕ) (last : ℕ) (rows : List ℕ) → IsRing next last rows
    → (rest : List ℕ) × (rows ≡ after next last ∷ rest) × Leads next (after next last) rest last
ring-parts next last [] ring = absurd (let some = ring.some in omega arith)
ring-parts next last (row ∷ rows) ring = grind arith

-- A ring has no fixed end: each of its rows may count as the last.
pub ring-turned : (next : List ℕ) (last : ℕ) (front : List ℕ) (row : ℕ) (back : List ℕ)
    → IsRing next last (front ++ row ∷ back)
    → IsRing next row (back ++ (front ++ row ∷ []))
ring-turned next last front row back ring =
    grind (arith, leads-append, leads-back, leads-front, length-append)

pub some-of : (found : Option ℕ) (row : ℕ) → is_some found ≡ true
    → IfSome found (λ other. other ≡ row) → found ≡ Some row
some-of found row there same = grind arith

pub there : {X : Type 0} (chains : List (List X)) (chain : ℕ) → 0 < length (chain_in chains chain)
    → chain < length chains
there chains chain some = grind (arith, cases_lt, get_or_past)

-- `d` is what is read past the end of the list.
pub one-of : {X : Type 0} (f : X → ℕ) (xs : List X) (i : ℕ) (d : X) → f d ≡ 0
    → f (get_or xs i d) ≤ sum_by f xs
one-of f [] i d none = omega arith
one-of f (x ∷ xs) zero d none = omega (arith, sum_by-cons f x xs)
one-of f (x ∷ xs) (suc i) d none = omega (arith, sum_by-cons f x xs, one-of f xs i d none)

pub two-of : {X : Type 0} (f : X → ℕ) (xs : List X) (i j : ℕ) (d : X) → f d ≡ 0 → i ≢ j
    → f (get_or xs i d) + f (get_or xs j d) ≤ sum_by f xs
two-of f [] i j d none apart = omega arith
two-of f (x ∷ xs) zero zero d none apart = absurd (apart refl)
two-of f (x ∷ xs) zero (suc j) d none apart =
    omega (arith, sum_by-cons f x xs, one-of f xs j d none)
two-of f (x ∷ xs) (suc i) zero d none apart =
    omega (arith, sum_by-cons f x xs, one-of f xs i d none)
two-of f (x ∷ xs) (suc i) (suc j) d none apart =
    omega (arith, sum_by-cons f x xs, two-of f xs i j d none (λ e. apart (ap suc e)))

pub sum-put : {X : Type 0} (f : List X → ℕ) (chains : List (List X)) (chain : ℕ) (xs : List X)
    → chain < length chains
    → sum_by f (set chains chain xs) + f (chain_in chains chain) ≡ sum_by f chains + f xs
sum-put f chains chain xs less = sum_by-set f chains chain xs [] less

pub in-put : {X : Type 0} (chains : List (List X)) (chain : ℕ) (xs : List X) → chain < length chains
    → chain_in (set chains chain xs) chain ≡ xs
in-put chains chain xs less = get_or-set_same chains chain xs [] less

pub in-other : {X : Type 0} (chains : List (List X)) (chain other : ℕ) (xs : List X) → other ≢ chain
    → chain_in (set chains chain xs) other ≡ chain_in chains other
in-other chains chain other xs apart = get_or-set_other chains chain other xs [] apart

pub chain-map : {X Y : Type 0} (f : List X → List Y) (chains : List (List X)) (chain : ℕ)
    → f [] ≡ []
    → chain_in (map f chains) chain ≡ f (chain_in chains chain)
chain-map f [] chain none = sym none
chain-map f (xs ∷ chains) zero none = refl
chain-map f (xs ∷ chains) (suc chain) none = chain-map f chains chain none

pub values-append : {T : Type 0} (rows : List (Option T)) (xs ys : List ℕ)
    → values_of rows (xs ++ ys) ≡ values_of rows xs ++ values_of rows ys
values-append rows [] ys = refl
values-append rows (x ∷ xs) ys = grind (arith, values-append rows xs ys)

pub values-kept : {T : Type 0} (rows : List (Option T)) (row : ℕ) (value : Option T)
    (chain : List ℕ) → times row chain ≡ 0
    → values_of (set rows row value) chain ≡ values_of rows chain
values-kept rows row value [] none = refl
values-kept rows row value (other ∷ chain) none =
    let apart : other ≢ row = not-first row other chain none in
    let step =
    values-kept rows row value chain (omega (arith, times-other row other chain apart)) in
    grind (arith, get_or-set_other, times-other)

pub values-grown : {T : Type 0} (rows more : List (Option T)) (chain : List ℕ)
    → ((row : ℕ) → 0 < times row chain → row < length rows)
    → values_of (rows ++ more) chain ≡ values_of rows chain
values-grown rows more [] within = refl
values-grown rows more (row ∷ chain) within =
    grind (arith, values-grown rows more chain (λ r some. within r (omega arith)), get_or_append_left rows more None row (within row (omega (arith, times-same row row chain refl))))

pub values-full : {T : Type 0} (rows : List (Option T)) (chain : List ℕ)
    → ((row : ℕ) → 0 < times row chain → filled (value_at rows row) ≡ 1)
    → length (values_of rows chain) ≡ length chain
values-full {T} rows [] full = refl
values-full {T} rows (row ∷ chain) full =
    grind (arith, values-full rows chain (λ r some. full r (omega arith)), times-same)

pub values-none : {T : Type 0} (rows : List (Option T)) (chain : List ℕ)
    → ((row : ℕ) → 0 < times row chain → filled (value_at rows row) ≡ 0)
    → values_of rows chain ≡ []
values-none {T} rows [] none = refl
values-none {T} rows (row ∷ chain) none =
    grind (arith, values-none rows chain (λ r some. none r (omega arith)), times-same)

pub values-first : {T : Type 0} (rows : List (Option T)) (row : ℕ) (rest : List ℕ) (value : T)
    → value_at rows row ≡ Some value
    → values_of rows (row ∷ rest) ≡ value ∷ values_of rows rest
values-first rows row rest value is = grind arith

pub value-there : {T : Type 0} (found : Option T) → filled found ≡ 1
    → (value : T) × (found ≡ Some value)
value-there found not_there = grind arith

pub value-none : {T : Type 0} (found : Option T) → filled found ≡ 0 → found ≡ None
value-none found not_there = grind arith

pub map-joined : {T : Type 0} (rows : List (Option T)) (chains : List (List ℕ)) (from onto : ℕ)
    → map (values_of rows) (joined chains from onto)
    ≡ joined (map (values_of rows) chains) from onto
map-joined rows chains from onto = grind (arith, map-set, values-append, chain-map)

pub map-fronted : {T : Type 0} (rows : List (Option T)) (chains : List (List ℕ)) (from onto : ℕ)
    → map (values_of rows) (fronted chains from onto)
    ≡ fronted (map (values_of rows) chains) from onto
map-fronted rows chains from onto = grind (arith, map-set, values-append, chain-map)
