-- How each operation on links changes the chains that they hold.
use Rattle.std.proofs.lemmas.List.Sums.{sum_by_push}
use Rattle.std.proofs.Common.{zero, suc, get_or, ◌≡◌, ◌≢◌, ℕ, ◌+◌, ◌<◌, ◌≤◌, List, [], ◌∷◌, ◌++◌}
use Rattle.std.proofs.Common.{length, set, drop, Option, Some, None, refl, ap, sym, ◌∙◌, subst, inl}
use Rattle.std.proofs.Common.{inr, arith, length-append, length-set}
use Rattle.std.specs.Prelude.{IfSome}
use Rattle.std.proofs.lemmas.Bool.{cases_eq, cases_lt}
use Rattle.std.proofs.lemmas.List.{get_or-set_same, get_or-set_other, get_or_past, set-set}
use Rattle.std.proofs.lemmas.List.{set-get_or, append-nil, append_assoc}
use Rattle.pending.specs.ChainsView.{chain_in, fronted, joined, lengthened, preceded, shortened}
use Rattle.pending.specs.inside.Tables.{HoldChains, after, last_in, times, Leads, IsRing}
use Rattle.pending.specs.inside.Tables.{IsChain}
use Rattle.pending.proofs.RingLaws.{ring-parts, ring-turned, sources-none, sources-end, last-counts}
use Rattle.pending.proofs.RingLaws.{leads-kept, leads-end, same-but-one, same-but-two, chain-kept}
use Rattle.pending.proofs.RingLaws.{SameBut, times-same, times-other, times-append, leads-append}
use Rattle.pending.proofs.RingLaws.{one-of, two-of, sum-put, in-put, in-other}

pub default-grown : {X : Type 0} (xs : List X) (i : ℕ) (d : X)
    → get_or (xs ++ d ∷ []) i d ≡ get_or xs i d
default-grown [] zero d = refl
default-grown [] (suc i) d = refl
default-grown (x ∷ xs) zero d = refl
default-grown (x ∷ xs) (suc i) d = default-grown xs i d

-- The new link leads to row 0, as does each link past the end.
pub after-grown : (next : List ℕ) (row : ℕ) → after (next ++ 0 ∷ []) row ≡ after next row
after-grown next row = default-grown next row 0

pub last-there : (lasts : List (Option ℕ)) (chain last : ℕ) → last_in lasts chain ≡ Some last
    → chain < length lasts
last-there lasts chain last is = grind (arith, cases_lt, get_or_past)

pub ring-at : {next : List ℕ} {lasts : List (Option ℕ)} {loose : List ℕ} {chains : List (List ℕ)}
    → HoldChains next lasts loose chains
    → (chain last : ℕ) → last_in lasts chain ≡ Some last → IsRing next last (chain_in chains chain)
ring-at {next} {lasts} {loose} {chains} h chain last is = grind arith

pub none-at : {next : List ℕ} {lasts : List (Option ℕ)} {loose : List ℕ} {chains : List (List ℕ)}
    → HoldChains next lasts loose chains
    → (chain : ℕ) → last_in lasts chain ≡ None → chain_in chains chain ≡ []
none-at {next} {lasts} {loose} {chains} h chain is = grind arith

pub few-in : {next : List ℕ} {lasts : List (Option ℕ)} {loose : List ℕ} {chains : List (List ℕ)}
    → HoldChains next lasts loose chains
    → (chain row : ℕ) → times row loose + times row (chain_in chains chain) ≤ 1
few-in {next} {lasts} {loose} {chains} h chain row = grind (arith, one-of)

pub few-in-two : {next : List ℕ} {lasts : List (Option ℕ)} {loose : List ℕ} {chains : List (List ℕ)}
    → HoldChains next lasts loose chains
    → (chain other row : ℕ) → chain ≢ other
    → times row loose + times row (chain_in chains chain) + times row (chain_in chains other) ≤ 1
few-in-two {next} {lasts} {loose} {chains} h chain other row apart = grind (arith, two-of)

pub is-row : {next : List ℕ} {lasts : List (Option ℕ)} {loose : List ℕ} {chains : List (List ℕ)}
    → HoldChains next lasts loose chains
    → (chain row : ℕ) → 0 < times row loose + times row (chain_in chains chain) → row < length next
is-row {next} {lasts} {loose} {chains} h chain row some = grind (arith, cases_lt, one-of)

-- If a chain is replaced, the rows that it loses become loose, and it gains only loose rows.
pub holds-put : {next : List ℕ} {lasts : List (Option ℕ)} {loose : List ℕ} {chains : List (List ℕ)}
    → HoldChains next lasts loose chains
    → (new left : List ℕ) (chain : ℕ) (last : Option ℕ) (rows : List ℕ) → chain < length lasts
    → length new ≡ length next
    → IsChain new last rows
    → ((other : ℕ) → other ≢ chain → IsChain new (last_in lasts other) (chain_in chains other))
    → ((row : ℕ) → times row left + times row rows
    ≡ times row loose + times row (chain_in chains chain))
    → length left + length rows ≡ length loose + length (chain_in chains chain)
    → HoldChains new (set lasts chain last) left (set chains chain rows)
holds-put {next} {lasts} {loose}
    {chains} h new left chain last rows less long here others same count =
    grind (
      arith,
      length-set,
      cases_eq,
      get_or-set_same,
      in-put,
      get_or-set_other,
      in-other,
      sum-put,
    )

-- If another row of a chain counts as its last, the chain is turned, and no link is written.
pub holds-turned : {next : List ℕ} {lasts : List (Option ℕ)} {loose : List ℕ}
    {chains : List (List ℕ)} → HoldChains next lasts loose chains
    → (chain : ℕ) (front : List ℕ) (row : ℕ) (back : List ℕ)
    → chain_in chains chain ≡ front ++ row ∷ back
    → HoldChains next (set lasts chain (Some row)) loose (set chains chain (back ++ (front ++ row ∷ [])))
holds-turned {next} {lasts} {loose} {chains} h chain front row back is =
    by_last (last_in lasts chain) refl
  where
    at : (last : ℕ) → last_in lasts chain ≡ Some last
        → HoldChains next (set lasts chain (Some row)) loose
        (set chains chain (back ++ (front ++ row ∷ [])))
    at last there =
        let ring = ring-at h chain last there in
        let P : List ℕ → Type 0 = λ rows. IsRing next last rows in
        let turned = ring-turned next last front row back (subst P is ring) in
        holds-put h next loose chain (Some row) (back ++ (front ++ row ∷ []))
        (last-there lasts chain last there) refl turned
        (λ other apart. h.each other)
        (λ r. let e = ap (times r) is in
        omega (
          arith,
          times-append r front (row ∷ back),
          times-append r back
              (front ++ row ∷ []),
          times-append r front (row ∷ []),
        ))
        (let e = ap length is in
        omega (
          arith,
          length-append front (row ∷ back),
          length-append back (front ++ row ∷ []),
          length-append front (row ∷ []),
        ))

    by_last : (last : Option ℕ) → last_in lasts chain ≡ last
        → HoldChains next (set lasts chain (Some row)) loose
        (set chains chain (back ++ (front ++ row ∷ [])))
    by_last (Some last) there = at last there
    by_last None there = absurd (
        let e = ap length (sym (none-at h chain there) ∙ is) in
        omega (arith, length-append front (row ∷ back)))

pub holds-loosened : {next : List ℕ} {lasts : List (Option ℕ)} {loose : List ℕ}
    {chains : List (List ℕ)} → HoldChains next lasts loose chains
    → (chain : ℕ) → chain < length lasts
    → HoldChains next (set lasts chain None) (chain_in chains chain ++ loose) (set chains chain [])
holds-loosened {next} {lasts} {loose} {chains} h chain less =
    holds-put h next (chain_in chains chain ++ loose) chain None [] less refl refl
    (λ other apart. h.each other)
    (λ row. omega (arith, times-append row (chain_in chains chain) loose))
    (omega (arith, length-append (chain_in chains chain) loose))

-- The chain `rows` begins with the row to which the last row's link leads; `rest` are the others.
pub record IsFirstOfChain (next : List ℕ) (last : ℕ) (rows rest : List ℕ) : Type 0 where
  pub is : rows ≡ after next last ∷ rest
  pub leads : Leads next (after next last) rest last
  pub behind : drop 1 rows ≡ rest

pub first-of : {next : List ℕ} {last : ℕ} {rows : List ℕ} → IsRing next last rows
    → (rest : List ℕ) × IsFirstOfChain next last rows rest
first-of {next} {last} {rows} ring = grind (arith, ring-parts)

pub first-is-row : {next : List ℕ} {lasts : List (Option ℕ)} {loose : List ℕ}
    {chains : List (List ℕ)} → HoldChains next lasts loose chains
    → (chain last : ℕ) → last_in lasts chain ≡ Some last → after next last < length next
first-is-row {next} {lasts} {loose} {chains} h chain last there =
    let first = first-of (ring-at h chain last there) in
    let e = ap (times (after next last)) (first.1).is in
    is-row h chain (after next last)
    (omega (arith, times-same (after next last) (after next last) first.0 refl))

pub last-is-row : {next : List ℕ} {lasts : List (Option ℕ)} {loose : List ℕ}
    {chains : List (List ℕ)} → HoldChains next lasts loose chains
    → (chain last : ℕ) → last_in lasts chain ≡ Some last → last < length next
last-is-row {next} {lasts} {loose} {chains} h chain last there =
    is-row h chain last
    (let some = last-counts next last (chain_in chains chain) (ring-at h chain last there) in
    omega arith)

pub noted-is-row : {next : List ℕ} {lasts : List (Option ℕ)} {loose : List ℕ}
    {chains : List (List ℕ)} → HoldChains next lasts loose chains
    → (chain : ℕ) (last : Option ℕ) → last_in lasts chain ≡ last
    → IfSome last (λ row. row < length next)
noted-is-row h chain None there = tt
noted-is-row h chain (Some last) there = last-is-row h chain last there

pub loose-is-row : {next : List ℕ} {lasts : List (Option ℕ)} {chains : List (List ℕ)}
    (row : ℕ) (loose : List ℕ) → HoldChains next lasts (row ∷ loose) chains → row < length next
loose-is-row row loose h = is-row h 0 row (let one = times-same row row loose refl in omega arith)

pub ring-is-row : {next : List ℕ} {lasts : List (Option ℕ)} {chains : List (List ℕ)} (last : ℕ)
    (rows loose : List ℕ) → HoldChains next lasts (rows ++ loose) chains → IsRing next last rows
    → last < length next
ring-is-row {next} last rows loose h ring =
    is-row h 0 last
    (let some = last-counts next last rows ring in omega (arith, times-append last rows loose))

-- One write takes the first row out of a longer chain: the last row's link then skips it.
pub holds-cut : {next : List ℕ} {lasts : List (Option ℕ)} {loose : List ℕ} {chains : List (List ℕ)}
    → HoldChains next lasts loose chains
    → (chain last : ℕ) → last_in lasts chain ≡ Some last → after next last ≢ last
    → HoldChains (set next last (after next (after next last))) (set lasts chain (Some last))
    (after next last ∷ loose) (shortened chains chain)
holds-cut {next} {lasts} {loose} {chains} h chain last there apart =
    let ring = ring-at h chain last there in
    let first = first-of ring in
    by_rest first.0 first.1
  where
    new : List ℕ
    new = set next last (after next (after next last))

    small : last < length next
    small = last-is-row h chain last there

    by_rest : (rest : List ℕ) → IsFirstOfChain next last (chain_in chains chain) rest
        → HoldChains (set next last (after next (after next last))) (set lasts chain (Some last))
        (after next last ∷ loose) (shortened chains chain)
    by_rest [] first = absurd (apart first.leads)
    by_rest (second ∷ rest) first =
        let same = same-but-one next last (after next (after next last)) in
        let few = few-in h chain last in
        let e = ap (times last) first.is in
        let lone : times last (second ∷ rest) ≤ 1 =
        omega (arith, times-other last (after next last) (second ∷ rest) apart) in
        let none = sources-end next second rest last first.leads.1 lone in
        let kept = leads-kept next new second rest last last last first.leads.1 same none none in
        let ring : IsRing new last (second ∷ rest) = record {
          leads = grind (arith, get_or-set_same next last (after next (after next last)) 0 small);
          some = omega arith;
        } in
        holds-put h new (after next last ∷ loose) chain (Some last) (drop 1 (chain_in chains chain))
        (last-there lasts chain last there)
        (length-set next last (after next (after next last)))
        (let P : List ℕ → Type 0 = λ rows. IsRing new last rows in subst P (sym first.behind) ring)
        (λ other away.
        let none : times last (chain_in chains other) ≡ 0 =
        let two = few-in-two h chain other last (λ d. away (sym d)) in
        let some = last-counts next last (chain_in chains chain) (ring-at h chain last there) in
        omega arith in
        chain-kept next new (last_in lasts other) (chain_in chains other) last last
        (h.each other) same none none)
        (λ row. let d = ap (times row) first.is in
        let b = ap (times row) first.behind in omega arith)
        (let d = ap length first.is in let b = ap length first.behind in omega arith)

-- If the last row's link leads to itself, it is the only row, and no link is written.
pub holds-emptied : {next : List ℕ} {lasts : List (Option ℕ)} {loose : List ℕ}
    {chains : List (List ℕ)} → HoldChains next lasts loose chains
    → (chain last : ℕ) → last_in lasts chain ≡ Some last → after next last ≡ last
    → HoldChains next (set lasts chain None) (after next last ∷ loose) (shortened chains chain)
holds-emptied {next} {lasts} {loose} {chains} h chain last there same =
    let ring = ring-at h chain last there in
    let first = first-of ring in
    by_rest first.0 first.1
  where
    by_rest : (rest : List ℕ) → IsFirstOfChain next last (chain_in chains chain) rest
        → HoldChains next (set lasts chain None) (after next last ∷ loose) (shortened chains chain)
    by_rest [] first =
        holds-put h next (after next last ∷ loose) chain None (drop 1 (chain_in chains chain))
        (last-there lasts chain last there) refl
        first.behind
        (λ other away. h.each other)
        (λ row. let d = ap (times row) first.is in
        let b = ap (times row) first.behind in omega arith)
        (let d = ap length first.is in let b = ap length first.behind in omega arith)
    by_rest (second ∷ rest) first = absurd (
        let few = few-in h chain last in
        let e = ap (times last) first.is in
        let front = times-same last (after next last) (second ∷ rest) same in
        let end = leads-end next (after next last) second rest last first.leads in
        let one = times-same last last [] refl in
        let d = ap (times last) end.1 in
        omega (arith, times-append last end.0 (last ∷ [])))

-- Two writes put a loose row before the first row of a chain that has rows.
pub holds-preceded : {next : List ℕ} {lasts : List (Option ℕ)} {loose : List ℕ}
    {chains : List (List ℕ)} {row : ℕ}
    → HoldChains next lasts (row ∷ loose) chains → (chain last : ℕ) → last_in lasts chain ≡ Some last
    → HoldChains (set (set next row (after next last)) last row) (set lasts chain (Some last)) loose
    (preceded chains chain row)
holds-preceded {next} {lasts} {loose} {chains} {row} h chain last there =
    let new = set (set next row (after next last)) last row in
    let ring = ring-at h chain last there in
    let rest = (first-of ring).0 in
    let first = (first-of ring).1 in
    let one = times-same row row loose refl in
    let some = last-counts next last (chain_in chains chain) ring in
    let small : last < length next = last-is-row h chain last there in
    let little : row < length next = is-row h chain row (omega arith) in
    let away : row ≢ last = λ e. grind (arith, few-in h chain row) in
    let same = same-but-two next row (after next last) last row in
    let none : times row (chain_in chains chain) ≡ 0 = let few = few-in h chain row in
    omega arith in
    let e = ap (times row) first.is in
    let d = ap (times last) first.is in
    let few = few-in h chain last in
    let kept = leads-kept next new (after next last) rest last row last first.leads same
    (sources-none next (after next last) rest last row first.leads (omega arith))
    (sources-end next (after next last) rest last first.leads (omega arith)) in
    let leads : Leads new last (row ∷ after next last ∷ rest) last = grind (
      arith,
      get_or-set_same,
      set,
      length-set,
      get_or-set_other,
    ) in
    let P : List ℕ → Type 0 = λ rows. Leads new last (row ∷ rows) last in
    holds-put h new loose chain (Some last) (row ∷ chain_in chains chain)
    (last-there lasts chain last there)
    (length-set (set next row (after next last)) last row
    ∙ length-set next row (after next last))
    (record { leads = subst P (sym first.is) leads; some = omega arith })
    (λ other apart.
    let two = few-in-two h chain other last (λ b. apart (sym b)) in
    let lone = few-in h other row in
    chain-kept next new (last_in lasts other) (chain_in chains other) row last
    (h.each other) same (omega arith) (omega arith))
    (λ r. omega arith)
    (omega arith)

-- The loose row becomes a ring of one row: its link leads to itself.
pub holds-begun : {next : List ℕ} {lasts : List (Option ℕ)} {loose : List ℕ}
    {chains : List (List ℕ)} {row : ℕ}
    → HoldChains next lasts (row ∷ loose) chains → (chain : ℕ) → chain < length lasts
    → last_in lasts chain ≡ None
    → HoldChains (set next row row) (set lasts chain (Some row)) loose (preceded chains chain row)
holds-begun {next} {lasts} {loose} {chains} {row} h chain less there =
    let one = times-same row row loose refl in
    let little : row < length next = is-row h chain row (omega arith) in
    let empty = none-at h chain there in
    let same = same-but-one next row row in
    let P : List ℕ → Type 0 = λ rows. IsRing (set next row row) row (row ∷ rows) in
    holds-put h (set next row row) loose chain (Some row) (row ∷ chain_in chains chain) less
    (length-set next row row)
    (subst P (sym empty) (record {
      leads = (get_or-set_same next row row 0 little, refl);
      some = omega arith;
    }))
    (λ other apart.
    let few = few-in h other row in
    chain-kept next (set next row row) (last_in lasts other) (chain_in chains other) row row
    (h.each other) same (omega arith) (omega arith))
    (λ r. omega arith)
    (omega arith)

-- Exchanging two links puts a loose ring before the first row of a chain that has rows.
pub holds-embraced : {next : List ℕ} {lasts : List (Option ℕ)} {loose : List ℕ}
    {chains : List (List ℕ)} (two : ℕ) (rows : List ℕ)
    → HoldChains next lasts (rows ++ loose) chains → IsRing next two rows → (chain one : ℕ)
    → last_in lasts chain ≡ Some one
    → HoldChains (set (set next one (after next two)) two (after next one))
    (set lasts chain (Some one)) loose
    (set chains chain (rows ++ chain_in chains chain))
holds-embraced {next} {lasts} {loose} {chains} two rows h moved chain one there =
    let new = set (set next one (after next two)) two (after next one) in
    let ring = ring-at h chain one there in
    let rest = (first-of ring).0 in
    let first = (first-of ring).1 in
    let more = (first-of moved).0 in
    let other = (first-of moved).1 in
    let some = last-counts next one (chain_in chains chain) ring in
    let any = last-counts next two rows moved in
    let few_one = few-in h chain one in
    let few_two = few-in h chain two in
    let split_one = times-append one rows loose in
    let split_two = times-append two rows loose in
    let small : one < length next = last-is-row h chain one there in
    let little : two < length next = is-row h chain two (omega arith) in
    let away : one ≢ two = λ e. absurd (let d = ap (λ r. times r rows) e in omega arith) in
    let same = same-but-two next one (after next two) two (after next one) in
    let one_here = ap (times one) first.is in
    let two_here = ap (times two) first.is in
    let one_moved = ap (times one) other.is in
    let two_moved = ap (times two) other.is in
    let kept : Leads new (after next one) rest one =
    leads-kept next new (after next one) rest one one two first.leads same
    (sources-end next (after next one) rest one first.leads (omega arith))
    (sources-none next (after next one) rest one two first.leads (omega arith)) in
    let went : Leads new (after next two) more two =
    leads-kept next new (after next two) more two one two other.leads same
    (sources-none next (after next two) more two one other.leads (omega arith))
    (sources-end next (after next two) more two other.leads (omega arith)) in
    let front : Leads new one rows two = grind (arith, get_or-set_other, set, get_or-set_same) in
    let back : Leads new two (chain_in chains chain) one = grind (
      arith,
      get_or-set_same,
      set,
      length-set,
    ) in
    holds-put h new loose chain (Some one) (rows ++ chain_in chains chain)
    (last-there lasts chain one there)
    (length-set (set next one (after next two)) two (after next one)
    ∙ length-set next one (after next two))
    (record {
      leads = leads-append new one rows two (chain_in chains chain) one front back;
      some =
          let d = ap length first.is in
          omega (arith, length-append rows (chain_in chains chain));
    })
    (λ c apart.
    let pair = few-in-two h chain c one (λ b. apart (sym b)) in
    let lone = few-in h c two in
    chain-kept next new (last_in lasts c) (chain_in chains c) one two (h.each c) same
    (omega arith) (omega arith))
    (λ r. omega (arith, times-append r rows loose, times-append r rows (chain_in chains chain)))
    (omega (arith, length-append rows loose, length-append rows (chain_in chains chain)))

-- If the chain is empty, it takes over a loose ring without a write to the links.
pub holds-named : {next : List ℕ} {lasts : List (Option ℕ)} {loose : List ℕ}
    {chains : List (List ℕ)} (two : ℕ) (rows : List ℕ)
    → HoldChains next lasts (rows ++ loose) chains → IsRing next two rows → (chain : ℕ)
    → chain < length lasts → last_in lasts chain ≡ None
    → HoldChains next (set lasts chain (Some two)) loose
    (set chains chain (rows ++ chain_in chains chain))
holds-named {next} {lasts} {loose} {chains} two rows h moved chain less there =
    let empty = none-at h chain there in
    let P : List ℕ → Type 0 = λ rs. IsRing next two rs in
    let e : rows ≡ rows ++ chain_in chains chain = sym (rw empty (append-nil rows)) in
    holds-put h next loose chain (Some two) (rows ++ chain_in chains chain) less refl
    (subst P e moved)
    (λ other apart. h.each other)
    (λ r. omega (arith, times-append r rows loose, times-append r rows (chain_in chains chain)))
    (omega (arith, length-append rows loose, length-append rows (chain_in chains chain)))

pub holds-at : {next : List ℕ} {loose : List ℕ} (lasts other : List (Option ℕ))
    (chains same : List (List ℕ)) → lasts ≡ other → chains ≡ same
    → HoldChains next lasts loose chains → HoldChains next other loose same
holds-at {next} {loose} lasts other chains same e d h = grind arith

pub last-again : (lasts : List (Option ℕ)) (chain : ℕ) (last : Option ℕ)
    → last_in lasts chain ≡ last → set lasts chain last ≡ lasts
last-again lasts chain last is = grind (arith, set-get_or)

-- A chain is put before another in two steps: its rows become loose, and `step` puts them there.
pub holds-fronted : {next : List ℕ} {lasts : List (Option ℕ)} {loose : List ℕ}
    {chains : List (List ℕ)} → HoldChains next lasts loose chains
    → (from onto : ℕ) → from ≢ onto → from < length lasts → (new : List ℕ) (noted : List (Option ℕ))
    → (HoldChains next (set lasts from None) (chain_in chains from ++ loose) (set chains from [])
    → HoldChains new noted loose (set (set chains from []) onto
    (chain_in chains from ++ chain_in (set chains from []) onto)))
    → HoldChains new noted loose (fronted chains from onto)
holds-fronted {next} {lasts} {loose} {chains} h from onto apart less new noted step =
    grind (arith, in-other, holds-at, holds-loosened)

-- A chain that was put before another comes after it if its last row then counts as the last.
pub holds-joined : {next : List ℕ} {lasts : List (Option ℕ)} {loose : List ℕ}
    {chains : List (List ℕ)} → HoldChains next lasts loose chains
    → (from onto last : ℕ) → last_in lasts from ≡ Some last → onto < length lasts
    → (new : List ℕ) (noted : List (Option ℕ)) → HoldChains new noted loose (fronted chains from onto)
    → HoldChains new (set noted onto (Some last)) loose (joined chains from onto)
holds-joined {next} {lasts} {loose} {chains} h from onto last there less new noted then =
    let rest = (first-of (ring-at h from last there)).0 in
    let first = (first-of (ring-at h from last there)).1 in
    let end = leads-end next last (after next last) rest last (refl, first.leads) in
    let within : onto < length (set chains from []) =
    let e = h.size in omega (arith, length-set chains from []) in
    let rows : chain_in chains from ≡ end.0 ++ last ∷ [] = first.is ∙ end.1 in
    let here : chain_in (fronted chains from onto) onto ≡ end.0 ++ last ∷ chain_in chains onto =
    in-put (set chains from []) onto (chain_in chains from ++ chain_in chains onto) within
    ∙ ap (λ rs. rs ++ chain_in chains onto) rows ∙ append_assoc end.0 (last ∷ [])
    (chain_in chains onto) in
    holds-at (set noted onto (Some last)) (set noted onto (Some last))
    (set (fronted chains from onto) onto (chain_in chains onto ++ (end.0 ++ last ∷ [])))
    (joined chains from onto) refl
    (set-set (set chains from []) onto (chain_in chains from ++ chain_in chains onto)
    (chain_in chains onto ++ (end.0 ++ last ∷ []))
    ∙ ap (λ rs. set (set chains from []) onto (chain_in chains onto ++ rs)) (sym rows))
    (holds-turned then onto end.0 last (chain_in chains onto) here)

-- As `holds-joined`, for one row.
pub holds-lengthened : (new : List ℕ) (noted : List (Option ℕ)) (loose : List ℕ)
    (chains : List (List ℕ)) (chain row : ℕ) → chain < length chains
    → HoldChains new noted loose (preceded chains chain row)
    → HoldChains new (set noted chain (Some row)) loose (lengthened chains chain row)
holds-lengthened new noted loose chains chain row less h =
    holds-at (set noted chain (Some row)) (set noted chain (Some row))
    (set (preceded chains chain row) chain (chain_in chains chain ++ row ∷ []))
    (lengthened chains chain row) refl
    (set-set chains chain (row ∷ chain_in chains chain) (chain_in chains chain ++ row ∷ []))
    (holds-turned h chain [] row (chain_in chains chain)
    (in-put chains chain (row ∷ chain_in chains chain) less))

pub holds-same : {lasts : List (Option ℕ)} {loose : List ℕ} {chains : List (List ℕ)}
    (next new : List ℕ) (noted : List (Option ℕ)) → new ≡ next → noted ≡ lasts
    → HoldChains next lasts loose chains → HoldChains new noted loose chains
holds-same {lasts} {loose} {chains} next new noted e d h = grind arith

pub ring-same : (next new : List ℕ) (last : ℕ) (rows : List ℕ) → new ≡ next → IsRing next last rows
    → IsRing new last rows
ring-same next new last rows e ring = grind arith

pub holds-grown : {next : List ℕ} {lasts : List (Option ℕ)} {chains : List (List ℕ)}
    → HoldChains next lasts [] chains
    → HoldChains (next ++ 0 ∷ []) lasts (length next ∷ []) chains
holds-grown {next} {lasts} {chains} h =
    let same : SameBut next (next ++ 0 ∷ []) (length next) (length next) =
    record { at = λ row _ _. after-grown next row } in
    record {
      size = h.size;
      each = λ chain.
          let none : times (length next) (chain_in chains chain) ≡ 0 =
          let part = one-of (times (length next)) chains chain [] refl in
          let past = h.within (length next) (omega arith) in
          omega arith in
          chain-kept next (next ++ 0 ∷ []) (last_in lasts chain) (chain_in chains chain)
          (length next) (length next) (h.each chain) same none none;
      once = λ row less. elim (cases_eq (length next) row) [
        | inl is ↦
            let one = times-same row (length next) [] is in
            let past = h.within row (omega arith) in
            omega arith
        | inr apart ↦
            let none = times-other row (length next) [] apart in
            let here = h.once row (omega (arith, length-append next (0 ∷ []))) in
            omega arith
      ];
      within = λ row past.
          let long = length-append next (0 ∷ []) in
          let none = times-other row (length next) [] (λ e. absurd (omega arith)) in
          let beyond = h.within row (omega arith) in
          omega arith;
      all = let e = h.all in omega (arith, length-append next (0 ∷ []));
    }

pub holds-more : {next : List ℕ} {lasts : List (Option ℕ)} {loose : List ℕ} {chains : List (List ℕ)}
    → HoldChains next lasts loose chains
    → HoldChains next (lasts ++ None ∷ []) loose (chains ++ [] ∷ [])
holds-more {next} {lasts} {loose} {chains} h =
    grind (arith, length-append, default-grown, sum_by_push)
