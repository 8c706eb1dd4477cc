-- How calls change a table; a row that is taken out or put in is loose in between (`IsOpen`).
use Rattle.std.proofs.Common.{length-set, ◌≤◌, List, [], length, map, set, drop, Option, Some, None}
use Rattle.std.proofs.Common.{refl, ap, sym, ◌∙◌, inl, inr, arith, length-append, ◌++◌, ◌∷◌, ◌≡◌}
use Rattle.std.proofs.Common.{◌≢◌, ℕ, zero, suc, ◌<◌}
use Rattle.std.proofs.lemmas.Bool.{cases_eq, eq-eqb, ne_eqb}
use Rattle.std.proofs.lemmas.List.{get_or_past, get_or-set_same, get_or-set_other, set-get_or}
use Rattle.std.proofs.lemmas.List.{ext_get_or, length-map, map-set, get_or-map, set-append_left}
use Rattle.pending.proofs.HoldsLaws.{default-grown, few-in, few-in-two, is-row, holds-grown}
use Rattle.pending.proofs.RingLaws.{value-none, value-there, values-append, values-first}
use Rattle.pending.proofs.RingLaws.{values-full, values-grown, values-kept, values-none, chain-map}
use Rattle.pending.proofs.RingLaws.{leads-end, times-same, times-other, in-put, times-append}
use Rattle.pending.proofs.RingLaws.{one-of, there, in-other}
use Rattle.pending.specs.ChainsView.{KeepsRoom, chain_in, lengthened, preceded, shortened}
use Rattle.pending.specs.declared.chains.links.Links.{Links}
use Rattle.pending.specs.declared.chains.walk.Walk.{Walk}
use Rattle.pending.specs.inside.Tables.{filled, value_at, values_of, IsOpen, Changes, walked_in}
use Rattle.pending.specs.inside.Tables.{IsSound, HoldChains, IsTable, WalksChain, after, last_in, times}
use Rattle.pending.specs.inside.Tables.{seen_chains, seen_lasts, shown_of, Leads, IsRing, IsChain}
use Rattle.pending.specs.inside.Tables.{chain_of, chains_of, rows_from}

pub way-found : (next : List ℕ) (from row : ℕ) (rows : List ℕ) (last steps : ℕ)
    → Leads next from (row ∷ rows) last
    → times last (row ∷ rows) ≤ 1 → length (row ∷ rows) ≤ steps
    → row ∷ rows ≡ rows_from next last steps from
way-found next from row rows last zero leads few long = absurd (omega arith)
way-found next from row [] last (suc steps) leads few long = grind (arith, eq-eqb)
way-found next from row (other ∷ rows) last (suc steps) leads few long =
    let here = leads.0 in
    let end = leads-end next row other rows last leads.1 in
    let one = times-same last last [] refl in
    let counts = ap (times last) end.1 in
    let apart : after next from ≢ last = λ e.
    let front = times-same last row (other ∷ rows) (sym here ∙ e) in
    absurd (omega (arith, times-append last end.0 (last ∷ []))) in
    let on = ne_eqb (after next from) last apart in
    let rest = way-found next row other rows last steps leads.1 (omega arith) (omega arith) in
    grind (arith, rest)
    ∙ ap (λ r. r ∷ rows_from next last steps r) (sym here)
    ∙ sym (grind (arith, on))

pub ring-found : (next : List ℕ) (last : ℕ) (rows : List ℕ) (steps : ℕ) → IsRing next last rows
    → times last rows ≤ 1 → length rows ≤ steps
    → rows ≡ rows_from next last steps last
ring-found next last [] steps ring few long = absurd (let some = ring.some in omega arith)
ring-found next last (row ∷ rows) steps ring few long = grind (arith, way-found)

pub chain-found : (next : List ℕ) (last : Option ℕ) (rows : List ℕ) → IsChain next last rows
    → ((row : ℕ) → times row rows ≤ 1)
    → length rows ≤ length next → rows ≡ chain_of next last
chain-found next last rows chain few long = grind (arith, ring-found)

-- The links determine the chains that they hold.
pub chains-found : {next : List ℕ} {lasts : List (Option ℕ)} {loose : List ℕ}
    {chains : List (List ℕ)} → HoldChains next lasts loose chains
    → chains ≡ chains_of next lasts
chains-found {next} {lasts} {loose} {chains} h =
    ext_get_or [] chains (chains_of next lasts) (h.size ∙ sym (length-map lasts (chain_of next)))
    (λ i less.
    let small : i < length lasts = let e = h.size in omega arith in
    let long : length (chain_in chains i) ≤ length next =
    let part = one-of length chains i [] refl in let all = h.all in omega arith in
    chain-found next (last_in lasts i) (chain_in chains i) (h.each i)
    (λ row. let few = few-in h i row in omega arith) long
    ∙ sym (get_or-map (chain_of next) lasts i None [] small))

pub walk-rest : (lasts : List (Option ℕ)) (walk : Option Walk) → walked_in walk ≡ None
    → WalksChain lasts walk
walk-rest lasts walk rest = grind arith

-- Chain 0 has the free rows.
pub in-neither : (chains : List (List ℕ)) (from onto : ℕ) (left all : List ℕ) → 0 < from → 0 < onto
    → chain_in (set (set chains from left) onto all) 0 ≡ chain_in chains 0
in-neither chains from onto left all some more = grind (arith, in-other)

pub seen-grown : (lasts : List (Option ℕ)) (walk : Option Walk) → WalksChain lasts walk
    → seen_lasts (lasts ++ None ∷ []) walk ≡ seen_lasts lasts walk ++ None ∷ []
seen-grown lasts walk walks = grind (arith, set-append_left)

pub walk-grown : (lasts : List (Option ℕ)) (walk : Option Walk) → WalksChain lasts walk
    → WalksChain (lasts ++ None ∷ []) walk
walk-grown lasts walk walks = grind (arith, length-append)

module _ {T : Type 0} where
  pub table-at : {next : List ℕ} {rows : List (Option T)} (lasts other : List (Option ℕ))
      (chains same : List (List ℕ)) → lasts ≡ other → chains ≡ same
      → IsTable next lasts rows chains → IsTable next other rows same
  table-at {next} {rows} lasts other chains same e d t = grind arith

  pub table-rest : {links : Links} {rows : List (Option T)} {walk : Option Walk}
      → IsSound links rows walk → walked_in walk ≡ None
      → IsTable links.next.items links.lasts.items rows (seen_chains links walk)
  table-rest {links} {rows} {walk} s rest = grind (arith, table-at)

  pub seen-of : (links : Links) (rows : List (Option T)) (walk : Option Walk)
      (chains : List (List ℕ))
      → IsTable links.next.items (seen_lasts links.lasts.items walk) rows chains
      → seen_chains links walk ≡ chains
  seen-of links rows walk chains t = sym (chains-found t.holds)

  pub sound-of : (links : Links) (rows : List (Option T)) (walk : Option Walk)
      (chains : List (List ℕ))
      → IsTable links.next.items (seen_lasts links.lasts.items walk) rows chains
      → WalksChain links.lasts.items walk → IsSound links rows walk
  sound-of links rows walk chains t walks = record {
    table = grind (arith, chains-found t.holds);
    walks = walks;
  }

  pub table-seen : (links : Links) (rows : List (Option T)) (walk : Option Walk)
      (chains : List (List ℕ)) → walked_in walk ≡ None
      → IsTable links.next.items links.lasts.items rows chains
      → IsTable links.next.items (seen_lasts links.lasts.items walk) rows chains
  table-seen links rows walk chains rest t = grind (arith, table-at)

  -- If no value is written and the free rows stay the same, a change of links keeps the table.
  pub table-kept : {next : List ℕ} {lasts : List (Option ℕ)} {rows : List (Option T)}
      {chains : List (List ℕ)} → IsTable next lasts rows chains
      → (new : List ℕ) (noted : List (Option ℕ)) (other : List (List ℕ)) → HoldChains new noted [] other
      → length new ≡ length next
      → length noted ≡ length lasts → chain_in other 0 ≡ chain_in chains 0
      → IsTable new noted rows other
  table-kept {next} {lasts} {rows} {chains} t new noted other h long as_many same = grind arith

  pub keeps-room : (links new : Links) (rows : List (Option T)) (capacity most : ℕ)
      (walk later : Option Walk) → Changes links new most
      → chain_in (seen_chains new later) 0 ≡ chain_in (seen_chains links walk) 0
      → KeepsRoom (shown_of links rows capacity walk) (shown_of new rows capacity later)
  keeps-room links new rows capacity most walk later changes same = grind arith

  pub table-moved : {links : Links} {rows : List (Option T)} {walk : Option Walk}
      → IsSound links rows walk → walked_in walk ≡ None
      → (new : Links) (most : ℕ) → Changes links new most → (other : List (List ℕ))
      → (HoldChains links.next.items links.lasts.items [] (seen_chains links walk)
      → HoldChains new.next.items new.lasts.items [] other)
      → chain_in other 0 ≡ chain_in (seen_chains links walk) 0
      → IsTable new.next.items (seen_lasts new.lasts.items walk) rows other
  table-moved {links} {rows} {walk} s rest new most changes other step same =
      grind (arith, table-rest, table-seen, table-kept)

pub shown-by : {T : Type 0} (rows : List (Option T)) (chains : List (List ℕ)) (seen : List (List T))
    → length chains ≡ length seen
    → ((chain : ℕ) → values_of rows (chain_in chains chain) ≡ chain_in seen chain)
    → map (values_of rows) chains ≡ seen
shown-by rows chains seen long same =
    ext_get_or [] (map (values_of rows) chains) seen (length-map chains (values_of rows) ∙ long)
    (λ chain less. chain-map (values_of rows) chains chain refl ∙ same chain)

pub shown-put : {T : Type 0} (rows : List (Option T)) (chains : List (List ℕ)) (chain : ℕ)
    (other : List ℕ)
    → values_of rows other ≡ values_of rows (chain_in chains chain)
    → map (values_of rows) (set chains chain other) ≡ map (values_of rows) chains
shown-put rows chains chain other same =
    map-set (values_of rows) chains chain other ∙ rw (same ∙ sym (chain-map (values_of rows)
    chains chain refl)) (set-get_or (map (values_of rows) chains) chain [])

pub nothing-cut : {X : Type 0} (chains : List (List X)) (chain : ℕ) → chain_in chains chain ≡ []
    → shortened chains chain ≡ chains
nothing-cut chains chain is = grind (arith, set-get_or)

module _ {T : Type 0} where
  pub free-none : {next : List ℕ} {lasts : List (Option ℕ)} {rows : List (Option T)}
      {chains : List (List ℕ)} → IsTable next lasts rows chains
      → values_of rows (chain_in chains 0) ≡ []
  free-none {next} {lasts} {rows} {chains} t = values-none rows (chain_in chains 0) (λ row some.
      let small = is-row t.holds 0 row (omega arith) in
      let sized = t.sized in
      let full = t.full row (omega arith) in
      omega arith)

  pub chain-full : {next : List ℕ} {lasts : List (Option ℕ)} {rows : List (Option T)}
      {chains : List (List ℕ)} → IsTable next lasts rows chains
      → (chain row : ℕ) → 0 < chain → 0 < times row (chain_in chains chain)
      → filled (value_at rows row) ≡ 1
  chain-full {next} {lasts} {rows} {chains} t chain row shown some =
      let small = is-row t.holds chain row (omega arith) in
      let sized = t.sized in
      let full = t.full row (omega arith) in
      let few = few-in-two t.holds chain 0 row (λ e. absurd (omega arith)) in
      omega arith

  pub chain-length : {next : List ℕ} {lasts : List (Option ℕ)} {rows : List (Option T)}
      {chains : List (List ℕ)} → IsTable next lasts rows chains
      → (chain : ℕ) → 0 < chain
      → length (values_of rows (chain_in chains chain)) ≡ length (chain_in chains chain)
  chain-length {next} {lasts} {rows} {chains} t chain shown =
      values-full rows (chain_in chains chain) (λ row some. chain-full t chain row shown some)

  -- The first free row becomes loose.
  pub open-free : {next : List ℕ} {lasts : List (Option ℕ)} {rows : List (Option T)}
      {chains : List (List ℕ)} → IsTable next lasts rows chains
      → (new : List ℕ) (noted : List (Option ℕ)) (row : ℕ) (rest : List ℕ)
      → chain_in chains 0 ≡ row ∷ rest
      → HoldChains new noted (row ∷ []) (shortened chains 0) → length new ≡ length next
      → length noted ≡ length lasts
      → IsOpen new noted rows row (shortened chains 0)
  open-free {next} {lasts} {rows} {chains} t new noted row rest is h long as_many =
      grind (arith, in-put)

  pub open-grown : {next : List ℕ} {lasts : List (Option ℕ)} {rows : List (Option T)}
      {chains : List (List ℕ)} → IsTable next lasts rows chains
      → IsOpen (next ++ 0 ∷ []) lasts (rows ++ None ∷ []) (length rows) chains
  open-grown {next} {lasts} {rows} {chains} t =
      let step = holds-grown t.holds in
      let next_step = length-append next (0 ∷ []) in
      let last_step = length-append rows (None ∷ []) in
      grind (arith, default-grown, cases_eq, length, times-same, few-in, get_or_past, one-of, times-other, length-append)

  pub shown-grown : {next : List ℕ} {lasts : List (Option ℕ)} {rows : List (Option T)}
      {chains : List (List ℕ)} → IsTable next lasts rows chains
      → map (values_of (rows ++ None ∷ [])) chains ≡ map (values_of rows) chains
  shown-grown {next} {lasts} {rows} {chains} t =
      shown-by (rows ++ None ∷ []) chains (map (values_of rows) chains)
      (sym (length-map chains (values_of rows))) (λ chain.
      values-grown rows (None ∷ []) (chain_in chains chain)
      (λ row some. let small = is-row t.holds chain row (omega arith) in
      let sized = t.sized in omega arith)
      ∙ sym (chain-map (values_of rows) chains chain refl))

  -- The chain's first row loses its value and becomes loose.
  pub open-taken : {next : List ℕ} {lasts : List (Option ℕ)} {rows : List (Option T)}
      {chains : List (List ℕ)} → IsTable next lasts rows chains
      → (new : List ℕ) (noted : List (Option ℕ)) (chain row : ℕ) (rest : List ℕ) → 0 < chain
      → chain_in chains chain ≡ row ∷ rest
      → HoldChains new noted (row ∷ []) (shortened chains chain) → length new ≡ length next
      → length noted ≡ length lasts
      → IsOpen new noted (set rows row None) row (shortened chains chain)
  open-taken {next} {lasts} {rows} {chains} t new noted chain row rest shown is h long as_many =
      let front = times-same row row rest refl in
      let counts = ap (times row) is in
      let small : row < length rows = let r = is-row t.holds chain row (omega arith) in
      let e = t.sized in omega arith in
      record {
        holds = h;
        sized = length-set rows row None ∙ t.sized ∙ sym long;
        free = let f = t.free in omega arith;
        full = λ r less.
            let kept =
            ap (times r) (in-other chains chain 0 (drop 1 (chain_in chains chain))
            (λ e. absurd (omega arith))) in
            elim (cases_eq row r) [
              | inl same ↦
                  let step = times-same r row [] same in
                  let next_step = set rows row None in
                  let last_step = get_or-set_same rows row None None small in
                  grind (arith, few-in-two t.holds chain 0 r (λ e. absurd (omega arith)))
              | inr apart ↦ grind (arith, times-other, length-set, get_or-set_other)
            ];
      }

  pub shown-taken : {next : List ℕ} {lasts : List (Option ℕ)} {rows : List (Option T)}
      {chains : List (List ℕ)} → IsTable next lasts rows chains
      → (chain row : ℕ) (rest : List ℕ) → 0 < chain → chain_in chains chain ≡ row ∷ rest
      → map (values_of (set rows row None)) (shortened chains chain)
      ≡ shortened (map (values_of rows) chains) chain
  shown-taken {next} {lasts} {rows} {chains} t chain row rest shown is =
      let front = times-same row row rest refl in
      let counts = ap (times row) is in
      let few = few-in t.holds chain row in
      let within : chain < length chains =
      there chains chain (let e = ap length is in omega arith) in
      let seen = map (values_of rows) chains in
      let there_too : chain < length seen = omega (arith, length-map chains (values_of rows)) in
      let found = value-there (value_at rows row) (chain-full t chain row shown (omega arith)) in
      shown-by (set rows row None) (shortened chains chain) (shortened seen chain)
      (length-set chains chain (drop 1 (chain_in chains chain))
      ∙ sym (length-set seen chain (drop 1 (chain_in seen chain))
      ∙ length-map chains (values_of rows)))
      (λ other. elim (cases_eq other chain) [
        | inl same ↦ grind (arith, in-put, drop, values-kept, values-first, chain-map)
        | inr apart ↦
            let two = few-in-two t.holds chain other row (λ e. apart (sym e)) in
            ap (values_of (set rows row None)) (in-other chains chain other (drop 1 (chain_in chains chain)) apart)
            ∙ values-kept rows row None (chain_in chains other) (omega arith)
            ∙ sym (chain-map (values_of rows) chains other refl)
            ∙ sym (in-other seen chain other (drop 1 (chain_in seen chain)) apart)
      ])

  pub closed-free : {next : List ℕ} {lasts : List (Option ℕ)} {rows : List (Option T)} {row : ℕ}
      {chains : List (List ℕ)} → IsOpen next lasts rows row chains
      → (new : List ℕ) (noted : List (Option ℕ)) → HoldChains new noted [] (preceded chains 0 row)
      → length new ≡ length next → length noted ≡ length lasts
      → IsTable new noted rows (preceded chains 0 row)
  closed-free {next} {lasts} {rows} {row} {chains} o new noted h long as_many =
      grind (arith, in-put)

  pub shown-closed : {next : List ℕ} {lasts : List (Option ℕ)} {rows : List (Option T)} {row : ℕ}
      {chains : List (List ℕ)} → IsOpen next lasts rows row chains
      → map (values_of rows) (preceded chains 0 row) ≡ map (values_of rows) chains
  shown-closed {next} {lasts} {rows} {row} {chains} o =
      let one = times-same row row [] refl in
      let small : row < length rows = let r = is-row o.holds 0 row (omega arith) in
      let e = o.sized in omega arith in
      let full = o.full row small in
      let none = value-none (value_at rows row) (omega arith) in
      shown-put rows chains 0 (row ∷ chain_in chains 0)
      (rw none)

  -- The loose row gets a value and is appended to a chain.
  pub closed-filled : {next : List ℕ} {lasts : List (Option ℕ)} {rows : List (Option T)} {row : ℕ}
      {chains : List (List ℕ)} → IsOpen next lasts rows row chains
      → (new : List ℕ) (noted : List (Option ℕ)) (chain : ℕ) (value : T) → 0 < chain
      → HoldChains new noted [] (lengthened chains chain row)
      → length new ≡ length next → length noted ≡ length lasts
      → IsTable new noted (set rows row (Some value)) (lengthened chains chain row)
  closed-filled {next} {lasts} {rows} {row} {chains} o new noted chain value shown h long as_many =
      grind (
        arith,
        times-same,
        is-row,
        length-set,
        in-other,
        cases_eq,
        get_or-set_same,
        times-other,
        get_or-set_other,
      )

  pub shown-filled : {next : List ℕ} {lasts : List (Option ℕ)} {rows : List (Option T)} {row : ℕ}
      {chains : List (List ℕ)} → IsOpen next lasts rows row chains
      → (chain : ℕ) (value : T) → chain < length chains
      → map (values_of (set rows row (Some value))) (lengthened chains chain row)
      ≡ lengthened (map (values_of rows) chains) chain value
  shown-filled {next} {lasts} {rows} {row} {chains} o chain value within =
      let one = times-same row row [] refl in
      let small : row < length rows = let r = is-row o.holds 0 row (omega arith) in
      let e = o.sized in omega arith in
      let seen = map (values_of rows) chains in
      let there_too : chain < length seen = omega (arith, length-map chains (values_of rows)) in
      let new = set rows row (Some value) in
      let longer = chain_in chains chain ++ row ∷ [] in
      shown-by new (lengthened chains chain row) (lengthened seen chain value)
      (length-set chains chain longer
      ∙ sym (length-set seen chain (chain_in seen chain ++ value ∷ [])
      ∙ length-map chains (values_of rows)))
      (λ other.
      let few = few-in o.holds other row in
      let kept = values-kept rows row (Some value) (chain_in chains other) (omega arith) in
      elim (cases_eq other chain) [
        | inl same ↦ grind (arith, in-put, values-append, values-first, get_or-set_same, chain-map)
        | inr apart ↦ grind (arith, in-other, chain-map)
      ])
