-- How `turn_back` changes the table, and how an `Iter` goes over a chain.
use Rattle.std.proofs.Common.{inr, append_assoc, Option, Some, None, take, drop, refl, ap, sym, ◌∙◌}
use Rattle.std.proofs.Common.{subst, arith, cond, eqb, inl, ◌≡◌, ◌≢◌, ℕ, suc, ◌<◌, ◌≤◌, List, []}
use Rattle.std.proofs.Common.{◌∷◌, ◌++◌, length, map, set}
use Rattle.std.specs.Prelude.{◌⊎◌}
use Rattle.std.proofs.lemmas.Bool.{cases_eq, cases_lt, eq-eqb, ne_eqb}
use Rattle.std.proofs.lemmas.List.{length-set, set-get_or, set-set}
use Rattle.std.proofs.lemmas.List.Sums.{sum_by-cons}
use Rattle.std.specs.Borrow.{Bor}
use Rattle.std.specs.Option.{option_copied}
use Rattle.pending.proofs.HoldsLaws.{few-in, few-in-two, holds-turned, is-row, last-is-row, none-at}
use Rattle.pending.proofs.HoldsLaws.{ring-at}
use Rattle.pending.proofs.RingLaws.{chain-map, in-other, in-put, last-counts, leads-back, leads-end}
use Rattle.pending.proofs.RingLaws.{one-of, there, times-append, times-other, times-same}
use Rattle.pending.proofs.RingLaws.{value-there, values-first}
use Rattle.pending.proofs.TableLaws.{chain-full, ring-found, table-at, table-kept, way-found}
use Rattle.pending.proofs.WalkLaws.{sound-at, walk-last}
use Rattle.pending.specs.ChainsView.{chain_in, turned}
use Rattle.pending.specs.declared.chains.links.Links.{Links}
use Rattle.pending.specs.declared.chains.walk.Walk.{Walk}
use Rattle.pending.specs.inside.Tables.{values_left, IsLook, IsWay, times, times_in, HoldChains, IsRing}
use Rattle.pending.specs.inside.Tables.{Leads, values_of, seen_chains, seen_lasts, value_at}
use Rattle.pending.specs.inside.Tables.{IsSound, filled, IsTable, after, last_in}

row-in : (row : ℕ) (chains : List (List ℕ)) → 0 < times_in row chains
    → (chain : ℕ) × (0 < times row (chain_in chains chain))
row-in row [] some = absurd (omega arith)
row-in row (xs ∷ chains) some = elim (cases_lt 0 (times row xs)) [
  | inl here ↦ (0, here)
  | inr none ↦
      let rest = row-in row chains (omega (arith, sum_by-cons (times row) xs chains)) in (suc rest.0, rest.1)
]

pub around : (row : ℕ) (rows : List ℕ) → 0 < times row rows
    → (front : List ℕ) × (back : List ℕ) × (rows ≡ front ++ row ∷ back)
around row [] some = absurd (omega arith)
around row (x ∷ xs) some = elim (cases_eq x row) [
  | inl same ↦ ([], xs, rw same)
  | inr other ↦
      let rest = around row xs (let e = times-other row x xs other in omega arith) in
      (x ∷ rest.0, rest.1, grind (arith, rest.2))
]

-- The row whose link leads to the last row is either the only row, or right before the last.
ring-before : (next : List ℕ) (last : ℕ) (rows front : List ℕ) (row : ℕ) (back : List ℕ)
    → IsRing next last rows → rows ≡ front ++ row ∷ back → after next row ≡ last
    → times last rows ≤ 1
    → ((front ≡ []) × (back ≡ [])) ⊎ (back ≡ last ∷ [])
ring-before next last rows front row back ring is leads few =
    let P : List ℕ → Type 0 = λ rs. Leads next last rs last in
    by_back front back (subst P is ring.leads)
    (let e = ap (times last) is in omega arith)
  where
    ends : (xs : List ℕ) (x : ℕ) → Leads next x xs last → 0 < times last (x ∷ xs)
    ends [] x way = omega (arith, times-same last x [] way)
    ends (y ∷ ys) x way = grind (arith, ends ys y way.1, cases_eq, times-same, times-other)

    by_back : (front back : List ℕ) → Leads next last (front ++ row ∷ back) last
        → times last (front ++ row ∷ back) ≤ 1
        → ((front ≡ []) × (back ≡ [])) ⊎ (back ≡ last ∷ [])
    by_back front (b ∷ []) way once = grind (arith, leads-back)
    by_back front (b ∷ y ∷ ys) way once = absurd (
        let rest = leads-back next last front row (b ∷ y ∷ ys) last way in
        let first = times-same last b (y ∷ ys) (sym rest.0 ∙ leads) in
        let more = ends ys y rest.1.1 in
        let apart = times-append last front (row ∷ b ∷ y ∷ ys) in
        elim (cases_eq row last) [
          | inl same ↦ let e = times-same last row (b ∷ y ∷ ys) same in omega arith
          | inr other ↦ let e = times-other last row (b ∷ y ∷ ys) other in omega arith
        ])
    by_back [] [] way once = inl (refl, refl)
    by_back (f ∷ fs) [] way once = grind (arith, leads-back, times-same, times-append)

ring-closed : (next : List ℕ) (last : ℕ) (front : List ℕ) (row : ℕ) (back : List ℕ)
    → Leads next last (front ++ row ∷ back) last
    → 0 < times (after next row) (front ++ row ∷ back)
ring-closed next last front row (b ∷ bs) way = grind (arith, leads-back, times-append, times-same)
ring-closed next last [] row [] way = grind (arith, times-same)
ring-closed next last (f ∷ fs) row [] way = grind (arith, leads-back, times-same)

chain-closed : {next : List ℕ} {lasts : List (Option ℕ)} {chains : List (List ℕ)}
    → HoldChains next lasts [] chains
    → (chain row : ℕ) → 0 < times row (chain_in chains chain)
    → 0 < times (after next row) (chain_in chains chain)
chain-closed {next} {lasts} {chains} h chain row some = by_last (last_in lasts chain) refl
  where
    by_last : (last : Option ℕ) → last_in lasts chain ≡ last
        → 0 < times (after next row) (chain_in chains chain)
    by_last None noted = absurd (let e = ap (times row) (none-at h chain noted) in omega arith)
    by_last (Some last) noted =
        let parts = around row (chain_in chains chain) some in
        let P : List ℕ → Type 0 = λ rs. Leads next last rs last in
        let closed =
        ring-closed next last parts.0 row parts.1 (subst P parts.2
        (ring-at h chain last noted).leads) in
        let e = ap (times (after next row)) parts.2 in omega arith

row-of : {next : List ℕ} {lasts : List (Option ℕ)} {chains : List (List ℕ)}
    → HoldChains next lasts [] chains
    → (chain last row : ℕ) → last_in lasts chain ≡ Some last → row < length next
    → after next row ≡ last
    → 0 < times row (chain_in chains chain)
row-of {next} {lasts} {chains} h chain last row noted small leads =
    let found = row-in row chains (let once = h.once row small in omega arith) in
    elim (cases_eq found.0 chain) [
      | inl same ↦
          let P : ℕ → Type 0 = λ k. 0 < times row (chain_in chains k) in subst P same found.1
      | inr apart ↦ grind (arith, chain-closed h found.0 row found.1, last-counts next last (chain_in chains chain) (ring-at h chain last noted), few-in-two h found.0 chain last apart)
    ]

way-end : (next : List ℕ) (from row : ℕ) (rows : List ℕ) (to : ℕ) → Leads next from (row ∷ rows) to
    → (x : ℕ) × (after next x ≡ to) × (0 < times x (from ∷ row ∷ rows))
way-end next from row [] to way = grind (arith, times-same)
way-end next from row (other ∷ rows) to way =
    grind (arith, way-end next row other rows to way.1, times-append)

pub before-there : {next : List ℕ} {lasts : List (Option ℕ)} {chains : List (List ℕ)}
    → HoldChains next lasts [] chains
    → (chain last : ℕ) → last_in lasts chain ≡ Some last
    → (x : ℕ) × (x < length next) × (after next x ≡ last)
before-there {next} {lasts} {chains} h chain last noted =
    by_rows (chain_in chains chain) refl (ring-at h chain last noted)
  where
    by_rows : (rows : List ℕ) → chain_in chains chain ≡ rows → IsRing next last (chain_in chains chain)
        → (x : ℕ) × (x < length next) × (after next x ≡ last)
    by_rows [] is ring = absurd (let some = ring.some in let e = ap length is in omega arith)
    by_rows (row ∷ rows) is ring =
        let P : List ℕ → Type 0 = λ rs. Leads next last rs last in
        let end = way-end next last row rows last (subst P is ring.leads) in (
          end.0,
          is-row h chain end.0
              (let some = end.2 in
              let e = ap (times end.0) is in
              let counts = last-counts next last (chain_in chains chain) ring in
              elim (cases_eq last end.0) [
                | inl same ↦
                    let there = ap (λ r. times r (chain_in chains chain)) same in omega arith
                | inr other ↦ let first = times-other end.0 last (row ∷ rows) other in omega arith
              ]),
          end.1,
        )

-- If the row before the last counts as the last, turning the chain gives the rows as they were.
pub back-rows : {next : List ℕ} {lasts : List (Option ℕ)} {chains : List (List ℕ)}
    → HoldChains next lasts [] chains
    → (chain last row : ℕ) → last_in lasts chain ≡ Some last → row < length next
    → after next row ≡ last
    → (new : List ℕ) × (drop 1 new ++ take 1 new ≡ chain_in chains chain)
    × HoldChains next (set lasts chain (Some row)) [] (set chains chain new)
back-rows {next} {lasts} {chains} h chain last row noted small leads =
    let ring = ring-at h chain last noted in
    let parts = around row (chain_in chains chain) (row-of h chain last row noted small leads) in
    let few = few-in h chain last in
    elim (ring-before next last (chain_in chains chain) parts.0 row parts.1 ring parts.2 leads
    (omega arith)) [
      | inl alone ↦
          grind (arith, holds-turned h chain [] row [] (grind (arith, parts.2, alone.0, alone.1)))
      | inr before ↦
          let step = append_assoc parts.0 (row ∷ []) (last ∷ []) in
          grind (arith, holds-turned h chain parts.0 row (last ∷ []) (grind (arith, parts.2, before)))
    ]

module _ {T : Type 0} where
  back-table : {next : List ℕ} {lasts : List (Option ℕ)} {rows : List (Option T)}
      {chains : List (List ℕ)} → IsTable next lasts rows chains
      → (chain last row : ℕ) → 0 < chain → last_in lasts chain ≡ Some last → row < length next
      → after next row ≡ last
      → (new : List ℕ) × (drop 1 new ++ take 1 new ≡ chain_in chains chain)
      × IsTable next (set lasts chain (Some row)) rows (set chains chain new)
  back-table {next} {lasts} {rows} {chains} t chain last row shown noted small leads =
      grind (arith, back-rows, table-kept, length-set, in-other)

  pub back-made : (links : Links) (rows : List (Option T)) (walk : Option Walk) (w : Walk)
      (at row : ℕ) → IsSound links rows walk → walk ≡ Some w → w.at ≡ Some at
      → row < length links.next.items → after links.next.items row ≡ at
      → (new : List ℕ) × (drop 1 new ++ take 1 new ≡ chain_in (seen_chains links walk) w.chain)
      × IsTable links.next.items
      (seen_lasts links.lasts.items (Some (record { chain = w.chain; at = Some row }))) rows
      (set (seen_chains links walk) w.chain new)
  back-made links rows walk w at row s is there small leads =
      let other = sound-at walk (Some w) is s in
      let lasts = links.lasts.items in
      let back =
      back-table other.table w.chain at row other.walks.0 (walk-last w other ∙ there) small leads
      in (
        back.0,
        grind (arith, back.1, is),
        table-at (set (seen_lasts lasts (Some w)) w.chain (Some row))
            (set lasts w.chain (Some row))
            (set (seen_chains links (Some w)) w.chain back.0)
            (set (seen_chains links walk) w.chain back.0)
            (set-set lasts w.chain w.at (Some row))
            (grind (arith, is)) back.2,
      )

pub back-turned : (chains : List (List ℕ)) (chain : ℕ) (new : List ℕ) → chain < length chains
    → drop 1 new ++ take 1 new ≡ chain_in chains chain
    → turned (set chains chain new) chain ≡ chains
back-turned chains chain new within is = grind (arith, in-put, set-set, set-get_or)

pub some-is : {a b : ℕ} → Some a ≡ Some b → a ≡ b
some-is e = cc

module _ {T : Type 0} where
  -- The `Iter` goes from `before` to `row` and is then at `left`, which is None at the end.
  pub way-step : (next : List ℕ) (rows : List (Option T)) (last before row : ℕ) (left : Option ℕ)
      → length rows ≡ length next → IsWay next rows last before
      → row ≡ after next before → left ≡ cond (eqb row last) None (Some row)
      → (row < length rows) × ((value : T) × (value_at rows row ≡ Some value)
      × (values_left next rows last (Some before) ≡ value ∷ values_left next rows last left))
      × IsLook next rows last left
  way-step next rows last before row left sized way is rest =
      by_todo way.todo way.leads way.some way.few way.long way.full
    where
      by_todo : (todo : List ℕ) → Leads next before todo last → 0 < length todo
          → times last todo ≤ 1 → length todo ≤ length next
          → ((r : ℕ) → 0 < times r todo → (r < length next) × (filled (value_at rows r) ≡ 1))
          → (row < length rows) × ((value : T) × (value_at rows row ≡ Some value)
          × (values_left next rows last (Some before) ≡ value ∷ values_left next rows last left))
          × IsLook next rows last left
      by_todo [] leads some few long full = absurd (omega arith)
      by_todo (first ∷ []) leads some few long full =
          let here : row ≡ first = is ∙ leads.0 in
          let front = times-same first first [] refl in
          let at = full first (omega arith) in
          let value = value-there (value_at rows row)
          (grind (arith, here, at.1)) in
          let end : left ≡ None = grind (arith, rest, eq-eqb row last (here ∙ leads.1)) in
          let less = at.0 in
          let found = way-found next before first [] last (length next) leads few long in (
            omega arith,
            (
              value.0,
              value.1,
              ap (values_of rows) (sym found ∙ ap (λ r. r ∷ []) (sym here))
                  ∙ values-first rows row [] value.0 value.1
                  ∙ ap (λ l. value.0 ∷ values_left next rows last l) (sym end),
            ),
            record { sized = sized; way = λ r e. absurd (let both = sym e ∙ end in cc) },
          )
      by_todo (first ∷ second ∷ todo) leads some few long full =
          let here : row ≡ first = is ∙ leads.0 in
          let front = times-same first first (second ∷ todo) refl in
          let at = full first (omega arith) in
          let value = value-there (value_at rows row)
          (grind (arith, here, at.1)) in
          let ends = leads-end next first second todo last leads.1 in
          let one = times-same last last [] refl in
          let counts = ap (times last) ends.1 in
          let apart : row ≢ last = λ e.
          let same = times-same last first (second ∷ todo) (sym here ∙ e) in
          absurd (omega (arith, times-append last ends.0 (last ∷ []))) in
          let on : left ≡ Some row = grind (arith, rest, ne_eqb row last apart) in
          let less = at.0 in
          let found = way-found next before first (second ∷ todo) last (length next)
          leads few long in
          let behind =
          way-found next first second todo last (length next) leads.1 (omega arith)
          (omega arith) in
          let P : ℕ → Type 0 = λ r. IsWay next rows last r in
          let go_on : IsWay next rows last first = record {
            todo = second ∷ todo;
            leads = leads.1;
            some = omega arith;
            few = omega arith;
            long = omega arith;
            within = less;
            full = λ r count. full r (omega arith);
          } in (
            omega arith,
            (
              value.0,
              value.1,
              ap (values_of rows) (sym found ∙ ap (λ r. r ∷ second ∷ todo) (sym here))
                  ∙ values-first rows row (second ∷ todo) value.0 value.1
                  ∙ ap (λ rs. value.0 ∷ values_of rows rs) behind
                  ∙ ap (λ r. value.0 ∷ values_left next rows last (Some r)) (sym here)
                  ∙ ap (λ l. value.0 ∷ values_left next rows last l) (sym on),
            ),
            record {
              sized = sized;
              way = λ r e. grind (arith, some-is);
            },
          )

  pub look-begun : {links : Links} {rows : List (Option T)} {walk : Option Walk}
      → IsSound links rows walk → (chain last : ℕ) (at : Option ℕ) → 0 < chain
      → at ≡ last_in (seen_lasts links.lasts.items walk) chain
      → ((row : ℕ) → at ≡ Some row → last ≡ row)
      → IsLook links.next.items rows last at
      × (values_left links.next.items rows last at
      ≡ chain_in (map (values_of rows) (seen_chains links walk)) chain)
  look-begun {links} {rows} {walk} s chain last None shown noted same =
      grind (arith, chain-map, none-at)
  look-begun {links} {rows} {walk} s chain last (Some row) shown noted same =
      let t = s.table in
      let chains = seen_chains links walk in
      let ring = ring-at t.holds chain row (sym noted) in
      let small = last-is-row t.holds chain row (sym noted) in
      let few = λ (r : ℕ). few-in t.holds chain r in
      let part = one-of length chains chain [] refl in
      let all = (t.holds).all in
      let is : last ≡ row = same row refl in
      let P : ℕ → Type 0 = λ r. IsWay links.next.items rows r row in
      let way : IsWay links.next.items rows row row = record {
        todo = chain_in chains chain;
        leads = ring.leads;
        some = ring.some;
        few = let f = few row in omega arith;
        long = omega arith;
        within = small;
        full = λ r count. (is-row t.holds chain r (omega arith), chain-full t chain r shown count);
      } in (
        record {
          sized = t.sized;
          way = λ r e. grind arith;
        },
        grind (
          arith,
          is,
          ring-found links.next.items row (chain_in chains chain) (length
              links.next.items) ring (let f = few row in omega arith) (omega arith),
          sym (chain-map
              (values_of rows) chains chain refl),
        ),
      )

pub copied-some : {T : Type 0} (found : Option (Bor T)) (value : T)
    → option_copied found ≡ Some value
    → (reference : Bor T) × (found ≡ Some reference) × (reference.now ≡ value)
copied-some None value is = cc
copied-some (Some reference) value is = (reference, refl, (cc))
