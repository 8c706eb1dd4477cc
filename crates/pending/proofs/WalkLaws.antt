-- How the walk over a chain changes the table.
use Rattle.std.proofs.Common.{◌≡◌, ◌≢◌, ℕ, ◌<◌, List, [], ◌∷◌, ◌++◌, length, map, set, take, drop}
use Rattle.std.proofs.Common.{Option, Some, None, refl, ap, sym, ◌∙◌, subst, arith, length-set, inl}
use Rattle.std.proofs.Common.{inr, vec_capacity, min, ◌-◌, ◌+◌}
use Rattle.std.proofs.lemmas.Bool.{cases_eq}
use Rattle.std.proofs.lemmas.List.{get_or-set_same, get_or-set_other, length-map, map-set}
use Rattle.std.proofs.lemmas.List.{set-get_or, set-set, set_comm}
use Rattle.pending.specs.declared.chains.links.Links.{Links}
use Rattle.pending.specs.declared.chains.walk.Walk.{Walk}
use Rattle.pending.specs.Lends.{with_value}
use Rattle.pending.specs.ChainsView.{chain_in, lifted, preceded, shortened, turned, with_first}
use Rattle.pending.specs.inside.Tables.{Changes, IsLoose, HoldChains, seen_lasts, values_of, after}
use Rattle.pending.specs.inside.Tables.{last_in, times, walked_in, shown_of, IsSound, IsTable}
use Rattle.pending.specs.inside.Tables.{seen_chains}
use Rattle.pending.proofs.RingLaws.{chain-map, values-append, values-first, values-kept, times-same}
use Rattle.pending.proofs.RingLaws.{in-put, in-other, there}
use Rattle.pending.proofs.HoldsLaws.{few-in, few-in-two, first-of, holds-at, holds-turned}
use Rattle.pending.proofs.HoldsLaws.{last-again, ring-at}
use Rattle.pending.proofs.TableLaws.{in-neither, nothing-cut, shown-by, sound-of, table-at}
use Rattle.pending.proofs.TableLaws.{table-kept, table-rest}
use Rattle.pending.proofs.CallLaws.{chain-noted, first-row, first-value, row-within}

pub nothing-turned : {X : Type 0} (chains : List (List X)) (chain : ℕ) → chain_in chains chain ≡ []
    → turned chains chain ≡ chains
nothing-turned chains chain is = grind (arith, set-get_or)

pub nothing-lifted : {X : Type 0} (chains : List (List X)) (chain onto : ℕ)
    → chain_in chains chain ≡ [] → lifted chains chain onto ≡ chains
nothing-lifted chains chain onto is = grind (arith, nothing-cut, set-get_or)

pub last-other : (lasts : List (Option ℕ)) (walk : Walk) (left : Option ℕ) (onto : ℕ)
    → onto ≢ walk.chain
    → last_in (set (seen_lasts lasts (Some walk)) walk.chain left) onto ≡ last_in lasts onto
last-other lasts walk left onto apart = grind (arith, get_or-set_other)

pub walked-is : (walk : Option Walk) (w : Walk) (chain : ℕ) → walk ≡ Some w
    → walked_in walk ≡ Some chain → w.chain ≡ chain
walked-is walk w chain is walked = let both = sym (ap walked_in is) ∙ walked in cc

pub both-changes : {links mid new : Links} → Changes links mid 1 → Changes mid new 2
    → Changes links new 3
both-changes first second = grind arith

module _ {T : Type 0} where
  pub sound-at : {links : Links} {rows : List (Option T)} (walk other : Option Walk) → walk ≡ other
      → IsSound links rows walk → IsSound links rows other
  sound-at {links} {rows} walk other e s = grind arith

  -- While a chain is walked, the row at which the walk is counts as the chain's last row.
  pub walk-last : {links : Links} {rows : List (Option T)} (walk : Walk)
      → IsSound links rows (Some walk)
      → last_in (seen_lasts links.lasts.items (Some walk)) walk.chain ≡ walk.at
  walk-last {links} {rows} walk s = grind (arith, get_or-set_same)

  pub chain-parts : {next : List ℕ} {lasts : List (Option ℕ)} {rows : List (Option T)}
      {chains : List (List ℕ)} → IsTable next lasts rows chains
      → (chain : ℕ) → 0 < chain
      → (values_of rows (drop 1 (chain_in chains chain))
      ≡ drop 1 (values_of rows (chain_in chains chain)))
      × (values_of rows (take 1 (chain_in chains chain))
      ≡ take 1 (values_of rows (chain_in chains chain)))
  chain-parts {next} {lasts} {rows} {chains} t chain shown = by_chain (chain_in chains chain) refl
    where
      by_chain : (xs : List ℕ) → chain_in chains chain ≡ xs
          → (values_of rows (drop 1 (chain_in chains chain))
          ≡ drop 1 (values_of rows (chain_in chains chain)))
          × (values_of rows (take 1 (chain_in chains chain))
          ≡ take 1 (values_of rows (chain_in chains chain)))
      by_chain [] is = grind arith
      by_chain (row ∷ rest) is = grind (arith, first-value, values-first)

  -- Turning a chain by one row writes no link: the next row counts as the last.
  pub turned-table : {next : List ℕ} {lasts : List (Option ℕ)} {rows : List (Option T)}
      {chains : List (List ℕ)} → IsTable next lasts rows chains
      → (chain at : ℕ) → 0 < chain → last_in lasts chain ≡ Some at
      → IsTable next (set lasts chain (Some (after next at))) rows (turned chains chain)
  turned-table {next} {lasts} {rows} {chains} t chain at shown noted =
      let first = first-of (ring-at t.holds chain at noted) in
      let is = (first.1).is in
      let same : drop 1 (chain_in chains chain) ++ take 1 (chain_in chains chain) ≡ first.0
      ++ ([] ++ after next at ∷ []) =
      ap (λ xs. drop 1 xs ++ take 1 xs) is in
      let noted = set lasts chain (Some (after next at)) in
      table-kept t next noted (turned chains chain)
      (holds-at noted noted (set chains chain (first.0 ++ ([] ++ after next at ∷ [])))
      (turned chains chain) refl
      (sym (rw same))
      (holds-turned t.holds chain [] (after next at) first.0 is))
      refl (length-set lasts chain (Some (after next at)))
      (in-other chains chain 0 (drop 1 (chain_in chains chain) ++ take 1 (chain_in chains chain))
      (λ e. absurd (omega arith)))

  pub shown-turned : {next : List ℕ} {lasts : List (Option ℕ)} {rows : List (Option T)}
      {chains : List (List ℕ)} → IsTable next lasts rows chains
      → (chain : ℕ) → 0 < chain
      → map (values_of rows) (turned chains chain) ≡ turned (map (values_of rows) chains) chain
  shown-turned {next} {lasts} {rows} {chains} t chain shown =
      grind (arith, chain-parts, chain-map, map-set, values-append)

  pub shown-lifted : {next : List ℕ} {lasts : List (Option ℕ)} {rows : List (Option T)}
      {chains : List (List ℕ)} → IsTable next lasts rows chains
      → (chain onto : ℕ) → 0 < chain
      → map (values_of rows) (lifted chains chain onto)
      ≡ lifted (map (values_of rows) chains) chain onto
  shown-lifted {next} {lasts} {rows} {chains} t chain onto shown =
      grind (arith, chain-parts, chain-map, map-set, values-append)

  -- `mid` are the links after the row was cut out, and `new` those after it was put in.
  pub lifted-table : (links mid new : Links) (rows : List (Option T)) (walk : Walk)
      (at row onto : ℕ) (left : Option ℕ) → IsSound links rows (Some walk)
      → walk.at ≡ Some at → row ≡ after links.next.items at → 0 < onto → onto ≢ walk.chain
      → Changes links mid 1 → Changes mid new 2 → mid.lasts.items ≡ links.lasts.items
      → new.lasts.items ≡ set mid.lasts.items onto (last_in new.lasts.items onto)
      → HoldChains new.next.items (set
      (set (seen_lasts links.lasts.items (Some walk)) walk.chain left) onto
      (last_in new.lasts.items onto)) []
      (preceded (shortened (seen_chains links (Some walk)) walk.chain) onto row)
      → IsTable new.next.items
      (seen_lasts new.lasts.items (Some (record { chain = walk.chain; at = left }))) rows
      (lifted (seen_chains links (Some walk)) walk.chain onto)
  lifted-table links mid new rows walk at row onto left s is first more apart cut put same noted h =
      let lasts = links.lasts.items in
      let chains = seen_chains links (Some walk) in
      let xs = chain_in chains walk.chain in
      let rest = first-row (s.table).holds walk.chain at row (walk-last walk s ∙ is) first in
      let value = last_in new.lasts.items onto in
      let seen : set (set (seen_lasts lasts (Some walk)) walk.chain left) onto value
      ≡ set new.lasts.items walk.chain left =
      grind (arith, set-set lasts walk.chain walk.at left)
      ∙ set_comm lasts walk.chain onto left value (λ e. apart (sym e))
      ∙ ap (λ ls. set ls walk.chain left) (grind (arith, same, sym noted)) in
      let put_there : preceded (shortened chains walk.chain) onto row
      ≡ lifted chains walk.chain onto =
      ap (λ ys. set (shortened chains walk.chain) onto (row ∷ ys))
      (in-other chains walk.chain onto (drop 1 xs) apart)
      ∙ ap (λ zs. set (shortened chains walk.chain) onto (zs ++ chain_in chains onto))
      (sym (ap (take 1) rest.1)) in
      table-kept s.table new.next.items (set new.lasts.items walk.chain left)
      (lifted chains walk.chain onto)
      (holds-at (set (set (seen_lasts lasts (Some walk)) walk.chain left) onto value)
      (set new.lasts.items walk.chain left)
      (preceded (shortened chains walk.chain) onto row)
      (lifted chains walk.chain onto) seen put_there h)
      (put.rows ∙ cut.rows)
      (length-set new.lasts.items walk.chain left ∙ put.chains ∙ cut.chains
      ∙ sym (length-set lasts walk.chain walk.at))
      (in-neither chains walk.chain onto (drop 1 xs)
      (take 1 xs ++ chain_in chains onto) s.walks.0 more)

  pub replaced-table : {next : List ℕ} {lasts : List (Option ℕ)} {rows : List (Option T)}
      {chains : List (List ℕ)} → IsTable next lasts rows chains
      → (chain row : ℕ) (rest : List ℕ) (value : T) → 0 < chain → chain_in chains chain ≡ row ∷ rest
      → IsTable next lasts (set rows row (Some value)) chains
  replaced-table {next} {lasts} {rows} {chains} t chain row rest value shown is =
      let small = row-within t chain row rest is in
      let front = times-same row row rest refl in
      let counts = ap (times row) is in
      record {
        holds = t.holds;
        sized = length-set rows row (Some value) ∙ t.sized;
        free = t.free;
        full = λ r less.
            let full = t.full r (omega (arith, length-set rows row (Some value))) in
            elim (cases_eq r row) [
              | inl same ↦
                  let step = set rows row (Some value) in
                  let next_step = get_or-set_same rows row (Some value) None small in
                  grind (arith, few-in-two t.holds chain 0 r (λ e. absurd (omega arith)))
              | inr apart ↦ grind (arith, get_or-set_other)
            ];
      }

  pub shown-replaced : {next : List ℕ} {lasts : List (Option ℕ)} {rows : List (Option T)}
      {chains : List (List ℕ)} → IsTable next lasts rows chains
      → (chain row : ℕ) (rest : List ℕ) (value : T) → 0 < chain → chain_in chains chain ≡ row ∷ rest
      → map (values_of (set rows row (Some value))) chains
      ≡ with_first (map (values_of rows) chains) chain value
  shown-replaced {next} {lasts} {rows} {chains} t chain row rest value shown is =
      let small = row-within t chain row rest is in
      let front = times-same row row rest refl in
      let counts = ap (times row) is in
      let few = few-in t.holds chain row in
      let within = there chains chain (let e = ap length is in omega arith) in
      let seen = map (values_of rows) chains in
      let there_too : chain < length seen = omega (arith, length-map chains (values_of rows)) in
      let new = set rows row (Some value) in
      let old = first-value t chain row rest shown is in
      shown-by new chains (with_first seen chain value)
      (sym (length-set seen chain (value ∷ drop 1 (chain_in seen chain))
      ∙ length-map chains (values_of rows)))
      (λ other. elim (cases_eq other chain) [
        | inl same ↦
            grind (arith, values-first, get_or-set_same, values-kept, drop, chain-map, in-put)
        | inr apart ↦
            let two = few-in-two t.holds chain other row (λ e. apart (sym e)) in
            values-kept rows row (Some value) (chain_in chains other) (omega arith)
            ∙ sym (chain-map (values_of rows) chains other refl)
            ∙ sym (in-other seen chain other (value ∷ drop 1 (chain_in seen chain)) apart)
      ])

  pub walked-last : {links : Links} {rows : List (Option T)} (walk : Option Walk) (w : Walk)
      (chain : ℕ) → IsSound links rows walk → walk ≡ Some w
      → walked_in walk ≡ Some chain
      → (0 < chain) × (last_in (seen_lasts links.lasts.items walk) chain ≡ w.at)
  walked-last {links} {rows} walk w chain s is walked =
      grind (arith, sound-at, walked-is, walk-last)

  pub turn-made : (links : Links) (rows : List (Option T)) (walk : Option Walk) (w : Walk)
      (at first : ℕ) → IsSound links rows walk → walk ≡ Some w
      → w.at ≡ Some at → first ≡ after links.next.items at
      → IsTable links.next.items
      (seen_lasts links.lasts.items (Some (record { chain = w.chain; at = Some first }))) rows
      (turned (seen_chains links walk) w.chain)
  turn-made links rows walk w at first s is there leads =
      let other = sound-at walk (Some w) is s in
      let lasts = links.lasts.items in
      table-at (set (seen_lasts lasts (Some w)) w.chain (Some (after links.next.items at)))
      (set lasts w.chain (Some first))
      (turned (seen_chains links (Some w)) w.chain) (turned (seen_chains links walk) w.chain)
      (set-set lasts w.chain w.at (Some (after links.next.items at))
      ∙ ap (λ r. set lasts w.chain (Some r)) (sym leads))
      (grind (arith, is))
      (turned-table other.table w.chain at other.walks.0 (walk-last w other ∙ there))

  pub lift-cut : (links mid : Links) (rows : List (Option T)) (walk : Option Walk) (w : Walk)
      (at row : ℕ) (left : Option ℕ) → IsSound links rows walk
      → walk ≡ Some w → w.at ≡ Some at → row ≡ after links.next.items at
      → ((lasts : List (Option ℕ)) (loose : List ℕ) (chains : List (List ℕ)) (chain : ℕ)
      → HoldChains links.next.items lasts loose chains → last_in lasts chain ≡ Some at
      → HoldChains mid.next.items (set lasts chain left) (after links.next.items at ∷ loose)
      (shortened chains chain))
      → HoldChains mid.next.items (set (seen_lasts links.lasts.items (Some w)) w.chain left) (row ∷ [])
      (shortened (seen_chains links (Some w)) w.chain)
  lift-cut links mid rows walk w at row left s is there leads cut =
      let other = sound-at walk (Some w) is s in
      let P : ℕ → Type 0 =
      λ r. HoldChains mid.next.items (set (seen_lasts links.lasts.items (Some w)) w.chain left)
      (r ∷ []) (shortened (seen_chains links (Some w)) w.chain) in
      subst P (sym leads) (cut (seen_lasts links.lasts.items (Some w)) []
      (seen_chains links (Some w)) w.chain (other.table).holds (walk-last w other ∙ there))

  pub lift-loose : (links mid : Links) (rows : List (Option T)) (w : Walk) (row onto : ℕ)
      (left : Option ℕ)
      → HoldChains mid.next.items (set (seen_lasts links.lasts.items (Some w)) w.chain left) (row ∷ [])
      (shortened (seen_chains links (Some w)) w.chain)
      → Changes links mid 1 → mid.lasts.items ≡ links.lasts.items → onto ≢ w.chain
      → onto < length links.lasts.items
      → IsLoose mid.next.items mid.lasts.items onto row
  lift-loose links mid rows w row onto left h changes same apart less =
      grind (arith, last-other, length-set)

  pub lift-made : (links mid new : Links) (rows : List (Option T)) (walk : Option Walk) (w : Walk)
      (at row onto : ℕ) (left : Option ℕ) → IsSound links rows walk
      → walk ≡ Some w → w.at ≡ Some at → row ≡ after links.next.items at → 0 < onto → onto ≢ w.chain
      → onto < length links.lasts.items
      → Changes links mid 1 → Changes mid new 2 → mid.lasts.items ≡ links.lasts.items
      → new.lasts.items ≡ set mid.lasts.items onto (last_in new.lasts.items onto)
      → HoldChains mid.next.items (set (seen_lasts links.lasts.items (Some w)) w.chain left) (row ∷ [])
      (shortened (seen_chains links (Some w)) w.chain)
      → ((lasts : List (Option ℕ)) (loose : List ℕ) (chains : List (List ℕ))
      → HoldChains mid.next.items lasts (row ∷ loose) chains → onto < length lasts
      → last_in lasts onto ≡ last_in mid.lasts.items onto
      → HoldChains new.next.items (set lasts onto (last_in new.lasts.items onto)) loose
      (preceded chains onto row))
      → IsTable new.next.items
      (seen_lasts new.lasts.items (Some (record { chain = w.chain; at = left }))) rows
      (lifted (seen_chains links walk) w.chain onto)
  unfolding lift-loose
  lift-made links mid new rows walk w at row onto left s is noted_at leads more apart less cut put
      same noted h step =
      let other = sound-at walk (Some w) is s in
      let seen = set (seen_lasts links.lasts.items (Some w)) w.chain left in
      table-at (seen_lasts new.lasts.items (Some (record { chain = w.chain; at = left })))
      (seen_lasts new.lasts.items (Some (record { chain = w.chain; at = left })))
      (lifted (seen_chains links (Some w)) w.chain onto)
      (lifted (seen_chains links walk) w.chain onto) refl
      (ap (λ k. lifted (seen_chains links k) w.chain onto) (sym is))
      (lifted-table links mid new rows w at row onto left other noted_at leads more apart cut put
      same noted
      (step seen [] (shortened (seen_chains links (Some w)) w.chain) h
      (lift-loose links mid rows w row onto left h cut same apart less).within
      (lift-loose links mid rows w row onto left h cut same apart less).same))

  -- When a walk ends, its row is stored as the last row of its chain.
  pub rest-made : (links new : Links) (rows : List (Option T)) (walk : Option Walk) (w : Walk)
      → IsSound links rows walk → walk ≡ Some w
      → new.next.items ≡ links.next.items → new.lasts.items ≡ set links.lasts.items w.chain w.at
      → IsSound new rows None
  rest-made links new rows walk w s is same noted =
      let other = sound-at walk (Some w) is s in
      let P : List ℕ → Type 0 = λ n. IsTable n new.lasts.items rows (seen_chains links (Some w)) in
      let Q : List (Option ℕ) → Type 0 =
      λ l. IsTable links.next.items l rows (seen_chains links (Some w)) in
      sound-of new rows None (seen_chains links (Some w))
      (subst P (sym same) (subst Q (sym noted) other.table)) tt

  pub walk-made : (links : Links) (rows : List (Option T)) (walk : Option Walk) (chain : ℕ)
      (at : Option ℕ) → IsSound links rows walk → walked_in walk ≡ None
      → 0 < chain → chain < length links.lasts.items → at ≡ last_in links.lasts.items chain
      → IsSound links rows (Some (record { chain = chain; at = at }))
  walk-made links rows walk chain at s rest shown less is =
      grind (arith, last-again, sound-of, table-at, table-rest)

  pub lift-within : {links : Links} {rows : List (Option T)} {walk : Option Walk}
      → IsSound links rows walk → (chain : ℕ)
      → chain < length (map (values_of rows) (seen_chains links walk))
      → chain < length links.lasts.items
  lift-within {links} {rows} {walk} s chain less =
      let there = chain-noted s.table chain less in
      by_walk walk there
    where
      by_walk : (k : Option Walk) → chain < length (seen_lasts links.lasts.items k)
          → chain < length links.lasts.items
      by_walk None there = there
      by_walk (Some w) there = omega (arith, length-set links.lasts.items w.chain w.at)

  pub seen-replaced : (links : Links) (rows : List (Option T)) (capacity : ℕ) (walk : Option Walk)
      → IsSound links rows walk
      → (chain row : ℕ) (rest : List ℕ) (value : T) → 0 < chain
      → chain_in (seen_chains links walk) chain ≡ row ∷ rest
      → shown_of links (set rows row (Some value)) capacity walk
      ≡ with_value (shown_of links rows capacity walk) chain value
  seen-replaced links rows capacity walk s chain row rest value shown is =
      let old = shown_of links rows capacity walk in
      let free = length (chain_in (seen_chains links walk) 0) in
      let more = vec_capacity links.next - length links.next.items in
      let with =
      λ (chains : List (List T))
      (n : ℕ). record old {
        chains = chains;
        rows = n;
        spare = free + min more (capacity - n);
      } in
      ap (λ cs. with cs (length (set rows row (Some value))))
      (shown-replaced s.table chain row rest value shown is)
      ∙ ap (with (with_first old.chains chain value)) (length-set rows row (Some value))
