-- How a row is taken out of the middle of a chain, and goes to another.
use Rattle.std.proofs.Common.{◌≡◌, ◌≢◌, ℕ, ◌<◌, ◌≤◌, List, [], ◌∷◌, ◌++◌, length, drop, take, set}
use Rattle.std.proofs.Common.{None, Option, Some, ap, append-nil, append_assoc, arith, refl, subst}
use Rattle.std.proofs.Common.{sym, ◌∙◌, length-append, map, true, Bool}
use Rattle.std.specs.Borrow.{Bor}
use Rattle.std.specs.Option.{option_copied}
use Rattle.std.specs.Prelude.{IfSome}
use Rattle.std.proofs.lemmas.List.{append_cancel_right, get_or-set_same, map-set, set-set}
use Rattle.pending.specs.ChainsView.{TakesOut, chain_in, lengthened, shortened}
use Rattle.pending.specs.declared.chains.links.Links.{Links}
use Rattle.pending.specs.declared.chains.walk.Walk.{Walk}
use Rattle.pending.specs.inside.Tables.{Changes, HoldChains, IsIn, IsLastOfChain, IsLoose, IsMarked, IsRing}
use Rattle.pending.specs.inside.Tables.{IsSound, IsTable, after, is_marked, last_in, seen_chains}
use Rattle.pending.specs.inside.Tables.{seen_lasts, times, value_at, values_of, walked_in}
use Rattle.pending.proofs.BackLaws.{around, back-rows, before-there}
use Rattle.pending.proofs.CallLaws.{chain-noted}
use Rattle.pending.proofs.HoldsLaws.{few-in, holds-at, holds-turned, is-row, last-again, none-at}
use Rattle.pending.proofs.HoldsLaws.{ring-at}
use Rattle.pending.proofs.MarkLaws.{put-counts}
use Rattle.pending.proofs.RingLaws.{chain-map, in-other, in-put, leads-end, there, times-append}
use Rattle.pending.proofs.RingLaws.{times-other, times-same, values-append, values-first}
use Rattle.pending.proofs.TableLaws.{in-neither, table-moved, table-rest}

-- A list that isn't empty has a last element.
unsnoc : (x : ℕ) (xs : List ℕ) → (front : List ℕ) × (last : ℕ) × (x ∷ xs ≡ front ++ last ∷ [])
unsnoc x [] = ([], x, refl)
unsnoc x (y ∷ ys) = let rest = unsnoc y ys in (x ∷ rest.0, rest.1, rw rest.2)

snoc-last : (xs ys : List ℕ) (x y : ℕ) → xs ++ x ∷ [] ≡ ys ++ y ∷ [] → x ≡ y
snoc-last [] [] x y e = cc
snoc-last [] (b ∷ ys) x y e =
    absurd (let long = ap length e in omega (arith, length-append ys (y ∷ [])))
snoc-last (a ∷ xs) [] x y e =
    absurd (let long = ap length e in omega (arith, length-append xs (x ∷ [])))
snoc-last (a ∷ xs) (b ∷ ys) x y e = snoc-last xs ys x y (ap (drop 1) e)

snoc-same : (xs ys : List ℕ) (x y : ℕ) → xs ++ x ∷ [] ≡ ys ++ y ∷ [] → (xs ≡ ys) × (x ≡ y)
snoc-same xs ys x y e =
    let last = snoc-last xs ys x y e in
    (append_cancel_right xs ys (x ∷ []) (e ∙ ap (λ z. ys ++ z ∷ []) (sym last)), last)

pub in-chain : {next : List ℕ} {lasts : List (Option ℕ)} {chain row : ℕ}
    → IsIn next lasts chain row → (chain < length lasts) × ((last : ℕ) × (last_in lasts chain ≡ Some last))
in-chain {next} {lasts} {chain} {row} i = by_last (last_in lasts chain) refl
  where
    within : chain < length lasts
    within = grind (arith, length, there)

    by_last : (last : Option ℕ) → last_in lasts chain ≡ last
        → (chain < length lasts) × ((last : ℕ) × (last_in lasts chain ≡ Some last))
    by_last (Some last) is = (within, (last, is))
    by_last None is = absurd (
        let e = ap (times row) (none-at i.holds chain is) in let some = i.some in omega arith)

-- The row counts as the last row of its chain.
row-last : {next : List ℕ} {lasts : List (Option ℕ)} {chains : List (List ℕ)}
    → HoldChains next lasts [] chains → (chain row : ℕ) (front back : List ℕ) → chain < length lasts
    → chain_in chains chain ≡ front ++ row ∷ back
    → HoldChains next (set lasts chain (Some row)) [] (set chains chain (back ++ (front ++ row ∷ [])))
    × (last_in (set lasts chain (Some row)) chain ≡ Some row)
row-last {next} {lasts} {chains} h chain row front back less is =
    (holds-turned h chain front row back is, get_or-set_same lasts chain (Some row) None less)

pub row-before : {next : List ℕ} {lasts : List (Option ℕ)} {chain row : ℕ}
    → IsIn next lasts chain row
    → (some : ℕ) × (some < length next) × (after next some ≡ row)
row-before {next} {lasts} {chain} {row} i =
    let parts = around row (chain_in i.chains chain) i.some in
    let last = row-last i.holds chain row parts.0 parts.1 (in-chain i).0 parts.2 in
    before-there last.0 chain row last.1

-- If the row `before`, whose link leads to `row`, counts as the last, then `row` is the first.
row-first : {next : List ℕ} {lasts : List (Option ℕ)} {chains : List (List ℕ)}
    → HoldChains next lasts [] chains → (chain row before : ℕ) (front back : List ℕ)
    → chain < length lasts → chain_in chains chain ≡ front ++ row ∷ back
    → before < length next → after next before ≡ row
    → HoldChains next (set lasts chain (Some before)) [] (set chains chain (row ∷ (back ++ front)))
row-first {next} {lasts} {chains} h chain row before front back less is small leads =
    let turned = back ++ (front ++ row ∷ []) in
    let last = row-last h chain row front back less is in
    let new = back-rows last.0 chain row before last.1 small leads in
    let within : chain < length chains = let e = h.size in omega arith in
    by_new new.0 (new.1 ∙ in-put chains chain turned within)
    (holds-at (set (set lasts chain (Some row)) chain (Some before))
    (set lasts chain (Some before)) (set (set chains chain turned) chain new.0)
    (set chains chain new.0) (set-set lasts chain (Some row) (Some before))
    (set-set chains chain turned new.0) new.2)
  where
    by_new : (new : List ℕ) → drop 1 new ++ take 1 new ≡ back ++ (front ++ row ∷ [])
        → HoldChains next (set lasts chain (Some before)) [] (set chains chain new)
        → HoldChains next (set lasts chain (Some before)) [] (set chains chain (row ∷ (back ++ front)))
    by_new [] e holds = absurd (
        let long = ap length e in
        omega (arith, length-append back (front ++ row ∷ []), length-append front (row ∷ [])))
    by_new (n ∷ ns) e holds =
        let same = snoc-same ns (back ++ front) n row (e ∙ sym (append_assoc back front (row ∷ []))) in
        let P : List ℕ → Type 0 =
        λ rows. HoldChains next (set lasts chain (Some before)) [] (set chains chain rows) in
        subst P (grind (arith, same.1, same.0)) holds

pub row-is-last : {next : List ℕ} {lasts : List (Option ℕ)} {chain row : ℕ}
    (i : IsIn next lasts chain row) (before : ℕ) → before < length next → after next before ≡ row
    → IsLastOfChain next before
row-is-last {next} {lasts} {chain} {row} i before small leads =
    let parts = around row (chain_in i.chains chain) i.some in
    let less = (in-chain i).0 in
    record {
      lasts = set lasts chain (Some before);
      loose = [];
      chains = set i.chains chain (row ∷ (parts.1 ++ parts.0));
      chain = chain;
      holds = row-first i.holds chain row before parts.0 parts.1 less parts.2 small leads;
      there = get_or-set_same lasts chain (Some before) None less;
    }

-- The row was cut out; `left` counts as the last row of the chain.
row-cut : {next : List ℕ} {lasts : List (Option ℕ)} {chains : List (List ℕ)}
    → HoldChains next lasts [] chains → (new : List ℕ) (chain row before : ℕ) (left : Option ℕ)
    (front back : List ℕ) → chain < length lasts → chain_in chains chain ≡ front ++ row ∷ back
    → before < length next → after next before ≡ row
    → ((noted : List (Option ℕ)) (loose : List ℕ) (rings : List (List ℕ)) (at : ℕ)
    → HoldChains next noted loose rings → last_in noted at ≡ Some before
    → HoldChains new (set noted at left) (after next before ∷ loose) (shortened rings at))
    → HoldChains new (set lasts chain left) (row ∷ []) (set chains chain (back ++ front))
row-cut {next} {lasts} {chains} h new chain row before left front back less is small leads cut =
    let first = row-first h chain row before front back less is small leads in
    let rows = row ∷ (back ++ front) in
    let seen = set chains chain rows in
    let within : chain < length chains = let e = h.size in omega arith in
    let P : ℕ → Type 0 =
    λ r. HoldChains new (set lasts chain left) (r ∷ []) (set chains chain (back ++ front)) in
    subst P leads (holds-at (set (set lasts chain (Some before)) chain left) (set lasts chain left)
    (shortened seen chain) (set chains chain (back ++ front))
    (set-set lasts chain (Some before) left)
    (grind (arith, in-put chains chain rows within)
    ∙ set-set chains chain rows (back ++ front))
    (cut (set lasts chain (Some before)) [] seen chain first
    (get_or-set_same lasts chain (Some before) None less)))

-- The last row of a ring is the last of its list.
ring-end : (next : List ℕ) (last : ℕ) (rows : List ℕ) → IsRing next last rows
    → (front : List ℕ) × (rows ≡ front ++ last ∷ [])
ring-end next last [] ring = absurd (let some = ring.some in omega arith)
ring-end next last (row ∷ rows) ring = leads-end next last row rows last ring.leads

-- The row is the last one.
pub last-taken : {next : List ℕ} {lasts : List (Option ℕ)} {chains : List (List ℕ)}
    → HoldChains next lasts [] chains → (new : List ℕ) (chain row before : ℕ) (left : Option ℕ)
    (front back : List ℕ) → last_in lasts chain ≡ Some row → chain < length lasts
    → chain_in chains chain ≡ front ++ row ∷ back
    → before < length next → after next before ≡ row
    → ((noted : List (Option ℕ)) (loose : List ℕ) (rings : List (List ℕ)) (at : ℕ)
    → HoldChains next noted loose rings → last_in noted at ≡ Some before
    → HoldChains new (set noted at left) (after next before ∷ loose) (shortened rings at))
    → HoldChains new (set lasts chain left) (row ∷ []) (set chains chain (front ++ back))
last-taken {next} {lasts} {chains} h new chain row before left front back noted less is small leads
    cut = by_back back is
  where
    by_back : (bs : List ℕ) → chain_in chains chain ≡ front ++ row ∷ bs
        → HoldChains new (set lasts chain left) (row ∷ []) (set chains chain (front ++ bs))
    by_back [] at =
        let P : List ℕ → Type 0 =
        λ rs. HoldChains new (set lasts chain left) (row ∷ []) (set chains chain rs) in
        subst P (sym (append-nil front))
        (row-cut h new chain row before left front [] less at small leads cut)
    by_back (b ∷ bs) at = absurd (
        let end = ring-end next row (chain_in chains chain) (ring-at h chain row noted) in
        let parts = unsnoc b bs in
        let same =
        snoc-last (front ++ row ∷ parts.0) end.0 parts.1 row
        (append_assoc front (row ∷ parts.0) (parts.1 ∷ [])
        ∙ ap (λ rs. front ++ row ∷ rs) (sym parts.2) ∙ sym at ∙ end.1) in
        let few = few-in h chain row in
        let counts = ap (times row) (at ∙ ap (λ rs. front ++ row ∷ rs) parts.2) in
        omega (
          arith,
          times-append row front (row ∷ (parts.0 ++ parts.1 ∷ [])),
          times-same row row (parts.0 ++ parts.1 ∷ []) refl,
          times-append row parts.0 (parts.1 ∷ []),
          times-same row parts.1 [] same,
        ))

-- The row isn't the last one, which stays the last.
pub middle-taken : {next : List ℕ} {lasts : List (Option ℕ)} {chains : List (List ℕ)}
    → HoldChains next lasts [] chains → (new : List ℕ) (chain row before last : ℕ) (left : Option ℕ)
    (front back : List ℕ) → last_in lasts chain ≡ Some last → last ≢ row → chain < length lasts
    → chain_in chains chain ≡ front ++ row ∷ back
    → before < length next → after next before ≡ row
    → ((noted : List (Option ℕ)) (loose : List ℕ) (rings : List (List ℕ)) (at : ℕ)
    → HoldChains next noted loose rings → last_in noted at ≡ Some before
    → HoldChains new (set noted at left) (after next before ∷ loose) (shortened rings at))
    → HoldChains new lasts (row ∷ []) (set chains chain (front ++ back))
middle-taken {next} {lasts} {chains} h new chain row before last left front back noted apart less is
    small leads cut = by_back back is
  where
    end : (ends : List ℕ) × (chain_in chains chain ≡ ends ++ last ∷ [])
    end = ring-end next last (chain_in chains chain) (ring-at h chain last noted)

    by_back : (bs : List ℕ) → chain_in chains chain ≡ front ++ row ∷ bs
        → HoldChains new lasts (row ∷ []) (set chains chain (front ++ bs))
    by_back [] at = absurd (apart (sym (snoc-last front end.0 row last (sym at ∙ end.1))))
    by_back (b ∷ bs) at =
        let parts = unsnoc b bs in
        let same =
        snoc-last (front ++ row ∷ parts.0) end.0 parts.1 last
        (append_assoc front (row ∷ parts.0) (parts.1 ∷ [])
        ∙ ap (λ rs. front ++ row ∷ rs) (sym parts.2) ∙ sym at ∙ end.1) in
        let back_is : b ∷ bs ≡ parts.0 ++ last ∷ [] = grind (arith, parts.2, same) in
        let rows = (b ∷ bs) ++ front in
        let within : chain < length chains = let e = h.size in omega arith in
        let cut_out = row-cut h new chain row before left front (b ∷ bs) less at small leads cut in
        let seen = set chains chain rows in
        let turned =
        holds-turned cut_out chain parts.0 last front
        (in-put chains chain rows within ∙ ap (λ rs. rs ++ front) back_is
        ∙ append_assoc parts.0 (last ∷ []) front) in
        holds-at (set (set lasts chain left) chain (Some last)) lasts
        (set seen chain (front ++ (parts.0 ++ last ∷ []))) (set chains chain (front ++ b ∷ bs))
        (set-set lasts chain left (Some last) ∙ last-again lasts chain (Some last) noted)
        (set-set chains chain rows (front ++ (parts.0 ++ last ∷ []))
        ∙ ap (λ rs. set chains chain (front ++ rs)) (sym back_is))
        turned

-- The row goes from chain 1 to the end of chain `onto`.

pub passed-changes : {links mid new : Links} → Changes links mid 2 → Changes mid new 3
    → Changes links new 5
passed-changes first second = grind arith

-- The chains after the row went from chain 1 to the end of chain `onto`.
abbrev pub passed : {X : Type 0} → List (List X) → List X → ℕ → X → List (List X)
passed chains rest onto x = lengthened (set chains 1 rest) onto x

pub passed-counts : (chains : List (List ℕ)) (front back : List ℕ) (row onto r : ℕ)
    → chain_in chains 1 ≡ front ++ row ∷ back → 1 < onto → r ≢ row
    → times r (chain_in chains 1) ≤ times r (chain_in (passed chains (front ++ back) onto row) 1)
passed-counts chains front back row onto r is apart other =
    grind (arith, set, put-counts, times-append, times-other, in-other)

module _ {T : Type 0} where
  pub row-parts : {links : Links} {rows : List (Option T)} {walk : Option Walk} {marks : List Bool}
      → IsMarked links rows walk marks → (row : ℕ) → is_marked marks row ≡ true
      → (front : List ℕ) × (back : List ℕ)
      × (chain_in (seen_chains links walk) 1 ≡ front ++ row ∷ back)
  row-parts {links} {rows} {walk} s row marked =
      around row (chain_in (seen_chains links walk) 1) (s.known.within row marked)

  pub marked-within : {links : Links} {rows : List (Option T)} {walk : Option Walk}
      {marks : List Bool} → IsMarked links rows walk marks → (row : ℕ)
      → is_marked marks row ≡ true → row < length rows
  marked-within s row marked =
      let some = s.known.within row marked in
      let small = is-row (s.sound.table).holds 1 row (omega arith) in
      let sized = s.sound.table.sized in
      omega arith

  pub passed-table : {links mid new : Links} {rows : List (Option T)} {walk : Option Walk}
      → IsSound links rows walk → walked_in walk ≡ None → (row onto : ℕ) (front back : List ℕ)
      → 1 < onto → chain_in (seen_chains links walk) 1 ≡ front ++ row ∷ back
      → Changes links mid 2 → Changes mid new 3
      → ((chains : List (List ℕ)) (before behind : List ℕ)
      → HoldChains links.next.items links.lasts.items [] chains
      → chain_in chains 1 ≡ before ++ row ∷ behind
      → HoldChains mid.next.items mid.lasts.items (row ∷ []) (set chains 1 (before ++ behind)))
      → ((loose : List ℕ) (chains : List (List ℕ))
      → HoldChains mid.next.items mid.lasts.items (row ∷ loose) chains
      → HoldChains new.next.items new.lasts.items loose (lengthened chains onto row))
      → IsTable new.next.items (seen_lasts new.lasts.items walk) rows
      (passed (seen_chains links walk) (front ++ back) onto row)
  passed-table {links} {mid} {new} {rows} {walk} s rest row onto front back apart is first second
      take_out put =
      let chains = seen_chains links walk in
      let left = set chains 1 (front ++ back) in
      table-moved s rest new 5 (passed-changes first second) (passed chains (front ++ back) onto row)
      (λ h. put [] left (take_out chains front back h is))
      (in-neither chains 1 onto (front ++ back) (chain_in left onto ++ row ∷ []) (omega arith)
      (omega arith))

  pub passed-loose : {links mid : Links} {rows : List (Option T)} {walk : Option Walk}
      → IsSound links rows walk → walked_in walk ≡ None → (row onto : ℕ) (front back : List ℕ)
      → chain_in (seen_chains links walk) 1 ≡ front ++ row ∷ back
      → Changes links mid 2
      → ((chains : List (List ℕ)) (before behind : List ℕ)
      → HoldChains links.next.items links.lasts.items [] chains
      → chain_in chains 1 ≡ before ++ row ∷ behind
      → HoldChains mid.next.items mid.lasts.items (row ∷ []) (set chains 1 (before ++ behind)))
      → onto < length (map (values_of rows) (seen_chains links walk))
      → IsLoose mid.next.items mid.lasts.items onto row
  passed-loose {links} {mid} {rows} {walk} s rest row onto front back is changes take_out within =
      let t = table-rest s rest in
      let there_too = chain-noted t onto within in
      let chains = seen_chains links walk in
      let long = changes.chains in
      record {
        lasts = mid.lasts.items;
        loose = [];
        chains = set chains 1 (front ++ back);
        holds = take_out chains front back t.holds is;
        same = refl;
        there = omega arith;
        within = omega arith;
      }

  pub values-amid : (rows : List (Option T)) (chains : List (List ℕ)) (row : ℕ)
      (front back : List ℕ) (value : T) → chain_in chains 1 ≡ front ++ row ∷ back
      → value_at rows row ≡ Some value
      → TakesOut (chain_in (map (values_of rows) chains) 1) value
      (values_of rows front ++ values_of rows back)
  values-amid rows chains row front back value is found =
      grind (arith, chain-map, values-append, values-first)

  pub shown-passed : (rows : List (Option T)) (chains : List (List ℕ)) (row onto : ℕ)
      (front back : List ℕ) (value : T) → value_at rows row ≡ Some value
      → map (values_of rows) (passed chains (front ++ back) onto row)
      ≡ passed (map (values_of rows) chains) (values_of rows front ++ values_of rows back) onto value
  shown-passed rows chains row onto front back value found =
      grind (arith, map-set, values-append, chain-map, values-first)

  -- `old` are the values before.
  pub passed-out : (rows : List (Option T)) (chains new : List (List ℕ)) (old : List (List T))
      (row onto : ℕ) (front back : List ℕ) (value : T) → map (values_of rows) chains ≡ old
      → chain_in chains 1 ≡ front ++ row ∷ back → value_at rows row ≡ Some value
      → new ≡ passed chains (front ++ back) onto row
      → TakesOut (chain_in old 1) value (values_of rows front ++ values_of rows back)
      × (map (values_of rows) new
      ≡ passed old (values_of rows front ++ values_of rows back) onto value)
  passed-out rows chains new old row onto front back value shown is found to =
      grind (arith, values-amid, map, shown-passed)

  pub some-amid : (rows : List (Option T)) (chains : List (List ℕ)) (old : List (List T))
      (row : ℕ) (front back : List ℕ) (found : Option (Bor T)) → map (values_of rows) chains ≡ old
      → chain_in chains 1 ≡ front ++ row ∷ back → option_copied found ≡ value_at rows row
      → IfSome found (λ value. (rest : List T) × TakesOut (chain_in old 1) value.now rest)
  some-amid rows chains old row front back None shown is copied = tt
  some-amid rows chains old row front back (Some value) shown is copied =
      grind (arith, values-amid rows chains row front back value.now is (sym copied))
