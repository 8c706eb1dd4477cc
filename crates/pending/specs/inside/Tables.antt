-- How a table stores chains: links that make rings of rows, their values, and what the functions on
-- them change.
use Rattle.std.specs.Prelude.{zero, ◌+◌, ◌-◌, ◌<◌, IfSome, Option, Some, None, [], ◌∷◌, ◌++◌}
use Rattle.std.specs.Prelude.{length, vec_capacity, ◌≡◌, ℕ, suc, slice_index_or, slice_set, ◌≤◌}
use Rattle.std.specs.Prelude.{◌==◌, min, List, if◌then◌else◌, map, Bool, true, false}
use Rattle.std.specs.List.{sum_by}
use Rattle.pending.specs.ChainsView.{ShownChains, chain_in}
use Rattle.pending.specs.declared.chains.links.LinkChange.{LinkChange}
use Rattle.pending.specs.declared.chains.links.LinkChange.TheVariants.{Last, Next}
use Rattle.pending.specs.declared.chains.links.Links.{Links}
use Rattle.pending.specs.declared.chains.walk.Walk.{Walk}

-- How a table stores the values of chains: each row has a link, and a value or none.
-- How links make chains of rows: each chain is a ring.

-- The row to which the link of `row` leads.
abbrev pub after : List ℕ → ℕ → ℕ
after next row = slice_index_or next row 0

-- The last row of a chain, if the chain has rows.
abbrev pub last_in : List (Option ℕ) → ℕ → Option ℕ
last_in lasts chain = slice_index_or lasts chain None

-- How often a row is in a list.
abbrev pub times : ℕ → List ℕ → ℕ
times row [] = 0
times row (other ∷ rows) = (if other == row then 1 else 0) + times row rows

-- How often a row is in all chains together.
abbrev pub times_in : ℕ → List (List ℕ) → ℕ
times_in row chains = sum_by (times row) chains

-- The links lead from `from` over exactly the given rows to `to`, which is the last of them.
abbrev pub Leads : List ℕ → ℕ → List ℕ → ℕ → Type 0
Leads next from [] to = from ≡ to
Leads next from (row ∷ rows) to = (after next from ≡ row) × Leads next row rows to

-- The links lead from `last` over `rows` back to `last`.
pub record IsRing (next : List ℕ) (last : ℕ) (rows : List ℕ) : Type 0 where
  pub leads : Leads next last rows last
  pub some : 0 < length rows

-- `rows` are a chain: a ring with the given last row, or no rows if there is no last row.
abbrev pub IsChain : List ℕ → Option ℕ → List ℕ → Type 0
IsChain next None rows = rows ≡ []
IsChain next (Some last) rows = IsRing next last rows

-- The links hold these chains. Each row is exactly once in a chain or among the loose rows.
pub record HoldChains (next : List ℕ) (lasts : List (Option ℕ)) (loose : List ℕ)
    (chains : List (List ℕ)) : Type 0 where
  pub size : length chains ≡ length lasts
  pub each : (chain : ℕ) → IsChain next (last_in lasts chain) (chain_in chains chain)
  pub once : (row : ℕ) → row < length next → times row loose + times_in row chains ≡ 1
  pub within : (row : ℕ) → length next ≤ row → times row loose + times_in row chains ≡ 0
  pub all : length loose + sum_by length chains ≡ length next

-- The rows to which the links lead from `row`, up to `last`, in at most `steps` steps.
abbrev pub rows_from : List ℕ → ℕ → ℕ → ℕ → List ℕ
rows_from next last zero row = []
rows_from next last (suc steps) row =
    after next row ∷ (if after next row == last then [] else rows_from next last steps
    (after next row))

-- The rows of the chain with the given last row.
abbrev pub chain_of : List ℕ → Option ℕ → List ℕ
chain_of next None = []
chain_of next (Some last) = rows_from next last (length next) last

-- The rows of all chains.
abbrev pub chains_of : List ℕ → List (Option ℕ) → List (List ℕ)
chains_of next lasts = map (chain_of next) lasts

-- The last row of each chain. For the chain that is being walked, it is the row at which the walk
-- is.
abbrev pub seen_lasts : List (Option ℕ) → Option Walk → List (Option ℕ)
seen_lasts lasts None = lasts
seen_lasts lasts (Some walk) = slice_set lasts walk.chain walk.at

-- The chain that is being walked, if there is one.
abbrev pub walked_in : Option Walk → Option ℕ
walked_in None = None
walked_in (Some walk) = Some walk.chain

-- If a chain is being walked, it exists and isn't the chain of the free rows.
abbrev pub WalksChain : List (Option ℕ) → Option Walk → Type 0
WalksChain lasts None = Unit {0}
WalksChain lasts (Some walk) = (0 < walk.chain) × (walk.chain < length lasts)

-- The rows of all chains; the walked chain begins at the walk's place.
abbrev pub seen_chains : Links → Option Walk → List (List ℕ)
seen_chains links walk = chains_of links.next.items (seen_lasts links.lasts.items walk)

-- The row has a mark.
abbrev pub is_marked : List Bool → ℕ → Bool
is_marked marks row = slice_index_or marks row false

-- Each marked row is in chain 1.
pub record AreMarks (marks : List Bool) (chains : List (List ℕ)) : Type 0 where
  pub within : (row : ℕ) → is_marked marks row ≡ true → 0 < times row (chain_in chains 1)

module _ {T : Type 0} where
  -- the value in a row, if there is one
  abbrev pub value_at : List (Option T) → ℕ → Option T
  value_at rows row = slice_index_or rows row None

  -- the values, and in front of them one more if there is one
  abbrev pub with_value : Option T → List T → List T
  with_value None values = values
  with_value (Some value) values = value ∷ values

  -- the values in these rows, in order
  abbrev pub values_of : List (Option T) → List ℕ → List T
  values_of rows [] = []
  values_of rows (row ∷ chain) = with_value (value_at rows row) (values_of rows chain)

  -- 1 if there is a value, otherwise 0
  abbrev pub filled : Option T → ℕ
  filled None = 0
  filled (Some value) = 1

  -- the links hold these chains, which have all rows; a row has a value if and only if it isn't
  -- free
  pub record IsTable (next : List ℕ) (lasts : List (Option ℕ)) (rows : List (Option T))
      (chains : List (List ℕ)) : Type 0 where
    pub holds : HoldChains next lasts [] chains
    pub sized : length rows ≡ length next
    pub free : 0 < length lasts
    pub full : (row : ℕ) → row < length rows
        → filled (value_at rows row) + times row (chain_in chains 0) ≡ 1

  -- the links hold these chains, which have all rows except `row`; a row has a value if and only if
  -- it isn't free and isn't `row`
  pub record IsOpen (next : List ℕ) (lasts : List (Option ℕ)) (rows : List (Option T)) (row : ℕ)
      (chains : List (List ℕ)) : Type 0 where
    pub holds : HoldChains next lasts (row ∷ []) chains
    pub sized : length rows ≡ length next
    pub free : 0 < length lasts
    pub full : (r : ℕ) → r < length rows
        → filled (value_at rows r) + times r (row ∷ []) + times r (chain_in chains 0) ≡ 1

  -- what always holds for the table between calls
  pub record IsSound (links : Links) (rows : List (Option T)) (walk : Option Walk) : Type 0 where
    pub table : IsTable links.next.items (seen_lasts links.lasts.items walk) rows
        (seen_chains links walk)
    pub walks : WalksChain links.lasts.items walk

  -- what always holds for the table and its marks between calls
  pub record IsMarked (links : Links) (rows : List (Option T)) (walk : Option Walk)
      (marks : List Bool) : Type 0 where
    pub sound : IsSound links rows walk
    pub known : AreMarks marks (seen_chains links walk)

  -- how many values can be put in without allocating: one into each free row, and others into new
  -- rows
  abbrev pub spare_in : Links → List (Option T) → ℕ → List (List ℕ) → ℕ
  spare_in links rows capacity chains =
      length (chain_in chains 0) + min (vec_capacity links.next - length links.next.items)
      (capacity - length rows)

  -- what contracts see of the table
  abbrev pub shown_of : Links → List (Option T) → ℕ → Option Walk → ShownChains T
  shown_of links rows capacity walk = record {
    chains = map (values_of rows) (seen_chains links walk);
    changed = links.changed;
    walked = walked_in walk;
    rows = length rows;
    room = vec_capacity links.lasts - length links.lasts.items;
    spare = spare_in links rows capacity (seen_chains links walk);
  }

  -- one more value can be put in without allocating
  pub record HasRow (links : Links) (rows : List (Option T)) (capacity : ℕ) : Type 0 where
    pub chains : List (List ℕ)
    pub table : IsTable links.next.items links.lasts.items rows chains
    pub spare : 0 < spare_in links rows capacity chains

-- What the functions of `rings` require of the links, and how many changes they count.

-- At most `most` changes were counted. The room, the number of rows and the number of chains don't
-- change.
pub record Changes (old new : Links) (most : ℕ) : Type 0 where
  pub few : new.changed ≤ old.changed + most
  pub rises : old.changed ≤ new.changed
  pub row_room : vec_capacity new.next ≡ vec_capacity old.next
  pub chain_room : vec_capacity new.lasts ≡ vec_capacity old.lasts
  pub rows : length new.next.items ≡ length old.next.items
  pub chains : length new.lasts.items ≡ length old.lasts.items

-- The links hold some chains.
pub record HoldSomeChains (next : List ℕ) (lasts : List (Option ℕ)) : Type 0 where
  pub loose : List ℕ
  pub chains : List (List ℕ)
  pub holds : HoldChains next lasts loose chains

-- The row is the last row of a chain that the links hold.
pub record IsLastOfChain (next : List ℕ) (last : ℕ) : Type 0 where
  pub lasts : List (Option ℕ)
  pub loose : List ℕ
  pub chains : List (List ℕ)
  pub chain : ℕ
  pub holds : HoldChains next lasts loose chains
  pub there : last_in lasts chain ≡ Some last

-- The row is in the chain `chain`, which the links hold. All rows are in chains.
pub record IsIn (next : List ℕ) (lasts : List (Option ℕ)) (chain row : ℕ) : Type 0 where
  pub chains : List (List ℕ)
  pub holds : HoldChains next lasts [] chains
  pub some : 0 < times row (chain_in chains chain)

-- The row is loose, and the chain `chain` exists. The chain's last row is the one in `noted`. For
-- other chains, a walk may see another last row than the one in `noted`.
pub record IsLoose (next : List ℕ) (noted : List (Option ℕ)) (chain row : ℕ) : Type 0 where
  pub lasts : List (Option ℕ)
  pub loose : List ℕ
  pub chains : List (List ℕ)
  pub holds : HoldChains next lasts (row ∷ loose) chains
  pub same : last_in lasts chain ≡ last_in noted chain
  pub there : chain < length noted
  pub within : chain < length lasts

-- Some loose rows are a ring with the last row `moved`, and the chain `chain` exists.
pub record IsLooseRing (next : List ℕ) (lasts : List (Option ℕ)) (chain moved : ℕ) : Type 0 where
  pub rows : List ℕ
  pub loose : List ℕ
  pub chains : List (List ℕ)
  pub holds : HoldChains next lasts (rows ++ loose) chains
  pub ring : IsRing next moved rows
  pub there : chain < length lasts

-- How a `LinkChange` changes the links.

-- The chain and the row that the change names exist.
abbrev pub ChangeIsWithin : List ℕ → List (Option ℕ) → LinkChange → Type 0
ChangeIsWithin next lasts (Last chain row) = (chain < length lasts) × IfSome row (λ r. r < length next)
ChangeIsWithin next lasts (Next row to) = row < length next

-- The row to which each link leads after the change.
abbrev pub next_after : List ℕ → LinkChange → List ℕ
next_after next (Last chain row) = next
next_after next (Next row to) = slice_set next row to

-- The last row of each chain after the change.
abbrev pub lasts_after : List (Option ℕ) → LinkChange → List (Option ℕ)
lasts_after lasts (Last chain row) = slice_set lasts chain row
lasts_after lasts (Next row to) = lasts

-- What an `Iter` has left of a chain.

-- The rows that are left: those after `row`, up to `last`.
abbrev pub rows_left : List ℕ → ℕ → Option ℕ → List ℕ
rows_left next last None = []
rows_left next last (Some row) = rows_from next last (length next) row

module _ {T : Type 0} where
  -- the values that are left
  abbrev pub values_left : List ℕ → List (Option T) → ℕ → Option ℕ → List T
  values_left next rows last at = values_of rows (rows_left next last at)

  -- the links lead from `row` over the rows that are left, each of which has a value, to `last`
  pub record IsWay (next : List ℕ) (rows : List (Option T)) (last row : ℕ) : Type 0 where
    pub todo : List ℕ
    pub leads : Leads next row todo last
    pub some : 0 < length todo
    pub few : times last todo ≤ 1
    pub long : length todo ≤ length next
    pub within : row < length next
    pub full : (r : ℕ) → 0 < times r todo → (r < length next) × (filled (value_at rows r) ≡ 1)

  -- what always holds for an `Iter`
  pub record IsLook (next : List ℕ) (rows : List (Option T)) (last : ℕ)
      (at : Option ℕ) : Type 0 where
    pub sized : length rows ≡ length next
    pub way : (row : ℕ) → at ≡ Some row → IsWay next rows last row
