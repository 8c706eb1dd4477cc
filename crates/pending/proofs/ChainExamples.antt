-- Examples of chains and links, by computation.
use Rattle.std.proofs.Common.{◌≡◌, ℕ, List, [], ◌∷◌, None, refl, arith}
use Rattle.pending.specs.ChainsView.{new_rows_room, ChangesFew, KeepsRoom, ShownChains}
use Rattle.pending.specs.ChainsView.{fronted, joined, lengthened, lifted, shortened}
use Rattle.pending.specs.ChainsView.{turned, with_first}
use Rattle.pending.specs.Lends.{with_value}

-- chain 1 has two values and chain 2 has one
three : List (List ℕ)
three = [] ∷ (11 ∷ 12 ∷ []) ∷ (21 ∷ []) ∷ []

joined-behind : joined three 1 2 ≡ [] ∷ [] ∷ (21 ∷ 11 ∷ 12 ∷ []) ∷ []
unfolding three
joined-behind = refl

fronted-before : fronted three 1 2 ≡ [] ∷ [] ∷ (11 ∷ 12 ∷ 21 ∷ []) ∷ []
unfolding three
fronted-before = refl

lengthened-by : lengthened three 2 22 ≡ [] ∷ (11 ∷ 12 ∷ []) ∷ (21 ∷ 22 ∷ []) ∷ []
unfolding three
lengthened-by = refl

shortened-by : shortened three 1 ≡ [] ∷ (12 ∷ []) ∷ (21 ∷ []) ∷ []
unfolding three
shortened-by = refl

turned-once : turned three 1 ≡ [] ∷ (12 ∷ 11 ∷ []) ∷ (21 ∷ []) ∷ []
unfolding three
turned-once = refl

lifted-over : lifted three 1 2 ≡ [] ∷ (12 ∷ []) ∷ (11 ∷ 21 ∷ []) ∷ []
unfolding three
lifted-over = refl

replaced : with_first three 1 10 ≡ [] ∷ (10 ∷ 12 ∷ []) ∷ (21 ∷ []) ∷ []
unfolding three
replaced = refl

-- what is seen after `changed` changes
shown : ℕ → ℕ → ShownChains ℕ
shown changed spare =
    record { chains = three; changed = changed; walked = None; rows = 3; room = 0; spare = spare }

-- of the room for 2 values, one is in the row that is free
room-free : new_rows_room {T = ℕ} (record {
  chains = [] ∷ [];
  changed = 0;
  walked = None;
  rows = 1;
  room = 0;
  spare = 2;
}) ≡ 1
room-free = refl

few : ChangesFew (shown 5 0) (shown 8 0) 3
unfolding shown
few = record { few = omega arith; rises = omega arith }

many : ChangesFew (shown 5 0) (shown 9 0) 3 → ⊥
unfolding shown
many changes = let few = changes.few in omega arith

fewer_counted : ChangesFew (shown 5 0) (shown 4 0) 3 → ⊥
unfolding shown
fewer_counted changes = let rises = changes.rises in omega arith

room-kept : KeepsRoom (shown 5 2) (shown 8 2)
unfolding shown
room-kept = record { rows = refl; room = refl; spare = refl }

room-used : KeepsRoom (shown 5 2) (shown 8 1) → ⊥
unfolding shown
room-used kept = let spare = kept.spare in omega arith

rows-added : KeepsRoom (shown 5 2) (record (shown 5 2) { rows = 4 }) → ⊥
unfolding shown
rows-added kept = let rows = kept.rows in omega arith

chains-room-added : KeepsRoom (shown 5 2) (record (shown 5 2) { room = 1 }) → ⊥
unfolding shown
chains-room-added kept = let room = kept.room in omega arith

-- what is written through the reference to the first of a
-- chain is there, and all else is as it was
written : with_value (shown 5 2) 1 10
    ≡ record (shown 5 2) { chains = [] ∷ (10 ∷ 12 ∷ []) ∷ (21 ∷ []) ∷ [] }
unfolding shown three
written = refl
