-- Rows as they are found, and what they are joined to.
use Rattle.std.specs.Prelude.{◌≡◌, ℕ, suc, ◌+◌, ◌<◌, ◌≤◌, ◌==◌, Bool, ◌&&◌, cond, List, [], ◌∷◌, ◌++◌, length, map, Option, Some, None}
use Rattle.std.specs.List.{AllByRecursion, flat_map}
use Rattle.std.specs.List.Sorted.{IsPermutation}
use Rattle.std.specs.Ordering.{nat_cmp, ordering_then}
use Rattle.std.specs.declared.cmp.Ordering.{Ordering}
use Rattle.db_value.specs.declared.record.Record.{Record}
use Rattle.db_value.specs.declared.record.Marked.{Marked}
use Rattle.db_store.specs.Parts.{Part}
use Rattle.db_store.specs.Rows.{row_in_slot}
use Rattle.db_value.specs.Order.{record_eq, record_cmp}

-- a row, and the position of the view that has it
pub record Found : Type 0 where
  pub row : Record
  pub position : ℕ

-- a row at a position
abbrev pub found_at : ℕ → Option Record → List Found
found_at n None = []
found_at n (Some row) = record { row = row; position = n } ∷ []

-- the row of a slot of view n, if the condition holds of it
abbrev pub found_in_slot : (Record → Bool) → ℕ → Record × Bool → List Found
found_in_slot p n s = found_at n (row_in_slot p s)

-- the same of slots
abbrev pub found_in_slots : (Record → Bool) → ℕ → List (Record × Bool) → List Found
found_in_slots p n slots = flat_map (found_in_slot p n) slots

-- the same of a part
abbrev pub found_in_part : (Record → Bool) → ℕ → Part → List Found
found_in_part p n part = found_in_slots p n part.slots

-- the same of parts
abbrev pub found_in_parts : (Record → Bool) → ℕ → List Part → List Found
found_in_parts p n parts = flat_map (found_in_part p n) parts

-- in views, the first of which has position n
abbrev pub found_in_views : (Record → Bool) → ℕ → List (List Part) → List Found
found_in_views p n [] = []
found_in_views p n (parts ∷ views) = found_in_parts p n parts ++ found_in_views p (n + 1) views

-- a row with each of its positions
abbrev pub spread_one : Marked → List Found
spread_one m = map (λ n. record { row = m.row; position = n }) m.positions

-- the same of rows
abbrev pub spread : List Marked → List Found
spread [] = []
spread (m ∷ ms) = spread_one m ++ spread ms

-- the sum of what each gives
abbrev pub total : {K : Type 0} → (K → ℕ) → List K → ℕ
total f [] = 0
total f (x ∷ xs) = f x + total f xs

-- one, if it is so
abbrev pub weigh : Bool → ℕ
weigh b = cond b 1 0

-- whether two are the same row at the same position
abbrev pub is_same : Found → Found → Bool
is_same q f = record_eq q.row f.row && q.position == f.position

-- how often it is found
abbrev pub times : Found → List Found → ℕ
times q found = total (λ f. weigh (is_same q f)) found

-- the same, each as often
abbrev pub AreSame : List Found → List Found → Type 0
AreSame some others = (q : Found) → times q some ≡ times q others

-- a row before others: neighbours that are equal are one row with the positions of both
abbrev pub with_row : Marked → List Marked → List Marked
with_row m [] = m ∷ []
with_row m (n ∷ ms) = cond (record_eq m.row n.row) (record { row = m.row; positions = m.positions ++ n.positions } ∷ ms) (m ∷ n ∷ ms)

-- equal neighbours as one row, with all their positions
abbrev pub joined : List Marked → List Marked
joined [] = []
joined (m ∷ ms) = with_row m (joined ms)

-- how many rows at the front are this one
abbrev pub run_length : Record → List Marked → ℕ
run_length row [] = 0
run_length row (m ∷ ms) = cond (record_eq m.row row) (suc (run_length row ms)) 0

-- the positions of rows, one after another
abbrev pub positions_of : List Marked → List ℕ
positions_of ms = flat_map (λ m. m.positions) ms

-- none is below one before it
abbrev pub Climbs : List ℕ → Type 0
Climbs [] = Unit {0}
Climbs (n ∷ ns) = AllByRecursion (λ k. n ≤ k) ns × Climbs ns

-- a row has positions in order, and at least one
pub record HasPositions (m : Marked) : Type 0 where
  pub up : Climbs m.positions
  pub some : 0 < length m.positions

-- these positions are those, in order, and at least one
pub record Ascends (those these : List ℕ) : Type 0 where
  pub same : IsPermutation those these
  pub up : Climbs these
  pub some : 0 < length these

-- the same rows, with their positions ascending
abbrev pub AreInOrder : List Marked → List Marked → Type 0
AreInOrder [] [] = Unit {0}
AreInOrder (m ∷ ms) (n ∷ ns) = (n.row ≡ m.row) × Ascends m.positions n.positions × AreInOrder ms ns
AreInOrder _ _ = ⊥

-- by row
abbrev pub row_cmp : Marked → Marked → Ordering
row_cmp a b = record_cmp a.row b.row

-- by row, and then by position
abbrev pub found_cmp : Found → Found → Ordering
found_cmp a b = ordering_then (record_cmp a.row b.row) (nat_cmp a.position b.position)
