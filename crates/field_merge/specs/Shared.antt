-- What three versions of a relation share, and their records without it.
use Rattle.std.specs.Prelude.{◌≡◌, ℕ, ◌<◌, ◌&&◌, not, cond, Bool, true, false, List, [], ◌∷◌, ◌++◌, length, take}
use Rattle.std.specs.List.Sorted.{IsPermutation, IsSorted}
use Rattle.db_value.specs.Order.{record_cmp}
use Rattle.db_value.specs.declared.record.Record.{Record}
use Rattle.db_value.specs.declared.schema.Relation.{Relation}
use Rattle.db_store.specs.Table.{Contents, rows_of}
use Rattle.db_store.specs.Parts.{Part, part_at, records_in, rows_in}
use Rattle.db_store.specs.declared.view.Spot.{Spot}
use Rattle.field_merge.specs.declared.turns.Taken.{Taken}
use Rattle.field_merge.specs.declared.sides.Sides.{Sides}

-- parts of two views have the same records if they have one id and as many slots
abbrev pub AgreeAsLong : List Part → List Part → Type 0
AgreeAsLong some others = (i j : ℕ) → i < length some → j < length others → (part_at some i).id ≡ (part_at others j).id
    → length (part_at some i).slots ≡ length (part_at others j).slots → records_in (part_at some i) ≡ records_in (part_at others j)

-- the parts of the left view do so with those of both others
pub record AgreeWithLeft (bs ls rs : List Part) : Type 0 where
  pub of_base : AgreeAsLong ls bs
  pub of_right : AgreeAsLong ls rs

-- there is such a slot in the parts
pub record IsSpot (parts : List Part) (spot : Spot) : Type 0 where
  pub part : spot.part < length parts
  pub slot : spot.slot < length (part_at parts spot.part).slots

-- a record, if it is live
abbrev pub live_row : Bool → Record → List Record
live_row live row = cond live (row ∷ []) []

-- all three are true, or none is
abbrev pub are_same : Bool → Bool → Bool → Bool
are_same true b c = b && c
are_same false b c = not b && not c

-- these are records of three versions, without some that all three have
pub record IsSplit (xs ys zs : List Record) (sides : Sides) : Type 0 where
  pub common : List Record
  pub of_base : IsPermutation xs (sides.base ++ common)
  pub of_left : IsPermutation ys (sides.left ++ common)
  pub of_right : IsPermutation zs (sides.right ++ common)

-- further records of the three came to them
abbrev pub Takes : List Record → List Record → List Record → Sides → Sides → Type 0
Takes us vs ws old new = (xs ys zs : List Record) → IsSplit xs ys zs old → IsSplit (xs ++ us) (ys ++ vs) (zs ++ ws) new

-- they are the records of the parts that were taken
abbrev pub IsSplitAt : List Part → List Part → List Part → Taken → Sides → Type 0
IsSplitAt bs ls rs taken sides = IsSplit (rows_in (take taken.base bs)) (rows_in (take taken.left ls)) (rows_in (take taken.right rs)) sides

-- the rows of a relation in three tables, without some that all three have, in order
pub record AreUnshared (base left right : Contents) (sides : Sides) : Type 0 where
  pub split : IsSplit (rows_of base) (rows_of left) (rows_of right) sides
  pub base_up : IsSorted record_cmp sides.base
  pub left_up : IsSorted record_cmp sides.left
  pub right_up : IsSorted record_cmp sides.right

-- the parts of three views do so in each relation of a schema
abbrev pub PartsAgree : List Relation → (ℕ → List Part) → (ℕ → List Part) → (ℕ → List Part) → Type 0
PartsAgree schema bs ls rs = (r : ℕ) → r < length schema → AgreeWithLeft (bs r) (ls r) (rs r)
