-- Parts of three views in turn: the one with the least id, or one of each view if all three have one id.
use Rattle.std.specs.Prelude.{◌≡◌, ℕ, ◌<◌, ◌≤◌, ◌+◌, ◌-◌, ◌^◌, ◌==◌, ◌&&◌, nat_le, is_some, cond, Bool, true, false, List, length, Option, Some, None}
use Rattle.db_store.specs.declared.view.PartInfo.{PartInfo}
use Rattle.db_store.specs.Table.{Table}
use Rattle.db_store.specs.Parts.{Part, part_at}
use Rattle.field_merge.specs.declared.turns.Turn.{Turn}
use Rattle.field_merge.specs.declared.turns.Turn.TheVariants.{All, Base, Left, Right, End}
use Rattle.field_merge.specs.declared.turns.Taken.{Taken}

-- the relation is one of all three tables
pub record IsRelation (relation : ℕ) (base left right : Table) : Type 0 where
  pub of_base : relation < length base
  pub of_left : relation < length left
  pub of_right : relation < length right

-- there is such a part, with this id and so many slots
pub record IsInfo (parts : List Part) (index : ℕ) (info : PartInfo) : Type 0 where
  pub within : index < length parts
  pub small : index < 2 ^ 32 - 1
  pub id : info.id ≡ (part_at parts index).id
  pub slots : info.slots ≡ length (part_at parts index).slots

-- two are there, and have one id and as many slots
abbrev pub is_one : Option PartInfo → Option PartInfo → Bool
is_one None b = false
is_one (Some x) None = false
is_one (Some x) (Some y) = x.id == y.id && x.slots == y.slots

-- it is there, and the other one, if there is one, has no lesser id
abbrev pub is_first : Option PartInfo → Option PartInfo → Bool
is_first None b = false
is_first (Some x) None = true
is_first (Some x) (Some y) = nat_le x.id y.id

-- which of the next parts of three views is taken
abbrev pub turn_of : Option PartInfo → Option PartInfo → Option PartInfo → Turn
turn_of base left right = cond (is_one base left && is_one left right) All (cond (is_first base left && is_first base right) Base (cond (is_first left right) Left (cond (is_some right) Right End)))

-- the next part of a view is there
pub record IsNext (parts : List Part) (index : ℕ) : Type 0 where
  pub within : index < length parts
  pub small : index < 2 ^ 32 - 1

-- the next parts of all three are there, and have one id and as many slots
pub record AreOne (bs ls rs : List Part) (taken : Taken) : Type 0 where
  pub in_base : IsNext bs taken.base
  pub in_left : IsNext ls taken.left
  pub in_right : IsNext rs taken.right
  pub base_id : (part_at ls taken.left).id ≡ (part_at bs taken.base).id
  pub right_id : (part_at ls taken.left).id ≡ (part_at rs taken.right).id
  pub base_slots : length (part_at ls taken.left).slots ≡ length (part_at bs taken.base).slots
  pub right_slots : length (part_at ls taken.left).slots ≡ length (part_at rs taken.right).slots

-- all parts of all three were taken
pub record AreTaken (bs ls rs : List Part) (taken : Taken) : Type 0 where
  pub of_base : length bs ≤ taken.base
  pub of_left : length ls ≤ taken.left
  pub of_right : length rs ≤ taken.right

-- how many parts are left
abbrev pub waiting : List Part → List Part → List Part → Taken → ℕ
waiting bs ls rs taken = (length bs - taken.base) + (length ls - taken.left) + (length rs - taken.right)
