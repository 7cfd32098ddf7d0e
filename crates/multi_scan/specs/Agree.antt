-- Parts of equal id.
use Rattle.std.specs.Prelude.{◌≡◌, ℕ, ◌<◌, List, [], length}
use Rattle.std.proofs.Common.{get_or}
use Rattle.db_store.specs.Parts.{Part, part_at, records_in}

-- parts of two views have the same records if they have one id
abbrev pub AgreeOn : List Part → List Part → Type 0
AgreeOn some others = (i j : ℕ) → i < length some → j < length others → (part_at some i).id ≡ (part_at others j).id → records_in (part_at some i) ≡ records_in (part_at others j)

-- the same of any two views
abbrev pub AllAgree : List (List Part) → Type 0
AllAgree views = (v w : ℕ) → AgreeOn (get_or views v []) (get_or views w [])
