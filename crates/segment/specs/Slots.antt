-- The order in which a run has its slots, and the greatest slot with a key.
use Rattle.std.specs.Prelude.{◌≡◌, ℕ, ◌+◌, ◌*◌, ◌<◌, ◌≤◌, List, Option, Some, None}
use Rattle.std.specs.List.{All, Contains}
use Rattle.segment.specs.declared.slot.KeyedSlot.{KeyedSlot}

-- the number by which keyed slots ascend: by key, and then by slot
abbrev pub rank : KeyedSlot → ℕ
rank keyed = keyed.key * 4294967296 + keyed.slot

-- it is the greatest of these slots below the bound with the key, if there is one
abbrev pub IsGreatest : List KeyedSlot → ℕ → ℕ → Option ℕ → Type 0
IsGreatest slots key bound None = All (λ keyed. keyed.key ≡ key → bound ≤ keyed.slot) slots
IsGreatest slots key bound (Some slot) = (slot < bound) × (Contains slots (record { key = key; slot = slot }) × All (λ keyed. keyed.key ≡ key → keyed.slot < bound → keyed.slot ≤ slot) slots)
