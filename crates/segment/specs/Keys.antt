-- The slots in which the records with a key stand, and the runs that tell them.
use Rattle.std.specs.Prelude.{◌≡◌, ◌≢◌, ℕ, suc, ◌<◌, ◌≤◌, ◌==◌, cond, List, [], ◌∷◌, length, map, take, Option, Some, None}
use Rattle.std.specs.Arc.{arc_value}
use Rattle.std.specs.List.{All, Contains}
use Rattle.std.specs.Option.{option_or}
use Rattle.db_value.specs.declared.record.Record.{Record}
use Rattle.record_page.specs.Page.{record_at}
use Rattle.segment.specs.declared.slot.KeyedSlot.{KeyedSlot}
use Rattle.segment.specs.declared.run.Run.{Run}
use Rattle.segment.specs.declared.keys.KeySlots.{KeySlots}

-- the greatest slot with a key, of records that stand from a slot on
abbrev pub last_from : ℕ → List Record → ℕ → Option ℕ
last_from slot [] key = None
last_from slot (x ∷ xs) key = option_or (last_from (suc slot) xs key) (cond (x.key == key) (Some slot) None)

-- the greatest slot with a key
abbrev pub last_slot : List Record → ℕ → Option ℕ
last_slot records key = last_from 0 records key

-- the greatest slot before this one with the same key
abbrev pub slot_before : List Record → ℕ → Option ℕ
slot_before records slot = last_slot (take slot records) (record_at records slot).key

-- these are the slots from one up to another, with their keys
pub record AreOf (records : List Record) (from to : ℕ) (slots : List KeyedSlot) : Type 0 where
  pub ordered : from ≤ to
  pub each : (slot : ℕ) → from ≤ slot → slot < to → Contains slots (record { key = (record_at records slot).key; slot = slot })
  pub only : All (λ keyed. (from ≤ keyed.slot) × ((keyed.slot < to) × ((record_at records keyed.slot).key ≡ keyed.key))) slots

-- the runs, the last slots first, have all slots up to one
abbrev pub AreRuns : List Record → List Run → ℕ → Type 0
AreRuns records [] to = to ≡ 0
AreRuns records (run ∷ older) to = AreOf records run.from to run.slots.items × AreRuns records older run.from

-- the runs, the last slots first
abbrev pub runs_of : KeySlots → List Run
runs_of keys = map arc_value (arc_value keys.runs).items.items

-- the runs and the newest have all slots
pub record AreSlots (keys : KeySlots) (records : List Record) : Type 0 where
  pub newest : AreOf records keys.from (length records) keys.newest.items
  pub runs : AreRuns records (runs_of keys) keys.from

-- no record has the key from one slot up to another
abbrev pub LacksKey : List Record → ℕ → ℕ → ℕ → Type 0
LacksKey records key from to = (slot : ℕ) → from ≤ slot → slot < to → (record_at records slot).key ≢ key

-- it is the greatest slot below the bound with the key, of those from one up to another, if there is one
abbrev pub IsLastIn : List Record → ℕ → ℕ → ℕ → ℕ → Option ℕ → Type 0
IsLastIn records from to key bound None = (slot : ℕ) → from ≤ slot → slot < to → slot < bound → (record_at records slot).key ≢ key
IsLastIn records from to key bound (Some last) = (last < bound) × ((last < to) × (((record_at records last).key ≡ key) × ((slot : ℕ) → last < slot → slot < to → slot < bound → (record_at records slot).key ≢ key)))
