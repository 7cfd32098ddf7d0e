-- Composites: the exclusive or of each full run of 16 deltas, or of 16 composites, and what one delta more completes.
use Rattle.std.specs.Prelude.{◌≡◌, ◌≤◌, ℕ, zero, suc, ◌+◌, ◌-◌, ◌*◌, ◌/◌, ◌%◌, ◌^◌, ◌<◌, ◌==◌, Bool, cond, List, [], ◌∷◌, ◌++◌, length, map, take, drop, Option, Some, None, refl}
use Rattle.std.specs.List.{range_with_len}
use Rattle.std.specs.Coded.{Coded, code_by, coded×, coded_ℕ, coded_list, coded_bool, coded_option}
use Rattle.commit_history.specs.Combined.{combined}

-- the exclusive or of each full run of 16
abbrev pub composites : List (List Bool) → List (List Bool)
composites items = map (λ run. combined (take 16 (drop (16 * run) items))) (range_with_len 0 (length items / 16))

-- an item for a list, and how many items the list has before it
pub record Placed : Type 0 where
  pub item : List Bool
  pub count : ℕ

-- an item with its count can be written as numbers
abbrev pub placed_code : Coded Placed
placed_code = code_by (List Bool × ℕ) (coded× (coded_list coded_bool) coded_ℕ) (λ p. (p.item, p.count)) (λ p. record { item = p.0; count = p.1 }) (λ _. refl)

-- the composite of the run that one item more completes, if it does
abbrev pub completed : List (List Bool) → List Bool → Option Placed
completed items item = cond (length items % 16 == 15) (Some (record { item = combined (drop (length items - 15) items ++ item ∷ []); count = length items / 16 })) None

-- the same on the next level, where the item itself is a composite, if there is one
abbrev pub completed_by : List (List Bool) → Option Placed → Option Placed
completed_by items None = None
completed_by items (Some placed) = completed items placed.item

-- the items with one more, if there is one
abbrev pub with_next : List (List Bool) → Option Placed → List (List Bool)
with_next items None = items
with_next items (Some placed) = items ++ placed.item ∷ []

-- a delta for a history, and the composites of the runs of 16, 256 and 4,096 deltas that it completes
pub record Next : Type 0 where
  pub delta : Placed
  pub by_16 : Option Placed
  pub by_256 : Option Placed
  pub by_4096 : Option Placed

-- what was made ready can be written as numbers
abbrev pub next_code : Coded Next
next_code =
    code_by (Placed × (Option Placed × (Option Placed × Option Placed)))
    (coded× placed_code (coded× (coded_option placed_code) (coded× (coded_option placed_code) (coded_option placed_code))))
    (λ n. (n.delta, (n.by_16, (n.by_256, n.by_4096)))) (λ p. record { delta = p.0; by_16 = p.1.0; by_256 = p.1.1.0; by_4096 = p.1.1.1 }) (λ _. refl)

-- what a delta is for the history of these deltas
abbrev pub next_of : List (List Bool) → List Bool → Next
next_of deltas delta =
    let by_16 : Option Placed = completed deltas delta in
    let by_256 : Option Placed = completed_by (composites deltas) by_16 in
    record {
      delta = record { item = delta; count = length deltas };
      by_16 = by_16;
      by_256 = by_256;
      by_4096 = completed_by (composites (composites deltas)) by_256;
    }

-- the levels of a history of fewer than 2^32 deltas
pub record AreLevels (deltas by_16 by_256 by_4096 : List (List Bool)) : Type 0 where
  pub short : length deltas < 2 ^ 32
  pub sixteens : by_16 ≡ composites deltas
  pub more : by_256 ≡ composites by_16
  pub most : by_4096 ≡ composites by_256

-- the room that a list has after so many pushes: it is more than doubled when it is full
abbrev pub room_of : ℕ → ℕ
room_of zero = 0
room_of (suc n) = cond (n == room_of n) (2 * n + 4) (room_of n)

-- memory that an item more needs after so many, if they fill their room
abbrev pub IsRoomAfter : ℕ → List (List Bool) → ℕ → Type 0
IsRoomAfter n items capacity = (n < 2 ^ 32) × (items ≡ []) × (n ≡ room_of n → room_of (n + 1) ≤ capacity)
