-- Places at which views show parts, and what is found in a part that several views share.
use Rattle.std.specs.Prelude.{◌≡◌, ℕ, zero, suc, ◌+◌, ◌<◌, ◌==◌, Bool, cond, List, [], ◌∷◌, ◌++◌, length, map, Option, Some, None}
use Rattle.std.specs.List.{flat_map, All}
use Rattle.std.specs.List.Sorted.{IsSorted}
use Rattle.std.proofs.Common.{get_or}
use Rattle.std.specs.Ordering.{nat_cmp, ordering_then}
use Rattle.std.specs.declared.cmp.Ordering.{Ordering}
use Rattle.db_value.specs.declared.record.Record.{Record}
use Rattle.db_value.specs.declared.record.Marked.{Marked}
use Rattle.db_store.specs.Parts.{Part, part_at, no_slot, records_in}
use Rattle.multi_scan.specs.declared.places.Place.{Place}
use Rattle.multi_scan.specs.Found.{Found, found_in_part}

-- the places of a view's parts, the first of which has number i
abbrev pub places_from : ℕ → ℕ → List Part → List Place
places_from n i [] = []
places_from n i (part ∷ parts) = record { id = part.id; position = n; index = i } ∷ places_from n (i + 1) parts

-- the places of the parts of views, the first of which has position n
abbrev pub places_in : ℕ → List (List Part) → List Place
places_in n [] = []
places_in n (parts ∷ views) = places_from n 0 parts ++ places_in (n + 1) views

-- the parts of a relation that views show
abbrev pub shown : {V : Type 0} → (V → ℕ → List Part) → ℕ → List V → List (List Part)
shown parts r views = map (λ v. parts v r) views

-- what is shown at a place
abbrev pub part_of : List (List Part) → Place → Part
part_of views p = part_at (get_or views p.position []) p.index

-- there is such a place, and it shows a part with its id
pub record IsPlace (views : List (List Part)) (p : Place) : Type 0 where
  pub position : p.position < length views
  pub index : p.index < length (get_or views p.position [])
  pub id : (part_of views p).id ≡ p.id

-- there is such a place, and it shows these records
pub record ShowsRecords (views : List (List Part)) (records : List Record) (p : Place) : Type 0 where
  pub position : p.position < length views
  pub index : p.index < length (get_or views p.position [])
  pub same : records_in (part_of views p) ≡ records

-- there is such a place, and its part has this slot
pub record HasSlot (views : List (List Part)) (slot : ℕ) (p : Place) : Type 0 where
  pub position : p.position < length views
  pub index : p.index < length (get_or views p.position [])
  pub within : slot < length (part_of views p).slots

-- a slot of a part
abbrev pub slot_of : Part → ℕ → Record × Bool
slot_of part slot = get_or part.slots slot no_slot

-- the positions of those places at which a slot is live
abbrev pub live_at : List (List Part) → ℕ → List Place → List ℕ
live_at views slot [] = []
live_at views slot (p ∷ ps) = cond (slot_of (part_of views p) slot).1 (p.position ∷ live_at views slot ps) (live_at views slot ps)

-- a row, if the condition holds of it
abbrev pub row_where : (Record → Bool) → Record → Option Record
row_where p row = cond (p row) (Some row) None

-- a row, if there is one, with positions, if there are any
abbrev pub kept_at : List ℕ → Option Record → List Marked
kept_at [] row = []
kept_at (n ∷ ns) None = []
kept_at (n ∷ ns) (Some row) = record { row = row; positions = n ∷ ns } ∷ []

-- what is found in the first n slots of a part that is shown at places
abbrev pub found_shared : (Record → Bool) → List (List Part) → Part → List Place → ℕ → List Marked
found_shared p views part ps zero = []
found_shared p views part ps (suc n) = found_shared p views part ps n ++ kept_at (live_at views n ps) (row_where p (slot_of part n).0)

-- what is found in the parts at places, in each by itself
abbrev pub found_at_places : (Record → Bool) → List (List Part) → List Place → List Found
found_at_places p views ps = flat_map (λ s. found_in_part p s.position (part_of views s)) ps

-- how many places at the front show this id
abbrev pub id_run : ℕ → List Place → ℕ
id_run id [] = 0
id_run id (p ∷ ps) = cond (p.id == id) (suc (id_run id ps)) 0

-- by id, then by position, then by number
abbrev pub place_cmp : Place → Place → Ordering
place_cmp a b = ordering_then (nat_cmp a.id b.id) (ordering_then (nat_cmp a.position b.position) (nat_cmp a.index b.index))

-- there are such places, and they are in order
pub record AreListed (views : List (List Part)) (places : List Place) : Type 0 where
  pub there : All (IsPlace views) places
  pub sorted : IsSorted place_cmp places
