-- What is found in a part that is shown at several places, and what it costs.
use Rattle.std.proofs.Common.{◌≡◌, ℕ, zero, suc, ◌+◌, ◌<◌, ◌≤◌, Bool, true, false, cond, ◌&&◌, List, [], ◌∷◌, ◌++◌, length, map, take, append_assoc, ap, sym, ◌∙◌, refl, arith, Some, None, Option}
use Rattle.std.specs.List.{AllByRecursion}
use Rattle.std.proofs.Math.Seq.{take-length}
use Rattle.std.proofs.lemmas.List.{take_more, append-nil}
use Rattle.std.proofs.lemmas.Grind.{flat_map-append}
use Rattle.db_value.specs.declared.record.Record.{Record}
use Rattle.db_value.specs.declared.record.Marked.{Marked}
use Rattle.db_store.specs.Parts.{Part, no_slot}
use Rattle.multi_scan.specs.declared.places.Place.{Place}
use Rattle.multi_scan.specs.Found.{Found, Climbs, HasPositions, found_at, found_in_slot, found_in_slots, found_in_part, spread, spread_one, times, weigh, is_same, total}
use Rattle.multi_scan.specs.Places.{part_of, slot_of, live_at, row_where, kept_at, found_shared, found_at_places}
use Rattle.db_store.proofs.RowLemmas.{all_append}
use Rattle.multi_scan.proofs.PlaceLemmas.{ByPosition}
use Rattle.multi_scan.proofs.Totals.{zero_plus, total_append, total_flat, total_all, total_add, total_zero, all_from}

pub times_append : (q : Found) (xs ys : List Found) → times q (xs ++ ys) ≡ times q xs + times q ys
times_append q xs ys = total_append (λ f. weigh (is_same q f)) xs ys

pub spread_append : (ms ns : List Marked) → spread (ms ++ ns) ≡ spread ms ++ spread ns
spread_append [] ns = refl
spread_append (m ∷ ms) ns = ap (λ (t : List Found). spread_one m ++ t) (spread_append ms ns) ∙ sym (append_assoc (spread_one m) (spread ms) (spread ns))

next : (n : ℕ) → suc n ≡ n + 1
next n = omega arith

-- ---- one slot

kept_spread : (b : Bool) (row : Record) (ks : List ℕ) → spread (kept_at ks (cond b (Some row) None)) ≡ cond b (map (λ k. record { row = row; position = k }) ks) []
kept_spread true row [] = refl
kept_spread false row [] = refl
kept_spread true row (k ∷ ks) = append-nil _
kept_spread false row (k ∷ ks) = refl

one_place : (q : Found) (b live : Bool) (row : Record) (k : ℕ) (ks : List ℕ) → times q (cond b (map (λ k. record { row = row; position = k }) (cond live (k ∷ ks) ks)) []) ≡ times q (found_at k (cond (live && b) (Some row) None)) + times q (cond b (map (λ k. record { row = row; position = k }) ks) [])
one_place q true true row k ks = omega arith
one_place q true false row k ks = zero_plus _
one_place q false true row k ks = refl
one_place q false false row k ks = refl

in_slot : (q : Found) (p : Record → Bool) (k : ℕ) (s : Record × Bool) (row : Record) → s.0 ≡ row → times q (found_in_slot p k s) ≡ times q (found_at k (cond (s.1 && p row) (Some row) None))
in_slot q p k s row e = ap (λ (r : Record). times q (found_at k (cond (s.1 && p r) (Some r) None))) e

module _ (q : Found) (p : Record → Bool) (views : List (List Part)) where
  slot_times : (n : ℕ) (row : Record) (ps : List Place) → AllByRecursion (λ s. (slot_of (part_of views s) n).0 ≡ row) ps → times q (cond (p row) (map (λ k. record { row = row; position = k }) (live_at views n ps)) []) ≡ total (λ s. times q (found_in_slot p s.position (slot_of (part_of views s) n))) ps
  slot_times n row [] a = nothing (p row)
    where
      nothing : (b : Bool) → times q (cond b [] []) ≡ 0
      nothing true = refl
      nothing false = refl
  slot_times n row (s ∷ ps) a = one_place q (p row) (slot_of (part_of views s) n).1 row s.position (live_at views n ps) ∙ (λ i. sym (in_slot q p s.position (slot_of (part_of views s) n) row a.0) i + slot_times n row ps a.1 i)

  -- one slot more
  more_times : (n : ℕ) (part : Part) (k : ℕ) → n < length part.slots → times q (found_in_slots p k (take n part.slots)) + times q (found_in_slot p k (slot_of part n)) ≡ times q (found_in_slots p k (take (suc n) part.slots))
  more_times n part k h =
      let one : found_in_slots p k (slot_of part n ∷ []) ≡ found_in_slot p k (slot_of part n) = append-nil _ in
      sym (ap (λ (t : List (Record × Bool)). times q (found_in_slots p k t)) (ap (λ i. take i part.slots) (next n) ∙ take_more part.slots n no_slot h) ∙ ap (times q) (flat_map-append (found_in_slot p k) (take n part.slots) (slot_of part n ∷ [])) ∙ times_append q (found_in_slots p k (take n part.slots)) (found_in_slots p k (slot_of part n ∷ [])) ∙ ap (λ (t : List Found). times q (found_in_slots p k (take n part.slots)) + times q t) one)

  -- the first n slots at all places
  front_times : (part : Part) (ps : List Place) (n : ℕ) → AllByRecursion (λ s. (n ≤ length (part_of views s).slots) × ((i : ℕ) → (slot_of (part_of views s) i).0 ≡ (slot_of part i).0)) ps → times q (spread (found_shared p views part ps n)) ≡ total (λ s. times q (found_in_slots p s.position (take n (part_of views s).slots))) ps
  front_times part ps zero a = sym (total_zero ps)
  front_times part ps (suc n) a =
      let Same : Place → Type 0 = λ s. (i : ℕ) → (slot_of (part_of views s) i).0 ≡ (slot_of part i).0 in
      let row : Record = (slot_of part n).0 in
      let before = front_times part ps n (all_from (λ (s : Place). (suc n ≤ length (part_of views s).slots) × Same s) (λ (s : Place). (n ≤ length (part_of views s).slots) × Same s) (λ s h. (omega (arith, h.0), h.1)) ps a) in
      let here = ap (times q) (kept_spread (p row) row (live_at views n ps)) ∙ slot_times n row ps (all_from (λ (s : Place). (suc n ≤ length (part_of views s).slots) × Same s) (λ (s : Place). (slot_of (part_of views s) n).0 ≡ row) (λ s h. h.1 n) ps a) in
      ap (times q) (spread_append (found_shared p views part ps n) (kept_at (live_at views n ps) (row_where p row))) ∙ times_append q (spread (found_shared p views part ps n)) (spread (kept_at (live_at views n ps) (row_where p row))) ∙ (λ i. before i + here i)
      ∙ total_add (λ s. times q (found_in_slots p s.position (take n (part_of views s).slots))) (λ s. times q (found_in_slot p s.position (slot_of (part_of views s) n))) ps
      ∙ total_all (λ s. times q (found_in_slots p s.position (take n (part_of views s).slots)) + times q (found_in_slot p s.position (slot_of (part_of views s) n))) (λ s. times q (found_in_slots p s.position (take (suc n) (part_of views s).slots))) ps
      (all_from (λ (s : Place). (suc n ≤ length (part_of views s).slots) × Same s) (λ (s : Place). times q (found_in_slots p s.position (take n (part_of views s).slots)) + times q (found_in_slot p s.position (slot_of (part_of views s) n)) ≡ times q (found_in_slots p s.position (take (suc n) (part_of views s).slots))) (λ s h. more_times n (part_of views s) s.position (omega (arith, h.0))) ps a)

  pub at_places : (ps : List Place) → times q (found_at_places p views ps) ≡ total (λ s. times q (found_in_part p s.position (part_of views s))) ps
  at_places ps = total_flat (λ f. weigh (is_same q f)) (λ s. found_in_part p s.position (part_of views s)) ps

  -- all slots
  pub shared_times : (part : Part) (ps : List Place) → AllByRecursion (λ s. (length (part_of views s).slots ≡ length part.slots) × ((i : ℕ) → (slot_of (part_of views s) i).0 ≡ (slot_of part i).0)) ps → times q (spread (found_shared p views part ps (length part.slots))) ≡ times q (found_at_places p views ps)
  shared_times part ps a =
      let Same : Place → Type 0 = λ s. (i : ℕ) → (slot_of (part_of views s) i).0 ≡ (slot_of part i).0 in
      let n : ℕ = length part.slots in
      front_times part ps n (all_from (λ (s : Place). (length (part_of views s).slots ≡ n) × Same s) (λ (s : Place). (n ≤ length (part_of views s).slots) × Same s) (λ s h. (omega (arith, h.0), h.1)) ps a)
      ∙ total_all (λ s. times q (found_in_slots p s.position (take n (part_of views s).slots))) (λ s. times q (found_in_part p s.position (part_of views s))) ps
      (all_from (λ (s : Place). (length (part_of views s).slots ≡ n) × Same s) (λ (s : Place). times q (found_in_slots p s.position (take n (part_of views s).slots)) ≡ times q (found_in_part p s.position (part_of views s))) (λ s h. ap (λ (t : List (Record × Bool)). times q (found_in_slots p s.position t)) (ap (λ k. take k (part_of views s).slots) (sym h.0) ∙ take-length (part_of views s).slots)) ps a)
      ∙ sym (at_places ps)

-- ---- their positions are in order

live_from : (views : List (List Part)) (n k : ℕ) (ps : List Place) → AllByRecursion (λ s. k ≤ s.position) ps → AllByRecursion (λ j. k ≤ j) (live_at views n ps)
live_from views n k [] a = tt
live_from views n k (s ∷ ps) a = elim (slot_of (part_of views s) n).1 as (λ b. AllByRecursion (λ (j : ℕ). k ≤ j) (cond b (s.position ∷ live_at views n ps) (live_at views n ps))) [
  | true ↦ (a.0, live_from views n k ps a.1)
  | false ↦ live_from views n k ps a.1
]

live_climbs : (views : List (List Part)) (n : ℕ) (ps : List Place) → ByPosition ps → Climbs (live_at views n ps)
live_climbs views n [] s = tt
live_climbs views n (p ∷ ps) s = elim (slot_of (part_of views p) n).1 as (λ b. Climbs (cond b (p.position ∷ live_at views n ps) (live_at views n ps))) [
  | true ↦ (live_from views n p.position ps s.0, live_climbs views n ps s.1)
  | false ↦ live_climbs views n ps s.1
]

kept_positions : (ks : List ℕ) (row : Option Record) → Climbs ks → AllByRecursion HasPositions (kept_at ks row)
kept_positions [] row c = tt
kept_positions (k ∷ ks) None c = tt
kept_positions (k ∷ ks) (Some row) c = (record { up = c; some = omega arith }, tt)

pub shared_positions : (p : Record → Bool) (views : List (List Part)) (part : Part) (ps : List Place) (n : ℕ) → ByPosition ps → AllByRecursion HasPositions (found_shared p views part ps n)
shared_positions p views part ps zero s = tt
shared_positions p views part ps (suc n) s = all_append HasPositions (found_shared p views part ps n) (kept_at (live_at views n ps) (row_where p (slot_of part n).0)) (shared_positions p views part ps n s) (kept_positions (live_at views n ps) (row_where p (slot_of part n).0) (live_climbs views n ps s))
