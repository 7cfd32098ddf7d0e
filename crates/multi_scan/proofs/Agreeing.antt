-- Parts of equal id have the same records and the same number of slots.
use Rattle.std.proofs.Common.{◌≡◌, ℕ, zero, suc, ◌+◌, ◌<◌, ◌≤◌, ◌==◌, Bool, true, false, cond, ◌||◌, List, [], ◌∷◌, ◌++◌, length, map, take, drop, get_or, take-append-drop, ap, sym, ◌∙◌, refl, subst, arith, Some}
use Rattle.std.specs.List.{All, AllByRecursion}
use Rattle.std.specs.List.Sorted.{IsPermutation}
use Rattle.std.proofs.Math.ListN.{get_or-map}
use Rattle.std.proofs.lemmas.Bool.{eqb-true}
use Rattle.std.proofs.lemmas.Bool.Decides.{nat_tests}
use Rattle.std.proofs.lemmas.List.{length-map, map-append, append-nil}
use Rattle.std.proofs.lemmas.Grind.{flat_map-append}
use Rattle.std.proofs.lemmas.List.Elements.{recursion_from_All, All-from_recursion}
use Rattle.std.proofs.lemmas.List.Sorted.{All-permutation, IsPermutation-map, list_any-IsPermutation}
use Rattle.db_value.specs.declared.record.Record.{Record}
use Rattle.db_value.specs.declared.record.Marked.{Marked}
use Rattle.db_store.specs.State.{State, part_records}
use Rattle.db_store.specs.Parts.{Part, part_at, no_slot, records_in, AreOf}
use Rattle.multi_scan.specs.declared.places.Place.{Place}
use Rattle.multi_scan.specs.Agree.{AgreeOn, AllAgree}
use Rattle.multi_scan.specs.Found.{Found, HasPositions, found_in_part, spread, times, AreSame}
use Rattle.multi_scan.specs.Places.{part_of, slot_of, shown, IsPlace, ShowsRecords, found_shared, found_at_places, id_run, places_in}
use Rattle.multi_scan.specs.Cost.{shows, slots_of_distinct}
use Rattle.db_store.proofs.RowLemmas.{all_append}
use Rattle.multi_scan.proofs.Totals.{all_from}
use Rattle.multi_scan.proofs.PlaceLemmas.{places_at, ById, run_same, run_over, IsAfter, ids_take, by_positions, ids_drop, all_drop, all_take}
use Rattle.multi_scan.proofs.Shared.{shared_positions, times_append, spread_append, shared_times}
use Rattle.multi_scan.proofs.Distinct.{GoesBy, distinct_slots, moved_slots, run_slots, shows_itself}

-- ---- views of one state

some_is : {X : Type 0} (a b : X) → Some a ≡ Some b → a ≡ b
some_is a b e = cc

-- parts of one state agree
pub of_one_state : (s : State) (some others : ℕ → List Part) (r : ℕ) → AreOf s some → AreOf s others → AgreeOn (some r) (others r)
of_one_state s some others r a b i j h k e = some_is _ _ (sym (a r i h) ∙ ap (λ id. part_records s r id) e ∙ b r j k)

-- parts as a state has them
abbrev OfState : State → ℕ → List Part → Type 0
OfState s r ps = (i : ℕ) → i < length ps → part_records s r (part_at ps i).id ≡ Some (records_in (part_at ps i))

one_of_state : {V : Type 0} (s : State) (parts : V → ℕ → List Part) (r : ℕ) (views : List V) → AllByRecursion (λ v. AreOf s (parts v)) views → (n : ℕ) → OfState s r (get_or (shown parts r views) n [])
one_of_state s parts r [] a n i h = absurd (omega (arith, h))
one_of_state s parts r (v ∷ views) a zero i h = a.0 r i h
one_of_state s parts r (v ∷ views) a (suc n) i h = one_of_state s parts r views a.1 n i h

-- views of one state do
pub all_of_one_state : {V : Type 0} (s : State) (parts : V → ℕ → List Part) (r : ℕ) (views : List V) → All (λ v. AreOf s (parts v)) views → AllAgree (shown parts r views)
all_of_one_state s parts r views a v w i j h k e =
    let each : AllByRecursion (λ v. AreOf s (parts v)) views = recursion_from_All (λ v. AreOf s (parts v)) views a in
    some_is _ _ (sym (one_of_state s parts r views each v i h) ∙ ap (λ id. part_records s r id) e ∙ one_of_state s parts r views each w j k)

-- ---- parts that have the same records

pub same_slots : (some others : Part) → records_in some ≡ records_in others → (length some.slots ≡ length others.slots) × ((i : ℕ) → (slot_of some i).0 ≡ (slot_of others i).0)
same_slots some others e = (sym (length-map some.slots (λ s. s.0)) ∙ ap length e ∙ length-map others.slots (λ s. s.0), λ i. sym (get_or-map (λ s. s.0) some.slots i no_slot) ∙ ap (λ (t : List Record). get_or t i no_slot.0) e ∙ get_or-map (λ s. s.0) others.slots i no_slot)

-- the places are there in any order
pub places_there : (views : List (List Part)) (ps : List Place) → IsPermutation (places_in 0 views) ps → All (IsPlace views) ps
places_there views ps m = All-permutation (IsPlace views) (places_in 0 views) ps m (All-from_recursion (IsPlace views) (places_in 0 views) (places_at (λ row. true) views 0 views refl).0)

-- no place is left
pub found_all : (p : Record → Bool) (views : List (List Part)) (rest all : List Place) (found : List Found) → length rest < 1 → AreSame (found ++ found_at_places p views rest) (found_at_places p views all) → AreSame found (found_at_places p views all)
found_all p views [] all found l same q = ap (times q) (sym (append-nil found)) ∙ same q
found_all p views (x ∷ rest) all found l same q = absurd (omega (arith, l))

-- the first of places
abbrev pub front : List Place → Place
front ps = get_or ps 0 (record { id = 0; position = 0; index = 0 })

itself : (n : ℕ) → (n == n) ≡ true
itself n = grind (arith, nat_tests)

fewer : {X : Type 0} (k : ℕ) (xs : List X) → length (drop k xs) < suc (length xs)
fewer zero xs = omega arith
fewer (suc k) [] = omega arith
fewer (suc k) (x ∷ xs) = omega (arith, fewer k xs)

module _ (views : List (List Part)) (agree : AllAgree views) where
  part_alike : (p q : Place) → IsPlace views p → IsPlace views q → (part_of views p).id ≡ (part_of views q).id → records_in (part_of views p) ≡ records_in (part_of views q)
  part_alike p q h k e = agree p.position q.position p.index q.index h.index k.index e

  -- what a run of places with one id shows
  pub run_shows : (first : Place) (ps : List Place) → IsPlace views first → AllByRecursion (IsPlace views) ps → AllByRecursion (λ p. p.id ≡ first.id) ps → AllByRecursion (ShowsRecords views (records_in (part_of views first))) ps
  run_shows first [] h a e = tt
  run_shows first (p ∷ ps) h a e = (record { position = a.0.position; index = a.0.index; same = part_alike p first a.0 h (a.0.id ∙ e.0 ∙ sym h.id) }, run_shows first ps h a.1 e.1)

  -- how many slots the first part with an id has
  abbrev size_in : List Part → ℕ → ℕ
  size_in [] id = 0
  size_in (x ∷ xs) id = cond (x.id == id) (length x.slots) (size_in xs id)

  size_at : (p : Place) (us : List Place) → IsPlace views p → AllByRecursion (IsPlace views) us → shows (part_of views p).id (map (part_of views) us) ≡ true → length (part_of views p).slots ≡ size_in (map (part_of views) us) (part_of views p).id
  size_at p [] h a e = absurd cc
  size_at p (u ∷ us) h a e = elim ((part_of views u).id == (part_of views p).id) as (λ b. ((part_of views u).id == (part_of views p).id) ≡ b → (b || shows (part_of views p).id (map (part_of views) us)) ≡ true → length (part_of views p).slots ≡ cond b (length (part_of views u).slots) (size_in (map (part_of views) us) (part_of views p).id)) [
    | true ↦ λ i s. (same_slots (part_of views p) (part_of views u) (part_alike p u h a.0 (sym (eqb-true (part_of views u).id (part_of views p).id i)))).0
    | false ↦ λ i s. size_at p us h a.1 s
  ] refl e

  goes : (us ps : List Place) → AllByRecursion (IsPlace views) us → AllByRecursion (IsPlace views) ps → AllByRecursion (λ x. shows x.id (map (part_of views) us) ≡ true) (map (part_of views) ps) → GoesBy (size_in (map (part_of views) us)) (map (part_of views) ps)
  goes us [] h a e = tt
  goes us (p ∷ ps) h a e = (size_at p us a.0 h e.0, goes us ps h a.1 e.1)

  -- places in another order cost no more
  pub moved_cost : (us ps : List Place) → AllByRecursion (IsPlace views) us → AllByRecursion (IsPlace views) ps → IsPermutation us ps → distinct_slots (map (part_of views) ps) ≤ distinct_slots (map (part_of views) us)
  moved_cost us ps h a m =
      let those = map (part_of views) us in
      let these = map (part_of views) ps in
      let same : (id : ℕ) → shows id these ≡ shows id those = λ id. sym (list_any-IsPermutation (λ (x : Part). x.id == id) those these (IsPermutation-map (part_of views) us ps m)) in
      let here : AllByRecursion (λ x. shows x.id those ≡ true) these = all_from (λ (x : Part). shows x.id these ≡ true) (λ (x : Part). shows x.id those ≡ true) (λ x e. sym (same x.id) ∙ e) these (shows_itself these) in
      moved_slots (size_in those) those these (goes us us h h (shows_itself those)) (goes us ps h a here) same

  -- in the order of their ids places cost no more than their distinct parts have slots
  pub scan_cost : (ps : List Place) → IsPermutation (places_in 0 views) ps → distinct_slots (map (part_of views) ps) ≤ slots_of_distinct views
  scan_cost ps m =
      let all = places_at (λ row. true) views 0 views refl in
      subst (λ (t : List Part). distinct_slots (map (part_of views) ps) ≤ distinct_slots t) all.1 (moved_cost (places_in 0 views) ps all.0 (recursion_from_All (IsPlace views) ps (places_there views ps m)) m)

  -- ---- a run at the front

  pub record Run (p : Record → Bool) (first : Place) (rest run more : List Place) : Type 0 where
    pub here : IsPlace views first
    pub less : length more < length rest
    pub positions : AllByRecursion HasPositions (found_shared p views (part_of views first) run (length (part_of views first).slots))
    pub shows : AllByRecursion (ShowsRecords views (records_in (part_of views first))) run
    pub places : AllByRecursion (IsPlace views) more
    pub sorted : ById more
    pub cost : length (part_of views first).slots + distinct_slots (map (part_of views) more) ≤ distinct_slots (map (part_of views) rest)
    pub found : (q : Found) → times q (spread (found_shared p views (part_of views first) run (length (part_of views first).slots))) + times q (found_at_places p views more) ≡ times q (found_at_places p views rest)

  sizes : (first : Place) (ps : List Place) → IsPlace views first → AllByRecursion (IsPlace views) ps → AllByRecursion (λ p. p.id ≡ first.id) ps → AllByRecursion (λ x. (x.id ≡ (part_of views first).id) × (length x.slots ≡ length (part_of views first).slots)) (map (part_of views) ps)
  sizes first [] h a e = tt
  sizes first (p ∷ ps) h a e =
      let id : (part_of views p).id ≡ (part_of views first).id = a.0.id ∙ e.0 ∙ sym h.id in
      ((id, (same_slots (part_of views p) (part_of views first) (part_alike p first a.0 h id)).0), sizes first ps h a.1 e.1)

  overs : (first : Place) (ps : List Place) → IsPlace views first → AllByRecursion (IsPlace views) ps → AllByRecursion (λ p. first.id < p.id) ps → AllByRecursion (λ x. (part_of views first).id < x.id) (map (part_of views) ps)
  overs first [] h a e = tt
  overs first (p ∷ ps) h a e = (omega (arith, h.id, a.0.id, e.0), overs first ps h a.1 e.1)

  slots_alike : (first : Place) (ps : List Place) → AllByRecursion (ShowsRecords views (records_in (part_of views first))) ps → AllByRecursion (λ s. (length (part_of views s).slots ≡ length (part_of views first).slots) × ((i : ℕ) → (slot_of (part_of views s) i).0 ≡ (slot_of (part_of views first) i).0)) ps
  slots_alike first ps a = all_from (ShowsRecords views (records_in (part_of views first))) (λ (s : Place). (length (part_of views s).slots ≡ length (part_of views first).slots) × ((i : ℕ) → (slot_of (part_of views s) i).0 ≡ (slot_of (part_of views first) i).0)) (λ s h. same_slots (part_of views s) (part_of views first) h.same) ps a

  run_at : (p : Record → Bool) (first : Place) (others : List Place) (k : ℕ) → k ≡ id_run first.id others → AllByRecursion (IsPlace views) (first ∷ others) → ById (first ∷ others) → Run p first (first ∷ others) (first ∷ take k others) (drop k others)
  run_at p first others k e a s =
      let Same : Place → Type 0 = λ q. q.id ≡ first.id in
      let Over : Place → Type 0 = λ q. first.id < q.id in
      let same : AllByRecursion Same (take k others) = subst (λ n. AllByRecursion Same (take n others)) (sym e) (run_same first.id others) in
      let over : AllByRecursion Over (drop k others) = subst (λ n. AllByRecursion Over (drop n others)) (sym e) (run_over first.id others (all_from (IsAfter first) (λ (q : Place). first.id ≤ q.id) (λ q h. h.0) others s.0) s.1) in
      let run : AllByRecursion (IsPlace views) (take k others) = all_take (IsPlace views) k others a.1 in
      let more : AllByRecursion (IsPlace views) (drop k others) = all_drop (IsPlace views) k others a.1 in
      let shown : AllByRecursion (ShowsRecords views (records_in (part_of views first))) (first ∷ take k others) = run_shows first (first ∷ take k others) a.0 (a.0, run) (refl, same) in
      let whole : take k others ++ drop k others ≡ others = take-append-drop k others in
      record {
        here = a.0;
        less = fewer k others;
        positions = shared_positions p views (part_of views first) (first ∷ take k others) (length (part_of views first).slots) (by_positions first.id (first ∷ take k others) (all_take (IsAfter first) k others s.0, ids_take k others s.1) (refl, same));
        shows = shown;
        places = more;
        sorted = ids_drop k others s.1;
        cost = subst (λ (t : List Part). length (part_of views first).slots + distinct_slots (map (part_of views) (drop k others)) ≤ distinct_slots (part_of views first ∷ t)) (sym (map-append (part_of views) (take k others) (drop k others)) ∙ ap (map (part_of views)) whole) (run_slots (part_of views first) (map (part_of views) (take k others)) (map (part_of views) (drop k others)) (sizes first (take k others) a.0 run same) (overs first (drop k others) a.0 more over));
        found = λ q. ap (λ n. n + times q (found_at_places p views (drop k others))) (shared_times q p views (part_of views first) (first ∷ take k others) (slots_alike first (first ∷ take k others) shown))
            ∙ sym (times_append q (found_at_places p views (first ∷ take k others)) (found_at_places p views (drop k others))) ∙ ap (times q) (sym (flat_map-append (λ s. found_in_part p s.position (part_of views s)) (first ∷ take k others) (drop k others)) ∙ ap (λ (t : List Place). found_at_places p views (first ∷ t)) whole);
      }

  pub run_front : (p : Record → Bool) (rest run more : List Place) (k : ℕ) → 1 ≤ length rest → k ≡ id_run (front rest).id rest → run ≡ take k rest → more ≡ drop k rest → AllByRecursion (IsPlace views) rest → ById rest → Run p (front rest) rest run more
  run_front p [] run more k l e f b a s = absurd (omega arith)
  run_front p (x ∷ xs) run more k l e f b a s =
      let n : ℕ = id_run x.id xs in
      let k_is : k ≡ suc n = e ∙ ap (λ b. cond b (suc n) 0) (itself x.id) in
      let run_is : run ≡ x ∷ take n xs = f ∙ ap (λ i. take i (x ∷ xs)) k_is in
      let more_is : more ≡ drop n xs = b ∙ ap (λ i. drop i (x ∷ xs)) k_is in
      subst (λ (t : List Place). Run p x (x ∷ xs) t more) (sym run_is) (subst (λ (t : List Place). Run p x (x ∷ xs) (x ∷ take n xs) t) (sym more_is) (run_at p x xs n refl a s))

  -- a run more has its positions in order
  pub next_positions : (p : Record → Bool) (first : Place) (rest run more : List Place) (found next : List Marked) → Run p first rest run more → next ≡ found ++ found_shared p views (part_of views first) run (length (part_of views first).slots) → AllByRecursion HasPositions found → AllByRecursion HasPositions next
  next_positions p first rest run more found next h e a = subst (AllByRecursion HasPositions) (sym e) (all_append HasPositions found (found_shared p views (part_of views first) run (length (part_of views first).slots)) a h.positions)

  -- a run more was found
  pub next_found : (p : Record → Bool) (first : Place) (all rest run more : List Place) (found next : List Marked) → Run p first rest run more → next ≡ found ++ found_shared p views (part_of views first) run (length (part_of views first).slots) → AreSame (spread found ++ found_at_places p views rest) (found_at_places p views all) → AreSame (spread next ++ found_at_places p views more) (found_at_places p views all)
  next_found p first all rest run more found next h e same q =
      let part = found_shared p views (part_of views first) run (length (part_of views first).slots) in
      times_append q (spread next) (found_at_places p views more) ∙ ap (λ (t : List Marked). times q (spread t) + times q (found_at_places p views more)) e ∙ ap (λ (t : List Found). times q t + times q (found_at_places p views more)) (spread_append found part)
      ∙ ap (λ n. n + times q (found_at_places p views more)) (times_append q (spread found) (spread part)) ∙ sums (times q (spread found)) _ _ _ (h.found q) ∙ sym (times_append q (spread found) (found_at_places p views rest)) ∙ same q
    where
      sums : (a b c d : ℕ) → b + c ≡ d → (a + b) + c ≡ a + d
      sums a b c d e = omega (arith, e)
