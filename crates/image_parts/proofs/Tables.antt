-- The keys of the set records, and when they are a table.
use Rattle.std.proofs.Common.{◌≡◌, ℕ, zero, suc, ◌+◌, ◌-◌, ◌<◌, ◌≤◌, ◌==◌, ◌&&◌, Bool, true, false, not, cond, List, [], ◌∷◌, ◌++◌, length, get_or, take, drop, map, replicate, refl, sym, ap, subst, ◌∙◌, append_assoc, arith}
use Rattle.std.specs.Prelude.{nat_lt, nat_le, ◌||◌}
use Rattle.std.specs.List.{flat_map, list_any, list_all, range_with_len}
use Rattle.std.proofs.lemmas.Bool.{eqb-true, lt-ltb, le-ltb}
use Rattle.std.proofs.lemmas.List.{get_or-drop, length-append, length-map, length-drop}
use Rattle.std.proofs.lemmas.List.Concat.{flat_map-cons}
use Rattle.db_value.specs.declared.record.Record.{Record}
use Rattle.image_text.specs.declared.image.SegmentPart.{SegmentPart}
use Rattle.image_text.specs.Reading.{last_of}
use Rattle.image_parts.specs.declared.keys.Walk.{Walk}
use Rattle.image_parts.specs.Whole.{combined, bit_before, bit, row_of, keys_from, keys_in, keys_at, are_distinct, is_table, is_keyed}
use Rattle.image_parts.specs.Walk.{weigh, times, live, again, Agrees, no_segment, base_of, own_keys, all_keys, first_of, Shows}
use Rattle.image_parts.proofs.Turns.{past_none, past_one}
use Rattle.image_parts.proofs.Steps.{keys_cons, all_long}
use Rattle.image_parts.proofs.Numbers.{Each, IsFound, all_found, distinct_same}

-- the keys whose bits are set
abbrev pub chosen : List ℕ → List Bool → List ℕ
chosen [] bits = []
chosen (x ∷ xs) [] = []
chosen (x ∷ xs) (b ∷ bits) = cond b (x ∷ chosen xs bits) (chosen xs bits)

chosen_long : (keys : List ℕ) (bits : List Bool) → length bits ≡ length keys → length (chosen keys bits) ≡ live bits
chosen_long [] [] len = refl
chosen_long [] (b ∷ bits) len = absurd (omega (arith, len))
chosen_long (x ∷ xs) [] len = absurd (omega (arith, len))
chosen_long (x ∷ xs) (true ∷ bits) len = let h = chosen_long xs bits (omega (arith, len)) in omega (arith, h)
chosen_long (x ∷ xs) (false ∷ bits) len = let h = chosen_long xs bits (omega (arith, len)) in omega (arith, h)

any_by : (q a : Bool) (t : ℕ) → a ≡ nat_lt 0 t → (q || a) ≡ nat_lt 0 (weigh q + t)
any_by true a t e = sym (lt-ltb 0 (1 + t) (omega arith))
any_by false a t e = let same : t ≡ 0 + t = omega arith in e ∙ ap (λ (n : ℕ). nat_lt 0 n) same

-- a key is among the chosen ones if it is counted
any_is : (k : ℕ) (keys : List ℕ) (bits : List Bool) → list_any (λ (x : ℕ). x == k) (chosen keys bits) ≡ nat_lt 0 (times k keys bits)
any_is k [] bits = sym (le-ltb 0 0 (omega arith))
any_is k (x ∷ xs) [] = sym (le-ltb 0 0 (omega arith))
any_is k (x ∷ xs) (true ∷ bits) = any_by (x == k) (list_any (λ (y : ℕ). y == k) (chosen xs bits)) (times k xs bits) (any_is k xs bits)
any_is k (x ∷ xs) (false ∷ bits) = any_by false (list_any (λ (y : ℕ). y == k) (chosen xs bits)) (times k xs bits) (any_is k xs bits)

none_by : (p d : Bool) (a : ℕ) → d ≡ (a == 0) → (not p && d) ≡ (weigh p + a == 0)
none_by true d a e = sym (by (1 + a == 0) refl)
  where
    by : (q : Bool) → (1 + a == 0) ≡ q → q ≡ false
    by true h = let no : 1 + a ≡ 0 = eqb-true (1 + a) 0 h in absurd (omega (arith, no))
    by false h = refl
none_by false d a e = let same : a ≡ 0 + a = omega arith in e ∙ ap (λ (n : ℕ). n == 0) same

-- the chosen keys are distinct if none of them stands again
distinct_is : (keys : List ℕ) (bits : List Bool) → are_distinct (chosen keys bits) ≡ (again keys bits == 0)
distinct_is [] bits = refl
distinct_is (x ∷ xs) [] = refl
distinct_is (x ∷ xs) (true ∷ bits) =
    ap (λ (b : Bool). not b && are_distinct (chosen xs bits)) (any_is x xs bits) ∙ none_by (nat_lt 0 (times x xs bits)) (are_distinct (chosen xs bits)) (again xs bits) (distinct_is xs bits)
distinct_is (x ∷ xs) (false ∷ bits) = let same : again xs bits ≡ 0 + again xs bits = omega arith in distinct_is xs bits ∙ ap (λ (n : ℕ). n == 0) same

-- ---- the keys of a segment

one_more : (b q : Bool) (x : ℕ) (a c d : List ℕ) → b ≡ q → a ≡ c ++ d → cond b (x ∷ a) a ≡ cond q (x ∷ c) c ++ d
one_more true true x a c d e f = ap (λ (l : List ℕ). x ∷ l) f
one_more false false x a c d e f = f
one_more true false x a c d e f = absurd cc
one_more false true x a c d e f = absurd cc

chosen_split : (xs : List Record) (k : ℕ) (p : ℕ → Bool) (more : List ℕ) (bits : List Bool) → length xs ≤ length bits → ((slot : ℕ) → slot < length xs → get_or bits slot false ≡ p (k + slot))
    → chosen (map (λ (x : Record). x.key) xs ++ more) bits ≡ keys_from k xs p ++ chosen more (drop (length xs) bits)
chosen_split [] k p more bits le shown = refl
chosen_split (x ∷ xs) k p more [] le shown = absurd (omega (arith, le))
chosen_split (x ∷ xs) k p more (b ∷ bits) le shown =
    let here : k + 0 ≡ k = omega arith in
    one_more b (p k) x.key (chosen (map (λ (y : Record). y.key) xs ++ more) bits) (keys_from (suc k) xs p) (chosen more (drop (length xs) bits))
    (shown 0 (omega arith) ∙ ap p here)
    (chosen_split xs (suc k) p more bits (omega (arith, le)) (λ slot lt. let next : k + suc slot ≡ suc k + slot = omega arith in shown (suc slot) (omega (arith, lt)) ∙ ap p next))

shows_rest : (b : ℕ) (s : SegmentPart) (ss : List SegmentPart) (n : ℕ) (bits : List Bool) → Shows b (s ∷ ss) n bits → Shows b ss n (drop (length s.records) bits)
shows_rest b s ss n bits shown i lt slot less =
    let place : length s.records + (base_of ss i + slot) ≡ (length s.records + base_of ss i) + slot = omega arith in
    get_or-drop (length s.records) bits (base_of ss i + slot) false ∙ ap (λ (k : ℕ). get_or bits k false) place ∙ shown (suc i) (omega (arith, lt)) slot less

-- the chosen keys are those that the branch has
chosen_is : (b : ℕ) (ss : List SegmentPart) (n : ℕ) (bits : List Bool) → length bits ≡ length (all_keys ss) → Shows b ss (suc n) bits → chosen (all_keys ss) bits ≡ keys_at b n ss
chosen_is b [] n bits len shown = refl
chosen_is b (s ∷ ss) n bits len shown =
    ap (λ (l : List ℕ). chosen l bits) (keys_cons s ss)
    ∙ chosen_split s.records 0 (bit (row_of b s.rows) n) (all_keys ss) bits (omega (arith, len, all_long s ss)) (λ slot lt. let here : slot ≡ 0 + slot = omega arith in ap (λ (k : ℕ). get_or bits k false) here ∙ shown 0 (omega arith) slot lt ∙ ap (bit (row_of b s.rows) n) here)
    ∙ ap (λ (l : List ℕ). keys_in b n s ++ l) (chosen_is b ss n (drop (length s.records) bits) (omega (arith, length-drop (length s.records) bits, len, all_long s ss)) (shows_rest b s ss (suc n) bits shown))
    ∙ sym (at_cons b n s ss)
  where
    at_cons : (b n : ℕ) (s : SegmentPart) (ss : List SegmentPart) → keys_at b n (s ∷ ss) ≡ keys_in b n s ++ keys_at b n ss
    at_cons b n s ss = flat_map-cons (keys_in b n) s ss

chosen_map : (f : ℕ → ℕ) (keys : List ℕ) (bits : List Bool) → chosen (map f keys) bits ≡ map f (chosen keys bits)
chosen_map f [] bits = refl
chosen_map f (x ∷ xs) [] = refl
chosen_map f (x ∷ xs) (true ∷ bits) = ap (λ (l : List ℕ). f x ∷ l) (chosen_map f xs bits)
chosen_map f (x ∷ xs) (false ∷ bits) = chosen_map f xs bits

each_chosen : (P : ℕ → Type 0) (keys : List ℕ) (bits : List Bool) → Each P keys → Each P (chosen keys bits)
each_chosen P [] bits e = tt
each_chosen P (x ∷ xs) [] e = tt
each_chosen P (x ∷ xs) (true ∷ bits) e = (e.0, each_chosen P xs bits e.1)
each_chosen P (x ∷ xs) (false ∷ bits) e = each_chosen P xs bits e.1

-- what a walk over numbers knows tells whether the keys are a table
pub table_is : (b : ℕ) (ss : List SegmentPart) (n : ℕ) (numbers : List ℕ) (w : Walk) → numbers ≡ map (first_of (all_keys ss)) (all_keys ss) → Agrees numbers w → Shows b ss (suc n) w.bits.items
    → ((w.again == 0) && nat_le w.live 262144) ≡ is_table (keys_at b n ss)
table_is b ss n numbers w is a shown =
    let keys : List ℕ = all_keys ss in
    let bits : List Bool = w.bits.items in
    let size : length numbers ≡ length keys = ap length is ∙ length-map keys (first_of keys) in
    let len : length bits ≡ length keys = a.len ∙ size in
    let same : chosen keys bits ≡ keys_at b n ss = chosen_is b ss n bits len shown in
    let named : chosen numbers bits ≡ map (first_of keys) (chosen keys bits) = ap (λ (l : List ℕ). chosen l bits) is ∙ chosen_map (first_of keys) keys bits in
    let twice : (w.again == 0) ≡ are_distinct (chosen keys bits) = ap (λ (k : ℕ). k == 0) a.again ∙ sym (distinct_is numbers bits) ∙ ap are_distinct named ∙ distinct_same keys (chosen keys bits) (each_chosen (IsFound keys) keys bits (all_found keys)) in
    let few : w.live ≡ length (chosen keys bits) = a.live ∙ sym (chosen_long keys bits len) in
    ap (λ (q : Bool). q && nat_le w.live 262144) twice ∙ ap (λ (k : ℕ). are_distinct (chosen keys bits) && nat_le k 262144) few ∙ ap (λ (l : List ℕ). is_table l) same

-- ---- from one number to the next

pub goes : (p : ℕ → Bool) (count i : ℕ) (total : Bool) → i < count → p i ≡ true → list_all p (range_with_len i (count - i)) ≡ total → list_all p (range_with_len (i + 1) (count - (i + 1))) ≡ total
goes p count i total lt e so_far =
    let k : count - i ≡ suc (count - (i + 1)) = omega arith in
    let one : list_all p (range_with_len i (count - i)) ≡ (p i && list_all p (range_with_len (i + 1) (count - (i + 1)))) = ap (λ (n : ℕ). list_all p (range_with_len i n)) k in
    sym (one ∙ ap (λ (b : Bool). b && list_all p (range_with_len (i + 1) (count - (i + 1)))) e) ∙ so_far

pub stops : (p : ℕ → Bool) (count i : ℕ) (total : Bool) → i < count → p i ≡ false → list_all p (range_with_len i (count - i)) ≡ total → false ≡ total
stops p count i total lt e so_far =
    let k : count - i ≡ suc (count - (i + 1)) = omega arith in
    let one : list_all p (range_with_len i (count - i)) ≡ (p i && list_all p (range_with_len (i + 1) (count - (i + 1)))) = ap (λ (n : ℕ). list_all p (range_with_len i n)) k in
    sym (one ∙ ap (λ (b : Bool). b && list_all p (range_with_len (i + 1) (count - (i + 1)))) e) ∙ so_far

pub ends : (p : ℕ → Bool) (count i : ℕ) (total : Bool) → count ≤ i → list_all p (range_with_len i (count - i)) ≡ total → true ≡ total
ends p count i total le so_far =
    let k : count - i ≡ 0 = omega arith in
    sym (ap (λ (n : ℕ). list_all p (range_with_len i n)) k) ∙ so_far

none_at : (n i : ℕ) → get_or (replicate n false) i false ≡ false
none_at zero i = refl
none_at (suc n) zero = refl
none_at (suc n) (suc i) = none_at n i

-- before the first position no bit is set
pub shows_none : (b : ℕ) (ss : List SegmentPart) (n : ℕ) (bits : List Bool) → bits ≡ replicate n false → Shows b ss 0 bits
shows_none b ss n bits is i lt slot less =
    let none : 0 - (row_of b (get_or ss i no_segment).rows).from ≡ 0 = omega arith in
    ap (λ (l : List Bool). get_or l (base_of ss i + slot) false) is ∙ none_at n (base_of ss i + slot)
    ∙ sym (ap (λ (k : ℕ). combined (take k (row_of b (get_or ss i no_segment).rows).deltas) slot) none)

pub last_is : (lasts : List ℕ) (i d : ℕ) → i < length lasts → get_or lasts i d ≡ last_of lasts i
last_is [] i d lt = absurd (omega (arith, lt))
last_is (x ∷ xs) zero d lt = refl
last_is (x ∷ xs) (suc i) d lt = last_is xs i d (omega (arith, lt))

-- a row before the next position, by its number
pub shows_next : (b : ℕ) (ss : List SegmentPart) (n : ℕ) (bits : List Bool) → Shows b ss (suc n) bits → Shows b ss (n + 1) bits
shows_next b ss n bits shown i lt slot less = let next : suc n ≡ n + 1 = omega arith in shown i lt slot less ∙ ap (λ (m : ℕ). bit_before (row_of b (get_or ss i no_segment).rows) m slot) next

-- the positions of a branch from the first one on
pub keyed_is : (ss : List SegmentPart) (last b : ℕ) → list_all (λ (n : ℕ). is_table (keys_at b n ss)) (range_with_len 0 (suc last - 0)) ≡ is_keyed ss last b
unfolding is_keyed
keyed_is ss last b = let none : suc last - 0 ≡ suc last = omega arith in ap (λ (k : ℕ). list_all (λ (n : ℕ). is_table (keys_at b n ss)) (range_with_len 0 k)) none
