-- The slots of a bitmap, one after another, and the shortest bitmap of them.
use Rattle.std.proofs.Common.{◌≡◌, ◌⊎◌, inl, inr, ℕ, zero, suc, ◌+◌, ◌-◌, ◌<◌, ◌≤◌, ◌==◌, ◌&&◌, Bool, true, false, cond, List, [], ◌∷◌, ◌++◌, length, map, take, get_or, refl, arith, ap, sym, ◌∙◌, zero-add, ext_get_or}
use Rattle.std.proofs.lemmas.Bool.{cases_lt, cases_Bool, eq-eqb, ne_eqb}
use Rattle.std.proofs.lemmas.List.{append-nil, map-append, length-take-le, get_or-take, take_more}
use Rattle.std.proofs.lemmas.List.FromFn.{get_or-map-range_with_len, length-map-range_with_len}
use Rattle.plain_bits.specs.Truth.{bit_of, differ, IsClearFrom}
use Rattle.commit_history.specs.Sparse.{is_flipped, flipped}
use Rattle.commit_history.proofs.Places.{flipped-push}
use Rattle.db_store.specs.Layout.{slots_where}
use Rattle.hybrid_view.specs.Deltas.{slots_of}
use Rattle.hybrid_view.proofs.DeltaLemmas.{slots_more, slots_by}
use Rattle.bit_rows.specs.Short.{end_of, shortest}

-- ---- slots one after another

pub end_push : (xs : List ℕ) (p : ℕ) → end_of (xs ++ p ∷ []) ≡ suc p
end_push [] p = refl
end_push (x ∷ []) p = refl
end_push (x ∷ y ∷ ys) p = end_push (y ∷ ys) p

-- while the test fails no more slots come
pub slots_stop_to : (p : ℕ → Bool) (n k : ℕ) → ((s : ℕ) → n ≤ s → s < n + k → p s ≡ false) → slots_where p (n + k) ≡ slots_where p n
slots_stop_to p n zero f = ap (slots_where p) (omega arith)
slots_stop_to p n (suc k) f =
    let one : n + suc k ≡ (n + k) + 1 = omega arith in
    ap (slots_where p) one
    ∙ slots_more p (n + k)
    ∙ ap (λ b. slots_where p (n + k) ++ cond b ((n + k) ∷ []) []) (f (n + k) (omega arith) (omega arith))
    ∙ append-nil (slots_where p (n + k))
    ∙ slots_stop_to p n k (λ s g h. f s g (omega (arith, h)))

-- up to the next place at which it holds, that place comes
pub slots_next : (p : ℕ → Bool) (n place : ℕ) → n ≤ place → ((s : ℕ) → n ≤ s → s < place → p s ≡ false) → p place ≡ true → slots_where p (place + 1) ≡ slots_where p n ++ place ∷ []
slots_next p n place h f t =
    let e : place ≡ n + (place - n) = omega (arith, h) in
    slots_more p place
    ∙ ap (λ b. slots_where p place ++ cond b (place ∷ []) []) t
    ∙ ap (λ (xs : List ℕ). xs ++ place ∷ []) (ap (slots_where p) e ∙ slots_stop_to p n (place - n) (λ s g l. f s g (omega (arith, l, h))))

pub slots_rest : (bits : List Bool) (n : ℕ) → n ≤ length bits → ((s : ℕ) → n ≤ s → bit_of bits s ≡ false) → slots_of bits ≡ slots_where (bit_of bits) n
slots_rest bits n h f =
    let e : length bits ≡ n + (length bits - n) = omega (arith, h) in
    ap (slots_where (bit_of bits)) e ∙ slots_stop_to (bit_of bits) n (length bits - n) (λ s g l. f s g)

-- ---- the shortest bitmap

one_more : (xs : List ℕ) (q : Bool) (n s : ℕ) → is_flipped (xs ++ cond q (n ∷ []) []) s ≡ differ (q && n == s) (is_flipped xs s)
one_more xs true n s = flipped-push xs n s
one_more xs false n s = ap (λ (ys : List ℕ). is_flipped ys s) (append-nil xs)

and_no : (q b : Bool) → b ≡ false → (q && b) ≡ false
and_no true b e = e
and_no false b e = refl

and_yes : (q b : Bool) → b ≡ true → (q && b) ≡ q
and_yes true b e = e
and_yes false b e = refl

differ_none : (b : Bool) → differ b false ≡ b
differ_none true = refl
differ_none false = refl

flipped_out : (p : ℕ → Bool) (n s : ℕ) → n ≤ s → is_flipped (slots_where p n) s ≡ false
flipped_out p zero s h = refl
flipped_out p (suc n) s h =
    let one : suc n ≡ n + 1 = omega arith in
    ap (λ (xs : List ℕ). is_flipped xs s) (ap (slots_where p) one ∙ slots_more p n)
    ∙ one_more (slots_where p n) (p n) n s
    ∙ ap (λ b. differ b (is_flipped (slots_where p n) s)) (and_no (p n) (n == s) (ne_eqb n s (λ e. absurd (omega (arith, h, e)))))
    ∙ flipped_out p n s (omega (arith, h))

flipped_in : (p : ℕ → Bool) (n s : ℕ) → s < n → is_flipped (slots_where p n) s ≡ p s
flipped_in p zero s h = absurd (omega (arith, h))
flipped_in p (suc n) s h =
    let one : suc n ≡ n + 1 = omega arith in
    ap (λ (xs : List ℕ). is_flipped xs s) (ap (slots_where p) one ∙ slots_more p n)
    ∙ one_more (slots_where p n) (p n) n s
    ∙ by (cases_lt s n) (flipped_in p n s)
  where
    by : (s < n) ⊎ (n ≤ s) → (s < n → is_flipped (slots_where p n) s ≡ p s) → differ (p n && n == s) (is_flipped (slots_where p n) s) ≡ p s
    by (inl l) f = ap (λ b. differ b (is_flipped (slots_where p n) s)) (and_no (p n) (n == s) (ne_eqb n s (λ e. absurd (omega (arith, l, e))))) ∙ f l
    by (inr g) f =
        let same : n ≡ s = omega (arith, h, g) in
        ap (λ b. differ b (is_flipped (slots_where p n) s)) (and_yes (p n) (n == s) (eq-eqb n s same))
        ∙ ap (differ (p n)) (flipped_out p n s g)
        ∙ differ_none (p n)
        ∙ ap p same

bit_flipped : (n : ℕ) (xs : List ℕ) (s : ℕ) → s < n → bit_of (flipped n xs) s ≡ is_flipped xs s
bit_flipped n xs s h = get_or-map-range_with_len (is_flipped xs) 0 n s s false h (zero-add s)

-- it has these slots
pub short_slots : (p : ℕ → Bool) (n : ℕ) → slots_of (shortest (slots_where p n)) ≡ slots_where p n
short_slots p zero = refl
short_slots p (suc n) = by (cases_Bool (p n)) (short_slots p n)
  where
    more : slots_where p (suc n) ≡ slots_where p n ++ cond (p n) (n ∷ []) []
    more = let one : suc n ≡ n + 1 = omega arith in ap (slots_where p) one ∙ slots_more p n

    by : (p n ≡ true) ⊎ (p n ≡ false) → slots_of (shortest (slots_where p n)) ≡ slots_where p n → slots_of (shortest (slots_where p (suc n))) ≡ slots_where p (suc n)
    by (inr f) i =
        let e : slots_where p (suc n) ≡ slots_where p n = more ∙ ap (λ b. slots_where p n ++ cond b (n ∷ []) []) f ∙ append-nil (slots_where p n) in
        ap (λ (xs : List ℕ). slots_of (shortest xs)) e ∙ i ∙ sym e
    by (inl t) i =
        let e : slots_where p (suc n) ≡ slots_where p n ++ n ∷ [] = more ∙ ap (λ b. slots_where p n ++ cond b (n ∷ []) []) t in
        let end : end_of (slots_where p (suc n)) ≡ suc n = ap end_of e ∙ end_push (slots_where p n) n in
        let long = length-map-range_with_len (is_flipped (slots_where p (suc n))) 0 (suc n) in
        ap (λ m. slots_of (flipped m (slots_where p (suc n)))) end
        ∙ slots_by (flipped (suc n) (slots_where p (suc n))) p (suc n) (omega (arith, long)) (λ s h. bit_flipped (suc n) (slots_where p (suc n)) s h ∙ flipped_in p (suc n) s h)

-- deltas that are shortest, with one more
pub shorts_push : (ds : List (List Bool)) (p : ℕ → Bool) (n : ℕ) → map shortest (map slots_of ds) ≡ ds → map shortest (map slots_of (ds ++ shortest (slots_where p n) ∷ [])) ≡ ds ++ shortest (slots_where p n) ∷ []
shorts_push ds p n e =
    let d : List Bool = shortest (slots_where p n) in
    ap (map shortest) (map-append slots_of ds (d ∷ []))
    ∙ map-append shortest (map slots_of ds) (slots_of d ∷ [])
    ∙ (λ i. e i ++ shortest (short_slots p n i) ∷ [])

-- it is the front of a bitmap that ends with the last true place
pub short_front : (bits : List Bool) (end : ℕ) → end ≤ length bits → IsClearFrom bits end → (0 < end → bit_of bits (end - 1) ≡ true) → take end bits ≡ shortest (slots_of bits)
short_front bits zero h clear last = sym (ap shortest (slots_rest bits 0 h clear))
short_front bits (suc n) h clear last =
    let one : suc n ≡ n + 1 = omega arith in
    let back : n ≡ suc n - 1 = omega arith in
    let whole : slots_of bits ≡ slots_where (bit_of bits) (suc n) = slots_rest bits (suc n) h clear in
    let more : slots_of bits ≡ slots_where (bit_of bits) n ++ n ∷ [] = whole ∙ ap (slots_where (bit_of bits)) one ∙ slots_more (bit_of bits) n ∙ ap (λ b. slots_where (bit_of bits) n ++ cond b (n ∷ []) []) (ap (bit_of bits) back ∙ last (omega arith)) in
    let end : end_of (slots_of bits) ≡ suc n = ap end_of more ∙ end_push (slots_where (bit_of bits) n) n in
    let long = length-map-range_with_len (is_flipped (slots_where (bit_of bits) (suc n))) 0 (suc n) in
    let front = length-take-le (suc n) bits h in
    sym (ap (λ m. flipped m (slots_of bits)) end ∙ ap (flipped (suc n)) whole ∙ ext_get_or false (flipped (suc n) (slots_where (bit_of bits) (suc n))) (take (suc n) bits) (long ∙ sym front) (λ k lt.
    let l : k < suc n = omega (arith, lt, long) in
    bit_flipped (suc n) (slots_where (bit_of bits) (suc n)) k l ∙ flipped_in (bit_of bits) (suc n) k l ∙ sym (get_or-take (suc n) bits k false l)))

-- ---- deltas made shortest, one after another

-- a delta that is made shortest keeps its slots
pub short_same : (d : List Bool) → slots_of (shortest (slots_of d)) ≡ slots_of d
short_same d = short_slots (bit_of d) (length d)

pub shorts_same : (ds : List (List Bool)) → map slots_of (map shortest (map slots_of ds)) ≡ map slots_of ds
shorts_same [] = refl
shorts_same (d ∷ ds) = λ i. short_same d i ∷ shorts_same ds i

-- the deltas up to the next one
pub shorts_next : (ds : List (List Bool)) (n : ℕ) → n < length ds → map shortest (map slots_of (take (n + 1) ds)) ≡ map shortest (map slots_of (take n ds)) ++ shortest (slots_of (get_or ds n [])) ∷ []
shorts_next ds n h =
    ap (λ (xs : List (List Bool)). map shortest (map slots_of xs)) (take_more ds n [] h)
    ∙ ap (map shortest) (map-append slots_of (take n ds) (get_or ds n [] ∷ []))
    ∙ map-append shortest (map slots_of (take n ds)) (slots_of (get_or ds n []) ∷ [])
