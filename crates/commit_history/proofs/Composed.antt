-- Composites: the first items by the composites of their full runs, and what one item more completes.
use Rattle.std.proofs.Common.{◌≡◌, ℕ, zero, suc, ◌+◌, ◌-◌, ◌*◌, ◌/◌, ◌%◌, ◌^◌, ◌<◌, ◌≤◌, ◌==◌, eqb, Bool, true, false, cond, List, [], ◌∷◌, ◌++◌, length, map, take, drop, get_or, Option, Some, None, refl, sym, ap, ap₂, ◌∙◌, subst, ⊎_elim, ◌⊎◌, inl, inr, arith, ext_get_or, length-append, take-append-drop}
use Rattle.std.specs.Prelude.{IfSome}
use Rattle.std.specs.List.{range_with_len}
use Rattle.std.proofs.lemmas.Bool.{cases_lt, cases_eq, eq-eqb, ne_eqb}
use Rattle.std.proofs.lemmas.List.{take_more, take_all, get_or_append_left, get_or_push, length_push, length-drop, take-append-le, drop-append-le, drop-take}
use Rattle.std.proofs.lemmas.List.FromFn.{length-map-range_with_len, get_or-map-range_with_len}
use Rattle.commit_history.specs.Combined.{xor_of, combined}
use Rattle.commit_history.specs.Runs.{composites, Placed, completed, completed_by, with_next, Next, next_of, AreLevels}
use Rattle.commit_history.proofs.Exclusive.{combined-append, xor_of-nil, xor_of-comm, xor_of-assoc}

pub length-composites : (items : List (List Bool)) → length (composites items) ≡ length items / 16
length-composites items = length-map-range_with_len (λ run. combined (take 16 (drop (16 * run) items))) 0 (length items / 16)

composite_at : (items : List (List Bool)) (k : ℕ) → k < length items / 16 → get_or (composites items) k [] ≡ combined (take 16 (drop (16 * k) items))
composite_at items k h = get_or-map-range_with_len (λ run. combined (take 16 (drop (16 * run) items))) 0 (length items / 16) k k [] h (omega arith)

none_taken : (n : ℕ) → take {A = List Bool} n [] ≡ []
none_taken zero = refl
none_taken (suc n) = refl

take_sum : (a b : ℕ) (xs : List (List Bool)) → take (a + b) xs ≡ take a xs ++ take b (drop a xs)
take_sum zero b xs = let e : 0 + b ≡ b = omega arith in ap (λ n. take n xs) e
take_sum (suc a) b [] = none_taken (suc a + b) ∙ sym (none_taken b)
take_sum (suc a) b (x ∷ xs) = let e : suc a + b ≡ suc (a + b) = omega arith in ap (λ n. take n (x ∷ xs)) e ∙ ap (λ rest. x ∷ rest) (take_sum a b xs)

-- full runs from the start
by_composites : (q : ℕ) (items : List (List Bool)) → q ≤ length items / 16 → combined (take (16 * q) items) ≡ combined (take q (composites items))
by_composites zero items h = refl
by_composites (suc q) items h =
    let e : 16 * suc q ≡ 16 * q + 16 = omega arith in
    let f : suc q ≡ q + 1 = omega arith in
    let n = length-composites items in
    let c = combined (take 16 (drop (16 * q) items)) in
    ap (λ m. combined (take m items)) e
    ∙ ap combined (take_sum (16 * q) 16 items)
    ∙ combined-append (take (16 * q) items) (take 16 (drop (16 * q) items))
    ∙ ap₂ xor_of (by_composites q items (omega (arith, h))) (sym (xor_of-nil c))
    ∙ sym (combined-append (take q (composites items)) (c ∷ []))
    ∙ ap (λ d. combined (take q (composites items) ++ d ∷ [])) (sym (composite_at items q (omega (arith, h))))
    ∙ ap combined (sym (take_more (composites items) q [] (omega (arith, n, h))))
    ∙ ap (λ m. combined (take m (composites items))) (sym f)

-- the first n items: those after the last full run, and the composites of the full runs
pub by_runs : (items : List (List Bool)) (n : ℕ) → n ≤ length items → xor_of (combined (take (n % 16) (drop (n - n % 16) items))) (combined (take (n / 16) (composites items))) ≡ combined (take n items)
by_runs items n h =
    let q = n / 16 in
    let r = n % 16 in
    let whole : n ≡ 16 * q + r = omega arith in
    let front : n - r ≡ 16 * q = omega arith in
    ap (λ (m : ℕ). xor_of (combined (take r (drop m items))) (combined (take q (composites items)))) front
    ∙ xor_of-comm (combined (take r (drop (16 * q) items))) (combined (take q (composites items)))
    ∙ ap (λ (c : List Bool). xor_of c (combined (take r (drop (16 * q) items)))) (sym (by_composites q items (omega (arith, h))))
    ∙ sym (combined-append (take (16 * q) items) (take r (drop (16 * q) items)))
    ∙ ap combined (sym (take_sum (16 * q) r items))
    ∙ ap (λ (m : ℕ). combined (take m items)) (sym whole)

-- a run that is full already
front_same : (items : List (List Bool)) (item : List Bool) (m : ℕ) → m + 16 ≤ length items → take 16 (drop m (items ++ item ∷ [])) ≡ take 16 (drop m items)
front_same items item m h =
    let n = length-drop m items in
    ap (take 16) (drop-append-le m items (item ∷ []) (omega (arith, h))) ∙ take-append-le 16 (drop m items) (item ∷ []) (omega (arith, n, h))

-- the run that the last item completes
last_run : (items : List (List Bool)) (item : List Bool) (m : ℕ) → m + 15 ≡ length items → take 16 (drop m (items ++ item ∷ [])) ≡ drop (length items - 15) items ++ item ∷ []
last_run items item m h =
    let e : m ≡ length items - 15 = omega (arith, h) in
    let n = length-drop m items in
    let k = length_push (drop m items) item in
    ap (take 16) (drop-append-le m items (item ∷ []) (omega (arith, h))) ∙ take_all 16 (drop m items ++ item ∷ []) (omega (arith, n, k, h)) ∙ ap (λ (j : ℕ). drop j items ++ item ∷ []) e

full : (items : List (List Bool)) (item : List Bool) → length items % 16 ≡ 15 → composites (items ++ item ∷ []) ≡ composites items ++ combined (drop (length items - 15) items ++ item ∷ []) ∷ []
full items item h =
    let all = items ++ item ∷ [] in
    let c = combined (drop (length items - 15) items ++ item ∷ []) in
    let n = length_push items item in
    let a = length-composites all in
    let b = length-composites items in
    let m = length_push (composites items) c in
    ext_get_or [] (composites all) (composites items ++ c ∷ []) (omega (arith, n, a, b, m, h)) (λ k lt.
    composite_at all k (omega (arith, a, lt))
    ∙ ⊎_elim (λ (low : k < length items / 16).
    ap combined (front_same items item (16 * k) (omega (arith, low))) ∙ sym (composite_at items k low) ∙ sym (get_or_append_left (composites items) (c ∷ []) [] k (omega (arith, low, b))))
    (λ (high : length items / 16 ≤ k).
    ap combined (last_run items item (16 * k) (omega (arith, n, a, lt, high, h))) ∙ sym (get_or_push (composites items) c [] k (omega (arith, n, a, b, lt, high, h))))
    (cases_lt k (length items / 16)))

not_full : (items : List (List Bool)) (item : List Bool) → (length items % 16 ≡ 15 → ⊥) → composites (items ++ item ∷ []) ≡ composites items
not_full items item ne =
    let all = items ++ item ∷ [] in
    let n = length_push items item in
    let a = length-composites all in
    let b = length-composites items in
    let same : length all / 16 ≡ length items / 16 = by (cases_lt (length items % 16) 15) in
    ext_get_or [] (composites all) (composites items) (a ∙ same ∙ sym b) (λ k lt.
    let low : k < length items / 16 = omega (arith, a, same, lt) in
    composite_at all k (omega (arith, a, lt)) ∙ ap combined (front_same items item (16 * k) (omega (arith, low))) ∙ sym (composite_at items k low))
  where
    by : (length items % 16 < 15) ⊎ (15 ≤ length items % 16) → length (items ++ item ∷ []) / 16 ≡ length items / 16
    by (inl low) = let n = length_push items item in omega (arith, n, low)
    by (inr high) = absurd (ne (omega (arith, high)))

-- the composites with one item more
pub composites_next : (items : List (List Bool)) (item : List Bool) → composites (items ++ item ∷ []) ≡ with_next (composites items) (completed items item)
composites_next items item =
    ⊎_elim (λ (h : length items % 16 ≡ 15). full items item h ∙ ap (λ (b : Bool). with_next (composites items) (cond b (Some made) None)) (sym (eq-eqb (length items % 16) 15 h)))
    (λ (ne : length items % 16 ≡ 15 → ⊥). not_full items item ne ∙ ap (λ (b : Bool). with_next (composites items) (cond b (Some made) None)) (sym (ne_eqb (length items % 16) 15 ne)))
    (cases_eq (length items % 16) 15)
  where
    made : Placed
    made = record { item = combined (drop (length items - 15) items ++ item ∷ []); count = length items / 16 }

pub composites_above : (items : List (List Bool)) (next : Option Placed) → composites (with_next items next) ≡ with_next (composites items) (completed_by items next)
composites_above items None = refl
composites_above items (Some placed) = composites_next items placed.item

-- a composite that is complete has as many before it as there are
pub counted : (items : List (List Bool)) (item : List Bool) → IfSome (completed items item) (λ p. p.count ≡ length (composites items))
counted items item = by (length items % 16 == 15)
  where
    made : Placed
    made = record { item = combined (drop (length items - 15) items ++ item ∷ []); count = length items / 16 }

    by : (b : Bool) → IfSome (cond b (Some made) None) (λ (p : Placed). p.count ≡ length (composites items))
    by true = sym (length-composites items)
    by false = tt

pub counted_by : (items : List (List Bool)) (next : Option Placed) → IfSome (completed_by items next) (λ p. p.count ≡ length (composites items))
counted_by items None = tt
counted_by items (Some placed) = counted items placed.item

-- the same where the composites are those of the items
pub counted_as : (items above : List (List Bool)) (next made : Option Placed) → above ≡ composites items → made ≡ completed_by items next → IfSome made (λ p. p.count ≡ length above)
counted_as items above next made are is =
    subst (λ (m : Option Placed). IfSome m (λ p. p.count ≡ length above)) (sym is)
    (subst (λ (xs : List (List Bool)). IfSome (completed_by items next) (λ p. p.count ≡ length xs)) (sym are) (counted_by items next))

-- what is made of the last 15 items and one more completes a run
abbrev pub placed : List Bool → ℕ → Option Placed
placed item count = Some (record { item = item; count = count })

pub completes : (items above : List (List Bool)) (item made : List Bool) → length items % 16 ≡ 15 → above ≡ composites items → made ≡ combined (drop (length items - 15) items ++ item ∷ [])
    → placed made (length above) ≡ completed items item
completes items above item made h are is =
    ap₂ placed is (ap length are ∙ length-composites items)
    ∙ ap (λ (b : Bool). cond b (placed (combined (drop (length items - 15) items ++ item ∷ [])) (length items / 16)) None) (sym (eq-eqb (length items % 16) 15 h))

pub above_short : (items above : List (List Bool)) → above ≡ composites items → length items < 2 ^ 32 → length above < 2 ^ 32
above_short items above are short = let n = ap length are ∙ length-composites items in omega (arith, n, short)

pub length_above : (items above : List (List Bool)) → above ≡ composites items → length above ≡ length items / 16
length_above items above are = ap length are ∙ length-composites items

-- the levels after a push
pub pushed : (deltas by_16 by_256 by_4096 : List (List Bool)) (d : Placed) (p16 p256 p4096 : Option Placed) (item : List Bool) → AreLevels deltas by_16 by_256 by_4096
    → record { delta = d; by_16 = p16; by_256 = p256; by_4096 = p4096 } ≡ next_of deltas item → d.count < 2 ^ 32 - 1
    → AreLevels (deltas ++ d.item ∷ []) (with_next by_16 p16) (with_next by_256 p256) (with_next by_4096 p4096)
pushed deltas by_16 by_256 by_4096 d p16 p256 p4096 item levels is few =
    let count : d.count ≡ length deltas = ap (λ (n : Next). n.delta.count) is in
    let it : d.item ≡ item = ap (λ (n : Next). n.delta.item) is in
    let sixteen : p16 ≡ completed deltas item = ap (λ (n : Next). n.by_16) is in
    let more : p256 ≡ completed_by by_16 p16 = ap (λ (n : Next). n.by_256) is ∙ ap₂ completed_by (sym levels.sixteens) (sym sixteen) in
    let most : p4096 ≡ completed_by by_256 p256 = ap (λ (n : Next). n.by_4096) is ∙ ap₂ completed_by (sym (levels.more ∙ ap composites levels.sixteens)) (sym (ap (λ (n : Next). n.by_256) is)) in
    let n = length_push deltas d.item in
    record {
      short = omega (arith, n, count, few);
      sixteens = ap₂ with_next levels.sixteens sixteen ∙ sym (composites_next deltas item) ∙ ap (λ x. composites (deltas ++ x ∷ [])) (sym it);
      more = ap₂ with_next levels.more more ∙ sym (composites_above by_16 p16);
      most = ap₂ with_next levels.most most ∙ sym (composites_above by_256 p256);
    }

-- the first n items, where the composites of their full runs are combined already
pub on_level : (items above : List (List Bool)) (n : ℕ) (before after : List Bool) → above ≡ composites items → n ≤ length items → before ≡ combined (take (n / 16) above)
    → after ≡ xor_of (combined (take (n % 16) (drop (n - n % 16) items))) before → after ≡ combined (take n items)
on_level items above n before after are h had has =
    has ∙ ap (xor_of (combined (take (n % 16) (drop (n - n % 16) items)))) (had ∙ ap (λ xs. combined (take (n / 16) xs)) are) ∙ by_runs items n h

pub on_levels : (deltas by_16 by_256 by_4096 : List (List Bool)) (n : ℕ) (first second third last : List Bool) → AreLevels deltas by_16 by_256 by_4096 → n ≤ length deltas
    → first ≡ combined (take (n / 4096) by_4096)
    → second ≡ xor_of (combined (take (n / 256 % 16) (drop (n / 256 - n / 256 % 16) by_256))) first
    → third ≡ xor_of (combined (take (n / 16 % 16) (drop (n / 16 - n / 16 % 16) by_16))) second
    → last ≡ xor_of (combined (take (n % 16) (drop (n - n % 16) deltas))) third
    → last ≡ combined (take n deltas)
on_levels deltas by_16 by_256 by_4096 n first second third last levels h one two three four =
    let a = length_above deltas by_16 levels.sixteens in
    let b = length_above by_16 by_256 levels.more in
    let top : n / 4096 ≡ n / 256 / 16 = omega arith in
    let middle : n / 256 ≡ n / 16 / 16 = omega arith in
    let on_256 = on_level by_256 by_4096 (n / 256) first second levels.most (omega (arith, a, b, h)) (one ∙ ap (λ m. combined (take m by_4096)) top) two in
    let on_16 = on_level by_16 by_256 (n / 16) second third levels.more (omega (arith, a, h)) (on_256 ∙ ap (λ m. combined (take m by_256)) middle) three in
    on_level deltas by_16 n third last levels.sixteens h on_16 four

pub same_levels : (a b c d k l m o : List (List Bool)) → k ≡ a → l ≡ b → m ≡ c → o ≡ d → AreLevels a b c d → AreLevels k l m o
same_levels a b c d k l m o ea eb ec ed levels =
    let n = ap length ea in
    let short = levels.short in
    record {
      short = omega (arith, n, short);
      sixteens = eb ∙ levels.sixteens ∙ ap composites (sym ea);
      more = ec ∙ levels.more ∙ ap composites (sym eb);
      most = ed ∙ levels.most ∙ ap composites (sym ec);
    }
