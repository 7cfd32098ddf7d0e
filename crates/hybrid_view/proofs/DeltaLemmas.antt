-- The delta of a row is the slots of the bitmap in which two bitmaps differ.
use Rattle.std.proofs.Common.{◌≡◌, ℕ, zero, suc, ◌+◌, ◌-◌, ◌<◌, ◌≤◌, Bool, false, cond, List, [], ◌∷◌, ◌++◌, length, refl, arith, ap, sym, ◌∙◌, zero-add}
use Rattle.std.specs.Prelude.{filter}
use Rattle.std.specs.List.{range_with_len}
use Rattle.std.proofs.lemmas.List.{append-nil, map-id, get_or_past}
use Rattle.std.proofs.lemmas.List.FromFn.{filter_of_map_range_with_len_more}
use Rattle.plain_bits.specs.Truth.{bit_of}
use Rattle.db_store.specs.Layout.{Row, differ, slots_where}
use Rattle.hybrid_view.specs.Deltas.{slots_of}

pub slots_more : (p : ℕ → Bool) (n : ℕ) → slots_where p (n + 1) ≡ slots_where p n ++ cond (p n) (n ∷ []) []
slots_more p n =
    sym (ap (filter p) (map-id (range_with_len 0 (n + 1))))
    ∙ filter_of_map_range_with_len_more p (λ x. x) 0 n n (zero-add n)
    ∙ ap (λ xs. filter p xs ++ cond (p n) (n ∷ []) []) (map-id (range_with_len 0 n))

pub slots_agree : (p q : ℕ → Bool) (n : ℕ) → ((s : ℕ) → s < n → p s ≡ q s) → slots_where p n ≡ slots_where q n
slots_agree p q zero f = refl
slots_agree p q (suc n) f =
    let one : suc n ≡ n + 1 = omega arith in
    ap (slots_where p) one
    ∙ slots_more p n
    ∙ ap (λ xs. xs ++ cond (p n) (n ∷ []) []) (slots_agree p q n (λ s h. f s (omega (arith, h))))
    ∙ ap (λ b. slots_where q n ++ cond b (n ∷ []) []) (f n (omega arith))
    ∙ sym (slots_more q n)
    ∙ ap (slots_where q) (sym one)

-- where the test fails from a number on, no more slots come
pub slots_stop : (p : ℕ → Bool) (n k : ℕ) → ((s : ℕ) → n ≤ s → p s ≡ false) → slots_where p (n + k) ≡ slots_where p n
slots_stop p n zero f = ap (slots_where p) (omega arith)
slots_stop p n (suc k) f =
    let one : n + suc k ≡ (n + k) + 1 = omega arith in
    ap (slots_where p) one
    ∙ slots_more p (n + k)
    ∙ ap (λ b. slots_where p (n + k) ++ cond b ((n + k) ∷ []) []) (f (n + k) (omega arith))
    ∙ append-nil (slots_where p (n + k))
    ∙ slots_stop p n k f

-- the slots of a bitmap, by any test that agrees with it below a number that is no less than its length
pub slots_by : (bits : List Bool) (q : ℕ → Bool) (n : ℕ) → length bits ≤ n → ((s : ℕ) → s < n → bit_of bits s ≡ q s) → slots_of bits ≡ slots_where q n
slots_by bits q n h f =
    let k : n ≡ length bits + (n - length bits) = omega (arith, h) in
    sym (slots_stop (bit_of bits) (length bits) (n - length bits) (λ s g. get_or_past bits s false g))
    ∙ ap (slots_where (bit_of bits)) (sym k)
    ∙ slots_agree (bit_of bits) q n f

-- what two bitmaps differ in is the delta of a row after a commit: the old one is the row at its last position, and the new one the row after it
pub delta_is : (old new delta : List Bool) (row : Row) (records longer : ℕ) (before after : ℕ → Bool) → length delta ≤ longer
    → ((s : ℕ) → bit_of delta s ≡ differ (bit_of old s) (bit_of new s)) → ((s : ℕ) → bit_of old s ≡ before s) → ((s : ℕ) → s < longer → bit_of new s ≡ after s)
    → slots_of delta ≡ slots_where (λ s. differ (before s) (after s)) longer
delta_is old new delta row records longer before after h d b a = slots_by delta (λ s. differ (before s) (after s)) longer h (λ s l. d s ∙ (λ i. differ (b s i) (a s l i)))
