-- Each branch is the head of one segment.
use Rattle.std.proofs.Common.{◌≡◌, ◌≢◌, ◌⊎◌, inl, inr, ℕ, zero, suc, ◌-◌, ◌<◌, ◌==◌, Bool, true, cond, List, [], ◌∷◌, length, replicate, get_or, refl, sym, ap, ◌∙◌, arith}
use Rattle.std.specs.Prelude.{set}
use Rattle.std.specs.List.{list_all}
use Rattle.std.proofs.lemmas.Bool.{eqb-true, eq-eqb, ne_eqb, cases_eq}
use Rattle.std.proofs.lemmas.List.{length-set, length-replicate, get_or-set_same, get_or-set_other}
use Rattle.db_store.specs.LayoutGrowth.{is_head_of}
use Rattle.image_text.specs.declared.image.SegmentPart.{SegmentPart}
use Rattle.image_text.proofs.Counted.{both_true}
use Rattle.image_parts.specs.Whole.{is_kept, one_more, counts_from, heads_once}
use Rattle.db_image.specs.Parts.{head_part}

-- how many segments a branch is the head of
abbrev pub heads_of : ℕ → List SegmentPart → ℕ
heads_of b [] = 0
heads_of b (s ∷ ss) = cond (s.head == suc b) (suc (heads_of b ss)) (heads_of b ss)

-- so many more, where no more than 2 are counted
abbrev pub steps : ℕ → ℕ → ℕ
steps zero c = c
steps (suc k) c = steps k (one_more c)

abbrev counted_next : List ℕ → ℕ → List ℕ
counted_next counts h = cond (h == 0) counts (set counts (h - 1) (one_more (get_or counts (h - 1) 0)))

one_counted : (counts : List ℕ) (b h : ℕ) → b < length counts → (k : ℕ) → steps k (get_or (counted_next counts h) b 0) ≡ steps (cond (h == suc b) (suc k) k) (get_or counts b 0)
one_counted counts b zero l k = ap (λ q. steps (cond q (suc k) k) (get_or counts b 0)) (sym (ne_eqb 0 (suc b) (λ e. omega (arith, e))))
one_counted counts b (suc c) l k = ap (λ q. steps k (get_or (cond q counts (set counts (suc c - 1) (one_more (get_or counts (suc c - 1) 0)))) b 0)) (ne_eqb (suc c) 0 (λ e. omega (arith, e))) ∙ at (cases_eq b c)
  where
    at : (b ≡ c) ⊎ (b ≢ c) → steps k (get_or (set counts (suc c - 1) (one_more (get_or counts (suc c - 1) 0))) b 0) ≡ steps (cond (suc c == suc b) (suc k) k) (get_or counts b 0)
    at (inl e) =
        let less : suc c - 1 ≡ c = omega arith in
        ap (λ i. steps k (get_or (set counts i (one_more (get_or counts i 0))) b 0)) (omega (arith, e))
        ∙ ap (steps k) (get_or-set_same counts b (one_more (get_or counts b 0)) 0 l)
        ∙ ap (λ q. steps (cond q (suc k) k) (get_or counts b 0)) (sym (eq-eqb (suc c) (suc b) (ap suc (sym e))))
    at (inr n) =
        ap (steps k) (get_or-set_other counts (suc c - 1) b (one_more (get_or counts (suc c - 1) 0)) 0 (λ e. n (omega (arith, e))))
        ∙ ap (λ q. steps (cond q (suc k) k) (get_or counts b 0)) (sym (ne_eqb (suc c) (suc b) (λ e. n (omega (arith, e)))))

same_length : (counts : List ℕ) (h : ℕ) → length (counted_next counts h) ≡ length counts
same_length counts zero = refl
same_length counts (suc c) = ap (λ q. length (cond q counts (set counts (suc c - 1) (one_more (get_or counts (suc c - 1) 0))))) (ne_eqb (suc c) 0 (λ e. omega (arith, e))) ∙ length-set counts (suc c - 1) (one_more (get_or counts (suc c - 1) 0))

pub counts_are : (b : ℕ) (counts : List ℕ) (ss : List SegmentPart) → b < length counts → get_or (counts_from counts ss) b 0 ≡ steps (heads_of b ss) (get_or counts b 0)
unfolding counts_from
counts_are b counts [] l = refl
counts_are b counts (s ∷ ss) l =
    counts_are b (counted_next counts s.head) ss (let e = same_length counts s.head in omega (arith, e, l))
    ∙ one_counted counts b s.head l (heads_of b ss)

pub length_counts : (counts : List ℕ) (ss : List SegmentPart) → length (counts_from counts ss) ≡ length counts
unfolding counts_from
length_counts counts [] = refl
length_counts counts (s ∷ ss) = length_counts (counted_next counts s.head) ss ∙ same_length counts s.head

two_stay : (k : ℕ) → steps k 2 ≡ 2
two_stay zero = refl
two_stay (suc k) = two_stay k

one_is : (k : ℕ) → steps k 0 ≡ 1 → k ≡ 1
one_is zero e = absurd (omega (arith, e))
one_is (suc zero) e = refl
one_is (suc (suc k)) e = absurd (let t = two_stay k in omega (arith, e, t))

abbrev zeros : ℕ → List ℕ
zeros n = replicate n 0

pub zero_in : (n b : ℕ) → get_or (zeros n) b 0 ≡ 0
zero_in zero b = refl
zero_in (suc n) zero = refl
zero_in (suc n) (suc b) = zero_in n b

pub all_at : {X : Type 0} (p : X → Bool) (xs : List X) (i : ℕ) (d : X) → list_all p xs ≡ true → i < length xs → p (get_or xs i d) ≡ true
all_at p [] i d e l = absurd (omega (arith, l))
all_at p (x ∷ xs) zero d e l = (both_true (p x) (list_all p xs) e).0
all_at p (x ∷ xs) (suc i) d e l = all_at p xs i d (both_true (p x) (list_all p xs) e).1 (omega (arith, l))

pub one_head : (n b : ℕ) (ss : List SegmentPart) → heads_once n ss ≡ true → b < n → heads_of b ss ≡ 1
one_head n b ss e l =
    let two = both_true (list_all is_kept ss) (list_all (λ c. c == 1) (counts_from (replicate n 0) ss)) e in
    let len = length_counts (replicate n 0) ss in
    let r = length-replicate {A = ℕ} n 0 in
    let one = eqb-true (get_or (counts_from (replicate n 0) ss) b 0) 1 (all_at (λ c. c == 1) (counts_from (replicate n 0) ss) b 0 two.1 (omega (arith, l, len, r))) in
    one_is (heads_of b ss) (sym (counts_are b (replicate n 0) ss (omega (arith, l, r)) ∙ ap (steps (heads_of b ss)) (zero_in n b)) ∙ one)

-- the layout's word for it
pub is_head : (b h : ℕ) → is_head_of b (head_part h) ≡ (h == suc b)
is_head b zero = sym (ne_eqb 0 (suc b) (λ e. omega (arith, e)))
is_head b (suc c) = at (cases_eq b c)
  where
    at : (b ≡ c) ⊎ (b ≢ c) → (b == c) ≡ (suc c == suc b)
    at (inl e) = eq-eqb b c e ∙ sym (eq-eqb (suc c) (suc b) (ap suc (sym e)))
    at (inr n) = ne_eqb b c n ∙ sym (ne_eqb (suc c) (suc b) (λ e. n (omega (arith, e))))
