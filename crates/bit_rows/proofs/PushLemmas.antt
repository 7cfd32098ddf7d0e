-- A list whose items are changed one after another, from the last one on, each by the item of another list at its place.
use Rattle.std.proofs.Common.{◌≡◌, ◌≢◌, ◌⊎◌, inl, inr, ℕ, ◌<◌, ◌≤◌, ◌+◌, ◌∷◌, [], ◌++◌, ◌∙◌, List, length, set, get_or, arith, ap, sym, subst}
use Rattle.std.proofs.lemmas.Bool.{cases_eq, cases_lt}
use Rattle.std.proofs.lemmas.List.{length_push, length-set, get_or_push, get_or_append_left, get_or-set_same, get_or-set_other}

-- a number from the last one on that isn't it
past : (n long m i : ℕ) → m ≡ n → long ≡ n + 1 → n ≤ i → m ≢ i → long ≤ i
past n long m i e f h q = gone (cases_lt i long)
  where
    gone : (i < long) ⊎ (long ≤ i) → long ≤ i
    gone (inl l) = let z : m ≡ i = omega (arith, e, f, h, l) in absurd (q z)
    gone (inr g) = g

module _ {R N : Type 0} (dr : R) (dn : N) (rows olds : List R) (xs ys all : List N) (next : N) (m : ℕ) (at : m ≡ length ys) (split : xs ≡ ys ++ next ∷ [])
    (count : length rows ≡ length olds) (within : length xs ≤ length olds)
    (left : (i : ℕ) → i < length xs → get_or xs i dn ≡ get_or all i dn) (same : (i : ℕ) → i < length xs → get_or rows i dr ≡ get_or olds i dr) where
  long : length xs ≡ length ys + 1
  long = let e = ap (λ (zs : List N). length zs) split in let p = length_push ys next in omega (arith, e, p)

  pub push_below : m < length xs
  push_below = let e = long in omega (arith, e, at)

  pub push_there : m < length rows
  push_there = let b = push_below in omega (arith, b, within, count)

  pub push_next : next ≡ get_or all m dn
  push_next = sym (ap (λ (zs : List N). get_or zs m dn) split ∙ get_or_push ys next dn m (sym at)) ∙ left m push_below

  pub push_row : get_or rows m dr ≡ get_or olds m dr
  push_row = same m push_below

  pub push_within : length ys ≤ length olds
  push_within = let e = long in omega (arith, e, within)

  pub push_count : (x : R) → length (set rows m x) ≡ length olds
  push_count x = length-set rows m x ∙ count

  pub push_left : (i : ℕ) → i < length ys → get_or ys i dn ≡ get_or all i dn
  push_left i h =
      let e = long in
      sym (ap (λ (zs : List N). get_or zs i dn) split ∙ get_or_append_left ys (next ∷ []) dn i h) ∙ left i (omega (arith, h, e))

  pub push_same : (x : R) (i : ℕ) → i < length ys → get_or (set rows m x) i dr ≡ get_or olds i dr
  push_same x i h = let e = long in get_or-set_other rows m i x dr (λ q. omega (arith, q, h, at)) ∙ same i (omega (arith, h, e))

  pub push_done : (x : R) (Q : ℕ → R → Type 0) → ((i : ℕ) → length xs ≤ i → i < length olds → Q i (get_or rows i dr)) → Q m x → (i : ℕ) → length ys ≤ i → i < length olds → Q i (get_or (set rows m x) i dr)
  push_done x Q done now i h lt = by (cases_eq m i)
    where
      by : (m ≡ i) ⊎ (m ≢ i) → Q i (get_or (set rows m x) i dr)
      by (inl e) = subst (λ j. Q j (get_or (set rows m x) j dr)) e (subst (Q m) (sym (get_or-set_same rows m x dr push_there)) now)
      by (inr n) = subst (Q i) (sym (get_or-set_other rows m i x dr (λ e. n (sym e)))) (done i (past (length ys) (length xs) m i at long h n) lt)
