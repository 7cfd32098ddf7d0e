-- The rows after a grant and after a release, row by row.
use Rattle.std.proofs.Common.{◌≡◌, ◌⊎◌, inl, inr, ⊎_elim, ℕ, ◌==◌, nat_lt, Bool, true, false, cond, List, [], ◌∷◌, refl, sym, ap, ◌∙◌, subst}
use Rattle.std.proofs.lemmas.Bool.{eqb-true, eqb-false, false≢true, and_parts, or_cases}
use Rattle.lock_table.specs.declared.need.Need.{Need}
use Rattle.lock_table.specs.Rows.{Row}
use Rattle.lock_table.specs.Grants.{Has, row, equal_bits, is_row, is_there, place, granted, added, without}
use Rattle.lock_table.specs.Laws.{AddedLaw, WithoutLaw}

pub equal_is : (a b : Bool) → equal_bits a b ≡ true → a ≡ b
equal_is true b e = sym e
equal_is false true e = absurd (false≢true e)
equal_is false false e = refl

pub is_equal : (a : Bool) → equal_bits a a ≡ true
is_equal true = refl
is_equal false = refl

is_row_is : (s : ℕ) (n : Need) (r : Row) → is_row s n r ≡ true → r ≡ row s n
is_row_is s n r e =
    let two = and_parts _ _ e in let more = and_parts _ _ two.1 in
    let x : r.session ≡ s = eqb-true _ _ two.0 in let y : r.need.lock ≡ n.lock = eqb-true _ _ more.0 in let z : r.need.exclusive ≡ n.exclusive = equal_is _ _ more.1 in
    λ i. record { session = x i; need = record { lock = y i; exclusive = z i } }

there_has : (s : ℕ) (n : Need) (rows : List Row) → is_there s n rows ≡ true → Has rows (row s n)
there_has s n [] e = absurd (false≢true e)
there_has s n (r ∷ rs) e = ⊎_elim
    (λ (a : is_row s n r ≡ true). inl (is_row_is s n r a))
    (λ (a : is_there s n rs ≡ true). inr (there_has s n rs a))
    (or_cases _ _ e)

place_new : (x : Row) (rows : List Row) → Has (place x rows) x
place_new x [] = inl refl
place_new x (y ∷ ys) = at (nat_lt x.need.lock y.need.lock) (place_new x ys)
  where
    at : (b : Bool) → Has (place x ys) x → Has (cond b (x ∷ y ∷ ys) (y ∷ place x ys)) x
    at true h = inl refl
    at false h = inr h

place_old : (x : Row) (rows : List Row) (r : Row) → Has rows r → Has (place x rows) r
place_old x [] r h = absurd h
place_old x (y ∷ ys) r h = at (nat_lt x.need.lock y.need.lock) (λ g. place_old x ys r g)
  where
    at : (b : Bool) → (Has ys r → Has (place x ys) r) → Has (cond b (x ∷ y ∷ ys) (y ∷ place x ys)) r
    at true f = inr h
    at false f = ⊎_elim (λ (e : y ≡ r). inl e) (λ (g : Has ys r). inr (f g)) h

place_has : (x : Row) (rows : List Row) (r : Row) → Has (place x rows) r → (x ≡ r) ⊎ Has rows r
place_has x [] r h = h
place_has x (y ∷ ys) r h = at (nat_lt x.need.lock y.need.lock) (λ g. place_has x ys r g) h
  where
    at : (b : Bool) → (Has (place x ys) r → (x ≡ r) ⊎ Has ys r) → Has (cond b (x ∷ y ∷ ys) (y ∷ place x ys)) r → (x ≡ r) ⊎ Has (y ∷ ys) r
    at true f g = g
    at false f g = ⊎_elim (λ (e : y ≡ r). inr (inl e)) (λ (k : Has (place x ys) r). ⊎_elim (λ (e : x ≡ r). inl e) (λ (i : Has ys r). inr (inr i)) (f k)) g

granted_old : (s : ℕ) (n : Need) (rows : List Row) (r : Row) → Has rows r → Has (granted s n rows) r
granted_old s n rows r h = at (is_there s n rows)
  where
    at : (b : Bool) → Has (cond b rows (place (row s n) rows)) r
    at true = h
    at false = place_old (row s n) rows r h

granted_new : (s : ℕ) (n : Need) (rows : List Row) → Has (granted s n rows) (row s n)
granted_new s n rows = at (is_there s n rows) refl
  where
    at : (b : Bool) → is_there s n rows ≡ b → Has (cond b rows (place (row s n) rows)) (row s n)
    at true e = there_has s n rows e
    at false e = place_new (row s n) rows

granted_has : (s : ℕ) (n : Need) (rows : List Row) (r : Row) → Has (granted s n rows) r → (row s n ≡ r) ⊎ Has rows r
granted_has s n rows r h = at (is_there s n rows) h
  where
    at : (b : Bool) → Has (cond b rows (place (row s n) rows)) r → (row s n ≡ r) ⊎ Has rows r
    at true g = inr g
    at false g = place_has (row s n) rows r g

added_old : (s : ℕ) (ns : List Need) (rows : List Row) (r : Row) → Has rows r → Has (added s ns rows) r
added_old s [] rows r h = h
added_old s (n ∷ ns) rows r h = added_old s ns (granted s n rows) r (granted_old s n rows r h)

added_new : (s : ℕ) (ns : List Need) (rows : List Row) (n : Need) → Has ns n → Has (added s ns rows) (row s n)
added_new s [] rows n h = absurd h
added_new s (m ∷ ms) rows n h = ⊎_elim
    (λ (e : m ≡ n). added_old s ms (granted s m rows) (row s n) (subst (λ (k : Need). Has (granted s m rows) (row s k)) e (granted_new s m rows)))
    (λ (g : Has ms n). added_new s ms (granted s m rows) n g)
    h

added_has : (s : ℕ) (ns : List Need) (rows : List Row) (r : Row) → Has (added s ns rows) r → Has rows r ⊎ ((r.session ≡ s) × Has ns r.need)
added_has s [] rows r h = inl h
added_has s (n ∷ ns) rows r h = ⊎_elim
    (λ (g : Has (granted s n rows) r). ⊎_elim
    (λ (e : row s n ≡ r). inr (ap (λ (y : Row). y.session) (sym e), inl (ap (λ (y : Row). y.need) e)))
    (λ (k : Has rows r). inl k)
    (granted_has s n rows r g))
    (λ (p : (r.session ≡ s) × Has ns r.need). inr (p.0, inr p.1))
    (added_has s ns (granted s n rows) r h)

pub added_law : AddedLaw
added_law s ns rows r = (
  added_has s ns rows r,
  λ h. ⊎_elim
      (λ (g : Has rows r). added_old s ns rows r g)
      (λ (p : (r.session ≡ s) × Has ns r.need). subst (λ (u : ℕ). Has (added s ns rows) (row u r.need)) (sym p.0) (added_new s ns rows r.need p.1))
      h,
)

without_has : (s : ℕ) (rows : List Row) (r : Row) → Has (without s rows) r → Has rows r × (r.session ≡ s → ⊥)
without_has s [] r h = absurd h
without_has s (x ∷ xs) r h = at (x.session == s) refl (λ g. without_has s xs r g) h
  where
    at : (b : Bool) → (x.session == s) ≡ b → (Has (without s xs) r → Has xs r × (r.session ≡ s → ⊥)) → Has (cond b (without s xs) (x ∷ without s xs)) r → Has (x ∷ xs) r × (r.session ≡ s → ⊥)
    at true e f g = (inr (f g).0, (f g).1)
    at false e f g = ⊎_elim
        (λ (a : x ≡ r). (inl a, λ i. eqb-false x.session s e (ap (λ (y : Row). y.session) a ∙ i)))
        (λ (k : Has (without s xs) r). (inr (f k).0, (f k).1))
        g

has_without : (s : ℕ) (rows : List Row) (r : Row) → Has rows r → (r.session ≡ s → ⊥) → Has (without s rows) r
has_without s [] r h o = absurd h
has_without s (x ∷ xs) r h o = at (x.session == s) refl (λ g. has_without s xs r g o)
  where
    at : (b : Bool) → (x.session == s) ≡ b → (Has xs r → Has (without s xs) r) → Has (cond b (without s xs) (x ∷ without s xs)) r
    at true e f = ⊎_elim (λ (a : x ≡ r). absurd (o (ap (λ (y : Row). y.session) (sym a) ∙ eqb-true _ _ e))) (λ (g : Has xs r). f g) h
    at false e f = ⊎_elim (λ (a : x ≡ r). inl a) (λ (g : Has xs r). inr (f g)) h

pub without_law : WithoutLaw
without_law s rows r = (without_has s rows r, λ h. has_without s rows r h.0 h.1)
