-- The rows of a branch, from an image of them.
use Rattle.std.proofs.Common.{◌≡◌, ◌≢◌, ◌⊎◌, inl, inr, ℕ, zero, suc, ◌+◌, ◌<◌, ◌≤◌, ◌==◌, Bool, true, false, cond, ◌&&◌, List, [], ◌∷◌, ◌++◌, map, filter, length, Option, Some, None, refl, sym, ap, subst, ◌∙◌, arith, append_assoc}
use Rattle.std.specs.Prelude.{nat_le}
use Rattle.std.specs.List.{All, flat_map, range_with_len}
use Rattle.std.proofs.lemmas.Bool.{eqb-true, eq-eqb, ne_eqb, cases_eq, leb-true, le-leb}
use Rattle.std.proofs.lemmas.List.{map-append, append-nil, length_push}
use Rattle.std.proofs.lemmas.List.Elements.{filter-append}
use Rattle.db_store.specs.Layout.{Segment, Row, records_at}
use Rattle.db_store.specs.LaidOut.{rises, row_at}
use Rattle.hybrid_view.specs.Deltas.{slots_of}
use Rattle.hybrid_store.specs.declared.parts.RowPart.{RowPart as RowLaid}
use Rattle.hybrid_store.specs.Parts.{row_laid}
use Rattle.hybrid_store.specs.Readers.{place_from, from_at, deltas_at}
use Rattle.image_text.specs.declared.image.RowPart.{RowPart}
use Rattle.image_text.proofs.Counted.{both_true}
use Rattle.db_image.specs.Parts.{bits_of, row_part}
use Rattle.db_image.specs.Images.{delta_image, row_with}
use Rattle.db_image.specs.Imaged.{AreSlots, IsRowOf}
use Rattle.db_image.proofs.DeltaBack.{delta_back}

abbrev none_of : List RowLaid
none_of = []

abbrev none_laid : List Row
none_laid = []

-- ---- the row of one branch, among those of a segment

abbrev of_branch : ℕ → RowLaid → Bool
of_branch b x = x.branch == b

module _ (from : ℕ → Option ℕ) (deltas : ℕ → List (List ℕ)) (size b : ℕ) where
  abbrev with_row : ℕ → List RowPart
  with_row c = row_with c (from c) (deltas c)

  abbrev own : List RowPart → List RowLaid
  own rows = filter (of_branch b) (map (row_part size) rows)

  own_split : (xs ys : List RowPart) → own (xs ++ ys) ≡ own xs ++ own ys
  own_split xs ys = ap (filter (of_branch b)) (map-append (row_part size) xs ys) ∙ filter-append (of_branch b) (map (row_part size) xs) (map (row_part size) ys)

  own_other : (c : ℕ) (f : Option ℕ) (ds : List (List ℕ)) → c ≢ b → own (row_with c f ds) ≡ none_of
  own_other c None ds n = refl
  own_other c (Some k) ds n = ap (λ q. cond q (row_part size (record { branch = c; from = k; deltas = map delta_image ds }) ∷ []) []) (ne_eqb c b n)

  own_one : (c : ℕ) (f : Option ℕ) (ds : List (List ℕ)) → c ≡ b → own (row_with c f ds) ≡ map (row_part size) (row_with c f ds)
  own_one c None ds e = refl
  own_one c (Some k) ds e = ap (λ q. cond q (row_part size (record { branch = c; from = k; deltas = map delta_image ds }) ∷ []) []) (eq-eqb c b e)

  own_past : (n a : ℕ) → b < a → own (flat_map with_row (range_with_len a n)) ≡ none_of
  own_past zero a l = refl
  own_past (suc n) a l =
      own_split (with_row a) (flat_map with_row (range_with_len (a + 1) n))
      ∙ (λ i. own_other a (from a) (deltas a) (λ e. omega (arith, e, l)) i ++ own_past n (a + 1) (omega (arith, l)) i)

  pub own_row : (n a : ℕ) → a ≤ b → b < a + n → own (flat_map with_row (range_with_len a n)) ≡ map (row_part size) (with_row b)
  own_row zero a g l = absurd (omega (arith, g, l))
  own_row (suc n) a g l = own_split (with_row a) (flat_map with_row (range_with_len (a + 1) n)) ∙ at (cases_eq a b) (λ m. own_row n (a + 1) (omega (arith, g, m)) (omega (arith, l)))
    where
      at : (a ≡ b) ⊎ (a ≢ b) → (a ≢ b → own (flat_map with_row (range_with_len (a + 1) n)) ≡ map (row_part size) (with_row b)) → own (with_row a) ++ own (flat_map with_row (range_with_len (a + 1) n)) ≡ map (row_part size) (with_row b)
      at (inl e) later =
          (λ i. own_one a (from a) (deltas a) e i ++ own_past n (a + 1) (omega (arith, e)) i)
          ∙ append-nil (map (row_part size) (with_row a))
          ∙ ap (λ c. map (row_part size) (with_row c)) e
      at (inr m) later = λ i. own_other a (from a) (deltas a) m i ++ later m i

-- ---- a row and back

abbrev pub back : ℕ → ℕ → ℕ → Option ℕ → List (List ℕ) → List Row
back s size b f ds = map (row_laid s) (map (row_part size) (row_with b f ds))

deltas_back : (size : ℕ) (ds : List (List ℕ)) → All (AreSlots size) ds → map slots_of (map (bits_of size) (map delta_image ds)) ≡ ds
deltas_back size [] all = refl
deltas_back size (d ∷ ds) all = λ i. delta_back size d (all 0 d (omega arith)) i ∷ deltas_back size ds (λ k e l. all (suc k) e (omega (arith, l))) i

-- the first of the rows that is of a segment
abbrev pub first_of : List Row → ℕ → List Row
first_of [] s = []
first_of (x ∷ xs) s = cond (x.segment == s) (x ∷ []) (first_of xs s)

one_back : (s size b : ℕ) (x : Row) → x.segment ≡ s → All (AreSlots size) x.deltas → back s size b (Some x.from) x.deltas ≡ x ∷ []
one_back s size b x e all = λ i. (record { segment = sym e i; from = x.from; deltas = deltas_back size x.deltas all i }) ∷ []

at_end : (front : List Row) (x : Row) (xs : List Row) → row_at (front ++ x ∷ xs) (length front) ≡ x
at_end [] x xs = refl
at_end (y ∷ ys) x xs = at_end ys x xs

module _ (ss : List Segment) (b s : ℕ) where
  abbrev size : ℕ
  size = length (records_at ss s)

  abbrev seen : List Row → Option ℕ → List Row
  seen rows p = back s size b (from_at rows p) (deltas_at rows p)

  seen_from : (rows front : List Row) → All (IsRowOf ss) rows → seen (front ++ rows) (place_from (length front) rows s) ≡ first_of rows s
  seen_from [] front all = refl
  seen_from (x ∷ xs) front all = at (x.segment == s) refl (seen_from xs (front ++ x ∷ []) (λ k d l. all (suc k) d (omega (arith, l))))
    where
      at : (q : Bool) → (x.segment == s) ≡ q → seen ((front ++ x ∷ []) ++ xs) (place_from (length (front ++ x ∷ [])) xs s) ≡ first_of xs s
          → seen (front ++ x ∷ xs) (cond q (Some (length front)) (place_from (length front + 1) xs s)) ≡ cond q (x ∷ []) (first_of xs s)
      at true e later =
          let same : x.segment ≡ s = eqb-true x.segment s e in
          ap (λ (y : Row). back s size b (Some y.from) y.deltas) (at_end front x xs)
          ∙ one_back s size b x same (subst (λ k. All (AreSlots (length (records_at ss k))) x.deltas) same (all 0 x (omega arith)).slots)
      at false e later = (λ i. seen (sym (append_assoc front (x ∷ []) xs) i) (place_from (sym (length_push front x) i) xs s)) ∙ later

  pub row_seen : (rows : List Row) → All (IsRowOf ss) rows → seen rows (place_from 0 rows s) ≡ first_of rows s
  row_seen rows all = seen_from rows [] all

-- ---- all rows

none_first : (rows : List Row) (low : ℕ) → rises (suc low) rows ≡ true → first_of rows low ≡ none_laid
none_first [] low e = refl
none_first (x ∷ xs) low e =
    let two = both_true (nat_le (suc low) x.segment) (rises (suc x.segment) xs) e in
    let more = leb-true (suc low) x.segment two.0 in
    ap (λ q. cond q (x ∷ []) (first_of xs low)) (ne_eqb x.segment low (λ f. omega (arith, f, more)))
    ∙ none_first xs low (lower xs (suc x.segment) (suc low) (omega (arith, more)) two.1)
  where
    lower : (rows : List Row) (high low : ℕ) → low ≤ high → rises high rows ≡ true → rises low rows ≡ true
    lower [] high low h e = refl
    lower (y ∷ ys) high low h e =
        let two = both_true (nat_le high y.segment) (rises (suc y.segment) ys) e in
        let more = leb-true high y.segment two.0 in
        (λ i. le-leb low y.segment (omega (arith, h, more)) i && two.1 i)

-- segments past the first row's
later_first : (x : Row) (xs : List Row) (n a : ℕ) → x.segment < a → flat_map (first_of (x ∷ xs)) (range_with_len a n) ≡ flat_map (first_of xs) (range_with_len a n)
later_first x xs zero a l = refl
later_first x xs (suc n) a l = λ i. ap (λ q. cond q (x ∷ []) (first_of xs a)) (ne_eqb x.segment a (λ e. omega (arith, e, l))) i ++ later_first x xs n (a + 1) (omega (arith, l)) i

no_rows : (n a : ℕ) → flat_map (first_of none_laid) (range_with_len a n) ≡ none_laid
no_rows zero a = refl
no_rows (suc n) a = no_rows n (a + 1)

pub all_first : (n low : ℕ) (rows : List Row) → rises low rows ≡ true → All (λ (x : Row). x.segment < low + n) rows → flat_map (first_of rows) (range_with_len low n) ≡ rows
all_first n low [] e all = no_rows n low
all_first zero low (x ∷ xs) e all =
    let two = both_true (nat_le low x.segment) (rises (suc x.segment) xs) e in
    absurd (let h = leb-true low x.segment two.0 in let l = all 0 x (omega arith) in omega (arith, h, l))
all_first (suc n) low (x ∷ xs) e all =
    at (cases_eq x.segment low) (λ r. all_first n (low + 1) xs r (λ k d l. let h = all (suc k) d (omega (arith, l)) in omega (arith, h))) (λ r. all_first n (low + 1) (x ∷ xs) r (λ k d l. let h = all k d l in omega (arith, h)))
  where
    two : (nat_le low x.segment ≡ true) × (rises (suc x.segment) xs ≡ true)
    two = both_true (nat_le low x.segment) (rises (suc x.segment) xs) e

    at : (x.segment ≡ low) ⊎ (x.segment ≢ low) → (rises (low + 1) xs ≡ true → flat_map (first_of xs) (range_with_len (low + 1) n) ≡ xs)
        → (rises (low + 1) (x ∷ xs) ≡ true → flat_map (first_of (x ∷ xs)) (range_with_len (low + 1) n) ≡ x ∷ xs) → flat_map (first_of (x ∷ xs)) (range_with_len low (suc n)) ≡ x ∷ xs
    at (inl f) rest whole =
        let next : suc x.segment ≡ low + 1 = omega (arith, f) in
        (λ i. ap (λ q. cond q (x ∷ []) (first_of xs low)) (eq-eqb x.segment low f) i ++ later_first x xs n (low + 1) (omega (arith, f)) i)
        ∙ ap (λ l. x ∷ l) (rest (subst (λ k. rises k xs ≡ true) next two.1))
    at (inr m) rest whole =
        let more = leb-true low x.segment two.0 in
        let rise : rises (suc low) (x ∷ xs) ≡ true = λ i. le-leb (suc low) x.segment (omega (arith, more, m)) i && two.1 i in
        let next : suc low ≡ low + 1 = omega arith in
        (λ i. none_first (x ∷ xs) low rise i ++ whole (subst (λ k. rises k (x ∷ xs) ≡ true) next rise) i)
