-- The number of a branch's head, and its row.
use Rattle.std.proofs.Common.{◌≡◌, ◌≢◌, ◌⊎◌, inl, inr, ℕ, zero, suc, ◌-◌, ◌<◌, ◌≤◌, ◌==◌, ◌||◌, Bool, true, false, cond, List, [], ◌∷◌, ◌++◌, length, map, refl, arith, ap, sym, ◌∙◌}
use Rattle.std.proofs.lemmas.Bool.{cases_Bool, cases_eq, eq-eqb, eqb-true, ne_eqb, false≢true}
use Rattle.std.proofs.lemmas.List.{length-map, get_or-map}
use Rattle.db_value.specs.declared.record.Record.{Record}
use Rattle.db_store.specs.Layout.{Segment, Row, no_segment}
use Rattle.db_store.specs.LayoutGrowth.{is_head_of, segment_after}
use Rattle.db_store.specs.LaidOut.{head_at, row_at, no_row}
use Rattle.hybrid_view.specs.Live.{Piece, Lived, piece_at}
use Rattle.bit_rows.specs.Rows.{KeptRow, no_kept_row, kept_row_at, laid_row}
use Rattle.bit_rows.specs.Segments.{KeptRecords, no_rows, kept_at}
use Rattle.hybrid_store.specs.Lanes.{segment_of}
use Rattle.hybrid_store.specs.Stored.{head_in, has_row, HasHead, HasPiece, IsKeptAt}

eqb_suc : (s h : ℕ) → (suc s == suc h) ≡ (s == h)
eqb_suc s h = by (cases_eq s h)
  where
    by : (s ≡ h) ⊎ (s ≢ h) → (suc s == suc h) ≡ (s == h)
    by (inl e) = eq-eqb (suc s) (suc h) (ap suc e) ∙ sym (eq-eqb s h e)
    by (inr n) = ne_eqb (suc s) (suc h) (λ e. n (omega (arith, e))) ∙ sym (ne_eqb s h n)

-- the one segment that is the head of a branch is its first one
pub head_in_is : (b h : ℕ) (ss : List Segment) → h < length ss → ((s : ℕ) → s < length ss → is_head_of b (head_at ss s) ≡ (s == h)) → head_in b ss ≡ h
head_in_is b h [] lt is = absurd (omega (arith, lt))
head_in_is b zero (x ∷ ss) lt is = ap (λ t. cond t 0 (suc (head_in b ss))) (is 0 (omega arith))
head_in_is b (suc h) (x ∷ ss) lt is =
    ap (λ t. cond t 0 (suc (head_in b ss))) (is 0 (omega arith) ∙ ne_eqb 0 (suc h) (λ e. absurd (omega (arith, e))))
    ∙ ap suc (head_in_is b h ss (omega (arith, lt)) (λ s g. is (suc s) (omega (arith, g)) ∙ eqb_suc s h))

-- it stays while records are appended
pub head_after : (b c : ℕ) (new : List Record) (ss : List Segment) → head_in b (map (segment_after c new) ss) ≡ head_in b ss
head_after b c new [] = refl
head_after b c new (s ∷ ss) = ap (λ k. cond (is_head_of b s.head) 0 (suc k)) (head_after b c new ss)

or_right : (a b : Bool) → b ≡ true → (a || b) ≡ true
or_right true b t = refl
or_right false b t = t

-- a row of a segment, if there is one
pub has_at : (s : ℕ) (rows : List KeptRow) → has_row s rows ≡ true → (i : ℕ) × ((i < length rows) × ((kept_row_at rows i).segment ≡ s))
has_at s [] t = absurd (false≢true t)
has_at s (row ∷ rows) t = by (has_at s rows) (cases_Bool (row.segment == s))
  where
    by : (has_row s rows ≡ true → (i : ℕ) × ((i < length rows) × ((kept_row_at rows i).segment ≡ s))) → ((row.segment == s) ≡ true) ⊎ ((row.segment == s) ≡ false)
        → (i : ℕ) × ((i < length (row ∷ rows)) × ((kept_row_at (row ∷ rows) i).segment ≡ s))
    by later (inl e) = (0, (omega arith, eqb-true row.segment s e))
    by later (inr f) =
        let at = later (ap (λ b. b || has_row s rows) (sym f) ∙ t) in
        let lt = at.1.0 in (suc at.0, (omega (arith, lt), at.1.1))

pub at_has : (s : ℕ) (rows : List KeptRow) (i : ℕ) → i < length rows → (kept_row_at rows i).segment ≡ s → has_row s rows ≡ true
at_has s [] i lt e = absurd (omega (arith, lt))
at_has s (row ∷ rows) zero lt e = ap (λ b. b || has_row s rows) (eq-eqb row.segment s e)
at_has s (row ∷ rows) (suc i) lt e = or_right (row.segment == s) (has_row s rows) (at_has s rows i (omega (arith, lt)) e)

-- the last row is one of them
pub own_last : (s : ℕ) (rows : List KeptRow) (x : KeptRow) → x.segment ≡ s → has_row s (rows ++ x ∷ []) ≡ true
own_last s [] x e = ap (λ b. b || false) (eq-eqb x.segment s e)
own_last s (row ∷ rows) x e = or_right (row.segment == s) (has_row s (rows ++ x ∷ [])) (own_last s rows x e)

-- a branch with a row of its head has a row
pub own_some : (s : ℕ) (rows : List KeptRow) → has_row s rows ≡ true → 0 < length rows
own_some s rows t = let at = has_at s rows t in let lt = at.1.0 in omega (arith, lt)

-- the head is a segment that is there
pub own_there : (count s : ℕ) (rows : List KeptRow) → has_row s rows ≡ true → ((i : ℕ) → i < length (map laid_row rows) → (row_at (map laid_row rows) i).segment < count) → s < count
own_there count s rows t there =
    let at = has_at s rows t in
    let lt = at.1.0 in
    let n = length-map rows laid_row in
    let is = ap (λ (x : Row). x.segment) (get_or-map laid_row rows at.0 no_kept_row no_row at.1.0) ∙ at.1.1 in
    let below = there at.0 (omega (arith, lt, n)) in
    omega (arith, is, below)

-- what is kept of a branch tells its head
pub kept_head : (ks : List KeptRecords) (ws : List ℕ) (b n : ℕ) (rows : List KeptRow) (l : Lived) → ((i : ℕ) → i < length (map laid_row rows) → (row_at (map laid_row rows) i).segment < length (map segment_of ks))
    → IsKeptAt (map segment_of ks) ws b n rows l → HasHead b ks rows
kept_head ks ws b n rows l there at = record {
  there = λ i h.
      let k = length-map rows laid_row in
      let m = length-map ks segment_of in
      let is = ap (λ (x : Row). x.segment) (get_or-map laid_row rows i no_kept_row no_row h) in
      let below = there i (omega (arith, h, k)) in
      omega (arith, m, is, below);
  own = at.own;
  headed = at.headed;
}

-- ---- looking for the head, from the last row on

-- a row is of the head exactly if its segment is the branch's
head_test : (b : ℕ) (ks : List KeptRecords) (rows : List KeptRow) → HasHead b ks rows → (i : ℕ) → i < length rows → is_head_of b (kept_at ks (kept_row_at rows i).segment).head ≡ ((kept_row_at rows i).segment == head_in b (map segment_of ks))
head_test b ks rows h i lt =
    let s : ℕ = (kept_row_at rows i).segment in
    let n = length-map ks segment_of in
    let there = h.there i lt in
    ap (λ (x : Segment). is_head_of b x.head) (sym (get_or-map segment_of ks s no_rows no_segment there)) ∙ h.headed s (omega (arith, n, there))

pub head_found : (b : ℕ) (ks : List KeptRecords) (rows : List KeptRow) → HasHead b ks rows → (i : ℕ) → i < length rows → is_head_of b (kept_at ks (kept_row_at rows i).segment).head ≡ true → (kept_row_at rows i).segment ≡ head_in b (map segment_of ks)
head_found b ks rows h i lt t = eqb-true (kept_row_at rows i).segment (head_in b (map segment_of ks)) (sym (head_test b ks rows h i lt) ∙ t)

-- a row of the head stands at a place or before it
abbrev pub HeadBy : ℕ → List KeptRecords → List KeptRow → ℕ → Type 0
HeadBy b ks rows index = (i : ℕ) × ((i ≤ index) × ((index < length rows) × (is_head_of b (kept_at ks (kept_row_at rows i).segment).head ≡ true)))

pub head_first : (b : ℕ) (ks : List KeptRecords) (rows : List KeptRow) → HasHead b ks rows → HeadBy b ks rows (length rows - 1)
head_first b ks rows h =
    let at = has_at (head_in b (map segment_of ks)) rows h.own in
    let lt = at.1.0 in (
      at.0,
      (
        omega (arith, lt),
        (omega (arith, lt), head_test b ks rows h at.0 at.1.0 ∙ eq-eqb (kept_row_at rows at.0).segment (head_in b (map segment_of ks)) at.1.1),
      ),
    )

pub head_earlier : (b : ℕ) (ks : List KeptRecords) (rows : List KeptRow) (index : ℕ) → HeadBy b ks rows index → is_head_of b (kept_at ks (kept_row_at rows index).segment).head ≡ false → 0 < index
head_earlier b ks rows index by f = at (cases_eq by.0 index)
  where
    at : (by.0 ≡ index) ⊎ (by.0 ≢ index) → 0 < index
    at (inl e) = absurd (false≢true (sym f ∙ ap (λ i. is_head_of b (kept_at ks (kept_row_at rows i).segment).head) (sym e) ∙ by.1.1.1))
    at (inr n) = let le = by.1.0 in omega (arith, le, n)

pub head_next : (b : ℕ) (ks : List KeptRecords) (rows : List KeptRow) (index : ℕ) → HeadBy b ks rows index → is_head_of b (kept_at ks (kept_row_at rows index).segment).head ≡ false → HeadBy b ks rows (index - 1)
head_next b ks rows index by f = at (cases_eq by.0 index)
  where
    at : (by.0 ≡ index) ⊎ (by.0 ≢ index) → HeadBy b ks rows (index - 1)
    at (inl e) = absurd (false≢true (sym f ∙ ap (λ i. is_head_of b (kept_at ks (kept_row_at rows i).segment).head) (sym e) ∙ by.1.1.1))
    at (inr n) = let le = by.1.0 in let lt = by.1.1.0 in (by.0, (omega (arith, le, n), (omega (arith, lt), by.1.1.1)))

-- ---- and for its piece

-- a piece of a segment stands at a place or before it
abbrev pub PieceBy : ℕ → List Piece → ℕ → Type 0
PieceBy s ps index = (i : ℕ) × ((i ≤ index) × ((index < length ps) × ((piece_at ps i).segment ≡ s)))

pub piece_first : (s : ℕ) (ps : List Piece) → HasPiece s ps → PieceBy s ps (length ps - 1)
piece_first s ps h = let lt = h.1.0 in (h.0, (omega (arith, lt), (omega (arith, lt), h.1.1)))

pub piece_earlier : (s : ℕ) (ps : List Piece) (index : ℕ) → PieceBy s ps index → (piece_at ps index).segment ≢ s → 0 < index
piece_earlier s ps index by f = at (cases_eq by.0 index)
  where
    at : (by.0 ≡ index) ⊎ (by.0 ≢ index) → 0 < index
    at (inl e) = absurd (f (ap (λ i. (piece_at ps i).segment) (sym e) ∙ by.1.1.1))
    at (inr n) = let le = by.1.0 in omega (arith, le, n)

pub piece_next : (s : ℕ) (ps : List Piece) (index : ℕ) → PieceBy s ps index → (piece_at ps index).segment ≢ s → PieceBy s ps (index - 1)
piece_next s ps index by f = at (cases_eq by.0 index)
  where
    at : (by.0 ≡ index) ⊎ (by.0 ≢ index) → PieceBy s ps (index - 1)
    at (inl e) = absurd (f (ap (λ i. (piece_at ps i).segment) (sym e) ∙ by.1.1.1))
    at (inr n) = let le = by.1.0 in let lt = by.1.1.0 in (by.0, (omega (arith, le, n), (omega (arith, lt), by.1.1.1)))
