-- The rows of a new branch are begun of its pieces.
use Rattle.std.proofs.Common.{◌≡◌, ◌⊎◌, inl, inr, ℕ, zero, suc, ◌+◌, ◌<◌, ◌≤◌, Bool, true, false, cond, List, [], ◌∷◌, ◌++◌, length, map, refl, arith, ap, sym, ◌∙◌}
use Rattle.std.specs.Prelude.{filter}
use Rattle.std.specs.List.{flat_map}
use Rattle.std.proofs.lemmas.Bool.{cases_lt, and_parts, leb-true, false≢true}
use Rattle.std.proofs.lemmas.List.{map-append, get_or_past}
use Rattle.plain_bits.specs.Truth.{bit_of}
use Rattle.db_store.specs.Layout.{Segment, Row, has, bit, slots_where, records_at, head_row}
use Rattle.db_store.specs.LayoutGrowth.{row_of, carried, new_head, rows_begun}
use Rattle.db_store.specs.LaidOut.{row_at, rises}
use Rattle.db_store.proofs.BitLemmas.{has_where}
use Rattle.hybrid_view.specs.Deltas.{slots_of}
use Rattle.hybrid_view.specs.Live.{Piece, piece_at, has_live, begun_pieces}
use Rattle.hybrid_view.specs.RowPlaces.{Shows, AllShow}
use Rattle.hybrid_view.proofs.DeltaLemmas.{slots_by, slots_stop}
use Rattle.hybrid_view.proofs.PlaceLemmas.{shown_shorter}
use Rattle.hybrid_view.proofs.BegunLemmas.{all_tell}
use Rattle.bit_rows.specs.Rows.{laid_row, begun_row}
use Rattle.bit_rows.proofs.ShortLemmas.{short_slots}
use Rattle.hybrid_store.specs.Begun.{empty_head}

-- no piece has bits past its records
abbrev pub AreCovered : List Piece → Type 0
AreCovered ps = (i : ℕ) → i < length ps → length (piece_at ps i).bits ≤ length (piece_at ps i).rows.records

module _ (ss : List Segment) (n : ℕ) (row : Row) (p : Piece) (shows : Shows ss n row p) (covered : length p.bits ≤ length p.rows.records) where
  slots_shown : slots_where (bit row n) (length (records_at ss row.segment)) ≡ slots_of p.bits
  slots_shown =
      let e = shown_shorter ss n row p shows in
      sym (slots_by p.bits (bit row n) (length (records_at ss row.segment)) (omega (arith, e, covered)) (λ s h. shows.bits s))

  begun_is : laid_row (begun_row p) ≡ record { segment = p.segment; from = 0; deltas = slots_of p.bits ∷ [] }
  begun_is = ap (λ (xs : List ℕ). record { segment = p.segment; from = 0; deltas = xs ∷ [] }) (short_slots (bit_of p.bits) (length p.bits))

  one_covered : (i : ℕ) → i < 1 → length (piece_at (p ∷ []) i).bits ≤ length (piece_at (p ∷ []) i).rows.records
  one_covered zero h = covered
  one_covered (suc i) h = absurd (omega (arith, h))

  some_row : (xs : List ℕ) → slots_of p.bits ≡ xs → has_live p ≡ true → row_of row.segment xs ≡ record { segment = row.segment; from = 0; deltas = xs ∷ [] } ∷ []
  some_row [] e t = let live = (all_tell (p ∷ []) one_covered).0.some t in absurd (none live.0 live.1 (cases_lt live.0 (length p.bits)))
    where
      none : (s : ℕ) → bit_of p.bits s ≡ true → (s < length p.bits) ⊎ (length p.bits ≤ s) → ⊥
      none s b (inl l) = false≢true (sym (ap (λ (xs : List ℕ). has xs s) e) ∙ has_where (bit_of p.bits) (length p.bits) s l ∙ b)
      none s b (inr g) = false≢true (sym (get_or_past p.bits s false g) ∙ b)
  some_row (x ∷ xs) e t = refl

  pub carried_one : (b : Bool) → has_live p ≡ b → carried ss n row ≡ cond b (laid_row (begun_row p) ∷ []) []
  carried_one true t =
      ap (row_of row.segment) slots_shown
      ∙ some_row (slots_of p.bits) refl t
      ∙ ap (λ s. record { segment = s; from = 0; deltas = slots_of p.bits ∷ [] } ∷ []) (sym shows.segment)
      ∙ ap (λ (x : Row). x ∷ []) (sym begun_is)
  carried_one false f =
      let zero_is : length p.bits ≡ 0 + length p.bits = omega arith in
      ap (row_of row.segment)
      (slots_shown ∙ ap (slots_where (bit_of p.bits)) zero_is ∙ slots_stop (bit_of p.bits) 0 (length p.bits) (λ s h. (all_tell (p ∷ []) one_covered).0.none f s))

-- the rows that are carried over
pub carried_all : (ss : List Segment) (n : ℕ) (rows : List Row) (ps : List Piece) → AllShow ss n rows ps → AreCovered ps → flat_map (carried ss n) rows ≡ map laid_row (map begun_row (filter has_live ps))
carried_all ss n [] [] shown covered = refl
carried_all ss n [] (p ∷ ps) shown covered = absurd shown
carried_all ss n (row ∷ rows) [] shown covered = absurd shown
carried_all ss n (row ∷ rows) (p ∷ ps) shown covered =
    (λ i. carried_one ss n row p shown.0 (covered 0 (omega arith)) (has_live p) refl i ++ carried_all ss n rows ps shown.1 (λ i h. covered (suc i) (omega (arith, h))) i)
    ∙ joined (has_live p) (filter has_live ps)
  where
    joined : (b : Bool) (xs : List Piece) → cond b (laid_row (begun_row p) ∷ []) [] ++ map laid_row (map begun_row xs) ≡ map laid_row (map begun_row (cond b (p ∷ xs) xs))
    joined true xs = refl
    joined false xs = refl

-- all rows of a new branch
pub begun_all : (q : Bool) (ss : List Segment) (n : ℕ) (ws : List ℕ) (rows : List Row) (ps : List Piece) → AllShow ss n rows ps → AreCovered ps
    → map laid_row (map begun_row (begun_pieces ps (empty_head (new_head q ss) ws))) ≡ rows_begun q n ss rows
begun_all q ss n ws rows ps shown covered =
    let head : Piece = empty_head (new_head q ss) ws in
    ap (map laid_row) (map-append begun_row (filter has_live ps) (head ∷ []))
    ∙ map-append laid_row (map begun_row (filter has_live ps)) (begun_row head ∷ [])
    ∙ ap (λ (xs : List Row). xs ++ head_row (new_head q ss) 0 ∷ []) (sym (carried_all ss n rows ps shown covered))

-- rows stand by ascending segment, so there are no more of them than segments
pub rows_few : (low m : ℕ) (rows : List Row) → rises low rows ≡ true → low ≤ m → ((i : ℕ) → i < length rows → (row_at rows i).segment < m) → low + length rows ≤ m
rows_few low m [] e h f = omega (arith, h)
rows_few low m (row ∷ rows) e h f =
    let two = and_parts _ _ e in
    let up = leb-true low row.segment two.0 in
    let here = f 0 (omega arith) in
    let rest = rows_few (suc row.segment) m rows two.1 (omega (arith, here)) (λ i g. f (suc i) (omega (arith, g))) in
    omega (arith, up, rest)

-- what holds of pieces and of another one holds of those that are kept with it
pub kept_all : (P : Piece → Type 0) (keep : Piece → Bool) (ps : List Piece) (head : Piece) → ((i : ℕ) → i < length ps → P (piece_at ps i)) → P head
    → (i : ℕ) → i < length (filter keep ps ++ head ∷ []) → P (piece_at (filter keep ps ++ head ∷ []) i)
kept_all P keep [] head f h zero lt = h
kept_all P keep [] head f h (suc i) lt = absurd (omega (arith, lt))
kept_all P keep (p ∷ ps) head f h i lt = by (keep p) (kept_all P keep ps head (λ i g. f (suc i) (omega (arith, g))) h) i lt
  where
    by : (b : Bool) → ((i : ℕ) → i < length (filter keep ps ++ head ∷ []) → P (piece_at (filter keep ps ++ head ∷ []) i))
        → (i : ℕ) → i < length (cond b (p ∷ filter keep ps) (filter keep ps) ++ head ∷ []) → P (piece_at (cond b (p ∷ filter keep ps) (filter keep ps) ++ head ∷ []) i)
    by true rest zero lt = f 0 (omega arith)
    by true rest (suc i) lt = rest i (omega (arith, lt))
    by false rest i lt = rest i lt

pub more_all : (P : Piece → Type 0) (ps : List Piece) (head : Piece) → ((i : ℕ) → i < length ps → P (piece_at ps i)) → P head → (i : ℕ) → i < length (ps ++ head ∷ []) → P (piece_at (ps ++ head ∷ []) i)
more_all P [] head f h zero lt = h
more_all P [] head f h (suc i) lt = absurd (omega (arith, lt))
more_all P (p ∷ ps) head f h zero lt = f 0 (omega arith)
more_all P (p ∷ ps) head f h (suc i) lt = more_all P ps head (λ i g. f (suc i) (omega (arith, g))) h i (omega (arith, lt))
