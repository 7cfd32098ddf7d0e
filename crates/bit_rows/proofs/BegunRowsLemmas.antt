-- Rows that have not begun by a position have nothing live there: what holds of all rows holds of those that have.
use Rattle.std.proofs.Common.{◌≡◌, ◌⊎◌, inl, inr, ℕ, zero, suc, ◌+◌, ◌-◌, ◌<◌, ◌≤◌, ◌&&◌, nat_le, Bool, true, false, cond, List, [], ◌∷◌, ◌++◌, length, map, take, refl, arith, ap, sym, ◌∙◌, subst}
use Rattle.std.specs.List.{flat_map}
use Rattle.std.proofs.lemmas.List.{length-map, get_or-map}
use Rattle.std.proofs.lemmas.Bool.{and_parts, and_from, leb-true, le-leb, leb-false}
use Rattle.db_value.specs.declared.record.Record.{Record}
use Rattle.db_store.specs.Layout.{Segment, Row, bit, combined, slots_where, records_at, live_from, live_of, live_in}
use Rattle.db_store.specs.LayoutGrowth.{row_of, carried, new_head, rows_begun}
use Rattle.db_store.specs.Layout.{head_row}
use Rattle.db_store.specs.LaidOut.{IsRow, AreRows, no_row, rises as row_rises}
use Rattle.hybrid_view.proofs.DeltaLemmas.{slots_stop}
use Rattle.bit_rows.specs.Rows.{KeptRow, no_kept_row, kept_row_at, laid_row}
use Rattle.bit_rows.specs.Seen.{is_begun, begun_by}

-- ---- each of them

pub each_begun : (P : KeptRow → Type 0) (n : ℕ) (rows : List KeptRow) → ((i : ℕ) → i < length rows → P (kept_row_at rows i)) → (i : ℕ) → i < length (begun_by n rows) → P (kept_row_at (begun_by n rows) i)
each_begun P n [] f = λ i h. absurd (omega (arith, h))
each_begun P n (row ∷ rows) f = by (is_begun n row) (each_begun P n rows (λ i g. f (suc i) (omega (arith, g))))
  where
    by : (b : Bool) → ((i : ℕ) → i < length (begun_by n rows) → P (kept_row_at (begun_by n rows) i)) → (i : ℕ) → i < length (cond b (row ∷ begun_by n rows) (begun_by n rows)) → P (kept_row_at (cond b (row ∷ begun_by n rows) (begun_by n rows)) i)
    by true rest zero h = f 0 (omega arith)
    by true rest (suc i) h = rest i (omega (arith, h))
    by false rest i h = rest i h

-- there are no more of them
pub begun_few : (n : ℕ) (rows : List KeptRow) → length (begun_by n rows) ≤ length rows
begun_few n [] = omega arith
begun_few n (row ∷ rows) = by (is_begun n row) (begun_few n rows)
  where
    by : (b : Bool) → length (begun_by n rows) ≤ length rows → length (cond b (row ∷ begun_by n rows) (begun_by n rows)) ≤ length (row ∷ rows)
    by true h = omega (arith, h)
    by false h = omega (arith, h)

-- where all have begun they are all
pub begun_whole : (n : ℕ) (rows : List KeptRow) → ((i : ℕ) → i < length rows → (kept_row_at rows i).from ≤ n) → begun_by n rows ≡ rows
begun_whole n [] f = refl
begun_whole n (row ∷ rows) f =
    ap (λ b. cond b (row ∷ begun_by n rows) (begun_by n rows)) (le-leb row.from n (f 0 (omega arith)))
    ∙ ap (λ (xs : List KeptRow). row ∷ xs) (begun_whole n rows (λ i h. f (suc i) (omega (arith, h))))

-- ---- they ascend

lower : (low high : ℕ) (rows : List Row) → low ≤ high → row_rises high rows ≡ true → row_rises low rows ≡ true
lower low high [] h e = refl
lower low high (row ∷ rows) h e =
    let two = and_parts _ _ e in
    let up = leb-true high row.segment two.0 in
    and_from _ _ (le-leb low row.segment (omega (arith, up, h))) two.1

pub begun_rise : (n low : ℕ) (rows : List KeptRow) → row_rises low (map laid_row rows) ≡ true → row_rises low (map laid_row (begun_by n rows)) ≡ true
begun_rise n low [] e = refl
begun_rise n low (row ∷ rows) e =
    let two = and_parts _ _ e in
    by (is_begun n row) two.0 (begun_rise n (suc row.segment) rows two.1)
  where
    by : (b : Bool) → nat_le low row.segment ≡ true → row_rises (suc row.segment) (map laid_row (begun_by n rows)) ≡ true → row_rises low (map laid_row (cond b (row ∷ begun_by n rows) (begun_by n rows))) ≡ true
    by true up rest = and_from _ _ up rest
    by false up rest = let h = leb-true low row.segment up in lower low (suc row.segment) (map laid_row (begun_by n rows)) (omega (arith, h)) rest

-- ---- the others have nothing live

none_bit : (n : ℕ) (row : Row) → n < row.from → (slot : ℕ) → bit row n slot ≡ false
none_bit n row h slot = let e : suc n - row.from ≡ 0 = omega (arith, h) in ap (λ k. combined (take k row.deltas) slot) e ∙ nothing row.deltas
  where
    nothing : (ds : List (List ℕ)) → combined (take 0 ds) slot ≡ false
    nothing [] = refl
    nothing (d ∷ ds) = refl

none_live : (slot : ℕ) (xs : List Record) (p : ℕ → Bool) → ((s : ℕ) → p s ≡ false) → live_from slot xs p ≡ []
none_live slot [] p f = refl
none_live slot (x ∷ xs) p f = ap (λ b. cond b (x ∷ live_from (suc slot) xs p) (live_from (suc slot) xs p)) (f slot) ∙ none_live (suc slot) xs p f

-- so those that have begun have all that is live
pub begun_live : (ss : List Segment) (n : ℕ) (rows : List KeptRow) → live_in ss n (map laid_row (begun_by n rows)) ≡ live_in ss n (map laid_row rows)
begun_live ss n [] = refl
begun_live ss n (row ∷ rows) = by (is_begun n row) refl (begun_live ss n rows)
  where
    by : (b : Bool) → is_begun n row ≡ b → live_in ss n (map laid_row (begun_by n rows)) ≡ live_in ss n (map laid_row rows)
        → live_in ss n (map laid_row (cond b (row ∷ begun_by n rows) (begun_by n rows))) ≡ live_of ss n (laid_row row) ++ live_in ss n (map laid_row rows)
    by true e rest = ap (λ (xs : List Record). live_of ss n (laid_row row) ++ xs) rest
    by false e rest =
        rest
        ∙ ap (λ (xs : List Record). xs ++ live_in ss n (map laid_row rows)) (sym (none_live 0 (records_at ss row.segment) (bit (laid_row row) n) (none_bit n (laid_row row) (leb-false row.from n e))))

-- ---- they are rows, and a new branch carries over what they have

pub are_begun : (ss : List Segment) (count n : ℕ) (rows : List KeptRow) → AreRows ss count (map laid_row rows) → AreRows ss count (map laid_row (begun_by n rows))
are_begun ss count n rows are i h =
    let m = length-map (begun_by n rows) laid_row in
    let j : i < length (begun_by n rows) = omega (arith, h, m) in
    subst (IsRow ss count) (sym (get_or-map laid_row (begun_by n rows) i no_kept_row no_row j)) (each_begun (λ (x : KeptRow). IsRow ss count (laid_row x)) n rows one i j)
  where
    one : (i : ℕ) → i < length rows → IsRow ss count (laid_row (kept_row_at rows i))
    one i g = let c = length-map rows laid_row in subst (IsRow ss count) (get_or-map laid_row rows i no_kept_row no_row g) (are i (omega (arith, g, c)))

none_carried : (ss : List Segment) (n : ℕ) (row : Row) → n < row.from → carried ss n row ≡ []
none_carried ss n row h =
    let zero_is : length (records_at ss row.segment) ≡ 0 + length (records_at ss row.segment) = omega arith in
    ap (row_of row.segment) (ap (slots_where (bit row n)) zero_is ∙ slots_stop (bit row n) 0 (length (records_at ss row.segment)) (λ s g. none_bit n row h s))

all_carried : (ss : List Segment) (n : ℕ) (rows : List KeptRow) → flat_map (carried ss n) (map laid_row (begun_by n rows)) ≡ flat_map (carried ss n) (map laid_row rows)
all_carried ss n [] = refl
all_carried ss n (row ∷ rows) = by (is_begun n row) refl (all_carried ss n rows)
  where
    by : (b : Bool) → is_begun n row ≡ b → flat_map (carried ss n) (map laid_row (begun_by n rows)) ≡ flat_map (carried ss n) (map laid_row rows)
        → flat_map (carried ss n) (map laid_row (cond b (row ∷ begun_by n rows) (begun_by n rows))) ≡ carried ss n (laid_row row) ++ flat_map (carried ss n) (map laid_row rows)
    by true e rest = ap (λ (xs : List Row). carried ss n (laid_row row) ++ xs) rest
    by false e rest = rest ∙ ap (λ (xs : List Row). xs ++ flat_map (carried ss n) (map laid_row rows)) (sym (none_carried ss n (laid_row row) (leb-false row.from n e)))

pub begun_carried : (q : Bool) (ss : List Segment) (n : ℕ) (rows : List KeptRow) → rows_begun q n ss (map laid_row (begun_by n rows)) ≡ rows_begun q n ss (map laid_row rows)
begun_carried q ss n rows = ap (λ (xs : List Row). xs ++ head_row (new_head q ss) 0 ∷ []) (all_carried ss n rows)
