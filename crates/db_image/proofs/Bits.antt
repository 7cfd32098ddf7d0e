-- The bits of rows, in an image and in a layout.
use Rattle.std.proofs.Common.{◌≡◌, ◌≢◌, ◌⊎◌, inl, inr, ℕ, zero, suc, ◌-◌, ◌<◌, ◌≤◌, ◌==◌, Bool, true, false, cond, ◌||◌, List, [], ◌∷◌, map, filter, take, length, get_or, refl, sym, ap, subst, ◌∙◌, arith}
use Rattle.std.specs.List.{All}
use Rattle.std.proofs.lemmas.Bool.{eq-eqb, ne_eqb, cases_eq}
use Rattle.std.proofs.lemmas.List.FromFn.{get_or-map-range_with_len, length-map-range_with_len}
use Rattle.plain_bits.specs.Truth.{bit_of}
use Rattle.db_store.specs.Layout.{slots_where, has}
use Rattle.db_store.specs.Layout as layout
use Rattle.db_store.proofs.BitLemmas.{has_where, has_past}
use Rattle.hybrid_view.specs.Deltas.{slots_of}
use Rattle.hybrid_store.specs.declared.parts.RowPart.{RowPart as RowLaid}
use Rattle.image_text.specs.declared.image.Delta.{Delta}
use Rattle.image_text.specs.declared.image.RowPart.{RowPart}
use Rattle.image_text.specs.Reading.{no_row}
use Rattle.image_parts.specs.Whole.{delta_bit, combined, differ, bit, has_row, lane_of, row_of}
use Rattle.db_image.specs.Parts.{bits_of, row_part}
use Rattle.db_image.proofs.Steps.{IsRead}
use Rattle.db_image.proofs.SegmentsRead.{Ascend}

-- the slots of a delta, as the layout has them
abbrev pub slots_laid : ℕ → List Delta → List (List ℕ)
slots_laid size ds = map slots_of (map (bits_of size) ds)

pub bits_counted : (size : ℕ) (d : Delta) → length (bits_of size d) ≡ size
bits_counted size d = length-map-range_with_len (delta_bit d) 0 size

has_bit : (size : ℕ) (d : Delta) (slot : ℕ) → slot < size → has (slots_of (bits_of size d)) slot ≡ delta_bit d slot
has_bit size d slot l =
    has_where (bit_of (bits_of size d)) (length (bits_of size d)) slot (let e = bits_counted size d in omega (arith, e, l))
    ∙ get_or-map-range_with_len (delta_bit d) 0 size slot slot false l (omega arith)

has_none : (size : ℕ) (d : Delta) (slot : ℕ) → size ≤ slot → has (slots_of (bits_of size d)) slot ≡ false
has_none size d slot l = has_past (bit_of (bits_of size d)) (length (bits_of size d)) slot (let e = bits_counted size d in omega (arith, e, l))

same_differ : (a b : Bool) → layout.differ a b ≡ differ a b
same_differ true b = refl
same_differ false b = refl

combined_bit : (size m : ℕ) (ds : List Delta) (slot : ℕ) → slot < size → layout.combined (take m (slots_laid size ds)) slot ≡ combined (take m ds) slot
combined_bit size zero ds slot l = refl
combined_bit size (suc m) [] slot l = refl
combined_bit size (suc m) (d ∷ ds) slot l =
    (λ i. layout.differ (has_bit size d slot l i) (combined_bit size m ds slot l i)) ∙ same_differ (delta_bit d slot) (combined (take m ds) slot)

combined_none : (size m : ℕ) (ds : List Delta) (slot : ℕ) → size ≤ slot → layout.combined (take m (slots_laid size ds)) slot ≡ false
combined_none size zero ds slot l = refl
combined_none size (suc m) [] slot l = refl
combined_none size (suc m) (d ∷ ds) slot l = λ i. layout.differ (has_none size d slot l i) (combined_none size m ds slot l i)

-- a row of a segment with so many records, as the layout has it
abbrev pub row_laid : ℕ → ℕ → RowPart → layout.Row
row_laid k size x = record { segment = k; from = x.from; deltas = slots_laid size x.deltas }

pub same_bit : (k size : ℕ) (x : RowPart) (n slot : ℕ) → slot < size → layout.bit (row_laid k size x) n slot ≡ bit x n slot
same_bit k size x n slot l = combined_bit size (suc n - x.from) x.deltas slot l

pub no_bit : (k size : ℕ) (x : RowPart) (n slot : ℕ) → size ≤ slot → layout.bit (row_laid k size x) n slot ≡ false
no_bit k size x n slot l = combined_none size (suc n - x.from) x.deltas slot l

-- ---- the row of a branch

abbrev pub own_rows : ℕ → ℕ → List RowPart → List RowLaid
own_rows b size rows = filter (λ (x : RowLaid). x.branch == b) (map (row_part size) rows)

-- a branch has no row there, or one
pub record IsNone (b size : ℕ) (rows : List RowPart) : Type 0 where
  pub own : own_rows b size rows ≡ []
  pub there : has_row rows b ≡ false
  pub row : row_of b rows ≡ no_row

pub record IsOne (lasts : List ℕ) (b size : ℕ) (rows : List RowPart) : Type 0 where
  pub own : own_rows b size rows ≡ row_part size (row_of b rows) ∷ []
  pub branch : (row_of b rows).branch ≡ b
  pub read : IsRead lasts (row_of b rows)

none_behind : (b size : ℕ) (rows : List RowPart) → ((k : ℕ) → k < length rows → (get_or rows k no_row).branch ≢ b) → IsNone b size rows
none_behind b size [] h = record { own = refl; there = refl; row = refl }
none_behind b size (x ∷ xs) h =
    let later = none_behind b size xs (λ k l. h (suc k) (omega (arith, l))) in
    let not_first : (x.branch == b) ≡ false = ne_eqb x.branch b (h 0 (omega arith)) in
    record {
      own = ap (λ q. cond q (row_part size x ∷ own_rows b size xs) (own_rows b size xs)) not_first ∙ later.own;
      there = ap (λ q. q || has_row xs b) not_first ∙ later.there;
      row = ap (λ q. get_or (x ∷ xs) (cond q 0 (suc (lane_of b xs))) no_row) not_first ∙ later.row;
    }

pub own_row : (lasts : List ℕ) (b size : ℕ) (rows : List RowPart) → Ascend rows → All (IsRead lasts) rows → IsNone b size rows ⊎ IsOne lasts b size rows
own_row lasts b size [] asc all = inl (none_behind b size [] (λ k l. absurd (omega (arith, l))))
own_row lasts b size (x ∷ xs) asc all = at (cases_eq x.branch b) (own_row lasts b size xs (λ j k lt l. asc (suc j) (suc k) (omega (arith, lt)) (omega (arith, l))) (λ k d l. all (suc k) d (omega (arith, l))))
  where
    at : (x.branch ≡ b) ⊎ (x.branch ≢ b) → IsNone b size xs ⊎ IsOne lasts b size xs → IsNone b size (x ∷ xs) ⊎ IsOne lasts b size (x ∷ xs)
    at (inl e) later =
        let first : (x.branch == b) ≡ true = eq-eqb x.branch b e in
        let none = none_behind b size xs (λ k l f. let s = asc 0 (suc k) (omega arith) (omega (arith, l)) in omega (arith, s, f, e)) in
        let row : row_of b (x ∷ xs) ≡ x = ap (λ q. get_or (x ∷ xs) (cond q 0 (suc (lane_of b xs))) no_row) first in
        inr (record {
          own = ap (λ q. cond q (row_part size x ∷ own_rows b size xs) (own_rows b size xs)) first ∙ (λ i. row_part size (sym row i) ∷ none.own i);
          branch = ap (λ (y : RowPart). y.branch) row ∙ e;
          read = subst (IsRead lasts) (sym row) (all 0 no_row (omega arith));
        })
    at (inr n) (inl none) =
        let not_first : (x.branch == b) ≡ false = ne_eqb x.branch b n in
        inl (record {
          own = ap (λ q. cond q (row_part size x ∷ own_rows b size xs) (own_rows b size xs)) not_first ∙ none.own;
          there = ap (λ q. q || has_row xs b) not_first ∙ none.there;
          row = ap (λ q. get_or (x ∷ xs) (cond q 0 (suc (lane_of b xs))) no_row) not_first ∙ none.row;
        })
    at (inr n) (inr one) =
        let not_first : (x.branch == b) ≡ false = ne_eqb x.branch b n in
        let row : row_of b (x ∷ xs) ≡ row_of b xs = ap (λ q. get_or (x ∷ xs) (cond q 0 (suc (lane_of b xs))) no_row) not_first in
        inr (record {
          own = ap (λ q. cond q (row_part size x ∷ own_rows b size xs) (own_rows b size xs)) not_first ∙ one.own ∙ (λ i. row_part size (sym row i) ∷ []);
          branch = ap (λ (y : RowPart). y.branch) row ∙ one.branch;
          read = subst (IsRead lasts) (sym row) one.read;
        })
