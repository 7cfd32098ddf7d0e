-- How a row and a segment go from one position to the next.
use Rattle.std.proofs.Common.{◌≡◌, ◌⊎◌, ℕ, zero, suc, ◌+◌, ◌-◌, ◌*◌, ◌/◌, ◌%◌, ◌<◌, ◌≤◌, ◌==◌, ◌&&◌, Bool, true, false, not, cond, List, [], ◌∷◌, ◌++◌, length, get_or, take, drop, map, set, refl, sym, ap, inl, inr, subst, ◌∙◌, arith}
use Rattle.std.specs.Prelude.{nat_lt, nat_le}
use Rattle.std.proofs.Math.Seq.{take-suc}
use Rattle.std.proofs.lemmas.Bool.{cases_lt, lt-ltb, le-ltb, ltb-true, ltb-false, le-leb}
use Rattle.std.proofs.lemmas.List.{get_or_past, get_or-map, length-append, length-map, drop_more, nil_from_length, length-drop}
use Rattle.std.specs.List.{flat_map}
use Rattle.std.proofs.lemmas.List.Concat.{flat_map-cons}
use Rattle.db_value.specs.declared.record.Record.{Record}
use Rattle.image_text.specs.declared.image.Delta.{Delta}
use Rattle.image_text.specs.declared.image.RowPart.{RowPart}
use Rattle.image_text.specs.declared.image.SegmentPart.{SegmentPart}
use Rattle.image_text.specs.Reading.{no_row}
use Rattle.image_parts.specs.Whole.{word_bit, no_delta, delta_bit, differ, combined, bit_before, lane_of, row_of}
use Rattle.image_parts.specs.Walk.{Flips, turned, no_segment, base_of, own_keys, all_keys, Shows}
use Rattle.image_parts.proofs.Flips.{none_bit, gt_leb, and_false}

-- no delta has no bit
pub no_bit : (slot : ℕ) → delta_bit no_delta slot ≡ false
no_bit slot = ap (λ (b : Bool). nat_le 0 (slot / 64) && b) (none_bit (slot % 64)) ∙ and_false (nat_le 0 (slot / 64))

differ_swap : (a b c : Bool) → differ a (differ b c) ≡ differ b (differ a c)
differ_swap true true c = refl
differ_swap true false c = refl
differ_swap false true c = refl
differ_swap false false c = refl

-- one delta more
combined_more : (ds : List Delta) (d : Delta) (slot : ℕ) → combined (ds ++ d ∷ []) slot ≡ differ (delta_bit d slot) (combined ds slot)
combined_more [] d slot = refl
combined_more (e ∷ ds) d slot = ap (λ (b : Bool). differ (delta_bit e slot) b) (combined_more ds d slot) ∙ differ_swap (delta_bit e slot) (delta_bit d slot) (combined ds slot)

take_all : (ds : List Delta) (n : ℕ) → length ds ≤ n → take (suc n) ds ≡ take n ds
take_all [] zero le = refl
take_all [] (suc n) le = refl
take_all (d ∷ ds) zero le = absurd (omega (arith, le))
take_all (d ∷ ds) (suc n) le = ap (λ l. d ∷ l) (take_all ds n (omega (arith, le)))

taken : (ds : List Delta) (n slot : ℕ) → combined (take (suc n) ds) slot ≡ differ (delta_bit (get_or ds n no_delta) slot) (combined (take n ds) slot)
taken ds n slot =
    elim (cases_lt n (length ds)) [
      | inl lt ↦ ap (λ (l : List Delta). combined l slot) (take-suc ds n no_delta lt) ∙ combined_more (take n ds) (get_or ds n no_delta) slot
      | inr le ↦
          let none : delta_bit (get_or ds n no_delta) slot ≡ false = ap (λ (d : Delta). delta_bit d slot) (get_or_past ds n no_delta le) ∙ no_bit slot in
          ap (λ (l : List Delta). combined l slot) (take_all ds n le) ∙ ap (λ (b : Bool). differ b (combined (take n ds) slot)) (sym none)
    ]

-- the bit of a slot goes on to the next position by what the row changes there
pub bit_next : (row : RowPart) (n slot : ℕ) → bit_before row (suc n) slot ≡ differ (turned row n slot) (bit_before row n slot)
bit_next row n slot =
    elim (cases_lt n row.from) [
      | inl lt ↦
          let more : suc n - row.from ≡ 0 = omega (arith, lt) in
          let now : n - row.from ≡ 0 = omega (arith, lt) in
          let same : suc n - row.from ≡ n - row.from = omega (arith, lt) in
          ap (λ (k : ℕ). combined (take k row.deltas) slot) same ∙ ap (λ (b : Bool). differ (b && delta_bit (get_or row.deltas (n - row.from) no_delta) slot) (combined (take (n - row.from) row.deltas) slot)) (sym (gt_leb row.from n lt))
      | inr le ↦
          let more : suc n - row.from ≡ suc (n - row.from) = omega (arith, le) in
          ap (λ (k : ℕ). combined (take k row.deltas) slot) more ∙ taken row.deltas (n - row.from) slot
          ∙ ap (λ (b : Bool). differ (b && delta_bit (get_or row.deltas (n - row.from) no_delta) slot) (combined (take (n - row.from) row.deltas) slot)) (sym (le-leb row.from n le))
    ]

-- ---- segments

base_after : (ss : List SegmentPart) (i : ℕ) → i < length ss → base_of ss (suc i) ≡ base_of ss i + length (get_or ss i no_segment).records
base_after [] i lt = absurd (omega (arith, lt))
base_after (s ∷ []) zero lt = omega arith
base_after (s ∷ t ∷ ss) zero lt = omega arith
base_after (s ∷ ss) (suc i) lt = let h = base_after ss i (omega (arith, lt)) in omega (arith, h)

-- the next segment stands behind this one
pub base_next : (ss : List SegmentPart) (i : ℕ) → i < length ss → base_of ss (i + 1) ≡ base_of ss i + length (get_or ss i no_segment).records
base_next ss i lt = let same : i + 1 ≡ suc i = omega arith in ap (λ (k : ℕ). base_of ss k) same ∙ base_after ss i lt

-- segments do not overlap
pub bases_apart : (ss : List SegmentPart) (i j : ℕ) → i < j → j ≤ length ss → base_of ss i + length (get_or ss i no_segment).records ≤ base_of ss j
bases_apart [] i j lt le = absurd (omega (arith, lt, le))
bases_apart (s ∷ ss) i zero lt le = absurd (omega (arith, lt))
bases_apart (s ∷ ss) zero (suc j) lt le = omega arith
bases_apart (s ∷ ss) (suc i) (suc j) lt le = let h = bases_apart ss i j (omega (arith, lt)) (omega (arith, le)) in omega (arith, h)

pub base_start : (ss : List SegmentPart) → base_of ss 0 ≡ 0
base_start [] = refl
base_start (s ∷ ss) = refl

pub keys_cons : (s : SegmentPart) (ss : List SegmentPart) → all_keys (s ∷ ss) ≡ own_keys s ++ all_keys ss
keys_cons s ss = flat_map-cons own_keys s ss

pub all_long : (s : SegmentPart) (ss : List SegmentPart) → length (all_keys (s ∷ ss)) ≡ length s.records + length (all_keys ss)
all_long s ss = ap length (keys_cons s ss) ∙ length-append (own_keys s) (all_keys ss) ∙ ap (λ (n : ℕ). n + length (all_keys ss)) (length-map s.records (λ (x : Record). x.key))

-- a segment's records stand among all
pub base_within : (ss : List SegmentPart) (i : ℕ) → i < length ss → base_of ss i + length (get_or ss i no_segment).records ≤ length (all_keys ss)
base_within [] i lt = absurd (omega (arith, lt))
base_within (s ∷ ss) zero lt = omega (arith, all_long s ss)
base_within (s ∷ ss) (suc i) lt = let h = base_within ss i (omega (arith, lt)) in omega (arith, h, all_long s ss)

-- the bits of the first segments are those before the next position, and the others are those before this one
abbrev pub Between : ℕ → List SegmentPart → ℕ → ℕ → List Bool → Type 0
Between b ss n at bits = (i : ℕ) → i < length ss → (slot : ℕ) → slot < length (get_or ss i no_segment).records
    → get_or bits (base_of ss i + slot) false ≡ bit_before (row_of b (get_or ss i no_segment).rows) (cond (nat_lt i at) (suc n) n) slot

segment_by : (b : ℕ) (ss : List SegmentPart) (n at i slot : ℕ) (old new : List Bool) → at < length ss → i < length ss → slot < length (get_or ss i no_segment).records
    → Flips (base_of ss at) (length (get_or ss at no_segment).records) (turned (row_of b (get_or ss at no_segment).rows) n) old new → (i ≡ at → ⊥)
    → get_or new (base_of ss i + slot) false ≡ get_or old (base_of ss i + slot) false
segment_by b ss n at i slot old new lt within less f other =
    f.outside (base_of ss i + slot) (elim (cases_lt i at) [
      | inl before ↦ inl (omega (arith, bases_apart ss i at before (omega (arith, lt)), less))
      | inr le ↦ elim (cases_lt at i) [
        | inl past ↦ inr (omega (arith, bases_apart ss at i past (omega (arith, within))))
        | inr ge ↦ absurd (other (omega (arith, le, ge)))
      ]
    ])

segment_own : (b : ℕ) (ss : List SegmentPart) (n at slot : ℕ) (old new : List Bool) → at < length ss
    → Flips (base_of ss at) (length (get_or ss at no_segment).records) (turned (row_of b (get_or ss at no_segment).rows) n) old new → Between b ss n at old
    → slot < length (get_or ss at no_segment).records → get_or new (base_of ss at + slot) false ≡ bit_before (row_of b (get_or ss at no_segment).rows) (cond (nat_lt at (at + 1)) (suc n) n) slot
segment_own b ss n at slot old new lt f shown less =
    let row : RowPart = row_of b (get_or ss at no_segment).rows in
    f.inside slot less
    ∙ ap (λ (x : Bool). differ (turned (row_of b (get_or ss at no_segment).rows) n slot) x)
    (shown at lt slot less ∙ ap (λ (m : ℕ). bit_before (row_of b (get_or ss at no_segment).rows) m slot) (ap (λ (x : Bool). cond x (suc n) n) (le-ltb at at (omega arith))))
    ∙ sym (bit_next (row_of b (get_or ss at no_segment).rows) n slot)
    ∙ ap (λ (m : ℕ). bit_before (row_of b (get_or ss at no_segment).rows) m slot) (sym (ap (λ (x : Bool). cond x (suc n) n) (lt-ltb at (at + 1) (omega arith))))

pub segment_next : (b : ℕ) (ss : List SegmentPart) (n at : ℕ) (old new : List Bool) → at < length ss
    → Flips (base_of ss at) (length (get_or ss at no_segment).records) (turned (row_of b (get_or ss at no_segment).rows) n) old new
    → Between b ss n at old → Between b ss n (at + 1) new
segment_next b ss n at old new lt f shown i within slot less = by (nat_lt i at) (nat_lt at i) refl refl
  where
    held : (k : ℕ) → (i ≡ at → ⊥) → cond (nat_lt i at) (suc n) n ≡ k → cond (nat_lt i (at + 1)) (suc n) n ≡ k
        → get_or new (base_of ss i + slot) false ≡ bit_before (row_of b (get_or ss i no_segment).rows) (cond (nat_lt i (at + 1)) (suc n) n) slot
    held k other e f2 = segment_by b ss n at i slot old new lt within less f other ∙ shown i within slot less ∙ ap (λ (m : ℕ). bit_before (row_of b (get_or ss i no_segment).rows) m slot) (e ∙ sym f2)

    by : (p q : Bool) → nat_lt i at ≡ p → nat_lt at i ≡ q → get_or new (base_of ss i + slot) false ≡ bit_before (row_of b (get_or ss i no_segment).rows) (cond (nat_lt i (at + 1)) (suc n) n) slot
    by true q e e2 =
        held (suc n) (λ h. absurd (omega (arith, h, ltb-true i at e))) (ap (λ (b : Bool). cond b (suc n) n) e)
        (ap (λ (b : Bool). cond b (suc n) n) (lt-ltb i (at + 1) (omega (arith, ltb-true i at e))))
    by false true e e2 =
        held n (λ h. absurd (omega (arith, h, ltb-true at i e2))) (ap (λ (b : Bool). cond b (suc n) n) e)
        (ap (λ (b : Bool). cond b (suc n) n) (le-ltb i (at + 1) (omega (arith, ltb-true at i e2))))
    by false false e e2 = let same : at ≡ i = omega (arith, ltb-false i at e, ltb-false at i e2) in
        subst (λ (j : ℕ). slot < length (get_or ss j no_segment).records → get_or new (base_of ss j + slot) false ≡ bit_before (row_of b (get_or ss j no_segment).rows) (cond (nat_lt j (at + 1)) (suc n) n) slot) same
        (segment_own b ss n at slot old new lt f shown) less

pub between_start : (b : ℕ) (ss : List SegmentPart) (n : ℕ) (bits : List Bool) → Shows b ss n bits → Between b ss n 0 bits
between_start b ss n bits shown i lt slot less = shown i lt slot less ∙ ap (λ (m : ℕ). bit_before (row_of b (get_or ss i no_segment).rows) m slot) (sym (ap (λ (x : Bool). cond x (suc n) n) (le-ltb i 0 (omega arith))))

pub between_end : (b : ℕ) (ss : List SegmentPart) (n at : ℕ) (bits : List Bool) → length ss ≤ at → Between b ss n at bits → Shows b ss (suc n) bits
between_end b ss n at bits le shown i lt slot less = shown i lt slot less ∙ ap (λ (m : ℕ). bit_before (row_of b (get_or ss i no_segment).rows) m slot) (ap (λ (x : Bool). cond x (suc n) n) (lt-ltb i at (omega (arith, lt, le))))

-- the lane of a branch in a segment
pub row_is : (b : ℕ) (lanes : List ℕ) (ss : List SegmentPart) (i : ℕ) → i < length ss → lanes ≡ map (λ (s : SegmentPart). lane_of b s.rows) ss
    → get_or (get_or ss i no_segment).rows (get_or lanes i 0) no_row ≡ row_of b (get_or ss i no_segment).rows
row_is b lanes ss i lt e = ap (λ (k : ℕ). get_or (get_or ss i no_segment).rows k no_row) (ap (λ (l : List ℕ). get_or l i 0) e ∙ get_or-map (λ (s : SegmentPart). lane_of b s.rows) ss i no_segment 0 lt)

-- ---- the row of a branch

pub lane_goes : (b : ℕ) (rows : List RowPart) (i total : ℕ) → i < length rows → ((get_or rows i no_row).branch == b) ≡ false → i + lane_of b (drop i rows) ≡ total → (i + 1) + lane_of b (drop (i + 1) rows) ≡ total
lane_goes b rows i total lt e so_far =
    let one : lane_of b (drop i rows) ≡ suc (lane_of b (drop (i + 1) rows)) = ap (λ (l : List RowPart). lane_of b l) (drop_more rows i no_row lt) ∙ ap (λ (q : Bool). cond q 0 (suc (lane_of b (drop (i + 1) rows)))) e in
    omega (arith, one, so_far)

pub lane_stops : (b : ℕ) (rows : List RowPart) (i total : ℕ) → i < length rows → ((get_or rows i no_row).branch == b) ≡ true → i + lane_of b (drop i rows) ≡ total → i ≡ total
lane_stops b rows i total lt e so_far =
    let one : lane_of b (drop i rows) ≡ 0 = ap (λ (l : List RowPart). lane_of b l) (drop_more rows i no_row lt) ∙ ap (λ (q : Bool). cond q 0 (suc (lane_of b (drop (i + 1) rows)))) e in
    omega (arith, one, so_far)

pub lane_ends : (b : ℕ) (rows : List RowPart) (i total : ℕ) → length rows ≤ i → i + lane_of b (drop i rows) ≡ total → i ≡ total
lane_ends b rows i total le so_far =
    let none : drop i rows ≡ [] = nil_from_length (drop i rows) (omega (arith, length-drop i rows, le)) in
    let one : lane_of b (drop i rows) ≡ 0 = ap (λ (l : List RowPart). lane_of b l) none in
    omega (arith, one, so_far)
