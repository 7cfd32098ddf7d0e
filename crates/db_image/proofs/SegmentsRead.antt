-- What is read of the segments of relations.
use Rattle.std.proofs.Common.{◌≡◌, ◌≢◌, ◌⊎◌, inl, inr, ℕ, ◌+◌, ◌*◌, ◌<◌, ◌≤◌, true, List, [], ◌∷◌, ◌++◌, length, get_or, Ok, refl, sym, ap, subst, ◌∙◌, arith}
use Rattle.std.specs.Prelude.{nat_lt, nat_le}
use Rattle.std.specs.List.{All}
use Rattle.std.specs.Int.{w32}
use Rattle.std.proofs.lemmas.Bool.{ltb-true, leb-true, cases_eq}
use Rattle.std.proofs.lemmas.List.{length_push, get_or_push, get_or_append_left}
use Rattle.std.proofs.lemmas.List.Elements.{All-push, All-nil}
use Rattle.db_value.specs.Relations.{widths_at}
use Rattle.db_value.specs.declared.record.Record.{Record}
use Rattle.db_value.specs.declared.schema.Relation.{Relation}
use Rattle.image_text.specs.declared.image.RowPart.{RowPart}
use Rattle.image_text.specs.declared.image.SegmentPart.{SegmentPart}
use Rattle.image_text.specs.Reading.{◌>>=◌, test, repeat, number_at, next_page, pages_for, no_row, rises, next_row, has_room, next_segment, next_segments}
use Rattle.image_text.proofs.Loop.{bind_ok, ok_is}
use Rattle.image_text.proofs.Counted.{adds, tested}
use Rattle.db_image.proofs.Steps.{repeat_keeps, HasFields, page_keeps, IsRead, row_adds}

abbrev no_records : List Record
no_records = []

abbrev no_rows : List RowPart
no_rows = []

abbrev pub no_segments : List SegmentPart
no_segments = []

-- rows that are read one behind the other
abbrev pub Ascend : List RowPart → Type 0
Ascend rows = (j k : ℕ) → j < k → k < length rows → (get_or rows j no_row).branch < (get_or rows k no_row).branch

all_before : (s : List RowPart) (b : ℕ) → Ascend s → rises s b ≡ true → (j : ℕ) → j < length s → (get_or s j no_row).branch < b
all_before [] b asc e j l = absurd (omega (arith, l))
all_before (r ∷ rs) b asc e j l = at (cases_eq j (length rs))
  where
    last : (get_or (r ∷ rs) (length rs) no_row).branch < b
    last = ltb-true (get_or (r ∷ rs) (length rs) no_row).branch b e

    at : (j ≡ length rs) ⊎ (j ≢ length rs) → (get_or (r ∷ rs) j no_row).branch < b
    at (inl q) = subst (λ i. (get_or (r ∷ rs) i no_row).branch < b) (sym q) last
    at (inr q) = let before = asc j (length rs) (omega (arith, l, q)) (omega arith) in let h = last in omega (arith, before, h)

ascend_push : (s : List RowPart) (a : RowPart) → Ascend s → rises s a.branch ≡ true → Ascend (s ++ a ∷ [])
ascend_push s a asc e j k lt l = at (cases_eq k (length s))
  where
    longer : length (s ++ a ∷ []) ≡ length s + 1
    longer = length_push s a

    at : (k ≡ length s) ⊎ (k ≢ length s) → (get_or (s ++ a ∷ []) j no_row).branch < (get_or (s ++ a ∷ []) k no_row).branch
    at (inl q) =
        let lj : j < length s = omega (arith, lt, q) in
        subst (λ (x : RowPart). (get_or (s ++ a ∷ []) j no_row).branch < x.branch) (sym (get_or_push s a no_row k (sym q)))
        (subst (λ (x : RowPart). x.branch < a.branch) (sym (get_or_append_left s (a ∷ []) no_row j lj)) (all_before s a.branch asc e j lj))
    at (inr q) =
        let lk : k < length s = let n = longer in omega (arith, n, l, q) in
        subst (λ (x : RowPart). (get_or (s ++ a ∷ []) j no_row).branch < x.branch) (sym (get_or_append_left s (a ∷ []) no_row k lk))
        (subst (λ (x : RowPart). x.branch < (get_or s k no_row).branch) (sym (get_or_append_left s (a ∷ []) no_row j (omega (arith, lt, lk)))) (asc j k lt lk))

-- what rows are, as read
pub record AreRead (lasts : List ℕ) (rows : List RowPart) : Type 0 where
  pub each : All (IsRead lasts) rows
  pub ascend : Ascend rows

-- what a segment is, as read
pub record IsSegment (ws : List ℕ) (lasts : List ℕ) (a : SegmentPart) : Type 0 where
  pub head : a.head ≤ length lasts
  pub records : All (HasFields ws) a.records
  pub rows : AreRead lasts a.rows

row_keeps : (lasts : List ℕ) (size : ℕ) (s : List RowPart) (b : List ℕ) (x : List RowPart × List ℕ) → AreRead lasts s → next_row lasts size s b ≡ Ok x → AreRead lasts x.0
row_keeps lasts size s b x r e =
    let a = row_adds lasts size s b x e in
    subst (AreRead lasts) (sym a.rows) (record { each = All-push (IsRead lasts) s a.added r.each a.is; ascend = ascend_push s a.added r.ascend a.behind })

segment_rest : (ws : List ℕ) (h n : ℕ) (lasts : List ℕ) (recs : List Record) (s : List SegmentPart) (b : List ℕ) (x : List SegmentPart × List ℕ) → h ≤ length lasts → All (HasFields ws) recs
    → (number_at w32 b >>= λ k. test (nat_le k.0 (length lasts)) b >>= λ u. repeat (next_row lasts n) k.0 no_rows k.1 >>= λ rows. Ok (s ++ record { head = h; records = recs; rows = rows.0 } ∷ [], rows.1)) ≡ Ok x
    → (a : SegmentPart) × IsSegment ws lasts a × (x.0 ≡ s ++ a ∷ [])
segment_rest ws h n lasts recs s b x le all e =
    let k = bind_ok (number_at w32 b) (λ k. test (nat_le k.0 (length lasts)) b >>= λ u. repeat (next_row lasts n) k.0 no_rows k.1 >>= λ rs. Ok (s ++ record { head = h; records = recs; rows = rs.0 } ∷ [], rs.1)) x e in
    let u = bind_ok (test (nat_le k.0.0 (length lasts)) b) (λ u. repeat (next_row lasts n) k.0.0 no_rows k.0.1 >>= λ rs. Ok (s ++ record { head = h; records = recs; rows = rs.0 } ∷ [], rs.1)) x k.2 in
    let rs = bind_ok (repeat (next_row lasts n) k.0.0 no_rows k.0.1) (λ rs. Ok (s ++ record { head = h; records = recs; rows = rs.0 } ∷ [], rs.1)) x u.2 in
    let rows : AreRead lasts rs.0.0 = repeat_keeps (AreRead lasts) (next_row lasts n) (row_keeps lasts n) k.0.0 no_rows k.0.1 rs.0 (record { each = All-nil (IsRead lasts); ascend = λ j m lt l. absurd (omega (arith, l)) }) rs.1 in
    subst (λ (y : List SegmentPart × List ℕ). (a : SegmentPart) × IsSegment ws lasts a × (y.0 ≡ s ++ a ∷ [])) (ok_is (s ++ record { head = h; records = recs; rows = rs.0.0 } ∷ [], rs.0.1) x rs.2)
    (record { head = h; records = recs; rows = rs.0.0 }, record { head = le; records = all; rows = rows }, refl)

pub segment_adds : (ws : List ℕ) (lasts : List ℕ) (s : List SegmentPart) (b : List ℕ) (x : List SegmentPart × List ℕ) → next_segment ws lasts s b ≡ Ok x → (a : SegmentPart) × IsSegment ws lasts a × (x.0 ≡ s ++ a ∷ [])
unfolding next_segment
segment_adds ws lasts s b x e =
    let h = bind_ok (number_at w32 b) (λ h. test (nat_le h.0 (length lasts)) b >>= λ hd. number_at w32 h.1 >>= λ n. test (has_room lasts h.0 n.0) h.1 >>= λ few. repeat (next_page ws) (pages_for ws n.0) (n.0, no_records) n.1 >>= λ p. (number_at w32 p.1 >>= λ k. test (nat_le k.0 (length lasts)) p.1 >>= λ u. repeat (next_row lasts n.0) k.0 no_rows k.1 >>= λ rs. Ok (s ++ record { head = h.0; records = p.0.1; rows = rs.0 } ∷ [], rs.1))) x e in
    let hd = bind_ok (test (nat_le h.0.0 (length lasts)) b) (λ hd. number_at w32 h.0.1 >>= λ n. test (has_room lasts h.0.0 n.0) h.0.1 >>= λ few. repeat (next_page ws) (pages_for ws n.0) (n.0, no_records) n.1 >>= λ p. (number_at w32 p.1 >>= λ k. test (nat_le k.0 (length lasts)) p.1 >>= λ u. repeat (next_row lasts n.0) k.0 no_rows k.1 >>= λ rs. Ok (s ++ record { head = h.0.0; records = p.0.1; rows = rs.0 } ∷ [], rs.1))) x h.2 in
    let n = bind_ok (number_at w32 h.0.1) (λ n. test (has_room lasts h.0.0 n.0) h.0.1 >>= λ few. repeat (next_page ws) (pages_for ws n.0) (n.0, no_records) n.1 >>= λ p. (number_at w32 p.1 >>= λ k. test (nat_le k.0 (length lasts)) p.1 >>= λ u. repeat (next_row lasts n.0) k.0 no_rows k.1 >>= λ rs. Ok (s ++ record { head = h.0.0; records = p.0.1; rows = rs.0 } ∷ [], rs.1))) x hd.2 in
    let few = bind_ok (test (has_room lasts h.0.0 n.0.0) h.0.1) (λ few. repeat (next_page ws) (pages_for ws n.0.0) (n.0.0, no_records) n.0.1 >>= λ p. (number_at w32 p.1 >>= λ k. test (nat_le k.0 (length lasts)) p.1 >>= λ u. repeat (next_row lasts n.0.0) k.0 no_rows k.1 >>= λ rs. Ok (s ++ record { head = h.0.0; records = p.0.1; rows = rs.0 } ∷ [], rs.1))) x n.2 in
    let p = bind_ok (repeat (next_page ws) (pages_for ws n.0.0) (n.0.0, no_records) n.0.1) (λ p. (number_at w32 p.1 >>= λ k. test (nat_le k.0 (length lasts)) p.1 >>= λ u. repeat (next_row lasts n.0.0) k.0 no_rows k.1 >>= λ rs. Ok (s ++ record { head = h.0.0; records = p.0.1; rows = rs.0 } ∷ [], rs.1))) x few.2 in
    let all : All (HasFields ws) p.0.0.1 = repeat_keeps (λ (y : ℕ × List Record). All (HasFields ws) y.1) (next_page ws) (page_keeps ws) (pages_for ws n.0.0) (n.0.0, no_records) n.0.1 p.0 (All-nil (HasFields ws)) p.1 in
    segment_rest ws h.0.0 n.0.0 lasts p.0.0.1 s p.0.1 x (leb-true h.0.0 (length lasts) (tested _ b hd.0 hd.1)) all p.2

segment_keeps : (ws : List ℕ) (lasts : List ℕ) (s : List SegmentPart) (b : List ℕ) (x : List SegmentPart × List ℕ) → All (IsSegment ws lasts) s → next_segment ws lasts s b ≡ Ok x → All (IsSegment ws lasts) x.0
segment_keeps ws lasts s b x all e =
    let a = segment_adds ws lasts s b x e in
    subst (All (IsSegment ws lasts)) (sym a.2) (All-push (IsSegment ws lasts) s a.0 all a.1)

segment_one : (ws : List ℕ) (lasts : List ℕ) (s : List SegmentPart) (b : List ℕ) (x : List SegmentPart × List ℕ) → next_segment ws lasts s b ≡ Ok x → length x.0 ≡ length s + 1
segment_one ws lasts s b x e = let a = segment_adds ws lasts s b x e in ap length a.2 ∙ length_push s a.0

-- what the segments of a relation are, as read
pub record AreSegments (ws : List ℕ) (lasts : List ℕ) (ss : List SegmentPart) : Type 0 where
  pub few : length ss < 2 * length lasts
  pub each : All (IsSegment ws lasts) ss

-- what the segments by relation are, as read
abbrev pub AreByRelation : List Relation → List ℕ → List (List SegmentPart) → Type 0
AreByRelation relations lasts sss = (r : ℕ) → r < length sss → AreSegments (widths_at relations r) lasts (get_or sss r no_segments)

segments_adds : (relations : List Relation) (lasts : List ℕ) (s : List (List SegmentPart)) (b : List ℕ) (x : List (List SegmentPart) × List ℕ) → next_segments relations lasts s b ≡ Ok x
    → (ss : List SegmentPart) × AreSegments (widths_at relations (length s)) lasts ss × (x.0 ≡ s ++ ss ∷ [])
unfolding next_segments
segments_adds relations lasts s b x e =
    let n = bind_ok (number_at w32 b) (λ n. test (nat_lt n.0 (2 * length lasts)) b >>= λ few. repeat (next_segment (widths_at relations (length s)) lasts) n.0 no_segments n.1 >>= λ ss. Ok (s ++ ss.0 ∷ [], ss.1)) x e in
    let few = bind_ok (test (nat_lt n.0.0 (2 * length lasts)) b) (λ few. repeat (next_segment (widths_at relations (length s)) lasts) n.0.0 no_segments n.0.1 >>= λ ss. Ok (s ++ ss.0 ∷ [], ss.1)) x n.2 in
    let ss = bind_ok (repeat (next_segment (widths_at relations (length s)) lasts) n.0.0 no_segments n.0.1) (λ ss. Ok (s ++ ss.0 ∷ [], ss.1)) x few.2 in
    let ws : List ℕ = widths_at relations (length s) in
    let count : length ss.0.0 ≡ n.0.0 = omega (arith, adds (next_segment (widths_at relations (length s)) lasts) (segment_one (widths_at relations (length s)) lasts) n.0.0 no_segments n.0.1 ss.0 ss.1) in
    let each : All (IsSegment (widths_at relations (length s)) lasts) ss.0.0 = repeat_keeps (All (IsSegment (widths_at relations (length s)) lasts)) (next_segment (widths_at relations (length s)) lasts) (segment_keeps (widths_at relations (length s)) lasts) n.0.0 no_segments n.0.1 ss.0 (All-nil (IsSegment (widths_at relations (length s)) lasts)) ss.1 in
    let less : n.0.0 < 2 * length lasts = ltb-true n.0.0 (2 * length lasts) (tested _ b few.0 few.1) in
    subst (λ (y : List (List SegmentPart) × List ℕ). (t : List SegmentPart) × AreSegments (widths_at relations (length s)) lasts t × (y.0 ≡ s ++ t ∷ [])) (ok_is (s ++ ss.0.0 ∷ [], ss.0.1) x ss.2)
    (ss.0.0, record { few = omega (arith, count, less); each = each }, refl)

pub segments_keep : (relations : List Relation) (lasts : List ℕ) (s : List (List SegmentPart)) (b : List ℕ) (x : List (List SegmentPart) × List ℕ) → AreByRelation relations lasts s → next_segments relations lasts s b ≡ Ok x → AreByRelation relations lasts x.0
segments_keep relations lasts s b x are e =
    let a = segments_adds relations lasts s b x e in
    subst (AreByRelation relations lasts) (sym a.2) (λ r lt. at r lt (cases_eq r (length s)))
  where
    at : (r : ℕ) → r < length (s ++ (segments_adds relations lasts s b x e).0 ∷ []) → (r ≡ length s) ⊎ (r ≢ length s) → AreSegments (widths_at relations r) lasts (get_or (s ++ (segments_adds relations lasts s b x e).0 ∷ []) r no_segments)
    at r lt (inl q) =
        let a = segments_adds relations lasts s b x e in
        subst (λ (ss : List SegmentPart). AreSegments (widths_at relations r) lasts ss) (sym (get_or_push s a.0 no_segments r (sym q))) (subst (λ (k : ℕ). AreSegments (widths_at relations k) lasts a.0) (sym q) a.1)
    at r lt (inr q) =
        let a = segments_adds relations lasts s b x e in
        let k : r < length s = let n = length_push s a.0 in omega (arith, n, lt, q) in
        subst (λ (ss : List SegmentPart). AreSegments (widths_at relations r) lasts ss) (sym (get_or_append_left s (a.0 ∷ []) no_segments r k)) (are r k)

pub segments_one : (relations : List Relation) (lasts : List ℕ) (s : List (List SegmentPart)) (b : List ℕ) (x : List (List SegmentPart) × List ℕ) → next_segments relations lasts s b ≡ Ok x → length x.0 ≡ length s + 1
segments_one relations lasts s b x e = let a = segments_adds relations lasts s b x e in ap length a.2 ∙ length_push s a.0
