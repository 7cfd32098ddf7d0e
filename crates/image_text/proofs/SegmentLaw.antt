-- Segments that are read are spelled so.
use Rattle.std.proofs.Common.{◌≡◌, true, ℕ, zero, suc, ◌+◌, ◌-◌, ◌*◌, ◌/◌, ◌^◌, ◌<◌, ◌≤◌, List, [], ◌∷◌, ◌++◌, length, Result, Ok, refl, sym, ap, subst, arith}
use Rattle.std.specs.Prelude.{nat_lt, nat_le}
use Rattle.std.specs.List.{flat_map, All}
use Rattle.std.specs.Int.{w32, to_le_bytes}
use Rattle.std.proofs.Math.Nat.{lt-div-mul-add}
use Rattle.db_value.specs.Widths.{are_widths}
use Rattle.db_value.specs.Relations.{widths_at}
use Rattle.db_value.specs.declared.record.Record.{Record}
use Rattle.db_value.specs.declared.schema.Relation.{Relation}
use Rattle.record_page.specs.Page.{capacity}
use Rattle.segment.specs.Pages.{AreWide}
use Rattle.record_page.proofs.Pages.{capacity_some}
use Rattle.image_text.specs.declared.image.RowPart.{RowPart}
use Rattle.image_text.specs.declared.image.SegmentPart.{SegmentPart}
use Rattle.image_text.specs.Reading.{◌>>=◌, test, repeat, number_at, has_room, pages_for, next_page, next_row, next_segment, next_segments}
use Rattle.image_text.specs.Spelling.{FitsRow, FitsSegment, FitsSegments, counted, pages_bytes, row_bytes, segment_bytes}
use Rattle.image_text.specs.Laws.{IsBytes}
use Rattle.image_text.proofs.Loop.{bind_ok, ok_is}
use Rattle.image_text.proofs.Takes.{Takes, TakesOne, Takes-then, from_none, wide32, number_takes, repeat_takes, next_row_takes}
use Rattle.image_text.proofs.PageLaw.{rooms, pages_are}

rooms_are : (c k : ℕ) → rooms c k ≡ k * c
rooms_are c zero = omega arith
rooms_are c (suc k) = let next : suc k * c ≡ c + k * c = omega arith in rw (rooms_are c k) (sym next)

pub enough_room : (ws : List ℕ) (count : ℕ) → 0 < capacity ws → count ≤ rooms (capacity ws) (pages_for ws count)
enough_room ws count some =
    let less : count + (capacity ws - 1) < (count + (capacity ws - 1)) / capacity ws * capacity ws + capacity ws = lt-div-mul-add {a = count + (capacity ws - 1)} {b = capacity ws} some in
    let is = rooms_are (capacity ws) (pages_for ws count) in
    rw is (omega (arith, less, some))

abbrev done : {A : Type 0} → A → Result A ℕ
done x = Ok x

abbrev no_records : List Record
no_records = []

abbrev no_rows : List RowPart
no_rows = []

abbrev no_segments : List SegmentPart
no_segments = []

rows_part : (lasts : List ℕ) (n h : ℕ) (recs : List Record) (s : List SegmentPart) (p1 : List ℕ) (x : List SegmentPart × List ℕ) → IsBytes p1
    → (number_at w32 p1 >>= λ k. test (nat_le k.0 (length lasts)) p1 >>= λ u. repeat (next_row lasts n) k.0 no_rows k.1 >>= λ rows. Ok (s ++ record { head = h; records = recs; rows = rows.0 } ∷ [], rows.1)) ≡ Ok x
    → (rows : List RowPart) × (r : List ℕ) × Takes p1 (counted row_bytes rows) r × (done (s ++ record { head = h; records = recs; rows = rows } ∷ [], r) ≡ Ok x) × (length rows < 2 ^ 32) × All FitsRow rows
rows_part lasts n h recs s p1 x fits e =
    let k = bind_ok (number_at w32 p1) (λ k. test (nat_le k.0 (length lasts)) p1 >>= λ u. repeat (next_row lasts n) k.0 no_rows k.1 >>= λ rows. Ok (s ++ record { head = h; records = recs; rows = rows.0 } ∷ [], rows.1)) x e in
    let u = bind_ok (test (nat_le k.0.0 (length lasts)) p1) (λ u. repeat (next_row lasts n) k.0.0 no_rows k.0.1 >>= λ rows. Ok (s ++ record { head = h; records = recs; rows = rows.0 } ∷ [], rows.1)) x k.2 in
    let rows = bind_ok (repeat (next_row lasts n) k.0.0 no_rows k.0.1) (λ rows. Ok (s ++ record { head = h; records = recs; rows = rows.0 } ∷ [], rows.1)) x u.2 in
    let t3 = (number_takes w32 (2 ^ 32) wide32 p1 k.0 fits k.1).0 in
    let t4 = from_none FitsRow row_bytes k.0.0 k.0.1 rows.0 (repeat_takes FitsRow row_bytes (next_row lasts n) (next_row_takes lasts n) k.0.0 no_rows k.0.1 rows.0 t3.rest_fits rows.1) in
    let e4 : Takes p1 (counted row_bytes rows.0.0) rows.0.1 = subst (λ (m : ℕ). Takes p1 (to_le_bytes w32 m ++ flat_map row_bytes rows.0.0) rows.0.1) (sym t4.0) (Takes-then p1 (to_le_bytes w32 k.0.0) k.0.1 (flat_map row_bytes rows.0.0) rows.0.1 t3 t4.1) in
    (rows.0.0, rows.0.1, e4, rows.2, omega (arith, t4.0, (number_takes w32 (2 ^ 32) wide32 p1 k.0 fits k.1).1), t4.2)

segment_text : (ws : List ℕ) (h n : ℕ) (s : List SegmentPart) (got recs : List Record) (rows : List RowPart) (b h1 n1 p1 r : List ℕ) (x : List SegmentPart × List ℕ) → Takes b (to_le_bytes w32 h) h1 → Takes h1 (to_le_bytes w32 n) n1 → recs ≡ got → length got ≡ n
    → Takes n1 (pages_bytes ws (pages_for ws n) got) p1 → AreWide ws got → Takes p1 (counted row_bytes rows) r → done (s ++ record { head = h; records = recs; rows = rows } ∷ [], r) ≡ Ok x
    → n < 2 ^ 32 → length rows < 2 ^ 32 → All FitsRow rows → TakesOne (FitsSegment ws) (segment_bytes ws) s b x
segment_text ws h n s got recs rows b h1 n1 p1 r x t0 t1 same len t2 wide e4 o few_records few_rows fit =
    let e3 = Takes-then n1 (pages_bytes ws (pages_for ws n) got) p1 (counted row_bytes rows) r t2 e4 in
    let e2 = Takes-then h1 (to_le_bytes w32 n) n1 (pages_bytes ws (pages_for ws n) got ++ counted row_bytes rows) r t1 e3 in
    let as_len : Takes h1 (to_le_bytes w32 (length got) ++ (pages_bytes ws (pages_for ws (length got)) got ++ counted row_bytes rows)) r =
    subst (λ (m : ℕ). Takes h1 (to_le_bytes w32 m ++ (pages_bytes ws (pages_for ws m) got ++ counted row_bytes rows)) r) (sym len) e2 in
    let as_recs : Takes h1 (to_le_bytes w32 (length recs) ++ (pages_bytes ws (pages_for ws (length recs)) recs ++ counted row_bytes rows)) r =
    subst (λ (l : List Record). Takes h1 (to_le_bytes w32 (length l) ++ (pages_bytes ws (pages_for ws (length l)) l ++ counted row_bytes rows)) r) (sym same) as_len in
    let whole = Takes-then b (to_le_bytes w32 h) h1 (to_le_bytes w32 (length recs) ++ (pages_bytes ws (pages_for ws (length recs)) recs ++ counted row_bytes rows)) r t0 as_recs in
    subst (λ (y : List SegmentPart × List ℕ). TakesOne (FitsSegment ws) (segment_bytes ws) s b y) (ok_is (s ++ record { head = h; records = recs; rows = rows } ∷ [], r) x o)
    (record { head = h; records = recs; rows = rows }, refl, whole, record { records = omega (arith, ap (λ (l : List Record). length l) same, len, few_records); wide = subst (λ (l : List Record). AreWide ws l) (sym same) wide; few = few_rows; rows = fit })

pub next_segment_takes : (ws : List ℕ) (lasts : List ℕ) → are_widths ws ≡ true → (s : List SegmentPart) (b : List ℕ) (x : List SegmentPart × List ℕ) → IsBytes b → next_segment ws lasts s b ≡ Ok x → TakesOne (FitsSegment ws) (segment_bytes ws) s b x
unfolding next_segment
next_segment_takes ws lasts are s b x fits e =
    let h = bind_ok (number_at w32 b) (λ h. test (nat_le h.0 (length lasts)) b >>= λ head. number_at w32 h.1 >>= λ n. test (has_room lasts h.0 n.0) h.1 >>= λ few. repeat (next_page ws) (pages_for ws n.0) (n.0, no_records) n.1 >>= λ p. number_at w32 p.1 >>= λ k. test (nat_le k.0 (length lasts)) p.1 >>= λ u. repeat (next_row lasts n.0) k.0 no_rows k.1 >>= λ rows. Ok (s ++ record { head = h.0; records = p.0.1; rows = rows.0 } ∷ [], rows.1)) x e in
    let head = bind_ok (test (nat_le h.0.0 (length lasts)) b) (λ head. number_at w32 h.0.1 >>= λ n. test (has_room lasts h.0.0 n.0) h.0.1 >>= λ few. repeat (next_page ws) (pages_for ws n.0) (n.0, no_records) n.1 >>= λ p. number_at w32 p.1 >>= λ k. test (nat_le k.0 (length lasts)) p.1 >>= λ u. repeat (next_row lasts n.0) k.0 no_rows k.1 >>= λ rows. Ok (s ++ record { head = h.0.0; records = p.0.1; rows = rows.0 } ∷ [], rows.1)) x h.2 in
    let n = bind_ok (number_at w32 h.0.1) (λ n. test (has_room lasts h.0.0 n.0) h.0.1 >>= λ few. repeat (next_page ws) (pages_for ws n.0) (n.0, no_records) n.1 >>= λ p. number_at w32 p.1 >>= λ k. test (nat_le k.0 (length lasts)) p.1 >>= λ u. repeat (next_row lasts n.0) k.0 no_rows k.1 >>= λ rows. Ok (s ++ record { head = h.0.0; records = p.0.1; rows = rows.0 } ∷ [], rows.1)) x head.2 in
    let few = bind_ok (test (has_room lasts h.0.0 n.0.0) h.0.1) (λ few. repeat (next_page ws) (pages_for ws n.0.0) (n.0.0, no_records) n.0.1 >>= λ p. number_at w32 p.1 >>= λ k. test (nat_le k.0 (length lasts)) p.1 >>= λ u. repeat (next_row lasts n.0.0) k.0 no_rows k.1 >>= λ rows. Ok (s ++ record { head = h.0.0; records = p.0.1; rows = rows.0 } ∷ [], rows.1)) x n.2 in
    let p = bind_ok (repeat (next_page ws) (pages_for ws n.0.0) (n.0.0, no_records) n.0.1) (λ p. number_at w32 p.1 >>= λ k. test (nat_le k.0 (length lasts)) p.1 >>= λ u. repeat (next_row lasts n.0.0) k.0 no_rows k.1 >>= λ rows. Ok (s ++ record { head = h.0.0; records = p.0.1; rows = rows.0 } ∷ [], rows.1)) x few.2 in
    let t0 = (number_takes w32 (2 ^ 32) wide32 b h.0 fits h.1).0 in
    let t1 = (number_takes w32 (2 ^ 32) wide32 h.0.1 n.0 t0.rest_fits n.1).0 in
    let t2 = pages_are ws (pages_for ws n.0.0) (n.0.0, no_records) n.0.1 p.0 are t1.rest_fits (enough_room ws n.0.0 (capacity_some ws are)) p.1 in
    let rest = rows_part lasts n.0.0 h.0.0 p.0.0.1 s p.0.1 x t2.3.rest_fits p.2 in
    segment_text ws h.0.0 n.0.0 s t2.0 p.0.0.1 rest.0 b h.0.1 n.0.1 p.0.1 rest.1 x t0 t1 t2.1 t2.2 t2.3 t2.4 rest.2 rest.3 (number_takes w32 (2 ^ 32) wide32 h.0.1 n.0 t0.rest_fits n.1).1 rest.4 rest.5

segments_made : (ws : List ℕ) (s : List (List SegmentPart)) (n : ℕ) (got : List SegmentPart) (b n1 r : List ℕ) (spell : SegmentPart → List ℕ) (x : List (List SegmentPart) × List ℕ) → Takes b (to_le_bytes w32 n) n1 → length got ≡ n → Takes n1 (flat_map spell got) r
    → done (s ++ got ∷ [], r) ≡ Ok x → n < 2 ^ 32 → All (FitsSegment ws) got → (g : List SegmentPart) × (x.0 ≡ s ++ g ∷ []) × Takes b (counted spell g) x.1 × FitsSegments ws g
segments_made ws s n got b n1 r spell x t0 len t1 o few each =
    let both : Takes b (counted spell got) r = subst (λ (m : ℕ). Takes b (to_le_bytes w32 m ++ flat_map spell got) r) (sym len) (Takes-then b (to_le_bytes w32 n) n1 (flat_map spell got) r t0 t1) in
    subst (λ (y : List (List SegmentPart) × List ℕ). (g : List SegmentPart) × (y.0 ≡ s ++ g ∷ []) × Takes b (counted spell g) y.1 × FitsSegments ws g) (ok_is (s ++ got ∷ [], r) x o) (got, refl, both, record { few = omega (arith, len, few); each = each })

pub next_segments_takes : (relations : List Relation) (lasts : List ℕ) (s : List (List SegmentPart)) → are_widths (widths_at relations (length s)) ≡ true → (b : List ℕ) (x : List (List SegmentPart) × List ℕ) → IsBytes b → next_segments relations lasts s b ≡ Ok x
    → (got : List SegmentPart) × (x.0 ≡ s ++ got ∷ []) × Takes b (counted (segment_bytes (widths_at relations (length s))) got) x.1 × FitsSegments (widths_at relations (length s)) got
unfolding next_segments
next_segments_takes relations lasts s are b x fits e =
    let n = bind_ok (number_at w32 b) (λ n. test (nat_lt n.0 (2 * length lasts)) b >>= λ few. repeat (next_segment (widths_at relations (length s)) lasts) n.0 no_segments n.1 >>= λ ss. Ok (s ++ ss.0 ∷ [], ss.1)) x e in
    let few = bind_ok (test (nat_lt n.0.0 (2 * length lasts)) b) (λ few. repeat (next_segment (widths_at relations (length s)) lasts) n.0.0 no_segments n.0.1 >>= λ ss. Ok (s ++ ss.0 ∷ [], ss.1)) x n.2 in
    let ss = bind_ok (repeat (next_segment (widths_at relations (length s)) lasts) n.0.0 no_segments n.0.1) (λ ss. Ok (s ++ ss.0 ∷ [], ss.1)) x few.2 in
    let t0 = (number_takes w32 (2 ^ 32) wide32 b n.0 fits n.1).0 in
    let t1 = from_none (FitsSegment (widths_at relations (length s))) (segment_bytes (widths_at relations (length s))) n.0.0 n.0.1 ss.0 (repeat_takes (FitsSegment (widths_at relations (length s))) (segment_bytes (widths_at relations (length s))) (next_segment (widths_at relations (length s)) lasts) (next_segment_takes (widths_at relations (length s)) lasts are) n.0.0 no_segments n.0.1 ss.0 t0.rest_fits ss.1) in
    segments_made (widths_at relations (length s)) s n.0.0 ss.0.0 b n.0.1 ss.0.1 (segment_bytes (widths_at relations (length s))) x t0 t1.0 t1.1 ss.2 (number_takes w32 (2 ^ 32) wide32 b n.0 fits n.1).1 t1.2
