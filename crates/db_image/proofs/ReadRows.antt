-- Segments that keep their rules are read from their spellings.
use Rattle.std.proofs.Common.{◌≡◌, ◌⊎◌, inl, inr, ℕ, zero, suc, ◌+◌, ◌-◌, ◌*◌, ◌^◌, ◌<◌, ◌≤◌, ◌==◌, cond, ◌&&◌, ◌||◌, List, [], ◌∷◌, ◌++◌, length, take, drop, replicate, Ok, Err, refl, sym, ap, subst, ◌∙◌, arith, append_assoc, length-append, true}
use Rattle.std.specs.Prelude.{nat_lt, nat_le}
use Rattle.std.specs.List.{All, AllByRecursion, flat_map}
use Rattle.std.specs.Int.{w32, w64, to_le_bytes}
use Rattle.std.proofs.lemmas.Bool.{and_from, and_parts, lt-ltb, le-leb, le-ltb, eq-eqb, eqb-true, cases_lt}
use Rattle.std.proofs.lemmas.List.{take_at, drop_at, append-nil, length-take, length-drop, take-append-drop}
use Rattle.std.proofs.lemmas.List.Elements.{All-take, All-drop}
use Rattle.db_value.specs.Widths.{are_widths}
use Rattle.db_value.specs.Relations.{widths_at}
use Rattle.db_value.specs.declared.record.Record.{Record}
use Rattle.db_value.specs.declared.schema.Relation.{Relation}
use Rattle.record_page.specs.Page.{Rows, IsRecord, IsPaged, capacity, is_page, rows_in}
use Rattle.record_page.proofs.Pages.{capacity_some, page_made, rows_made}
use Rattle.image_text.specs.declared.image.Delta.{Delta}
use Rattle.image_text.specs.declared.image.RowPart.{RowPart}
use Rattle.image_text.specs.declared.image.SegmentPart.{SegmentPart}
use Rattle.image_text.specs.Reading.{◌>>=◌, test, enough, repeat, number_at, is_page_of, on_page, next_page, pages_for, next_word, spans, are_words, next_delta, last_of, rises, are_blank, next_row, has_room, next_segment, next_segments}
use Rattle.image_text.specs.Spelling.{counted, page_bytes, pages_bytes, word_bytes, delta_bytes, row_bytes, segment_bytes}
use Rattle.image_text.proofs.PageLaw.{rooms}
use Rattle.image_text.proofs.SegmentLaw.{enough_room}
use Rattle.db_image.specs.Rules.{onto, IsDelta, IsNextRow, IsSegment, AreSegments}
use Rattle.db_image.proofs.ReadSteps.{step, test_is, enough_is, number_4, number_8, repeat_onto, repeat_all}

abbrev no_bytes : List ℕ
no_bytes = []

abbrev no_records : List Record
no_records = []

abbrev no_deltas : List Delta
no_deltas = []

abbrev no_rows : List RowPart
no_rows = []

abbrev no_segments : List SegmentPart
no_segments = []

-- what the pages of a segment leave: no record to come, and all its records
abbrev pages_read : SegmentPart → ℕ × List Record
pages_read s = (0, s.records)

each_of : {A : Type 0} (P : A → Type 0) (xs : List A) → All P xs → AllByRecursion P xs
each_of P [] all = tt
each_of P (x ∷ xs) all = (all 0 x (omega arith), each_of P xs (λ k d l. all (suc k) d (omega (arith, l))))

abbrev page_with : List ℕ → List Record → Rows
page_with ws xs = record { widths = ws; records = xs }

next_page_back : (ws : List ℕ) (seen xs : List Record) (rest : List ℕ) (more : ℕ) → are_widths ws ≡ true → on_page ws more ≡ length xs → length xs ≤ capacity ws → All (IsRecord ws) xs
    → next_page ws (more, seen) (page_bytes ws xs ++ rest) ≡ Ok ((more - length xs, seen ++ xs), rest)
unfolding next_page page_bytes
next_page_back ws seen xs rest more are here room all =
    let paged : IsPaged (page_with ws xs) = record { are = are; room = room; each = each_of (IsRecord ws) xs all } in
    let made = page_made (page_with ws xs) paged in
    let rows = rows_made (page_with ws xs) paged in
    let size : length (page_bytes ws xs) ≡ 4096 = eqb-true (length (page_bytes ws xs)) 4096 (and_parts (length (page_bytes ws xs) == 4096) _ made).0 in
    let holds : is_page_of ws (on_page ws more) (page_bytes ws xs) ≡ true = and_from (is_page ws (page_bytes ws xs)) (length (rows_in ws (page_bytes ws xs)).records == on_page ws more) made
    (eq-eqb (length (rows_in ws (page_bytes ws xs)).records) (on_page ws more) (ap (λ (p : Rows). length p.records) rows ∙ sym here)) in
    step (λ there. test (is_page_of ws (on_page ws more) (take 4096 (page_bytes ws xs ++ rest))) (page_bytes ws xs ++ rest) >>= λ page. Ok ((more - on_page ws more, seen ++ (rows_in ws (take 4096 (page_bytes ws xs ++ rest))).records), drop 4096 (page_bytes ws xs ++ rest))) (enough_is 4096 (page_bytes ws xs ++ rest) (let n = length-append (page_bytes ws xs) rest in omega (arith, n, size)))
    ∙ ap (λ (b : List ℕ). test (is_page_of ws (on_page ws more) b) (page_bytes ws xs ++ rest) >>= λ page. Ok ((more - on_page ws more, seen ++ (rows_in ws b).records), drop 4096 (page_bytes ws xs ++ rest))) (take_at (page_bytes ws xs) rest 4096 size)
    ∙ step (λ page. Ok ((more - on_page ws more, seen ++ (rows_in ws (page_bytes ws xs)).records), drop 4096 (page_bytes ws xs ++ rest))) (test_is (is_page_of ws (on_page ws more) (page_bytes ws xs)) (page_bytes ws xs ++ rest) holds)
    ∙ ap (λ (p : Rows). Ok ((more - on_page ws more, seen ++ p.records), drop 4096 (page_bytes ws xs ++ rest))) rows
    ∙ ap (λ (b : List ℕ). Ok ((more - on_page ws more, seen ++ xs), b)) (drop_at (page_bytes ws xs) rest 4096 size)
    ∙ ap (λ n. Ok ((more - n, seen ++ xs), rest)) here

on_page_most : (ws : List ℕ) (more : ℕ) → (on_page ws more ≤ capacity ws) × (on_page ws more ≤ more) × (more - on_page ws more ≤ more - capacity ws)
on_page_most ws more = at (cases_lt more (capacity ws))
  where
    at : (more < capacity ws) ⊎ (capacity ws ≤ more) → (on_page ws more ≤ capacity ws) × (on_page ws more ≤ more) × (more - on_page ws more ≤ more - capacity ws)
    at (inl l) = subst (λ q. (cond q more (capacity ws) ≤ capacity ws) × (cond q more (capacity ws) ≤ more) × (more - cond q more (capacity ws) ≤ more - capacity ws)) (sym (lt-ltb more (capacity ws) l)) (omega (arith, l), omega arith, omega arith)
    at (inr g) = subst (λ q. (cond q more (capacity ws) ≤ capacity ws) × (cond q more (capacity ws) ≤ more) × (more - cond q more (capacity ws) ≤ more - capacity ws)) (sym (le-ltb more (capacity ws) g)) (omega arith, omega (arith, g), omega arith)

pages_back : (ws : List ℕ) → are_widths ws ≡ true → (k : ℕ) (seen xs : List Record) (rest : List ℕ) → length xs ≤ rooms (capacity ws) k → All (IsRecord ws) xs
    → repeat (next_page ws) k (length xs, seen) (pages_bytes ws k xs ++ rest) ≡ Ok ((0, seen ++ xs), rest)
unfolding repeat
pages_back ws are zero seen [] rest room all = λ i. Ok ((0, sym (append-nil seen) i), rest)
pages_back ws are zero seen (x ∷ xs) rest room all = absurd (omega (arith, room))
pages_back ws are (suc k) seen xs rest room all =
    let limits = on_page_most ws (length xs) in
    let size : length (take (on_page ws (length xs)) xs) ≡ on_page ws (length xs) = omega (arith, length-take (on_page ws (length xs)) xs, limits.1) in
    let left : length (drop (on_page ws (length xs)) xs) ≡ length xs - on_page ws (length xs) = length-drop (on_page ws (length xs)) xs in
    ap (λ b. next_page ws (length xs, seen) b >>= λ y. repeat (next_page ws) k y.0 y.1) (append_assoc (page_bytes ws (take (on_page ws (length xs)) xs)) (pages_bytes ws k (drop (on_page ws (length xs)) xs)) rest)
    ∙ step (λ y. repeat (next_page ws) k y.0 y.1)
    (next_page_back ws seen (take (on_page ws (length xs)) xs) (pages_bytes ws k (drop (on_page ws (length xs)) xs) ++ rest) (length xs) are (sym size) (omega (arith, size, limits.0)) (All-take (IsRecord ws) (on_page ws (length xs)) xs all))
    ∙ ap (λ m. repeat (next_page ws) k (m, seen ++ take (on_page ws (length xs)) xs) (pages_bytes ws k (drop (on_page ws (length xs)) xs) ++ rest)) (omega (arith, size, left))
    ∙ pages_back ws are k (seen ++ take (on_page ws (length xs)) xs) (drop (on_page ws (length xs)) xs) rest (omega (arith, left, limits.2, room)) (All-drop (IsRecord ws) (on_page ws (length xs)) xs all)
    ∙ ap (λ l. Ok ((0, l), rest)) (append_assoc seen (take (on_page ws (length xs)) xs) (drop (on_page ws (length xs)) xs) ∙ ap (λ l. seen ++ l) (take-append-drop (on_page ws (length xs)) xs))

word_back : (seen : List ℕ) (w : ℕ) (rest : List ℕ) → w < 2 ^ 64 → next_word seen (word_bytes w ++ rest) ≡ Ok (onto seen w, rest)
word_back seen w rest l = step (λ x. Ok (seen ++ x.0 ∷ [], x.1)) (number_8 w rest l)

delta_back : (size : ℕ) (seen : List Delta) (d : Delta) (rest : List ℕ) → IsDelta size d → next_delta size seen (delta_bytes d ++ rest) ≡ Ok (onto seen d, rest)
unfolding next_delta
delta_back size seen d rest is =
    step (λ f. number_at w32 f.1 >>= λ n. test (spans size f.0 n.0) (delta_bytes d ++ rest) >>= λ within. repeat next_word n.0 no_bytes n.1 >>= λ ws. test (are_words size f.0 ws.0) (delta_bytes d ++ rest) >>= λ full. Ok (seen ++ record { first = f.0; words = ws.0 } ∷ [], ws.1)) (number_4 d.first (counted word_bytes d.words ++ rest) is.first)
    ∙ step (λ n. test (spans size d.first n.0) (delta_bytes d ++ rest) >>= λ within. repeat next_word n.0 no_bytes n.1 >>= λ ws. test (are_words size d.first ws.0) (delta_bytes d ++ rest) >>= λ full. Ok (seen ++ record { first = d.first; words = ws.0 } ∷ [], ws.1)) (number_4 (length d.words) (flat_map word_bytes d.words ++ rest) is.few)
    ∙ step (λ within. repeat next_word (length d.words) no_bytes (flat_map word_bytes d.words ++ rest) >>= λ ws. test (are_words size d.first ws.0) (delta_bytes d ++ rest) >>= λ full. Ok (seen ++ record { first = d.first; words = ws.0 } ∷ [], ws.1)) (test_is (spans size d.first (length d.words)) (delta_bytes d ++ rest) is.within)
    ∙ step (λ ws. test (are_words size d.first ws.0) (delta_bytes d ++ rest) >>= λ full. Ok (seen ++ record { first = d.first; words = ws.0 } ∷ [], ws.1)) (repeat_all (λ w. w < 2 ^ 64) word_bytes next_word word_back no_bytes d.words rest is.words)
    ∙ step (λ full. Ok (seen ++ record { first = d.first; words = d.words } ∷ [], rest)) (test_is (are_words size d.first d.words) (delta_bytes d ++ rest) is.full)

row_read : (lasts : List ℕ) (size : ℕ) (seen : List RowPart) (b f : ℕ) (d : Delta) (ds : List Delta) (rest : List ℕ) → IsNextRow lasts size seen (record { branch = b; from = f; deltas = d ∷ ds }) → next_row lasts size seen (to_le_bytes w32 b ++ (to_le_bytes w32 f ++ (delta_bytes d ++ (flat_map delta_bytes ds ++ rest)))) ≡ Ok (onto seen (record { branch = b; from = f; deltas = d ∷ ds }), rest)
unfolding next_row
row_read lasts size seen b f d ds rest is =
    step (λ n. test (nat_lt n.0 (length lasts) && rises seen n.0) (to_le_bytes w32 b ++ (to_le_bytes w32 f ++ (delta_bytes d ++ (flat_map delta_bytes ds ++ rest)))) >>= λ behind. number_at w32 n.1 >>= λ g. test (nat_le g.0 (last_of lasts n.0)) (n.1) >>= λ within. next_delta size no_deltas g.1 >>= λ h. test (g.0 == 0 || are_blank h.0) (to_le_bytes w32 b ++ (to_le_bytes w32 f ++ (delta_bytes d ++ (flat_map delta_bytes ds ++ rest)))) >>= λ blank. repeat (next_delta size) (last_of lasts n.0 - g.0) h.0 h.1 >>= λ more. Ok (seen ++ record { branch = n.0; from = g.0; deltas = more.0 } ∷ [], more.1)) (number_4 b (to_le_bytes w32 f ++ (delta_bytes d ++ (flat_map delta_bytes ds ++ rest))) is.branch)
    ∙ step (λ behind. number_at w32 (to_le_bytes w32 f ++ (delta_bytes d ++ (flat_map delta_bytes ds ++ rest))) >>= λ g. test (nat_le g.0 (last_of lasts b)) ((to_le_bytes w32 f ++ (delta_bytes d ++ (flat_map delta_bytes ds ++ rest)))) >>= λ within. next_delta size no_deltas g.1 >>= λ h. test (g.0 == 0 || are_blank h.0) (to_le_bytes w32 b ++ (to_le_bytes w32 f ++ (delta_bytes d ++ (flat_map delta_bytes ds ++ rest)))) >>= λ blank. repeat (next_delta size) (last_of lasts b - g.0) h.0 h.1 >>= λ more. Ok (seen ++ record { branch = b; from = g.0; deltas = more.0 } ∷ [], more.1)) (test_is (nat_lt b (length lasts) && rises seen b) (to_le_bytes w32 b ++ (to_le_bytes w32 f ++ (delta_bytes d ++ (flat_map delta_bytes ds ++ rest)))) (and_from _ _ (lt-ltb b (length lasts) is.there) is.rises))
    ∙ step (λ g. test (nat_le g.0 (last_of lasts b)) ((to_le_bytes w32 f ++ (delta_bytes d ++ (flat_map delta_bytes ds ++ rest)))) >>= λ within. next_delta size no_deltas g.1 >>= λ h. test (g.0 == 0 || are_blank h.0) (to_le_bytes w32 b ++ (to_le_bytes w32 f ++ (delta_bytes d ++ (flat_map delta_bytes ds ++ rest)))) >>= λ blank. repeat (next_delta size) (last_of lasts b - g.0) h.0 h.1 >>= λ more. Ok (seen ++ record { branch = b; from = g.0; deltas = more.0 } ∷ [], more.1)) (number_4 f (delta_bytes d ++ (flat_map delta_bytes ds ++ rest)) is.from)
    ∙ step (λ within. next_delta size no_deltas (delta_bytes d ++ (flat_map delta_bytes ds ++ rest)) >>= λ h. test (f == 0 || are_blank h.0) (to_le_bytes w32 b ++ (to_le_bytes w32 f ++ (delta_bytes d ++ (flat_map delta_bytes ds ++ rest)))) >>= λ blank. repeat (next_delta size) (last_of lasts b - f) h.0 h.1 >>= λ more. Ok (seen ++ record { branch = b; from = f; deltas = more.0 } ∷ [], more.1)) (test_is (nat_le f (last_of lasts b)) (to_le_bytes w32 f ++ (delta_bytes d ++ (flat_map delta_bytes ds ++ rest))) (le-leb f (last_of lasts b) is.within))
    ∙ step (λ h. test (f == 0 || are_blank h.0) (to_le_bytes w32 b ++ (to_le_bytes w32 f ++ (delta_bytes d ++ (flat_map delta_bytes ds ++ rest)))) >>= λ blank. repeat (next_delta size) (last_of lasts b - f) h.0 h.1 >>= λ more. Ok (seen ++ record { branch = b; from = f; deltas = more.0 } ∷ [], more.1)) (delta_back size no_deltas d (flat_map delta_bytes ds ++ rest) (is.deltas 0 d (omega arith)))
    ∙ step (λ blank. repeat (next_delta size) (last_of lasts b - f) (d ∷ []) (flat_map delta_bytes ds ++ rest) >>= λ more. Ok (seen ++ record { branch = b; from = f; deltas = more.0 } ∷ [], more.1)) (test_is (f == 0 || are_blank (d ∷ [])) (to_le_bytes w32 b ++ (to_le_bytes w32 f ++ (delta_bytes d ++ (flat_map delta_bytes ds ++ rest)))) is.blank)
    ∙ step (λ more. Ok (seen ++ record { branch = b; from = f; deltas = more.0 } ∷ [], more.1)) (ap (λ k. repeat (next_delta size) k (d ∷ []) (flat_map delta_bytes ds ++ rest)) (let n = is.full in omega (arith, n)) ∙ repeat_all (IsDelta size) delta_bytes (next_delta size) (delta_back size) (d ∷ []) ds rest (λ k e l. is.deltas (suc k) e (omega (arith, l))))

row_back : (lasts : List ℕ) (size : ℕ) (seen : List RowPart) (r : RowPart) (rest : List ℕ) → IsNextRow lasts size seen r → next_row lasts size seen (row_bytes r ++ rest) ≡ Ok (onto seen r, rest)
row_back lasts size seen r rest is = at r.deltas refl
  where
    at : (ds : List Delta) → r.deltas ≡ ds → next_row lasts size seen (row_bytes r ++ rest) ≡ Ok (onto seen r, rest)
    at [] e = absurd (let n = is.full in let m = ap (λ (xs : List Delta). length xs) e in omega (arith, n, m))
    at (d ∷ ds) e =
        let same : r ≡ record { branch = r.branch; from = r.from; deltas = d ∷ ds } = λ i. record { branch = r.branch; from = r.from; deltas = e i } in
        subst (λ (x : RowPart). next_row lasts size seen (row_bytes x ++ rest) ≡ Ok (onto seen x, rest)) (sym same)
        (ap (λ b. next_row lasts size seen (to_le_bytes w32 r.branch ++ (to_le_bytes w32 r.from ++ b))) (append_assoc (delta_bytes d) (flat_map delta_bytes ds) rest)
        ∙ row_read lasts size seen r.branch r.from d ds rest (subst (IsNextRow lasts size seen) same is))

segment_read : (ws : List ℕ) (lasts : List ℕ) (seen : List SegmentPart) (s : SegmentPart) (rest : List ℕ) → are_widths ws ≡ true → IsSegment ws lasts s → next_segment ws lasts seen (to_le_bytes w32 s.head ++ (to_le_bytes w32 (length s.records) ++ (pages_bytes ws (pages_for ws (length s.records)) s.records ++ (counted row_bytes s.rows ++ rest)))) ≡ Ok (onto seen s, rest)
unfolding next_segment
segment_read ws lasts seen s rest are is =
    step (λ h. test (nat_le h.0 (length lasts)) (to_le_bytes w32 s.head ++ (to_le_bytes w32 (length s.records) ++ (pages_bytes ws (pages_for ws (length s.records)) s.records ++ (counted row_bytes s.rows ++ rest)))) >>= λ head. number_at w32 h.1 >>= λ n. test (has_room lasts h.0 n.0) (h.1) >>= λ few. repeat (next_page ws) (pages_for ws n.0) (n.0, no_records) n.1 >>= λ p. number_at w32 p.1 >>= λ k. test (nat_le k.0 (length lasts)) (p.1) >>= λ rows_few. repeat (next_row lasts n.0) k.0 no_rows k.1 >>= λ rows. Ok (seen ++ record { head = h.0; records = p.0.1; rows = rows.0 } ∷ [], rows.1)) (number_4 s.head (to_le_bytes w32 (length s.records) ++ (pages_bytes ws (pages_for ws (length s.records)) s.records ++ (counted row_bytes s.rows ++ rest))) is.head)
    ∙ step (λ head. number_at w32 (to_le_bytes w32 (length s.records) ++ (pages_bytes ws (pages_for ws (length s.records)) s.records ++ (counted row_bytes s.rows ++ rest))) >>= λ n. test (has_room lasts s.head n.0) ((to_le_bytes w32 (length s.records) ++ (pages_bytes ws (pages_for ws (length s.records)) s.records ++ (counted row_bytes s.rows ++ rest)))) >>= λ few. repeat (next_page ws) (pages_for ws n.0) (n.0, no_records) n.1 >>= λ p. number_at w32 p.1 >>= λ k. test (nat_le k.0 (length lasts)) (p.1) >>= λ rows_few. repeat (next_row lasts n.0) k.0 no_rows k.1 >>= λ rows. Ok (seen ++ record { head = s.head; records = p.0.1; rows = rows.0 } ∷ [], rows.1)) (test_is (nat_le s.head (length lasts)) (to_le_bytes w32 s.head ++ (to_le_bytes w32 (length s.records) ++ (pages_bytes ws (pages_for ws (length s.records)) s.records ++ (counted row_bytes s.rows ++ rest)))) (le-leb s.head (length lasts) is.there))
    ∙ step (λ n. test (has_room lasts s.head n.0) ((to_le_bytes w32 (length s.records) ++ (pages_bytes ws (pages_for ws (length s.records)) s.records ++ (counted row_bytes s.rows ++ rest)))) >>= λ few. repeat (next_page ws) (pages_for ws n.0) (n.0, no_records) n.1 >>= λ p. number_at w32 p.1 >>= λ k. test (nat_le k.0 (length lasts)) (p.1) >>= λ rows_few. repeat (next_row lasts n.0) k.0 no_rows k.1 >>= λ rows. Ok (seen ++ record { head = s.head; records = p.0.1; rows = rows.0 } ∷ [], rows.1)) (number_4 (length s.records) (pages_bytes ws (pages_for ws (length s.records)) s.records ++ (counted row_bytes s.rows ++ rest)) is.few)
    ∙ step (λ few. repeat (next_page ws) (pages_for ws (length s.records)) ((length s.records), no_records) (pages_bytes ws (pages_for ws (length s.records)) s.records ++ (counted row_bytes s.rows ++ rest)) >>= λ p. number_at w32 p.1 >>= λ k. test (nat_le k.0 (length lasts)) (p.1) >>= λ rows_few. repeat (next_row lasts (length s.records)) k.0 no_rows k.1 >>= λ rows. Ok (seen ++ record { head = s.head; records = p.0.1; rows = rows.0 } ∷ [], rows.1)) (test_is (has_room lasts s.head (length s.records)) (to_le_bytes w32 (length s.records) ++ (pages_bytes ws (pages_for ws (length s.records)) s.records ++ (counted row_bytes s.rows ++ rest))) is.room)
    ∙ step (λ p. number_at w32 p.1 >>= λ k. test (nat_le k.0 (length lasts)) (p.1) >>= λ rows_few. repeat (next_row lasts (length s.records)) k.0 no_rows k.1 >>= λ rows. Ok (seen ++ record { head = s.head; records = p.0.1; rows = rows.0 } ∷ [], rows.1)) (pages_back ws are (pages_for ws (length s.records)) no_records s.records (counted row_bytes s.rows ++ rest) (enough_room ws (length s.records) (capacity_some ws are)) is.records)
    ∙ step (λ k. test (nat_le k.0 (length lasts)) ((counted row_bytes s.rows ++ rest)) >>= λ rows_few. repeat (next_row lasts (length s.records)) k.0 no_rows k.1 >>= λ rows. Ok (seen ++ record { head = s.head; records = (pages_read s).1; rows = rows.0 } ∷ [], rows.1)) (number_4 (length s.rows) (flat_map row_bytes s.rows ++ rest) is.few_rows)
    ∙ step (λ rows_few. repeat (next_row lasts (length s.records)) (length s.rows) no_rows (flat_map row_bytes s.rows ++ rest) >>= λ rows. Ok (seen ++ record { head = s.head; records = (pages_read s).1; rows = rows.0 } ∷ [], rows.1)) (test_is (nat_le (length s.rows) (length lasts)) (counted row_bytes s.rows ++ rest) (le-leb (length s.rows) (length lasts) is.rows_within))
    ∙ step (λ rows. Ok (seen ++ record { head = s.head; records = (pages_read s).1; rows = rows.0 } ∷ [], rows.1)) (repeat_onto (IsNextRow lasts (length s.records)) row_bytes (next_row lasts (length s.records)) (row_back lasts (length s.records)) no_rows s.rows rest is.rows)

pub segment_back : (ws : List ℕ) → are_widths ws ≡ true → (lasts : List ℕ) (seen : List SegmentPart) (s : SegmentPart) (rest : List ℕ) → IsSegment ws lasts s → next_segment ws lasts seen (segment_bytes ws s ++ rest) ≡ Ok (onto seen s, rest)
segment_back ws are lasts seen s rest is =
    ap (λ b. next_segment ws lasts seen (to_le_bytes w32 s.head ++ (to_le_bytes w32 (length s.records) ++ b))) (append_assoc (pages_bytes ws (pages_for ws (length s.records)) s.records) (counted row_bytes s.rows) rest)
    ∙ segment_read ws lasts seen s rest are is

pub segments_back : (relations : List Relation) (lasts : List ℕ) (seen : List (List SegmentPart)) (ss : List SegmentPart) (rest : List ℕ) → are_widths (widths_at relations (length seen)) ≡ true → AreSegments (widths_at relations (length seen)) lasts ss → next_segments relations lasts seen (counted (segment_bytes (widths_at relations (length seen))) ss ++ rest) ≡ Ok (onto seen ss, rest)
unfolding next_segments
segments_back relations lasts seen ss rest wide are =
    step (λ n. test (nat_lt n.0 (2 * length lasts)) (counted (segment_bytes (widths_at relations (length seen))) ss ++ rest) >>= λ few. repeat (next_segment (widths_at relations (length seen)) lasts) n.0 no_segments n.1 >>= λ xs. Ok (seen ++ xs.0 ∷ [], xs.1)) (number_4 (length ss) (flat_map (segment_bytes (widths_at relations (length seen))) ss ++ rest) are.count)
    ∙ step (λ few. repeat (next_segment (widths_at relations (length seen)) lasts) (length ss) no_segments (flat_map (segment_bytes (widths_at relations (length seen))) ss ++ rest) >>= λ xs. Ok (seen ++ xs.0 ∷ [], xs.1)) (test_is (nat_lt (length ss) (2 * length lasts)) (counted (segment_bytes (widths_at relations (length seen))) ss ++ rest) (lt-ltb (length ss) (2 * length lasts) are.few))
    ∙ step (λ xs. Ok (seen ++ xs.0 ∷ [], xs.1)) (repeat_all (IsSegment (widths_at relations (length seen)) lasts) (segment_bytes (widths_at relations (length seen))) (next_segment (widths_at relations (length seen)) lasts) (segment_back (widths_at relations (length seen)) wide lasts) no_segments ss rest are.each)
