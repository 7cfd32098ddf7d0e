-- Rows and segments that are read keep their rules, but for how great their numbers are.
use Rattle.std.proofs.Common.{◌≡◌, ◌⊎◌, inl, inr, ℕ, zero, suc, ◌+◌, ◌-◌, ◌*◌, ◌<◌, ◌≤◌, true, ◌&&◌, ◌||◌, List, [], ◌∷◌, ◌++◌, length, take, drop, Ok, Err, refl, sym, ap, subst, ◌∙◌, arith}
use Rattle.std.specs.Prelude.{nat_lt, nat_le, ◌==◌}
use Rattle.std.specs.List.{All}
use Rattle.std.specs.Int.{w32, w64}
use Rattle.std.proofs.lemmas.Bool.{cases_lt, lt-ltb, le-ltb, eqb-true, and_parts}
use Rattle.std.proofs.lemmas.List.{length-append}
use Rattle.db_value.specs.Relations.{widths_at}
use Rattle.db_value.specs.declared.record.Record.{Record}
use Rattle.db_value.specs.declared.schema.Relation.{Relation}
use Rattle.record_page.specs.Page.{capacity, is_page, rows_in}
use Rattle.image_text.specs.declared.image.Delta.{Delta}
use Rattle.image_text.specs.declared.image.RowPart.{RowPart}
use Rattle.image_text.specs.declared.image.SegmentPart.{SegmentPart}
use Rattle.image_text.specs.Reading.{Read, enough, repeat, number_at, is_page_of, on_page, next_page, pages_for, next_word, spans, are_words, next_delta, rises, are_blank, last_of, next_row, has_room, next_segment, next_segments}
use Rattle.image_text.proofs.PageLaw.{rooms}
use Rattle.image_text.proofs.SegmentLaw.{enough_room}
use Rattle.db_image.specs.Rules.{onto}
use Rattle.db_image.proofs.ReadSteps.{after_onto}
use Rattle.db_image.proofs.RulesSteps.{Keeps, MakesOne, MakesAll, first_read, then_read, if_tested, all_read, so_kept, each_read, all_of}

-- ---- records

-- nothing is asked of an item
abbrev Any : {S A : Type 0} → S → A → Type 0
Any s a = Unit {0}

abbrev no_bytes : List ℕ
no_bytes = []

-- the records of one page more
abbrev IsPage : List ℕ → ℕ × List Record → (ℕ × List Record) × List ℕ → Type 0
IsPage ws s t = (t.0.0 ≡ s.0 - on_page ws s.0) × (length t.0.1 ≡ length s.1 + on_page ws s.0)

next_page_kept : (ws : List ℕ) (s : ℕ × List Record) (b : List ℕ) → Keeps (next_page ws s b) (IsPage ws s)
unfolding next_page
next_page_kept ws s b =
    then_read (enough 4096 b) _ (λ there.
    if_tested (is_page_of ws (on_page ws s.0) (take 4096 b)) b _ (λ page.
    let count = eqb-true (length (rows_in ws (take 4096 b)).records) (on_page ws s.0) (and_parts (is_page ws (take 4096 b)) (length (rows_in ws (take 4096 b)).records == on_page ws s.0) page).1 in
    let n = length-append s.1 (rows_in ws (take 4096 b)).records in
    all_read ((s.0 - on_page ws s.0, s.1 ++ (rows_in ws (take 4096 b)).records), drop 4096 b) (refl, omega (arith, n, count))))

left_over : (ws : List ℕ) (more : ℕ) → more - on_page ws more ≤ more - capacity ws
left_over ws more = by (cases_lt more (capacity ws))
  where
    by : (more < capacity ws) ⊎ (capacity ws ≤ more) → more - on_page ws more ≤ more - capacity ws
    by (inl l) = rw (lt-ltb more (capacity ws) l) (omega arith)
    by (inr g) = rw (le-ltb more (capacity ws) g) (omega arith)

within : (ws : List ℕ) (more : ℕ) → on_page ws more ≤ more
within ws more = by (cases_lt more (capacity ws))
  where
    by : (more < capacity ws) ⊎ (capacity ws ≤ more) → on_page ws more ≤ more
    by (inl l) = rw (lt-ltb more (capacity ws) l) (omega arith)
    by (inr g) = rw (le-ltb more (capacity ws) g) (omega arith)

-- all records are read where the pages hold them
pages_kept : (ws : List ℕ) (k : ℕ) (s : ℕ × List Record) (b : List ℕ) → s.0 ≤ rooms (capacity ws) k → Keeps (repeat (next_page ws) k s b) (λ t. length t.0.1 ≡ length s.1 + s.0)
unfolding repeat
pages_kept ws zero s b room = all_read (s, b) (omega (arith, room))
pages_kept ws (suc k) s b room =
    first_read _ (next_page_kept ws s b) (λ t is.
    let left = is.0 in
    let more = is.1 in
    let over = left_over ws s.0 in
    let most = within ws s.0 in
    so_kept (pages_kept ws k t.0 t.1 (omega (arith, left, over, room))) (λ u n. omega (arith, n, left, more, most)))

-- ---- rows

next_word_kept : (s : List ℕ) (b : List ℕ) → Keeps (next_word s b) (MakesOne onto Any s)
next_word_kept s b = then_read (number_at w64 b) _ (λ w. all_read (s ++ w.0 ∷ [], w.1) (w.0, refl, tt))

next_delta_kept : (size : ℕ) (s : List Delta) (b : List ℕ) → Keeps (next_delta size s b) (MakesOne onto Any s)
unfolding next_delta
next_delta_kept size s b =
    then_read (number_at w32 b) _ (λ f.
    then_read (number_at w32 f.1) _ (λ n.
    if_tested (spans size f.0 n.0) b _ (λ within_size.
    then_read (repeat next_word n.0 no_bytes n.1) _ (λ ws.
    if_tested (are_words size f.0 ws.0) b _ (λ full.
    all_read (s ++ record { first = f.0; words = ws.0 } ∷ [], ws.1) (record { first = f.0; words = ws.0 }, refl, tt))))))

abbrev no_deltas : List Delta
no_deltas = []

-- a row that begins after position 0 has no words there
abbrev pub IsBlankRow : RowPart → Type 0
IsBlankRow x = (x.from == 0 || are_blank (take 1 x.deltas)) ≡ true

first_of : (more : ℕ) (d ds : List Delta × List ℕ) → MakesOne onto Any no_deltas d → MakesAll onto Any more d.0 ds → take 1 ds.0 ≡ d.0
first_of more d ds one all = ap (take 1) (all.2 ∙ after_onto d.0 all.0 ∙ ap (λ l. l ++ all.0) one.1) ∙ sym one.1

next_row_kept : (lasts : List ℕ) (size : ℕ) (s : List RowPart) (b : List ℕ) → Keeps (next_row lasts size s b) (MakesOne onto (λ t x. IsBlankRow x) s)
unfolding next_row
next_row_kept lasts size s b =
    then_read (number_at w32 b) _ (λ n.
    if_tested (nat_lt n.0 (length lasts) && rises s n.0) b _ (λ later.
    then_read (number_at w32 n.1) _ (λ f.
    if_tested (nat_le f.0 (last_of lasts n.0)) n.1 _ (λ within_last.
    first_read _ (next_delta_kept size no_deltas f.1) (λ d one.
    if_tested (f.0 == 0 || are_blank d.0) b _ (λ blank.
    first_read _ (each_read onto Any (next_delta size) (next_delta_kept size) (last_of lasts n.0 - f.0) d.0 d.1) (λ ds more.
    all_read (s ++ record { branch = n.0; from = f.0; deltas = ds.0 } ∷ [], ds.1)
    (record { branch = n.0; from = f.0; deltas = ds.0 }, refl, subst (λ l. (f.0 == 0 || are_blank l) ≡ true) (sym (first_of (last_of lasts n.0 - f.0) d ds one more)) blank))))))))

-- ---- segments

-- the head of a branch has room for its records, and a row that begins after position 0 changes nothing there
pub record IsRoomy (lasts : List ℕ) (s : SegmentPart) : Type 0 where
  pub room : has_room lasts s.head (length s.records) ≡ true
  pub rows : All IsBlankRow s.rows

abbrev no_records : List Record
no_records = []

abbrev no_rows : List RowPart
no_rows = []

next_segment_kept : (ws lasts : List ℕ) → 0 < capacity ws → (s : List SegmentPart) (b : List ℕ) → Keeps (next_segment ws lasts s b) (MakesOne onto (λ t x. IsRoomy lasts x) s)
unfolding next_segment
next_segment_kept ws lasts some s b =
    then_read (number_at w32 b) _ (λ h.
    if_tested (nat_le h.0 (length lasts)) b _ (λ there.
    then_read (number_at w32 h.1) _ (λ n.
    if_tested (has_room lasts h.0 n.0) h.1 _ (λ room.
    first_read _ (pages_kept ws (pages_for ws n.0) (n.0, no_records) n.1 (enough_room ws n.0 some)) (λ p size.
    then_read (number_at w32 p.1) _ (λ k.
    if_tested (nat_le k.0 (length lasts)) p.1 _ (λ rows_within.
    first_read _ (each_read onto (λ t x. IsBlankRow x) (next_row lasts n.0) (next_row_kept lasts n.0) k.0 no_rows k.1) (λ rows made.
    let same_size : length p.0.1 ≡ n.0 = omega (arith, size) in
    all_read (s ++ record { head = h.0; records = p.0.1; rows = rows.0 } ∷ [], rows.1)
    (record { head = h.0; records = p.0.1; rows = rows.0 }, refl, record { room = subst (λ c. has_room lasts h.0 c ≡ true) (sym same_size) room; rows = all_of IsBlankRow k.0 rows made })))))))))

abbrev no_segments : List SegmentPart
no_segments = []

next_segments_kept : (relations : List Relation) (lasts : List ℕ) → ((r : ℕ) → 0 < capacity (widths_at relations r)) → (s : List (List SegmentPart)) (b : List ℕ) → Keeps (next_segments relations lasts s b) (MakesOne onto (λ t ss. All (IsRoomy lasts) ss) s)
unfolding next_segments
next_segments_kept relations lasts some s b =
    then_read (number_at w32 b) _ (λ n.
    if_tested (nat_lt n.0 (2 * length lasts)) b _ (λ few.
    first_read _ (each_read onto (λ t x. IsRoomy lasts x) (next_segment (widths_at relations (length s)) lasts) (next_segment_kept (widths_at relations (length s)) lasts (some (length s))) n.0 no_segments n.1) (λ ss made.
    all_read (s ++ ss.0 ∷ [], ss.1) (ss.0, refl, all_of (IsRoomy lasts) n.0 ss made))))

-- the segments of all relations
pub all_segments_kept : (relations : List Relation) (lasts : List ℕ) → ((r : ℕ) → 0 < capacity (widths_at relations r)) → (k : ℕ) (b : List ℕ) → Keeps (repeat (next_segments relations lasts) k [] b) (λ x. All (λ ss. All (IsRoomy lasts) ss) x.0)
all_segments_kept relations lasts some k b =
    so_kept (each_read onto (λ t ss. All (IsRoomy lasts) ss) (next_segments relations lasts) (next_segments_kept relations lasts some) k [] b) (λ x made. all_of (λ ss. All (IsRoomy lasts) ss) k x made)
