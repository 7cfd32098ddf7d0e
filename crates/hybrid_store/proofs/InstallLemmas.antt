-- What a store keeps of one relation after a commit is installed: of the branch, and of the others.
use Rattle.std.proofs.Common.{◌≡◌, ◌≢◌, ◌⊎◌, inl, inr, ℕ, Bool, true, false, cond, suc, ◌<◌, ◌==◌, List, [], ◌∷◌, ◌++◌, length, map, set, take, get_or, refl, arith, ap, sym, ◌∙◌, subst}
use Rattle.std.proofs.lemmas.Bool.{cases_eq, eq-eqb, ne_eqb}
use Rattle.std.proofs.lemmas.List.{length-map, length-set, append-nil, get_or-map, get_or-set_same, get_or-set_other, ext_get_or, take-append-le}
use Rattle.db_value.specs.declared.record.Record.{Record}
use Rattle.db_value.specs.declared.entry.Change.{Change}
use Rattle.record_page.specs.Page.{Rows}
use Rattle.commit_history.specs.Runs.{Next, next_of}
use Rattle.db_store.specs.Layout.{Segment, Row, no_segment, differ, bit, records_at}
use Rattle.db_store.specs.LayoutGrowth.{is_head_of, puts, touches, segment_after, bit_after, row_after}
use Rattle.db_store.specs.LaidOut.{head_at, row_at, no_row}
use Rattle.db_store.proofs.CommitLaw.{after_records}
use Rattle.hybrid_view.specs.Deltas.{slots_of}
use Rattle.hybrid_view.specs.Live.{Piece, Lived, piece_at}
use Rattle.hybrid_view.specs.RowPlaces.{Shows}
use Rattle.hybrid_view.proofs.PlaceLemmas.{shown_shorter}
use Rattle.bit_rows.specs.Short.{shortest}
use Rattle.bit_rows.specs.Rows.{KeptRow, no_kept_row, kept_row_at, laid_row, next_at, pushed_row}
use Rattle.hybrid_store.specs.Lanes.{segment_of}
use Rattle.bit_rows.specs.Segments.{KeptRecords, no_rows, kept_at}
use Rattle.hybrid_store.specs.Ready.{changed_slots, IsMadeAt}
use Rattle.hybrid_store.specs.Stored.{head_in, has_row, IsKeptAt}
use Rattle.hybrid_store.specs.ReadyRules.{one_only}
use Rattle.bit_rows.proofs.ShortLemmas.{short_slots, shorts_push}
use Rattle.hybrid_store.proofs.OwnLemmas.{head_after, has_at, at_has, own_there}
use Rattle.hybrid_store.proofs.CommitLayout.{rows_pushed, row_pushed}

-- heads stay while records are appended
heads_stay : (ss : List Segment) (c : ℕ) (new : List Record) (s : ℕ) → s < length ss → head_at (map (segment_after c new) ss) s ≡ head_at ss s
heads_stay ss c new s h = ap (λ (x : Segment). x.head) (get_or-map (segment_after c new) ss s no_segment no_segment h)

-- ---- another branch

module _ (ss : List Segment) (ws : List ℕ) (b c n : ℕ) (new : List Record) (rows : List KeptRow) (l : Lived) (apart : b ≢ c)
    (there : (i : ℕ) → i < length (map laid_row rows) → (row_at (map laid_row rows) i).segment < length ss) (at : IsKeptAt ss ws b n rows l) where
  long : length (map (segment_after c new) ss) ≡ length ss
  long = length-map ss (segment_after c new)

  head_there : head_in b ss < length ss
  head_there = own_there (length ss) (head_in b ss) rows at.own there

  head_same : head_in b (map (segment_after c new) ss) ≡ head_in b ss
  head_same = head_after b c new ss

  whole_stays : records_at (map (segment_after c new) ss) (head_in b ss) ≡ records_at ss (head_in b ss)
  whole_stays =
      let mine : is_head_of b (head_at ss (head_in b ss)) ≡ true = at.headed (head_in b ss) head_there ∙ eq-eqb (head_in b ss) (head_in b ss) refl in
      after_records c new ss (head_in b ss) head_there
      ∙ ap (λ x. records_at ss (head_in b ss) ++ cond x new []) (one_only c b (head_at ss (head_in b ss)) (λ e. apart (sym e)) mine)
      ∙ append-nil (records_at ss (head_in b ss))

  pub kept_stays : IsKeptAt (map (segment_after c new) ss) ws b n rows l
  kept_stays = record {
    own = ap (λ k. has_row k rows) head_same ∙ at.own;
    headed = λ s h. let e = long in let lt : s < length ss = omega (arith, h, e) in ap (is_head_of b) (heads_stay ss c new s lt) ∙ at.headed s lt ∙ ap (λ k. s == k) (sym head_same);
    short = at.short;
    shown = record {
      count = at.shown.count;
      each = λ i h.
          let row : Row = row_at (map laid_row rows) i in
          let p : Piece = piece_at l.pieces i in
          let s = at.shown.each i h in
          let shorter = shown_shorter ss n row p s in
          record {
            segment = s.segment;
            front = ap (take (length p.rows.records)) (after_records c new ss row.segment (there i h))
                ∙ take-append-le (length p.rows.records) (records_at ss row.segment) (cond (is_head_of c (head_at ss row.segment)) new []) shorter
                ∙ s.front;
            bits = s.bits;
            past = s.past;
          };
    };
    whole = λ i h e. at.whole i h (e ∙ head_same) ∙ sym whole_stays ∙ ap (records_at (map (segment_after c new) ss)) (sym head_same);
    lived = at.lived;
    small = at.small;
    widths = at.widths;
  }

-- ---- the branch itself

module _ (ss : List Segment) (ws : List ℕ) (c n r : ℕ) (cs : List Change) (rows news : List KeptRow) (nexts : List Next) (l0 l : Lived) (own : Rows)
    (at : IsKeptAt ss ws c n rows l0) (m : IsMadeAt ss ws c n r cs (map laid_row rows) nexts l own) where
  abbrev after : List Segment
  after = map (segment_after c (puts cs r)) ss

  row_is : (i : ℕ) → i < length rows → row_at (map laid_row rows) i ≡ laid_row (kept_row_at rows i)
  row_is i h = get_or-map laid_row rows i no_kept_row no_row h

  -- what is ready for a row is ready for its history
  item_is : (i : ℕ) → i < length rows → (next_at nexts i).delta.item ≡ shortest (changed_slots ss c n r cs (laid_row (kept_row_at rows i)))
  item_is i h =
      let k = length-map rows laid_row in
      ap (λ (x : Next). x.delta.item) (m.deltas i (omega (arith, h, k))) ∙ ap (λ (x : Row). shortest (changed_slots ss c n r cs x)) (row_is i h)

  pub next_is : (i : ℕ) → i < length rows → next_at nexts i ≡ next_of (kept_row_at rows i).deltas (next_at nexts i).delta.item
  next_is i h =
      let k = length-map rows laid_row in
      let lt : i < length (map laid_row rows) = omega (arith, h, k) in
      m.deltas i lt
      ∙ (λ j. next_of (map shortest (row_is i h j).deltas) (shortest (changed_slots ss c n r cs (row_is i h j))))
      ∙ (λ j. next_of (at.short i h j) (sym (item_is i h) j))

  pub nexts_count : length nexts ≡ length rows
  nexts_count = m.ready ∙ length-map rows laid_row

  module _ (count : length news ≡ length rows) (each : (i : ℕ) → i < length rows → kept_row_at news i ≡ pushed_row (kept_row_at rows i) (next_at nexts i)) where
    f : Row → Row
    f = row_after ss (map (segment_after c (puts cs r)) ss) (touches cs r) n

    pub laid_after : map laid_row news ≡ map (row_after ss (map (segment_after c (puts cs r)) ss) (touches cs r) n) (map laid_row rows)
    laid_after =
        rows_pushed rows news nexts (row_after ss after (touches cs r) n) count
        (λ i h.
        ap laid_row (each i h)
        ∙ row_pushed (kept_row_at rows i) (next_at nexts i) ss after (touches cs r) n
        (ap slots_of (item_is i h)
        ∙ short_slots (λ slot. differ (bit (laid_row (kept_row_at rows i)) n slot) (bit_after (records_at ss (kept_row_at rows i).segment) (touches cs r) (bit (laid_row (kept_row_at rows i)) n) slot)) (length (records_at after (kept_row_at rows i).segment))))

    head_stays : head_in c (map (segment_after c (puts cs r)) ss) ≡ head_in c ss
    head_stays = head_after c c (puts cs r) ss

    own_same : has_row (head_in c ss) news ≡ true
    own_same =
        let own_at = has_at (head_in c ss) rows at.own in
        let lt = own_at.1.0 in
        at_has (head_in c ss) news own_at.0 (omega (arith, lt, count)) (ap (λ (x : KeptRow). x.segment) (each own_at.0 own_at.1.0) ∙ own_at.1.1)

    pub made_kept : IsKeptAt (map (segment_after c (puts cs r)) ss) ws c (suc n) news l
    made_kept =
        let long = length-map ss (segment_after c (puts cs r)) in
        let mc = m.count in
        let fl = length-map (map laid_row rows) (row_after ss after (touches cs r) n) in
        let al = ap (λ (xs : List Row). length xs) laid_after in
        let there : head_in c ss < length ss = own_there (length ss) (head_in c ss) rows at.own m.there in
        let mine : is_head_of c (head_at ss (head_in c ss)) ≡ true = at.headed (head_in c ss) there ∙ eq-eqb (head_in c ss) (head_in c ss) refl in
        record {
          own = ap (λ j. has_row j news) head_stays ∙ own_same;
          headed = λ s h.
              let lt : s < length ss = omega (arith, h, long) in
              ap (is_head_of c) (heads_stay ss c (puts cs r) s lt) ∙ at.headed s lt ∙ ap (λ x. s == x) (sym head_stays);
          short = λ i h.
              let lt : i < length rows = omega (arith, h, count) in
              let s : KeptRow = kept_row_at rows i in
              let ds : (kept_row_at news i).deltas ≡ s.deltas ++ shortest (changed_slots ss c n r cs (laid_row s)) ∷ [] =
              ap (λ (x : KeptRow). x.deltas) (each i lt) ∙ ap (λ (d : List Bool). s.deltas ++ d ∷ []) (item_is i lt) in
              subst (λ (xs : List (List Bool)). map shortest (map slots_of xs) ≡ xs) (sym ds)
              (shorts_push s.deltas (λ slot. differ (bit (laid_row s) n slot) (bit_after (records_at ss s.segment) (touches cs r) (bit (laid_row s) n) slot)) (length (records_at after s.segment)) (at.short i lt));
          shown = record {
            count = omega (arith, mc, fl, al);
            each = λ i h.
                let lt : i < length (map laid_row rows) = omega (arith, h, fl, al) in
                subst (λ (x : Row). Shows after (suc n) x (piece_at l.pieces i))
                (sym (ap (λ (xs : List Row). row_at xs i) laid_after ∙ get_or-map (row_after ss after (touches cs r) n) (map laid_row rows) i no_row no_row lt)) (m.shown i lt);
          };
          whole = λ i h e. m.whole (head_in c ss) there mine i h (e ∙ head_stays) ∙ ap (records_at after) (sym head_stays);
          lived = m.lived;
          small = m.small;
          widths = λ i h. m.widths i (omega (arith, h, mc));
        }

  -- the segments whose head has the new records
  pub segments_put : (all : List KeptRecords) → ss ≡ map segment_of all → head_in c ss < length all
      → map segment_of (set all (head_in c ss) (record (kept_at all (head_in c ss)) { rows = own })) ≡ map (segment_after c (puts cs r)) (map segment_of all)
  segments_put all e h =
      let x : KeptRecords = record (kept_at all (head_in c ss)) { rows = own } in
      let put : List KeptRecords = set all (head_in c ss) x in
      let ls = length-set all (head_in c ss) x in
      let lm = length-map put segment_of in
      let la = length-map all segment_of in
      let lf = length-map (map segment_of all) (segment_after c (puts cs r)) in
      ext_get_or no_segment (map segment_of put) (map (segment_after c (puts cs r)) (map segment_of all)) (omega (arith, ls, lm, la, lf))
      (λ s k.
      let lt : s < length all = omega (arith, k, lm, ls) in
      get_or-map segment_of put s no_rows no_segment (omega (arith, k, lm))
      ∙ one s lt (cases_eq (head_in c ss) s)
      ∙ sym (get_or-map (segment_after c (puts cs r)) (map segment_of all) s no_segment no_segment (omega (arith, lt, la)) ∙ ap (segment_after c (puts cs r)) (get_or-map segment_of all s no_rows no_segment lt)))
    where
      x : KeptRecords
      x = record (kept_at all (head_in c ss)) { rows = own }

      -- the segment of the layout is the one that is kept
      seg : (s : ℕ) → s < length all → get_or ss s no_segment ≡ segment_of (kept_at all s)
      seg s lt = ap (λ (xs : List Segment). get_or xs s no_segment) e ∙ get_or-map segment_of all s no_rows no_segment lt

      within : (s : ℕ) → s < length all → s < length ss
      within s lt = let n = ap (λ (xs : List Segment). length xs) e in let k = length-map all segment_of in omega (arith, lt, n, k)

      own_is : (s : ℕ) → s < length all → head_in c ss ≡ s → own.records ≡ (segment_after c (puts cs r) (segment_of (kept_at all s))).records
      own_is s lt g =
          let t : is_head_of c (head_at ss s) ≡ true = at.headed s (within s lt) ∙ eq-eqb s (head_in c ss) (sym g) in
          m.put s (within s lt) t
          ∙ ap (λ (y : Segment). y.records) (get_or-map (segment_after c (puts cs r)) ss s no_segment no_segment (within s lt) ∙ ap (segment_after c (puts cs r)) (seg s lt))

      one : (s : ℕ) → s < length all → (head_in c ss ≡ s) ⊎ (head_in c ss ≢ s)
          → segment_of (get_or (set all (head_in c ss) (record (kept_at all (head_in c ss)) { rows = own })) s no_rows) ≡ segment_after c (puts cs r) (segment_of (kept_at all s))
      one s lt (inl g) =
          ap (λ k. segment_of (get_or (set all (head_in c ss) x) k no_rows)) (sym g)
          ∙ ap segment_of (get_or-set_same all (head_in c ss) x no_rows h)
          ∙ ap (λ k. record { head = (kept_at all k).head; records = own.records }) g
          ∙ (λ i. record { head = (kept_at all s).head; records = own_is s lt g i })
      one s lt (inr g) =
          let k : KeptRecords = kept_at all s in
          let f : is_head_of c k.head ≡ false = ap (λ (y : Segment). is_head_of c y.head) (sym (seg s lt)) ∙ at.headed s (within s lt) ∙ ne_eqb s (head_in c ss) (λ e2. g (sym e2)) in
          ap segment_of (get_or-set_other all (head_in c ss) s x no_rows (λ e2. g (sym e2)))
          ∙ ap (λ b. record { head = k.head; records = cond b (k.rows.records ++ puts cs r) k.rows.records }) (sym f)
