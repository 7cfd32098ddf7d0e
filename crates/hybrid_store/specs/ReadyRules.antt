-- A preparation serves on after a commit on another branch: one relation.
use Rattle.std.proofs.Common.{◌≡◌, ◌≢◌, ◌⊎◌, inl, inr, ℕ, suc, ◌<◌, ◌≤◌, ◌==◌, ◌&&◌, not, Bool, true, false, cond, List, [], ◌∷◌, ◌++◌, length, map, take, get_or, Option, Some, None, refl, arith, ap, sym, ◌∙◌}
use Rattle.std.proofs.lemmas.Bool.{cases_Bool, lt-ltb, eqb-true, false≢true}
use Rattle.std.proofs.lemmas.List.{append-nil, length-append, length-map, get_or-map, get_or_append_left, take-append-le}
use Rattle.db_value.specs.declared.record.Record.{Record}
use Rattle.db_value.specs.declared.entry.Change.{Change}
use Rattle.record_page.specs.Page.{Rows}
use Rattle.db_store.specs.Layout.{Segment, Row, no_segment, no_record, differ, bit, slots_where, records_at}
use Rattle.db_store.specs.LayoutGrowth.{is_head_of, puts, touches, segment_after, bit_after, row_after}
use Rattle.db_store.specs.LaidOut.{head_at, row_at}
use Rattle.db_store.proofs.CommitLaw.{after_records}
use Rattle.hybrid_view.specs.Live.{Piece, Lived, piece_at}
use Rattle.hybrid_view.proofs.PlaceLemmas.{shown_shorter}
use Rattle.hybrid_view.proofs.DeltaLemmas.{slots_agree}
use Rattle.commit_history.specs.Runs.{Next, next_of}
use Rattle.bit_rows.specs.Short.{shortest}
use Rattle.bit_rows.proofs.ShortLemmas.{slots_stop_to}
use Rattle.hybrid_store.specs.Ready.{IsMadeAt}

-- a segment is the head of one branch only
pub one_only : (c d : ℕ) (h : Option ℕ) → c ≢ d → is_head_of d h ≡ true → is_head_of c h ≡ false
one_only c d None n e = refl
one_only c d (Some x) n e = by (cases_Bool (c == x))
  where
    by : ((c == x) ≡ true) ⊎ ((c == x) ≡ false) → (c == x) ≡ false
    by (inl t) = absurd (n (eqb-true c x t ∙ sym (eqb-true d x e)))
    by (inr f) = f

-- nothing is true together with what is false
and_false : (b : Bool) → (false && b) ≡ false
and_false true = refl
and_false false = refl

module _ (ss : List Segment) (c d n r : ℕ) (cs : List Change) (q : List Record) (apart : c ≢ d) where
  abbrev p : List Record
  p = puts cs r

  abbrev news : List Segment
  news = map (segment_after c (puts cs r)) ss

  abbrev wide : List Segment
  wide = map (segment_after d q) ss

  abbrev wide_news : List Segment
  wide_news = map (segment_after c (puts cs r)) (map (segment_after d q) ss)

  heads_keep : (s : ℕ) → s < length ss → head_at (map (segment_after d q) ss) s ≡ head_at ss s
  heads_keep s h = ap (λ (x : Segment). x.head) (get_or-map (segment_after d q) ss s no_segment no_segment h)

  long : length (map (segment_after d q) ss) ≡ length ss
  long = length-map ss (segment_after d q)

  -- the records with what the other branch puts
  wide_is : (s : ℕ) → s < length ss → records_at (map (segment_after d q) ss) s ≡ records_at ss s ++ cond (is_head_of d (head_at ss s)) q []
  wide_is s h = after_records d q ss s h

  news_is : (s : ℕ) → s < length ss → records_at (map (segment_after c (puts cs r)) ss) s ≡ records_at ss s ++ cond (is_head_of c (head_at ss s)) (puts cs r) []
  news_is s h = after_records c (puts cs r) ss s h

  wide_news_is : (s : ℕ) → s < length ss → records_at (map (segment_after c (puts cs r)) (map (segment_after d q) ss)) s ≡ (records_at ss s ++ cond (is_head_of d (head_at ss s)) q []) ++ cond (is_head_of c (head_at ss s)) (puts cs r) []
  wide_news_is s h =
      after_records c (puts cs r) wide s (let l = long in omega (arith, l, h))
      ∙ (λ i. wide_is s h i ++ cond (is_head_of c (heads_keep s h i)) (puts cs r) [])

  -- either the segment stays, or it isn't the branch's head
  kinds : (s : ℕ) → s < length ss
      → ((records_at (map (segment_after d q) ss) s ≡ records_at ss s) × (records_at (map (segment_after c (puts cs r)) (map (segment_after d q) ss)) s ≡ records_at (map (segment_after c (puts cs r)) ss) s))
      ⊎ ((records_at (map (segment_after d q) ss) s ≡ records_at ss s ++ q) × ((records_at (map (segment_after c (puts cs r)) (map (segment_after d q) ss)) s ≡ records_at ss s ++ q) × ((records_at (map (segment_after c (puts cs r)) ss) s ≡ records_at ss s) × (is_head_of c (head_at ss s) ≡ false))))
  kinds s h = by (cases_Bool (is_head_of d (head_at ss s)))
    where
      by : (is_head_of d (head_at ss s) ≡ true) ⊎ (is_head_of d (head_at ss s) ≡ false)
          → ((records_at (map (segment_after d q) ss) s ≡ records_at ss s) × (records_at (map (segment_after c (puts cs r)) (map (segment_after d q) ss)) s ≡ records_at (map (segment_after c (puts cs r)) ss) s))
          ⊎ ((records_at (map (segment_after d q) ss) s ≡ records_at ss s ++ q) × ((records_at (map (segment_after c (puts cs r)) (map (segment_after d q) ss)) s ≡ records_at ss s ++ q) × ((records_at (map (segment_after c (puts cs r)) ss) s ≡ records_at ss s) × (is_head_of c (head_at ss s) ≡ false))))
      by (inr f) =
          let e : records_at ss s ++ cond (is_head_of d (head_at ss s)) q [] ≡ records_at ss s = ap (λ b. records_at ss s ++ cond b q []) f ∙ append-nil (records_at ss s) in
          inl (wide_is s h ∙ e, wide_news_is s h ∙ ap (λ (xs : List Record). xs ++ cond (is_head_of c (head_at ss s)) (puts cs r) []) e ∙ sym (news_is s h))
      by (inl t) =
          let f : is_head_of c (head_at ss s) ≡ false = one_only c d (head_at ss s) apart t in
          inr (
            wide_is s h ∙ ap (λ b. records_at ss s ++ cond b q []) t,
            (
              wide_news_is s h ∙ (λ i. (records_at ss s ++ cond (t i) q []) ++ cond (f i) (puts cs r) []) ∙ append-nil (records_at ss s ++ q),
              (news_is s h ∙ ap (λ b. records_at ss s ++ cond b (puts cs r) []) f ∙ append-nil (records_at ss s), f),
            ),
          )

  abbrev delta : List Segment → List Segment → Row → List ℕ
  delta old new row = slots_where (λ slot. differ (bit row n slot) (bit_after (records_at old row.segment) (touches cs r) (bit row n) slot)) (length (records_at new row.segment))

  -- the delta of a row stays
  delta_stays : (row : Row) → row.segment < length ss → ((slot : ℕ) → bit row n slot ≡ true → slot < length (records_at ss row.segment))
      → delta (map (segment_after d q) ss) (map (segment_after c (puts cs r)) (map (segment_after d q) ss)) row ≡ delta ss (map (segment_after c (puts cs r)) ss) row
  delta_stays row h within = by (kinds row.segment h)
    where
      off : (slot : ℕ) → length (records_at ss row.segment) ≤ slot → bit row n slot ≡ false
      off slot g = no (cases_Bool (bit row n slot))
        where
          no : (bit row n slot ≡ true) ⊎ (bit row n slot ≡ false) → bit row n slot ≡ false
          no (inl t) = let w = within slot t in absurd (omega (arith, w, g))
          no (inr f) = f

      by : ((records_at (map (segment_after d q) ss) row.segment ≡ records_at ss row.segment) × (records_at (map (segment_after c (puts cs r)) (map (segment_after d q) ss)) row.segment ≡ records_at (map (segment_after c (puts cs r)) ss) row.segment))
          ⊎ ((records_at (map (segment_after d q) ss) row.segment ≡ records_at ss row.segment ++ q) × ((records_at (map (segment_after c (puts cs r)) (map (segment_after d q) ss)) row.segment ≡ records_at ss row.segment ++ q) × ((records_at (map (segment_after c (puts cs r)) ss) row.segment ≡ records_at ss row.segment) × (is_head_of c (head_at ss row.segment) ≡ false))))
          → delta (map (segment_after d q) ss) (map (segment_after c (puts cs r)) (map (segment_after d q) ss)) row ≡ delta ss (map (segment_after c (puts cs r)) ss) row
      by (inl e) = λ i. slots_where (λ slot. differ (bit row n slot) (bit_after (e.0 i) (touches cs r) (bit row n) slot)) (length (e.1 i))
      by (inr e) =
          let xs : List Record = records_at ss row.segment in
          let f : ℕ → Bool = λ slot. differ (bit row n slot) (bit_after (xs ++ q) (touches cs r) (bit row n) slot) in
          let m = length-append xs q in
          (λ i. slots_where (λ slot. differ (bit row n slot) (bit_after (e.0 i) (touches cs r) (bit row n) slot)) (length (e.1.0 i)))
          ∙ ap (slots_where f) m
          ∙ slots_stop_to f (length xs) (length q)
          (λ slot g k.
          (λ i. differ (off slot g i) (cond (lt-ltb slot (length (xs ++ q)) (omega (arith, m, k)) i) (off slot g i && not (touches cs r (get_or (xs ++ q) slot no_record).key)) true))
          ∙ ap (differ false) (and_false (not (touches cs r (get_or (xs ++ q) slot no_record).key))))
          ∙ slots_agree f (λ slot. differ (bit row n slot) (bit_after xs (touches cs r) (bit row n) slot)) (length xs)
          (λ slot k.
          ap (differ (bit row n slot))
          (ap (λ b. cond b (bit row n slot && not (touches cs r (get_or (xs ++ q) slot no_record).key)) true) (lt-ltb slot (length (xs ++ q)) (omega (arith, m, k)))
          ∙ ap (λ (x : Record). bit row n slot && not (touches cs r x.key)) (get_or_append_left xs q no_record slot k)
          ∙ sym (ap (λ b. cond b (bit row n slot && not (touches cs r (get_or xs slot no_record).key)) true) (lt-ltb slot (length xs) k))))
          ∙ ap (slots_where (λ slot. differ (bit row n slot) (bit_after xs (touches cs r) (bit row n) slot))) (ap (λ (ys : List Record). length ys) (sym e.1.1.0))

  front_stays : (row : Row) (x : Piece) → row.segment < length ss → length x.rows.records ≤ length (records_at (map (segment_after c (puts cs r)) ss) row.segment) → take (length x.rows.records) (records_at (map (segment_after c (puts cs r)) ss) row.segment) ≡ x.rows.records
      → take (length x.rows.records) (records_at (map (segment_after c (puts cs r)) (map (segment_after d q) ss)) row.segment) ≡ x.rows.records
  front_stays row x h short front = by (kinds row.segment h)
    where
      by : ((records_at (map (segment_after d q) ss) row.segment ≡ records_at ss row.segment) × (records_at (map (segment_after c (puts cs r)) (map (segment_after d q) ss)) row.segment ≡ records_at (map (segment_after c (puts cs r)) ss) row.segment))
          ⊎ ((records_at (map (segment_after d q) ss) row.segment ≡ records_at ss row.segment ++ q) × ((records_at (map (segment_after c (puts cs r)) (map (segment_after d q) ss)) row.segment ≡ records_at ss row.segment ++ q) × ((records_at (map (segment_after c (puts cs r)) ss) row.segment ≡ records_at ss row.segment) × (is_head_of c (head_at ss row.segment) ≡ false))))
          → take (length x.rows.records) (records_at (map (segment_after c (puts cs r)) (map (segment_after d q) ss)) row.segment) ≡ x.rows.records
      by (inl e) = ap (take (length x.rows.records)) e.1 ∙ front
      by (inr e) =
          let n = ap (λ (xs : List Record). length xs) e.1.1.0 in
          ap (take (length x.rows.records)) e.1.0
          ∙ take-append-le (length x.rows.records) (records_at ss row.segment) q (omega (arith, short, n))
          ∙ ap (take (length x.rows.records)) (sym e.1.1.0)
          ∙ front

  head_stays : (s : ℕ) → s < length ss → is_head_of c (head_at ss s) ≡ true → records_at (map (segment_after c (puts cs r)) (map (segment_after d q) ss)) s ≡ records_at (map (segment_after c (puts cs r)) ss) s
  head_stays s h t = by (kinds s h)
    where
      by : ((records_at (map (segment_after d q) ss) s ≡ records_at ss s) × (records_at (map (segment_after c (puts cs r)) (map (segment_after d q) ss)) s ≡ records_at (map (segment_after c (puts cs r)) ss) s))
          ⊎ ((records_at (map (segment_after d q) ss) s ≡ records_at ss s ++ q) × ((records_at (map (segment_after c (puts cs r)) (map (segment_after d q) ss)) s ≡ records_at ss s ++ q) × ((records_at (map (segment_after c (puts cs r)) ss) s ≡ records_at ss s) × (is_head_of c (head_at ss s) ≡ false))))
          → records_at (map (segment_after c (puts cs r)) (map (segment_after d q) ss)) s ≡ records_at (map (segment_after c (puts cs r)) ss) s
      by (inl e) = e.1
      by (inr e) = absurd (false≢true (sym e.1.1.1 ∙ t))

  -- what is ready in a relation stays so
  pub made_lasts : (ws : List ℕ) (rows : List Row) (nexts : List Next) (l : Lived) (own : Rows) → IsMadeAt ss ws c n r cs rows nexts l own → IsMadeAt (map (segment_after d q) ss) ws c n r cs rows nexts l own
  made_lasts ws rows nexts l own m = record {
    there = λ i h. let a = m.there i h in let e = long in omega (arith, a, e);
    within = λ i slot h t.
        let a = m.within i slot h t in
        let e = ap (λ (xs : List Record). length xs) (wide_is (row_at rows i).segment (m.there i h)) in
        let k = length-append (records_at ss (row_at rows i).segment) (cond (is_head_of d (head_at ss (row_at rows i).segment)) q []) in
        omega (arith, a, e, k);
    ready = m.ready;
    deltas = λ i h. m.deltas i h ∙ sym (ap (λ (xs : List ℕ). next_of (map shortest (row_at rows i).deltas) (shortest xs)) (delta_stays (row_at rows i) (m.there i h) (λ slot. m.within i slot h)));
    count = m.count;
    shown = λ i h.
        let row : Row = row_at rows i in
        let s = m.shown i h in
        let same : row_after wide wide_news (touches cs r) n row ≡ row_after ss news (touches cs r) n row =
        ap (λ (ds : List ℕ). record { segment = row.segment; from = row.from; deltas = row.deltas ++ ds ∷ [] }) (delta_stays row (m.there i h) (λ slot. m.within i slot h)) in
        record {
          segment = s.segment;
          front = front_stays row (piece_at l.pieces i) (m.there i h) (shown_shorter news (suc n) (row_after ss news (touches cs r) n row) (piece_at l.pieces i) s) s.front;
          bits = λ slot. s.bits slot ∙ ap (λ (x : Row). bit x (suc n) slot) (sym same);
          past = λ slot g. ap (λ (x : Row). bit x (suc n) slot) same ∙ s.past slot g;
        };
    whole = λ s h t i k e.
        let e2 = long in
        let lt : s < length ss = omega (arith, h, e2) in
        let t2 : is_head_of c (head_at ss s) ≡ true = ap (is_head_of c) (sym (heads_keep s lt)) ∙ t in
        m.whole s lt t2 i k e ∙ sym (head_stays s lt t2);
    lived = m.lived;
    small = m.small;
    widths = m.widths;
    own_widths = m.own_widths;
    put = λ s h t.
        let e2 = long in
        let lt : s < length ss = omega (arith, h, e2) in
        let t2 : is_head_of c (head_at ss s) ≡ true = ap (is_head_of c) (sym (heads_keep s lt)) ∙ t in
        m.put s lt t2 ∙ sym (head_stays s lt t2);
  }
