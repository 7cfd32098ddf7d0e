-- The layout of what a store keeps, after a commit.
use Rattle.std.proofs.Common.{◌≡◌, ℕ, Bool, ◌<◌, List, [], ◌∷◌, ◌++◌, length, map, set, get_or, Option, arith, ap, sym, ◌∙◌}
use Rattle.std.proofs.lemmas.List.{length-map, map-append, map-set, get_or-map, ext_get_or}
use Rattle.db_value.specs.declared.schema.Relation.{Relation}
use Rattle.db_value.specs.declared.version.VersionPlace.{VersionPlace}
use Rattle.db_value.specs.declared.entry.Change.{Change}
use Rattle.commit_history.specs.Runs.{Next}
use Rattle.db_store.specs.Layout.{Segment, Row, Lane, Layout, lane_at, differ, bit, slots_where, records_at, by_relation, segments_at, rows_at}
use Rattle.db_store.specs.LayoutGrowth.{puts, touches, segment_after, bit_after, row_after, segments_after, last_in, lane_after, after_commit}
use Rattle.db_store.specs.LaidOut.{no_row}
use Rattle.db_store.proofs.LayoutLaw.{same_relations}
use Rattle.hybrid_view.specs.Deltas.{slots_of}
use Rattle.hybrid_view.specs.Live.{Lived}
use Rattle.bit_rows.specs.Rows.{KeptRow, no_kept_row, kept_row_at, laid_row, pushed_row}
use Rattle.bit_rows.specs.Kept.{KeptLane, no_kept, kept_rows}
use Rattle.hybrid_store.specs.Lanes.{segment_of, lane_of, kept_layout}
use Rattle.bit_rows.specs.Segments.{KeptList, list_at}
use Rattle.hybrid_store.proofs.LayoutLemmas.{lane_kept, segments_kept, rows_kept}

-- rows with one delta more each
pub rows_pushed : (rows news : List KeptRow) (nexts : List Next) (f : Row → Row) → length news ≡ length rows
    → ((i : ℕ) → i < length rows → laid_row (kept_row_at news i) ≡ f (laid_row (kept_row_at rows i))) → map laid_row news ≡ map f (map laid_row rows)
rows_pushed rows news nexts f n e =
    let a = length-map news laid_row in
    let b = length-map rows laid_row in
    let c = length-map (map laid_row rows) f in
    ext_get_or no_row (map laid_row news) (map f (map laid_row rows)) (a ∙ n ∙ sym b ∙ sym c)
    (λ i h.
    let lt : i < length rows = omega (arith, h, a, n) in
    get_or-map laid_row news i no_kept_row no_row (omega (arith, h, a))
    ∙ e i lt
    ∙ ap f (sym (get_or-map laid_row rows i no_kept_row no_row lt))
    ∙ sym (get_or-map f (map laid_row rows) i no_row no_row (omega (arith, lt, b))))

-- a row with its next delta
pub row_pushed : (s : KeptRow) (next : Next) (old new : List Segment) (touched : ℕ → Bool) (n : ℕ)
    → slots_of next.delta.item ≡ slots_where (λ slot. differ (bit (laid_row s) n slot) (bit_after (records_at old s.segment) touched (bit (laid_row s) n) slot)) (length (records_at new s.segment))
    → laid_row (pushed_row s next) ≡ row_after old new touched n (laid_row s)
row_pushed s next old new touched n e =
    ap (λ (ds : List (List ℕ)). record { segment = s.segment; from = s.from; deltas = ds })
    (map-append slots_of s.deltas (next.delta.item ∷ []) ∙ ap (λ (d : List ℕ). map slots_of s.deltas ++ d ∷ []) e)

module _ (schema : List Relation) (lanes : List KeptLane) (order : List VersionPlace) (segments news : List KeptList) (b : ℕ) (second : Option VersionPlace) (changes : List Change) (new : KeptLane) (head : List Lived)
    (there : b < length lanes)
    (is : new ≡ record (get_or lanes b no_kept) { seconds = (get_or lanes b no_kept).seconds ++ second ∷ []; rows = new.rows; head = head })
    (rows : (r : ℕ) → r < length schema
    → map laid_row (kept_rows new r)
    ≡ map (row_after (segments_at (kept_layout schema lanes order segments).segments r) (segments_at (segments_after (kept_layout schema lanes order segments) b changes) r) (touches changes r) (last_in (lane_at (kept_layout schema lanes order segments) b))) (map laid_row (kept_rows (get_or lanes b no_kept) r)))
    (put : (r : ℕ) → r < length schema → map segment_of (list_at news r) ≡ map (segment_after b (puts changes r)) (map segment_of (list_at segments r))) where
  abbrev kept : KeptLane
  kept = get_or lanes b no_kept

  abbrev l : Layout
  l = kept_layout schema lanes order segments

  abbrev after : List (List Segment)
  after = segments_after (kept_layout schema lanes order segments) b changes

  here : lane_at (kept_layout schema lanes order segments) b ≡ lane_of schema (get_or lanes b no_kept)
  here = lane_kept schema lanes order segments b there

  -- the rows of the branch, as growth has them
  rows_eq : by_relation schema (λ r. map laid_row (kept_rows new r))
      ≡ by_relation schema (λ r. map (row_after (segments_at (kept_layout schema lanes order segments).segments r) (segments_at (segments_after (kept_layout schema lanes order segments) b changes) r) (touches changes r) (last_in (lane_at (kept_layout schema lanes order segments) b))) (rows_at (lane_at (kept_layout schema lanes order segments) b) r))
  rows_eq =
      same_relations schema (λ r. map laid_row (kept_rows new r)) (λ r. map (row_after (segments_at l.segments r) (segments_at after r) (touches changes r) (last_in (lane_at l b))) (rows_at (lane_at l b) r)) []
      (λ r h. rows r h ∙ ap (map (row_after (segments_at l.segments r) (segments_at after r) (touches changes r) (last_in (lane_at l b)))) (sym (ap (λ (x : Lane). rows_at x r) here ∙ rows_kept schema kept r h)))

  lane_is : lane_of schema new ≡ lane_after (kept_layout schema lanes order segments) after (lane_at (kept_layout schema lanes order segments) b) second changes
  lane_is = λ i. record {
    name = (ap (λ (k : KeptLane). k.name) is ∙ sym (ap (λ (x : Lane). x.name) here)) i;
    origin = (ap (λ (k : KeptLane). k.origin) is ∙ sym (ap (λ (x : Lane). x.origin) here)) i;
    base = (ap (λ (k : KeptLane). k.base) is ∙ sym (ap (λ (x : Lane). x.base) here)) i;
    seconds = (ap (λ (k : KeptLane). k.seconds) is ∙ ap (λ (xs : List (Option VersionPlace)). xs ++ second ∷ []) (sym (ap (λ (x : Lane). x.seconds) here))) i;
    rows = rows_eq i;
  }

  -- the layout of what is kept after a commit is the layout after the commit
  pub commit_layout : kept_layout schema (set lanes b new) (order ++ record { branch = b; position = length (get_or lanes b no_kept).seconds } ∷ []) news
      ≡ after_commit (kept_layout schema lanes order segments) b second changes
  commit_layout = λ i. record {
    schema = schema;
    lanes = (map-set (lane_of schema) lanes b new ∙ ap (set (map (lane_of schema) lanes) b) lane_is) i;
    order = order ++ record { branch = b; position = ap (λ (x : Lane). length x.seconds) (sym here) i } ∷ [];
    segments = same_relations schema (λ r. map segment_of (list_at news r)) (λ r. map (segment_after b (puts changes r)) (segments_at l.segments r)) []
        (λ r h. put r h ∙ ap (map (segment_after b (puts changes r))) (sym (segments_kept schema lanes order segments r h))) i;
  }
