-- The layout of what a store keeps, after a new branch.
use Rattle.std.proofs.Common.{◌≡◌, ℕ, Bool, ◌<◌, List, [], ◌∷◌, ◌++◌, length, map, set, get_or, None, ap, sym, ◌∙◌}
use Rattle.std.proofs.lemmas.List.{length-map, map-append, map-set}
use Rattle.db_value.specs.declared.schema.Relation.{Relation}
use Rattle.db_value.specs.declared.version.VersionPlace.{VersionPlace}
use Rattle.db_store.specs.Layout.{Lane, Layout, lane_at, segments_at, rows_at}
use Rattle.db_store.specs.LayoutGrowth.{rows_with, rows_begun, segments_with, made_at, lane_with, lane_begun, with_branch}
use Rattle.db_store.proofs.LayoutLaw.{same_relations}
use Rattle.bit_rows.specs.Rows.{laid_row}
use Rattle.bit_rows.specs.Kept.{KeptLane, no_kept, kept_rows}
use Rattle.hybrid_store.specs.Lanes.{segment_of, lane_of, kept_layout}
use Rattle.bit_rows.specs.Segments.{KeptList, list_at}
use Rattle.hybrid_store.proofs.LayoutLemmas.{lane_kept, segments_kept, rows_kept}

module _ (schema : List Relation) (lanes : List KeptLane) (order : List VersionPlace) (segments news : List KeptList) (q : Bool) (name : List ℕ) (origin : VersionPlace) (old new : KeptLane)
    (there : origin.branch < length lanes)
    (is_old : old ≡ record (get_or lanes origin.branch no_kept) { rows = old.rows; head = old.head })
    (is_new : new ≡ record { name = name; origin = origin; base = made_at (kept_layout schema lanes order segments) origin; seconds = None ∷ []; rows = new.rows; head = new.head; room = new.room })
    (old_rows : (r : ℕ) → r < length schema → map laid_row (kept_rows old r) ≡ rows_with q origin.position (map segment_of (list_at segments r)) (map laid_row (kept_rows (get_or lanes origin.branch no_kept) r)))
    (new_rows : (r : ℕ) → r < length schema → map laid_row (kept_rows new r) ≡ rows_begun q origin.position (map segment_of (list_at segments r)) (map laid_row (kept_rows (get_or lanes origin.branch no_kept) r)))
    (put : (r : ℕ) → r < length schema → map segment_of (list_at news r) ≡ segments_with q origin.branch (length lanes) (map segment_of (list_at segments r))) where
  abbrev b : ℕ
  b = origin.branch

  abbrev kept : KeptLane
  kept = get_or lanes origin.branch no_kept

  abbrev l : Layout
  l = kept_layout schema lanes order segments

  here : lane_at (kept_layout schema lanes order segments) origin.branch ≡ lane_of schema (get_or lanes origin.branch no_kept)
  here = lane_kept schema lanes order segments origin.branch there

  rows_here : (r : ℕ) → r < length schema → rows_at (lane_at l b) r ≡ map laid_row (kept_rows kept r)
  rows_here r h = ap (λ (x : Lane). rows_at x r) here ∙ rows_kept schema kept r h

  segments_here : (r : ℕ) → r < length schema → segments_at l.segments r ≡ map segment_of (list_at segments r)
  segments_here r h = segments_kept schema lanes order segments r h

  count : length l.lanes ≡ length lanes
  count = length-map lanes (lane_of schema)

  old_is : lane_of schema old ≡ lane_with l q (lane_at l b) origin.position
  old_is = λ i. record {
    name = (ap (λ (k : KeptLane). k.name) is_old ∙ sym (ap (λ (x : Lane). x.name) here)) i;
    origin = (ap (λ (k : KeptLane). k.origin) is_old ∙ sym (ap (λ (x : Lane). x.origin) here)) i;
    base = (ap (λ (k : KeptLane). k.base) is_old ∙ sym (ap (λ (x : Lane). x.base) here)) i;
    seconds = (ap (λ (k : KeptLane). k.seconds) is_old ∙ sym (ap (λ (x : Lane). x.seconds) here)) i;
    rows = same_relations schema (λ r. map laid_row (kept_rows old r)) (λ r. rows_with q origin.position (segments_at l.segments r) (rows_at (lane_at l b) r)) []
        (λ r h. old_rows r h ∙ (λ j. rows_with q origin.position (sym (segments_here r h) j) (sym (rows_here r h) j))) i;
  }

  new_is : lane_of schema new ≡ lane_begun l q name origin
  new_is = λ i. record {
    name = ap (λ (k : KeptLane). k.name) is_new i;
    origin = ap (λ (k : KeptLane). k.origin) is_new i;
    base = ap (λ (k : KeptLane). k.base) is_new i;
    seconds = ap (λ (k : KeptLane). k.seconds) is_new i;
    rows = same_relations schema (λ r. map laid_row (kept_rows new r)) (λ r. rows_begun q origin.position (segments_at l.segments r) (rows_at (lane_at l b) r)) []
        (λ r h. new_rows r h ∙ (λ j. rows_begun q origin.position (sym (segments_here r h) j) (sym (rows_here r h) j))) i;
  }

  -- the layout of what is kept after a new branch is the layout after the branch
  pub branch_layout : kept_layout schema (set lanes origin.branch old ++ new ∷ []) order news ≡ with_branch (kept_layout schema lanes order segments) q name origin
  branch_layout = λ i. record {
    schema = schema;
    lanes = (map-append (lane_of schema) (set lanes b old) (new ∷ [])
        ∙ ap (λ (xs : List Lane). xs ++ lane_of schema new ∷ []) (map-set (lane_of schema) lanes b old)
        ∙ (λ j. set (map (lane_of schema) lanes) b (old_is j) ++ new_is j ∷ [])) i;
    order = order;
    segments = same_relations schema (λ r. map segment_of (list_at news r)) (λ r. segments_with q b (length l.lanes) (segments_at l.segments r)) []
        (λ r h. put r h ∙ (λ j. segments_with q b (sym count j) (sym (segments_here r h) j))) i;
  }
