-- What the readers of a layout tell.
use Rattle.std.proofs.Common.{◌≡◌, ◌≢◌, ℕ, ◌+◌, ◌<◌, ◌≤◌, ◌==◌, cond, List, length, map, drop, get_or, Option, Some, None, refl, arith, ap, sym, ◌∙◌}
use Rattle.std.specs.Prelude.{IfSome}
use Rattle.std.specs.Option.{unwrap_or}
use Rattle.std.proofs.lemmas.List.{drop_more, drop_all, length-map, get_or-map}
use Rattle.db_value.specs.declared.schema.Relation.{Relation}
use Rattle.db_value.specs.declared.version.VersionPlace.{VersionPlace}
use Rattle.db_store.specs.Layout.{Segment, Row, Lane, no_segment, segments_at, rows_at}
use Rattle.db_store.specs.LaidOut.{no_row}
use Rattle.hybrid_view.specs.Deltas.{slots_of}
use Rattle.bit_rows.specs.Rows.{KeptRow, no_kept_row, kept_row_at, laid_row}
use Rattle.bit_rows.specs.Kept.{KeptLane, no_kept, kept_rows}
use Rattle.bit_rows.specs.Segments.{KeptList, no_rows, list_at, kept_at}
use Rattle.hybrid_store.specs.Lanes.{segment_of, lane_of, kept_layout}
use Rattle.hybrid_store.specs.Readers.{place_from, rows_in, from_at, deltas_at}
use Rattle.hybrid_store.proofs.LayoutLemmas.{lane_kept, segments_kept, rows_kept}

-- the place of a segment's row among those from a place on
pub place_next : (rows : List KeptRow) (i s : ℕ) → i < length rows
    → place_from i (map laid_row (drop i rows)) s ≡ cond ((kept_row_at rows i).segment == s) (Some i) (place_from (i + 1) (map laid_row (drop (i + 1) rows)) s)
place_next rows i s h = ap (λ (xs : List KeptRow). place_from i (map laid_row xs) s) (drop_more rows i no_kept_row h)

-- none is left
pub place_last : (rows : List KeptRow) (i s : ℕ) → length rows ≤ i → place_from i (map laid_row (drop i rows)) s ≡ None
place_last rows i s h = ap (λ (xs : List KeptRow). place_from i (map laid_row xs) s) (drop_all i rows h)

-- a segment of the layout is one that is kept
pub segment_within : (schema : List Relation) (lanes : List KeptLane) (order : List VersionPlace) (segments : List KeptList) (r i : ℕ) → r < length schema → i < length (segments_at (kept_layout schema lanes order segments).segments r) → i < length (list_at segments r)
segment_within schema lanes order segments r i h lt =
    let e = ap (λ (ss : List Segment). length ss) (segments_kept schema lanes order segments r h) in
    let n = length-map (list_at segments r) segment_of in
    omega (arith, e, n, lt)

pub segment_told : (schema : List Relation) (lanes : List KeptLane) (order : List VersionPlace) (segments : List KeptList) (r i : ℕ) → r < length schema → i < length (segments_at (kept_layout schema lanes order segments).segments r)
    → segment_of (kept_at (list_at segments r) i) ≡ get_or (segments_at (kept_layout schema lanes order segments).segments r) i no_segment
segment_told schema lanes order segments r i h lt =
    sym (ap (λ (ss : List Segment). get_or ss i no_segment) (segments_kept schema lanes order segments r h)
    ∙ get_or-map segment_of (list_at segments r) i no_rows no_segment (segment_within schema lanes order segments r i h lt))

-- the rows of a branch in the layout are those that are kept
pub rows_told : (schema : List Relation) (lanes : List KeptLane) (order : List VersionPlace) (segments : List KeptList) (r b : ℕ) → r < length schema → b < length (kept_layout schema lanes order segments).lanes
    → map laid_row (kept_rows (get_or lanes b no_kept) r) ≡ rows_in (kept_layout schema lanes order segments) r b
rows_told schema lanes order segments r b h lt =
    let n = length-map lanes (lane_of schema) in
    sym (ap (λ (x : Lane). rows_at x r) (lane_kept schema lanes order segments b (omega (arith, n, lt))) ∙ rows_kept schema (get_or lanes b no_kept) r h)

-- what is found at a place of the rows
pub from_told : (rows : List KeptRow) (p : Option ℕ) (i : ℕ) → p ≡ Some i → i < length rows → Some (kept_row_at rows i).from ≡ from_at (map laid_row rows) p
from_told rows p i e h = sym (ap (from_at (map laid_row rows)) e ∙ ap (λ (x : Row). Some x.from) (get_or-map laid_row rows i no_kept_row no_row h))

pub deltas_told : (rows : List KeptRow) (p : Option ℕ) (i : ℕ) → p ≡ Some i → i < length rows → map slots_of (kept_row_at rows i).deltas ≡ deltas_at (map laid_row rows) p
deltas_told rows p i e h = sym (ap (deltas_at (map laid_row rows)) e ∙ ap (λ (x : Row). x.deltas) (get_or-map laid_row rows i no_kept_row no_row h))

pub deltas_found : (rows : List KeptRow) (p : Option ℕ) → p ≢ None → IfSome p (λ i. i < length rows) → map slots_of (kept_row_at rows (unwrap_or p 0)).deltas ≡ deltas_at (map laid_row rows) p
deltas_found rows None n w = absurd (n refl)
deltas_found rows (Some i) n w = deltas_told rows (Some i) i refl w

pub place_below : (rows : List KeptRow) (p : Option ℕ) → p ≢ None → IfSome p (λ i. i < length rows) → unwrap_or p 0 < length rows
place_below rows None n w = absurd (n refl)
place_below rows (Some i) n w = w
