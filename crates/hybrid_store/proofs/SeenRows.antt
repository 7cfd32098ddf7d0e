-- What the version at a made place has of a relation, by the rows of its branch.
use Rattle.std.proofs.Common.{◌≡◌, ℕ, ◌-◌, ◌<◌, List, length, map, get_or, arith}
use Rattle.std.proofs.lemmas.List.{length-map}
use Rattle.db_value.specs.Relations.{widths_at}
use Rattle.db_value.specs.declared.schema.Relation.{Relation}
use Rattle.db_value.specs.declared.version.VersionPlace.{VersionPlace}
use Rattle.db_store.specs.Table.{relation_at}
use Rattle.db_store.specs.Layout.{table_in}
use Rattle.db_store.specs.LaidOut.{IsLaid}
use Rattle.hybrid_view.specs.Live.{contents_in, lived_at, IsLived}
use Rattle.bit_rows.specs.Rows.{kept_row_at, laid_row}
use Rattle.bit_rows.specs.Kept.{KeptLane, no_kept, kept_rows}
use Rattle.bit_rows.specs.Segments.{KeptList, list_at}
use Rattle.bit_rows.specs.Seen.{begun_by, lived_seen, IsThere}
use Rattle.hybrid_store.specs.Lanes.{segment_of, lane_of, kept_layout}
use Rattle.hybrid_store.specs.Stored.{AreSmall, IsKeptAt, IsSeenAt, IsStored}
use Rattle.hybrid_store.proofs.RowsSeen.{CanSee, rows_there, rows_lived, rows_seen, rows_contents}

module _ (schema : List Relation) (lanes : List KeptLane) (order : List VersionPlace) (segments : List KeptList) (stored : IsStored schema lanes segments) (laid : IsLaid (kept_layout schema lanes order segments))
    (b n r : ℕ) (h : b < length lanes) (p : n < length (get_or lanes b no_kept).seconds) (g : r < length schema) where
  can : CanSee schema segments (get_or lanes b no_kept) r
  can =
      let k : KeptLane = get_or lanes b no_kept in
      let at : IsKeptAt (map segment_of (list_at segments r)) (widths_at schema r) b (length k.seconds - 1) (kept_rows k r) (lived_at k.head r) = (stored.each b h).at r g in
      let m = length-map (kept_rows k r) laid_row in
      let s = at.shown.count in
      let f = at.lived.few in
      record { short = at.short; few = omega (arith, m, s, f); widths = λ s. stored.widths r s g }

  -- what is asked of the rows
  pub seen_there : (i : ℕ) → i < length (kept_rows (get_or lanes b no_kept) r) → IsThere (list_at segments r) n (kept_row_at (kept_rows (get_or lanes b no_kept) r) i)
  seen_there = rows_there schema lanes order segments laid b n r h p g can

  -- it is what a version can have
  pub seen_lived : IsLived (lived_seen (list_at segments r) n (kept_rows (get_or lanes b no_kept) r))
  seen_lived = rows_lived schema lanes order segments laid b n r h p g can

  -- the version at the place has it
  pub seen_at : AreSmall (lived_seen (list_at segments r) n (kept_rows (get_or lanes b no_kept) r))
      → IsSeenAt (map segment_of (list_at segments r)) (widths_at schema r) n (map laid_row (begun_by n (kept_rows (get_or lanes b no_kept) r))) (lived_seen (list_at segments r) n (kept_rows (get_or lanes b no_kept) r))
  seen_at = rows_seen schema lanes order segments laid b n r h p g can

  -- and no other contents
  pub seen_contents : contents_in (lived_seen (list_at segments r) n (kept_rows (get_or lanes b no_kept) r)) ≡ relation_at (table_in schema (kept_layout schema lanes order segments).segments (lane_of schema (get_or lanes b no_kept)) n) r
  seen_contents = rows_contents schema lanes order segments laid b n r h p g can
