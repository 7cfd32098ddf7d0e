use Rattle.std.proofs.Common.{◌≡◌, ◌<◌, ◌∙◌, ap, sym, subst, map, length, get_or, Bool, List}
use Rattle.db_store.specs.Layout.{Row}
use Rattle.hybrid_view.specs.Deltas.{slots_of}
use Rattle.bit_rows.specs.Rows.{KeptRow, kept_row_at, laid_row}
use Rattle.bit_rows.specs.Kept.{KeptLane, no_kept, kept_rows}
use Rattle.hybrid_store.specs.Readers.{place_from, deltas_at, rows_in}
use Rattle.hybrid_store.specs.Store.{layout_of}
use Rattle.hybrid_store.proofs.ReaderLemmas.{rows_told, deltas_found, place_below}
use Rattle.hybrid_store.proofs.store.HybridStore.row_history.Goals as goal

pub returns : goal.returns
returns c =
    let s = c.args.self.now in
    let rows : c.rows-rows.result.now ≡ kept_rows (get_or s.lanes.items c.args.branch no_kept) c.args.relation = c.rows-rows.ensures ∙ ap (λ (k : KeptLane). kept_rows k c.args.relation) c.lane.ensures.lane in
    let told : map laid_row c.rows-rows.result.now ≡ rows_in (layout_of s) c.args.relation c.args.branch =
    ap (map laid_row) rows ∙ rows_told s.schema s.lanes.items s.order.items s.segments.items c.args.relation c.args.branch c.requires.relation c.requires.branch in
    ap (λ (ds : List (List Bool)). map slots_of ds) c.deltas.ensures
    ∙ ap (λ (x : KeptRow). map slots_of x.deltas) (c.row.ensures ∙ ap (kept_row_at c.rows-rows.result.now) c.unwrap_or-place.ensures)
    ∙ deltas_found c.rows-rows.result.now c.place_in.result (λ e. c.requires.there (ap (λ (rs : List Row). place_from 0 rs c.args.index) (sym told) ∙ sym c.place_in.ensures.place ∙ e)) c.place_in.ensures.within
    ∙ ap (deltas_at (map laid_row c.rows-rows.result.now)) c.place_in.ensures.place
    ∙ ap (λ (rs : List Row). deltas_at rs (place_from 0 rs c.args.index)) told

pub row-requires : goal.row-requires
row-requires c =
    let s = c.args.self.now in
    let rows : c.rows-rows.result.now ≡ kept_rows (get_or s.lanes.items c.args.branch no_kept) c.args.relation = c.rows-rows.ensures ∙ ap (λ (k : KeptLane). kept_rows k c.args.relation) c.lane.ensures.lane in
    let told : map laid_row c.rows-rows.result.now ≡ rows_in (layout_of s) c.args.relation c.args.branch =
    ap (map laid_row) rows ∙ rows_told s.schema s.lanes.items s.order.items s.segments.items c.args.relation c.args.branch c.requires.relation c.requires.branch in
    subst (λ n. n < length c.rows-rows.result.now) (sym c.unwrap_or-place.ensures)
    (place_below c.rows-rows.result.now c.place_in.result (λ e. c.requires.there (ap (λ (rs : List Row). place_from 0 rs c.args.index) (sym told) ∙ sym c.place_in.ensures.place ∙ e)) c.place_in.ensures.within)
