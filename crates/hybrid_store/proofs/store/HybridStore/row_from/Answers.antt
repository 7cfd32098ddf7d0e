use Rattle.std.proofs.Common.{◌≡◌, ◌∙◌, ap, sym, map, get_or, List, Some}
use Rattle.db_store.specs.Layout.{Row}
use Rattle.bit_rows.specs.Rows.{KeptRow, laid_row}
use Rattle.bit_rows.specs.Kept.{KeptLane, no_kept, kept_rows}
use Rattle.hybrid_store.specs.Readers.{place_from, from_at, rows_in}
use Rattle.hybrid_store.specs.Store.{layout_of}
use Rattle.hybrid_store.proofs.ReaderLemmas.{rows_told, from_told}
use Rattle.hybrid_store.proofs.store.HybridStore.row_from.Goals as goal

pub returns-in-None : goal.returns-in-None
returns-in-None c =
    let s = c.args.self.now in
    let rows : c.rows-rows.result.now ≡ kept_rows (get_or s.lanes.items c.args.branch no_kept) c.args.relation = c.rows-rows.ensures ∙ ap (λ (k : KeptLane). kept_rows k c.args.relation) c.lane.ensures.lane in
    let told : map laid_row c.rows-rows.result.now ≡ rows_in (layout_of s) c.args.relation c.args.branch =
    ap (map laid_row) rows ∙ rows_told s.schema s.lanes.items s.order.items s.segments.items c.args.relation c.args.branch c.requires.relation c.requires.branch in
    ap (from_at (map laid_row c.rows-rows.result.now)) (sym c.in-None.is ∙ c.place_in.ensures.place) ∙ ap (λ (rs : List Row). from_at rs (place_from 0 rs c.args.index)) told

pub returns-in-Some : goal.returns-in-Some
returns-in-Some c =
    let s = c.args.self.now in
    let rows : c.rows-rows.result.now ≡ kept_rows (get_or s.lanes.items c.args.branch no_kept) c.args.relation = c.rows-rows.ensures ∙ ap (λ (k : KeptLane). kept_rows k c.args.relation) c.lane.ensures.lane in
    let told : map laid_row c.rows-rows.result.now ≡ rows_in (layout_of s) c.args.relation c.args.branch =
    ap (map laid_row) rows ∙ rows_told s.schema s.lanes.items s.order.items s.segments.items c.args.relation c.args.branch c.requires.relation c.requires.branch in
    ap (λ n. Some n) (c.from.ensures ∙ ap (λ (x : KeptRow). x.from) c.row.ensures)
    ∙ from_told c.rows-rows.result.now (place_from 0 (map laid_row c.rows-rows.result.now) c.args.index) c.in-Some.place (sym c.place_in.ensures.place ∙ c.in-Some.is) c.in-Some.ensures.within
    ∙ ap (λ (rs : List Row). from_at rs (place_from 0 rs c.args.index)) told
