use Rattle.std.proofs.Common.{◌≡◌, ◌<◌, ◌-◌, ◌^◌, ◌∙◌, ap, sym, subst, length, get_or, ℕ, List, Option}
use Rattle.db_store.specs.LayoutGrowth.{puts}
use Rattle.hybrid_view.specs.Live.{Lived, lived_at}
use Rattle.hybrid_view.specs.RowPlaces.{AllNext}
use Rattle.bit_rows.specs.Rows.{KeptRow, kept_row_at}
use Rattle.bit_rows.specs.Kept.{KeptLane, no_kept, kept_rows}
use Rattle.bit_rows.specs.Differences.{AreDifferences}
use Rattle.hybrid_store.specs.Stored.{head_number}
use Rattle.hybrid_store.proofs.CommitLemmas.{branch_there, pieces_count, deltas_few}
use Rattle.hybrid_store.proofs.store.HybridStore.deltas_for.Goals as goal

pub next_deltas-requires-clause-count : goal.next_deltas-requires-clause-count
next_deltas-requires-clause-count c =
    let s = c.args.self.now in
    let b = branch_there s.schema s.lanes.items s.order.items s.segments.items c.args.branch c.requires.fits.0 c.args.changes.now c.requires.fits.1 in
    let rows : c.rows-rows.result.now ≡ kept_rows (get_or s.lanes.items c.args.branch no_kept) c.args.relation = c.rows-rows.ensures ∙ ap (λ (k : KeptLane). kept_rows k c.args.relation) c.lane.ensures.lane in
    ap (λ (l : Lived). length l.pieces) c.lived-old.ensures
    ∙ pieces_count s.schema s.lanes.items s.order.items s.segments.items c.args.branch c.args.relation c.requires.fits.0 c.args.changes.now b c.requires.relation s.stored s.laid c.requires.fits.1
    ∙ sym (ap (λ (xs : List KeptRow). length xs) rows)

pub next_deltas-requires-clause-next : goal.next_deltas-requires-clause-next
next_deltas-requires-clause-next c =
    let k : KeptLane = get_or c.args.self.now.lanes.items c.args.branch no_kept in (
      head_number c.args.self.now.segments.items c.args.branch c.args.relation,
      (
        puts c.args.changes.now c.args.relation,
        subst (λ (l : Lived). AllNext c.args.places.now (head_number c.args.self.now.segments.items c.args.branch c.args.relation) (puts c.args.changes.now c.args.relation) l.pieces c.args.live.now.pieces) (sym c.lived-old.ensures)
            (subst (λ (os : List (Option (ℕ × ℕ))). AllNext os (head_number c.args.self.now.segments.items c.args.branch c.args.relation) (puts c.args.changes.now c.args.relation) (lived_at k.head c.args.relation).pieces c.args.live.now.pieces) (sym c.requires.places) c.requires.next),
      ),
    )

pub next_deltas-requires-clause-few : goal.next_deltas-requires-clause-few
next_deltas-requires-clause-few c =
    let s = c.args.self.now in
    let b = branch_there s.schema s.lanes.items s.order.items s.segments.items c.args.branch c.requires.fits.0 c.args.changes.now c.requires.fits.1 in
    let rows : c.rows-rows.result.now ≡ kept_rows (get_or s.lanes.items c.args.branch no_kept) c.args.relation = c.rows-rows.ensures ∙ ap (λ (k : KeptLane). kept_rows k c.args.relation) c.lane.ensures.lane in
    subst (λ (xs : List KeptRow). (i : ℕ) → i < length xs → length (kept_row_at xs i).deltas < 2 ^ 32 - 1) (sym rows)
    (deltas_few s.schema s.lanes.items s.order.items s.segments.items c.args.branch c.args.relation c.requires.fits.0 c.args.changes.now b c.requires.relation s.stored s.laid c.requires.fits.1)

pub returns : goal.returns
returns c =
    let s = c.args.self.now in
    let k : KeptLane = get_or s.lanes.items c.args.branch no_kept in
    let rows : c.rows-rows.result.now ≡ kept_rows k c.args.relation = c.rows-rows.ensures ∙ ap (λ (x : KeptLane). kept_rows x c.args.relation) c.lane.ensures.lane in
    subst (λ (xs : List KeptRow). AreDifferences xs c.in_ok-nexts.nexts (lived_at k.head c.args.relation).pieces c.args.live.now.pieces) rows
    (subst (λ (l : Lived). AreDifferences c.rows-rows.result.now c.in_ok-nexts.nexts l.pieces c.args.live.now.pieces) c.lived-old.ensures c.in_ok-nexts.ensures)
