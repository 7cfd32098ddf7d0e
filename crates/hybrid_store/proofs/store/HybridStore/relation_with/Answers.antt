use Rattle.std.proofs.Common.{◌≡◌, ◌<◌, ◌≤◌, ◌∙◌, ap, sym, subst, length, get_or, ℕ, List, false}
use Rattle.std.specs.Arc.{arc_value}
use Rattle.db_store.specs.Adopt.{is_changed}
use Rattle.db_store.specs.LayoutGrowth.{puts}
use Rattle.hybrid_view.specs.Struck.{touched_places}
use Rattle.hybrid_view.specs.RowPlaces.{AllNext}
use Rattle.hybrid_view.specs.Live.{Lived, piece_at, lived_at}
use Rattle.bit_rows.specs.Kept.{KeptLane, no_kept}
use Rattle.hybrid_store.specs.Stored.{head_number, AreSmall}
use Rattle.hybrid_store.proofs.TableLemmas.{next_same}
use Rattle.hybrid_store.proofs.CommitLemmas.{branch_there}
use Rattle.hybrid_store.proofs.store.HybridStore.relation_with.Goals as goal

pub returns-then-not-is_changed-clause-next : goal.returns-then-not-is_changed-clause-next
returns-then-not-is_changed-clause-next c =
    let s = c.args.self.now in
    let old : Lived = lived_at (get_or s.lanes.items c.args.branch no_kept).head c.args.relation in
    let is : arc_value c.in_ok-live.live ≡ old = c.in_ok-live.ensures ∙ ap (λ (ls : List Lived). lived_at ls c.args.relation) (c.head.ensures ∙ ap (λ (k : KeptLane). k.head) c.lane.ensures.lane) in
    let same : is_changed c.args.relation c.args.changes.now ≡ false = sym c.is_changed.ensures ∙ c.if-not-is_changed.true in
    subst (λ (l : Lived). AllNext (touched_places old.pieces c.args.changes.now c.args.relation) (head_number s.segments.items c.args.branch c.args.relation) (puts c.args.changes.now c.args.relation) old.pieces l.pieces) (sym is)
    (next_same old.pieces c.args.changes.now c.args.relation (head_number s.segments.items c.args.branch c.args.relation) same
    (subst (λ (l : Lived). (i : ℕ) → i < length l.pieces → length (piece_at l.pieces i).bits ≤ length (piece_at l.pieces i).rows.records) c.lived.ensures c.told.ensures.covered))

pub returns-then-not-is_changed-clause-small : goal.returns-then-not-is_changed-clause-small
returns-then-not-is_changed-clause-small c =
    let s = c.args.self.now in
    let old : Lived = lived_at (get_or s.lanes.items c.args.branch no_kept).head c.args.relation in
    let is : arc_value c.in_ok-live.live ≡ old = c.in_ok-live.ensures ∙ ap (λ (ls : List Lived). lived_at ls c.args.relation) (c.head.ensures ∙ ap (λ (k : KeptLane). k.head) c.lane.ensures.lane) in
    let b = branch_there s.schema s.lanes.items s.order.items s.segments.items c.args.branch c.requires.fits.0 c.args.changes.now c.requires.fits.1 in
    subst AreSmall (sym is) ((s.stored.each c.args.branch b).at c.args.relation c.requires.relation).small
