use Rattle.std.proofs.Common.{◌≡◌, ◌<◌, ◌+◌, ◌^◌, ◌∙◌, sym, subst, arith, length, get_or, ℕ, List, Option, map}
use Rattle.std.specs.FinMap.{len}
use Rattle.segment.specs.Pages.{AreWide}
use Rattle.key_index.specs.declared.changes.SpotChange.{SpotChange}
use Rattle.key_index.specs.Places.{with_changes}
use Rattle.db_store.specs.Counts.{after}
use Rattle.db_store.specs.Layout.{records_at}
use Rattle.db_store.specs.LayoutGrowth.{puts}
use Rattle.hybrid_view.specs.RowPlaces.{AllNext, spots}
use Rattle.hybrid_view.specs.Live.{Lived, Piece, piece_at, lived_at, contents_in, IsLived}
use Rattle.bit_rows.specs.Kept.{KeptLane, no_kept}
use Rattle.hybrid_store.specs.Lanes.{segment_of}
use Rattle.bit_rows.specs.Segments.{list_at}
use Rattle.hybrid_store.specs.Stored.{head_number, touched_in}
use Rattle.hybrid_store.proofs.CommitLemmas.{put_wide, put_room, lived_after, small_after, count_small, branch_there}
use Rattle.hybrid_store.proofs.store.HybridStore.relation_after.Goals as goal

pub live_after-requires-clause-few_keys : goal.live_after-requires-clause-few_keys
live_after-requires-clause-few_keys c =
    let s = c.args.self.now in
    let b = branch_there s.schema s.lanes.items s.order.items s.segments.items c.args.branch c.requires.fits.0 c.args.changes.now c.requires.fits.1 in
    let small = count_small s.schema s.lanes.items s.order.items s.segments.items c.args.branch c.args.relation c.requires.fits.0 c.args.changes.now b c.requires.relation s.stored s.laid c.requires.fits.1 in
    omega (arith, small, c.requires.keys)

pub live_after-requires-clause-wide : goal.live_after-requires-clause-wide
live_after-requires-clause-wide c =
    let s = c.args.self.now in
    let b = branch_there s.schema s.lanes.items s.order.items s.segments.items c.args.branch c.requires.fits.0 c.args.changes.now c.requires.fits.1 in
    subst (λ (l : Lived). (i : ℕ) → i < length l.pieces → (piece_at l.pieces i).segment ≡ c.head_of-head.result.0 → AreWide (piece_at l.pieces i).rows.widths (puts c.args.changes.now c.args.relation)) (sym c.lived-old.ensures)
    (λ i h e. put_wide s.schema s.lanes.items s.order.items s.segments.items c.args.branch c.args.relation c.requires.fits.0 c.args.changes.now b c.requires.relation s.stored s.laid c.requires.fits.1 i h)

pub live_after-requires-clause-few : goal.live_after-requires-clause-few
live_after-requires-clause-few c =
    let s = c.args.self.now in
    let b = branch_there s.schema s.lanes.items s.order.items s.segments.items c.args.branch c.requires.fits.0 c.args.changes.now c.requires.fits.1 in
    let from = c.head_of-head.ensures.records in
    subst (λ (l : Lived). (i : ℕ) → i < length l.pieces → (piece_at l.pieces i).segment ≡ c.head_of-head.result.0 → length (piece_at l.pieces i).rows.records + length (puts c.args.changes.now c.args.relation) < 2 ^ 32) (sym c.lived-old.ensures)
    (λ i h e. put_room s.schema s.lanes.items s.order.items s.segments.items c.args.branch c.args.relation c.requires.fits.0 c.args.changes.now b c.requires.relation s.stored s.laid c.requires.fits.1
    (omega (arith, from, c.len.ensures.count, c.if-from-len-ge-MOST_NUMBERS.false)) i h (e ∙ c.head_of-head.ensures.segment))

pub live_after-requires-clause-lived : goal.live_after-requires-clause-lived
live_after-requires-clause-lived c =
    let s = c.args.self.now in
    let b = branch_there s.schema s.lanes.items s.order.items s.segments.items c.args.branch c.requires.fits.0 c.args.changes.now c.requires.fits.1 in
    let k : KeptLane = get_or s.lanes.items c.args.branch no_kept in
    let places : List (Option (ℕ × ℕ)) = touched_in k c.args.changes.now c.args.relation in
    let hd = c.head_of-head.ensures.segment in
    let put = puts c.args.changes.now c.args.relation in
    let changed : List SpotChange = spots (head_number s.segments.items c.args.branch c.args.relation) (length (records_at (map segment_of (list_at s.segments.items c.args.relation)) (head_number s.segments.items c.args.branch c.args.relation))) c.args.changes.now c.args.relation in
    let listed : List SpotChange = spots c.head_of-head.result.0 c.head_of-head.result.1 c.args.changes.now c.args.relation in
    let sp : listed ≡ changed = λ i. spots (hd i) (c.head_of-head.ensures.records i) c.args.changes.now c.args.relation in
    let keys : ℕ = len (after c.args.relation (contents_in (lived_at k.head c.args.relation)) c.args.changes.now) in
    λ qs next.
    subst (λ n. IsLived (record { pieces = qs; places = with_changes c.lived-old.result.now.places listed; count = n })) (sym c.requires.keys)
    (subst (λ (xs : List SpotChange). IsLived (record { pieces = qs; places = with_changes c.lived-old.result.now.places xs; count = keys })) (sym sp)
    (subst (λ (l : Lived). IsLived (record { pieces = qs; places = with_changes l.places changed; count = keys })) (sym c.lived-old.ensures)
    (lived_after s.schema s.lanes.items s.order.items s.segments.items c.args.branch c.args.relation c.requires.fits.0 c.args.changes.now b c.requires.relation s.stored s.laid c.requires.fits.1 qs
    (subst (λ (l : Lived). AllNext places (head_number s.segments.items c.args.branch c.args.relation) put l.pieces qs) c.lived-old.ensures
    (subst (λ h. AllNext places h put c.lived-old.result.now.pieces qs) hd
    (subst (λ (os : List (Option (ℕ × ℕ))). AllNext os c.head_of-head.result.0 put c.lived-old.result.now.pieces qs) c.requires.places next))))))

pub returns-clause-next : goal.returns-clause-next
returns-clause-next c =
    let s = c.args.self.now in
    let k : KeptLane = get_or s.lanes.items c.args.branch no_kept in
    let places : List (Option (ℕ × ℕ)) = touched_in k c.args.changes.now c.args.relation in
    let put = puts c.args.changes.now c.args.relation in
    let qs : List Piece = c.in_ok-new.new.pieces in
    subst (λ (l : Lived). AllNext places (head_number s.segments.items c.args.branch c.args.relation) put l.pieces qs) c.lived-old.ensures
    (subst (λ h. AllNext places h put c.lived-old.result.now.pieces qs) c.head_of-head.ensures.segment
    (subst (λ (os : List (Option (ℕ × ℕ))). AllNext os c.head_of-head.result.0 put c.lived-old.result.now.pieces qs) c.requires.places c.in_ok-new.ensures))

pub returns-clause-small : goal.returns-clause-small
returns-clause-small c =
    let s = c.args.self.now in
    let b = branch_there s.schema s.lanes.items s.order.items s.segments.items c.args.branch c.requires.fits.0 c.args.changes.now c.requires.fits.1 in
    let from = c.head_of-head.ensures.records in
    let next = returns-clause-next c in
    let n = next.count in
    λ i h. small_after s.schema s.lanes.items s.order.items s.segments.items c.args.branch c.args.relation c.requires.fits.0 c.args.changes.now b c.requires.relation s.stored s.laid c.requires.fits.1 c.in_ok-new.new.pieces next
    (omega (arith, from, c.len.ensures.count, c.if-from-len-ge-MOST_NUMBERS.false)) i (omega (arith, n, h))
