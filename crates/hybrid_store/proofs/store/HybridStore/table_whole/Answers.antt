use Rattle.std.proofs.Common.{◌≡◌, ℕ, ◌+◌, ◌<◌, ◌++◌, ◌∷◌, [], ◌∙◌, ap, sym, subst, arith, length, map, get_or, List}
use Rattle.std.specs.Arc.{arc_value}
use Rattle.std.proofs.lemmas.List.{map-append, length_push}
use Rattle.db_value.specs.Relations.{widths_at}
use Rattle.hybrid_view.specs.Live.{Lived, no_lived, no_piece, lived_at, IsLived}
use Rattle.bit_rows.specs.Rows.{laid_row}
use Rattle.bit_rows.specs.Kept.{KeptLane, no_kept, kept_rows}
use Rattle.bit_rows.specs.Segments.{KeptRecords, list_at}
use Rattle.bit_rows.specs.Seen.{begun_by}
use Rattle.hybrid_store.specs.Lanes.{segment_of}
use Rattle.hybrid_store.specs.Stored.{AreSmall, IsSeenAt, IsSeen}
use Rattle.hybrid_store.specs.Whole.{whole_lived, AreThere, AreWhole}
use Rattle.hybrid_store.proofs.NewLemmas.{each_more}
use Rattle.hybrid_store.proofs.ViewLemmas.{made_kept, AreSeen, seen_more}
use Rattle.hybrid_store.proofs.WholeLemmas.{seen_pieces, seen_whole, seen_again, whole_again}
use Rattle.hybrid_store.proofs.store.HybridStore.table_whole.Goals as goal

pub relation_whole-requires-clause-there : goal.relation_whole-requires-clause-there
relation_whole-requires-clause-there c =
    let s = c.args.self.now in
    let o = c.args.at in
    let r : ℕ = c.loop-relation.relation in
    let place = made_kept s.schema s.lanes.items s.order.items s.segments.items o c.requires.made in
    let lt : r < length s.schema = omega (arith, c.loop-relation-test.true, c.width-relation-end.ensures) in
    subst (λ (ks : List KeptRecords). AreThere ks c.relation-old.result.now.pieces) (sym c.list-kept.ensures)
    (subst (λ (l : Lived). AreThere (list_at s.segments.items r) l.pieces) (sym c.relation-old.ensures)
    (seen_pieces s.schema s.lanes.items s.order.items s.segments.items s.laid o place.0 c.args.table.now c.requires.seen r lt))

pub relation_whole-requires-clause-lived : goal.relation_whole-requires-clause-lived
relation_whole-requires-clause-lived c =
    let s = c.args.self.now in
    let o = c.args.at in
    let r : ℕ = c.loop-relation.relation in
    let place = made_kept s.schema s.lanes.items s.order.items s.segments.items o c.requires.made in
    let lt : r < length s.schema = omega (arith, c.loop-relation-test.true, c.width-relation-end.ensures) in
    subst (λ (ks : List KeptRecords). IsLived (whole_lived ks c.relation-old.result.now)) (sym c.list-kept.ensures)
    (subst (λ (l : Lived). IsLived (whole_lived (list_at s.segments.items r) l)) (sym c.relation-old.ensures)
    (seen_whole s.schema s.lanes.items s.order.items s.segments.items s.laid o place.0 c.args.table.now c.requires.seen r lt))

pub loop-relation-preserved : goal.loop-relation-preserved
loop-relation-preserved c =
    let s = c.args.self.now in
    let o = c.args.at in
    let view : List Lived = c.args.table.now in
    let r : ℕ = c.loop-relation.relation in
    let k : KeptLane = get_or s.lanes.items o.branch no_kept in
    let place = made_kept s.schema s.lanes.items s.order.items s.segments.items o c.requires.made in
    let lt : r < length s.schema = omega (arith, c.loop-relation-test.true, c.width-relation-end.ensures) in
    let ks : List KeptRecords = list_at s.segments.items r in
    let ls : List Lived = map arc_value c.loop-relation.relations.items in
    let live : Lived = c.in_ok-live.live in
    let l : Lived = arc_value c.in_ok-shared.shared in
    let whole : live ≡ whole_lived ks (lived_at view r) = c.in_ok-live.ensures.whole ∙ (λ i. whole_lived (c.list-kept.ensures i) (c.relation-old.ensures i)) in
    let is_l : l ≡ whole_lived ks (lived_at view r) = c.in_ok-shared.ensures.ok ∙ whole in
    let small : AreSmall live = λ i h. c.in_ok-live.ensures.small i no_piece h in
    let one : IsSeenAt (map segment_of ks) (widths_at s.schema r) o.position (map laid_row (begun_by o.position (kept_rows k r))) l =
    subst (λ (x : Lived). IsSeenAt (map segment_of ks) (widths_at s.schema r) o.position (map laid_row (begun_by o.position (kept_rows k r))) x) (sym is_l)
    (seen_again s.schema s.lanes.items s.order.items s.segments.items s.laid o place.0 view c.requires.seen r lt (subst AreSmall whole small) (λ n h. s.stored.widths r n lt h)) in
    let all : AreWhole ks l.pieces = subst (λ (x : Lived). AreWhole ks x.pieces) (sym is_l) (whole_again s.schema s.lanes.items s.order.items s.segments.items s.laid o place.0 view c.requires.seen r lt) in
    let is : map arc_value c.push.new.self.items ≡ ls ++ l ∷ [] = ap (map arc_value) c.in_ok-push.ensures.items ∙ map-append arc_value c.loop-relation.relations.items (c.in_ok-shared.shared ∷ []) in
    let wide = ap (λ (xs : List Lived). length xs) is in
    let one_more = length_push ls l in
    let w = c.loop-relation.invariant.wide in
    record {
      wide = omega (arith, wide, one_more, w);
      seen = subst (AreSeen s.schema s.segments.items k o.position (r + 1)) (sym is) (seen_more s.schema s.segments.items k o.position r ls l w c.loop-relation.invariant.seen one);
      whole = subst (λ (xs : List Lived). (q : ℕ) → q < r + 1 → AreWhole (list_at s.segments.items q) (lived_at xs q).pieces) (sym is)
          (each_more (λ q (x : Lived). AreWhole (list_at s.segments.items q) x.pieces) ls l no_lived r w c.loop-relation.invariant.whole all);
      within = omega (arith, lt);
    }

pub of-requires : goal.of-requires
of-requires c =
    let w = c.loop-relation.invariant.wide in
    λ q h. (c.loop-relation.invariant.seen q (omega (arith, h, w))).lived

pub returns-clause-seen : goal.returns-clause-seen
returns-clause-seen c =
    let s = c.args.self.now in
    let o = c.args.at in
    let k : KeptLane = get_or s.lanes.items o.branch no_kept in
    let all : c.loop-relation.relation ≡ length s.schema = omega (arith, c.loop-relation.invariant.within, c.loop-relation-test.false, c.width-relation-end.ensures) in
    subst (λ (ls : List Lived). IsSeen s.schema s.segments.items k o.position ls) (sym c.of.ensures)
    (record { wide = c.loop-relation.invariant.wide ∙ all; at = λ q h. c.loop-relation.invariant.seen q (omega (arith, h, all)) })

pub returns-clause-whole : goal.returns-clause-whole
returns-clause-whole c =
    let s = c.args.self.now in
    let all : c.loop-relation.relation ≡ length s.schema = omega (arith, c.loop-relation.invariant.within, c.loop-relation-test.false, c.width-relation-end.ensures) in
    subst (λ (ls : List Lived). (q : ℕ) → q < length s.schema → AreWhole (list_at s.segments.items q) (lived_at ls q).pieces) (sym c.of.ensures)
    (λ q h. c.loop-relation.invariant.whole q (omega (arith, h, all)))
