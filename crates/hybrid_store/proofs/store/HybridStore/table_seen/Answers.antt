use Rattle.std.proofs.Common.{◌≡◌, ℕ, ◌+◌, ◌<◌, ◌^◌, ◌++◌, ◌∷◌, [], ◌∙◌, ap, sym, subst, arith, length, map, get_or, List}
use Rattle.std.specs.Arc.{arc_value}
use Rattle.std.proofs.lemmas.List.{map-append, length_push}
use Rattle.db_value.specs.Relations.{widths_at}
use Rattle.hybrid_view.specs.Live.{Lived, no_piece, IsLived}
use Rattle.bit_rows.specs.Rows.{KeptRow, kept_row_at, laid_row}
use Rattle.bit_rows.specs.Kept.{KeptLane, no_kept, kept_rows}
use Rattle.bit_rows.specs.Segments.{KeptRecords, list_at}
use Rattle.bit_rows.specs.Seen.{begun_by, lived_seen, IsThere}
use Rattle.hybrid_store.specs.Lanes.{segment_of}
use Rattle.hybrid_store.specs.Stored.{AreSmall, IsSeenAt, IsSeen}
use Rattle.hybrid_store.proofs.SeenRows.{seen_there, seen_lived, seen_at}
use Rattle.hybrid_store.proofs.ViewLemmas.{made_kept, seen_few, AreSeen, seen_more}
use Rattle.hybrid_store.proofs.store.HybridStore.table_seen.Goals as goal

pub lane-requires : goal.lane-requires
lane-requires c =
    let s = c.args.self.now in
    let place = made_kept s.schema s.lanes.items s.order.items s.segments.items c.args.at c.requires in
    place.0

pub rows-rows-requires : goal.rows-rows-requires
rows-rows-requires c =
    let s = c.args.self.now in
    let place = made_kept s.schema s.lanes.items s.order.items s.segments.items c.args.at c.requires in
    let wide = (s.stored.each c.args.at.branch place.0).rows in
    let same = ap (λ (k : KeptLane). length k.rows) c.lane.ensures.lane in
    omega (arith, wide, same, c.loop-relation-test.true, c.width-relation-end.ensures)

pub relation_seen-requires-clause-few : goal.relation_seen-requires-clause-few
relation_seen-requires-clause-few c =
    let made = c.requires.1 in
    let few = c.lane.ensures.versions.few in
    let count = c.lane.ensures.count in
    omega (arith, made, few, count)

pub relation_seen-requires-clause-there : goal.relation_seen-requires-clause-there
relation_seen-requires-clause-there c =
    let s = c.args.self.now in
    let o = c.args.at in
    let r : ℕ = c.loop-relation.relation in
    let k : KeptLane = get_or s.lanes.items o.branch no_kept in
    let place = made_kept s.schema s.lanes.items s.order.items s.segments.items o c.requires in
    let lt : r < length s.schema = omega (arith, c.loop-relation-test.true, c.width-relation-end.ensures) in
    let rows : c.rows-rows.result.now ≡ kept_rows k r = c.rows-rows.ensures ∙ ap (λ (x : KeptLane). kept_rows x r) c.lane.ensures.lane in
    subst (λ (xs : List KeptRow). (i : ℕ) → i < length xs → IsThere c.list-kept.result.now.all o.position (kept_row_at xs i)) (sym rows)
    (subst (λ (ks : List KeptRecords). (i : ℕ) → i < length (kept_rows k r) → IsThere ks o.position (kept_row_at (kept_rows k r) i)) (sym c.list-kept.ensures)
    (seen_there s.schema s.lanes.items s.order.items s.segments.items s.stored s.laid o.branch o.position r place.0 place.1 lt))

pub relation_seen-requires-clause-lived : goal.relation_seen-requires-clause-lived
relation_seen-requires-clause-lived c =
    let s = c.args.self.now in
    let o = c.args.at in
    let r : ℕ = c.loop-relation.relation in
    let k : KeptLane = get_or s.lanes.items o.branch no_kept in
    let place = made_kept s.schema s.lanes.items s.order.items s.segments.items o c.requires in
    let lt : r < length s.schema = omega (arith, c.loop-relation-test.true, c.width-relation-end.ensures) in
    let rows : c.rows-rows.result.now ≡ kept_rows k r = c.rows-rows.ensures ∙ ap (λ (x : KeptLane). kept_rows x r) c.lane.ensures.lane in
    subst (λ (xs : List KeptRow). IsLived (lived_seen c.list-kept.result.now.all o.position xs)) (sym rows)
    (subst (λ (ks : List KeptRecords). IsLived (lived_seen ks o.position (kept_rows k r))) (sym c.list-kept.ensures)
    (seen_lived s.schema s.lanes.items s.order.items s.segments.items s.stored s.laid o.branch o.position r place.0 place.1 lt))

pub relation_seen-requires-clause-keys : goal.relation_seen-requires-clause-keys
relation_seen-requires-clause-keys c =
    let s = c.args.self.now in
    let o = c.args.at in
    let r : ℕ = c.loop-relation.relation in
    let k : KeptLane = get_or s.lanes.items o.branch no_kept in
    let lt : r < length s.schema = omega (arith, c.loop-relation-test.true, c.width-relation-end.ensures) in
    let rows : c.rows-rows.result.now ≡ kept_rows k r = c.rows-rows.ensures ∙ ap (λ (x : KeptLane). kept_rows x r) c.lane.ensures.lane in
    subst (λ (xs : List KeptRow). (lived_seen c.list-kept.result.now.all o.position xs).count < 2 ^ 32) (sym rows)
    (subst (λ (ks : List KeptRecords). (lived_seen ks o.position (kept_rows k r)).count < 2 ^ 32) (sym c.list-kept.ensures)
    (seen_few s.schema s.lanes.items s.order.items s.segments.items o c.requires s.stored s.laid s.counted r lt))

pub loop-relation-preserved : goal.loop-relation-preserved
loop-relation-preserved c =
    let s = c.args.self.now in
    let o = c.args.at in
    let r : ℕ = c.loop-relation.relation in
    let k : KeptLane = get_or s.lanes.items o.branch no_kept in
    let place = made_kept s.schema s.lanes.items s.order.items s.segments.items o c.requires in
    let lt : r < length s.schema = omega (arith, c.loop-relation-test.true, c.width-relation-end.ensures) in
    let rows : c.rows-rows.result.now ≡ kept_rows k r = c.rows-rows.ensures ∙ ap (λ (x : KeptLane). kept_rows x r) c.lane.ensures.lane in
    let ls : List Lived = map arc_value c.loop-relation.relations.items in
    let live : Lived = c.in_ok-live.live in
    let l : Lived = arc_value c.in_ok-shared.shared in
    let seen : live ≡ lived_seen (list_at s.segments.items r) o.position (kept_rows k r) = c.in_ok-live.ensures.seen ∙ (λ i. lived_seen (c.list-kept.ensures i) o.position (rows i)) in
    let small : AreSmall live = λ i h. c.in_ok-live.ensures.small i no_piece h in
    let one : IsSeenAt (map segment_of (list_at s.segments.items r)) (widths_at s.schema r) o.position (map laid_row (begun_by o.position (kept_rows k r))) l =
    subst (λ (x : Lived). IsSeenAt (map segment_of (list_at s.segments.items r)) (widths_at s.schema r) o.position (map laid_row (begun_by o.position (kept_rows k r))) x) (sym (c.in_ok-shared.ensures.ok ∙ seen))
    (seen_at s.schema s.lanes.items s.order.items s.segments.items s.stored s.laid o.branch o.position r place.0 place.1 lt (subst AreSmall seen small)) in
    let is : map arc_value c.push.new.self.items ≡ ls ++ l ∷ [] = ap (map arc_value) c.in_ok-push.ensures.items ∙ map-append arc_value c.loop-relation.relations.items (c.in_ok-shared.shared ∷ []) in
    let wide = ap (λ (xs : List Lived). length xs) is in
    let one_more = length_push ls l in
    let w = c.loop-relation.invariant.wide in
    record {
      wide = omega (arith, wide, one_more, w);
      seen = subst (AreSeen s.schema s.segments.items k o.position (r + 1)) (sym is) (seen_more s.schema s.segments.items k o.position r ls l w c.loop-relation.invariant.seen one);
      within = omega (arith, lt);
    }

pub of-requires : goal.of-requires
of-requires c =
    let w = c.loop-relation.invariant.wide in
    λ q h. (c.loop-relation.invariant.seen q (omega (arith, h, w))).lived

pub returns : goal.returns
returns c =
    let s = c.args.self.now in
    let o = c.args.at in
    let k : KeptLane = get_or s.lanes.items o.branch no_kept in
    let all : c.loop-relation.relation ≡ length s.schema = omega (arith, c.loop-relation.invariant.within, c.loop-relation-test.false, c.width-relation-end.ensures) in
    subst (λ (ls : List Lived). IsSeen s.schema s.segments.items k o.position ls) (sym c.of.ensures)
    (record { wide = c.loop-relation.invariant.wide ∙ all; at = λ q h. c.loop-relation.invariant.seen q (omega (arith, h, all)) })
