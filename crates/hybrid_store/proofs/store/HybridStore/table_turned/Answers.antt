use Rattle.std.proofs.Common.{◌≡◌, ◌<◌, ◌+◌, ◌-◌, ◌++◌, ◌∷◌, [], ◌∙◌, ap, sym, subst, arith, length, map, get_or, ℕ, List}
use Rattle.std.specs.Arc.{arc_value}
use Rattle.std.proofs.lemmas.List.{map-append, length-map, get_or-map}
use Rattle.record_page.specs.Page.{Rows}
use Rattle.hybrid_view.specs.Live.{Lived, IsLived}
use Rattle.bit_rows.specs.Kept.{KeptLane, no_kept, kept_rows}
use Rattle.bit_rows.specs.Rows.{KeptRow, laid_row, MoreRow}
use Rattle.hybrid_store.specs.Begun.{head_piece, lived_turned, turned_row, turned_in, AreTurned}
use Rattle.hybrid_store.specs.New.{own_at}
use Rattle.bit_rows.specs.Segments.{list_at}
use Rattle.hybrid_store.proofs.BeginLemmas.{turned_more, turned_live}
use Rattle.hybrid_store.proofs.store.HybridStore.table_turned.Goals as goal

pub turned_relation-requires : goal.turned_relation-requires
turned_relation-requires c =
    let s = c.args.self.now in
    let k : KeptLane = get_or s.lanes.items c.args.branch no_kept in
    let r : ℕ = c.loop-relation.relation in
    let owns : List Rows = map arc_value c.args.heads.now in
    let lt : r < length s.schema = omega (arith, c.loop-relation-test.true, c.width-relation-end.ensures) in
    let own : arc_value c.index-heads-relation.result ≡ own_at owns r = ap arc_value c.index-heads-relation.is ∙ sym (get_or-map arc_value c.args.heads.now r c.index-heads-relation.result (record { widths = []; records = [] }) (omega (arith, lt, c.requires.heads))) in
    let is : lived_turned c.lived.result.now (head_piece c.next_segment-segment.result (arc_value c.index-heads-relation.result)) ≡ turned_in s.segments.items owns k.head r =
    λ i. lived_turned (c.lived.ensures i) (head_piece (c.next_segment-segment.ensures.result i) (own i)) in
    subst IsLived (sym is) (c.requires.lived r lt)

pub more_rows-requires : goal.more_rows-requires
more_rows-requires c =
    let s = c.args.self.now in
    let k : KeptLane = get_or s.lanes.items c.args.branch no_kept in
    let r : ℕ = c.loop-relation.relation in
    let lt : r < length s.schema = omega (arith, c.loop-relation-test.true, c.width-relation-end.ensures) in
    let at = (s.stored.each c.args.branch c.requires.branch).at r lt in
    let few = at.lived.few in
    let count = at.shown.count in
    let lm = length-map (kept_rows k r) laid_row in
    let rows : length c.rows.result.now ≡ length (kept_rows k r) = ap (λ (xs : List KeptRow). length xs) c.rows.ensures ∙ ap (λ (y : KeptLane). length (kept_rows y r)) c.lane-lane.ensures.lane in
    omega (arith, few, count, lm, rows)

pub loop-relation-preserved : goal.loop-relation-preserved
loop-relation-preserved c =
    let s = c.args.self.now in
    let k : KeptLane = get_or s.lanes.items c.args.branch no_kept in
    let r : ℕ = c.loop-relation.relation in
    let owns : List Rows = map arc_value c.args.heads.now in
    let lt : r < length s.schema = omega (arith, c.loop-relation-test.true, c.width-relation-end.ensures) in
    let own : arc_value c.index-heads-relation.result ≡ own_at owns r = ap arc_value c.index-heads-relation.is ∙ sym (get_or-map arc_value c.args.heads.now r c.index-heads-relation.result (record { widths = []; records = [] }) (omega (arith, lt, c.requires.heads))) in
    let ls : List Lived = map arc_value c.loop-relation.relations.items in
    let l : Lived = arc_value c.in_ok-live.live in
    let more : List MoreRow = c.loop-relation.more.items in
    let x : MoreRow = c.in_ok-next.next in
    let from : ℕ = length k.seconds - 1 in
    let live : l ≡ turned_in s.segments.items owns k.head r = c.in_ok-live.ensures ∙ (λ i. lived_turned (c.lived.ensures i) (head_piece (c.next_segment-segment.ensures.result i) (own i))) in
    let last : c.count.result - 1 ≡ from = ap (λ n. n - 1) (c.count.ensures ∙ ap (λ (y : KeptLane). length y.seconds) c.lane-lane.ensures.lane) in
    let row : x.row ≡ turned_row (length (list_at s.segments.items r)) from = c.in_ok-next.ensures.row ∙ (λ i. turned_row (c.next_segment-segment.ensures.result i) (last i)) in
    let rows : length c.rows.result.now ≡ length (kept_rows k r) = ap (λ (xs : List KeptRow). length xs) c.rows.ensures ∙ ap (λ (y : KeptLane). length (kept_rows y r)) c.lane-lane.ensures.lane in
    let is : map arc_value c.push-in-loop-relation.new.self.items ≡ ls ++ l ∷ [] = ap (map arc_value) c.in_ok-push-2.ensures.items ∙ map-append arc_value c.loop-relation.relations.items (c.in_ok-live.live ∷ []) in (
      subst (AreTurned s.segments.items k from owns (r + 1) c.push.new.self.items) (sym is)
          (subst (λ (xs : List MoreRow). AreTurned s.segments.items k from owns (r + 1) xs (ls ++ l ∷ [])) (sym c.in_ok-push.ensures.items)
          (turned_more s.segments.items k from owns r more ls c.loop-relation.invariant.0 x l live row (omega (arith, rows, c.in_ok-next.ensures.room)))),
      omega (arith, lt),
    )

pub of-requires : goal.of-requires
of-requires c =
    let s = c.args.self.now in
    let k : KeptLane = get_or s.lanes.items c.args.branch no_kept in
    let owns : List Rows = map arc_value c.args.heads.now in
    let within = c.loop-relation.invariant.1 in
    turned_live s.segments.items k (length k.seconds - 1) owns c.loop-relation.relation c.loop-relation.more.items (map arc_value c.loop-relation.relations.items) c.loop-relation.invariant.0 (λ q h. c.requires.lived q (omega (arith, h, within)))

pub returns : goal.returns
returns c =
    let s = c.args.self.now in
    let k : KeptLane = get_or s.lanes.items c.args.branch no_kept in
    let owns : List Rows = map arc_value c.args.heads.now in
    let more : List MoreRow = c.loop-relation.more.items in
    let all : c.loop-relation.relation ≡ length s.schema = omega (arith, c.loop-relation.invariant.1, c.loop-relation-test.false, c.width-relation-end.ensures) in
    subst (λ n. AreTurned s.segments.items k (length k.seconds - 1) owns n more c.of.result) all
    (subst (AreTurned s.segments.items k (length k.seconds - 1) owns c.loop-relation.relation more) (sym c.of.ensures) c.loop-relation.invariant.0)
