use Rattle.std.proofs.Common.{◌≡◌, ◌<◌, ◌+◌, ◌++◌, ◌∷◌, [], ◌∙◌, ap, sym, subst, arith, length, map, ℕ, List}
use Rattle.std.specs.Arc.{arc_value}
use Rattle.std.proofs.lemmas.List.{map-append, get_or-map}
use Rattle.record_page.specs.Page.{Rows}
use Rattle.hybrid_view.specs.Live.{Lived, IsLived}
use Rattle.bit_rows.specs.Rows.{KeptRow, begun_row}
use Rattle.hybrid_store.specs.Begun.{head_piece, lived_begun, begun_in, AreBegun}
use Rattle.hybrid_store.specs.New.{own_at}
use Rattle.hybrid_store.proofs.BeginLemmas.{begun_more, begun_live}
use Rattle.hybrid_store.proofs.store.HybridStore.table_begun.Goals as goal

pub begun_relation-requires : goal.begun_relation-requires
begun_relation-requires c =
    let s = c.args.self.now in
    let r : ℕ = c.loop-relation.relation in
    let owns : List Rows = map arc_value c.args.heads.now in
    let lt : r < length s.schema = omega (arith, c.loop-relation-test.true, c.width-relation-end.ensures) in
    let own : arc_value c.index-heads-relation.result ≡ own_at owns r = ap arc_value c.index-heads-relation.is ∙ sym (get_or-map arc_value c.args.heads.now r c.index-heads-relation.result (record { widths = []; records = [] }) (omega (arith, lt, c.requires.heads))) in
    let is : lived_begun c.relation.result.now (head_piece (c.next_segment.result + c.args.more) (arc_value c.index-heads-relation.result)) ≡ begun_in s.segments.items c.args.more owns c.args.view.now r =
    λ i. lived_begun (c.relation.ensures i) (head_piece (c.next_segment.ensures.result i + c.args.more) (own i)) in
    subst IsLived (sym is) (c.requires.lived r lt)

pub loop-relation-preserved : goal.loop-relation-preserved
loop-relation-preserved c =
    let s = c.args.self.now in
    let r : ℕ = c.loop-relation.relation in
    let owns : List Rows = map arc_value c.args.heads.now in
    let lt : r < length s.schema = omega (arith, c.loop-relation-test.true, c.width-relation-end.ensures) in
    let own : arc_value c.index-heads-relation.result ≡ own_at owns r = ap arc_value c.index-heads-relation.is ∙ sym (get_or-map arc_value c.args.heads.now r c.index-heads-relation.result (record { widths = []; records = [] }) (omega (arith, lt, c.requires.heads))) in
    let ls : List Lived = map arc_value c.loop-relation.relations.items in
    let l : Lived = arc_value c.in_ok-live.live in
    let rows : List (List KeptRow) = c.loop-relation.rows.items in
    let row : List KeptRow = c.in_ok-row.row in
    let live : l ≡ begun_in s.segments.items c.args.more owns c.args.view.now r =
    c.in_ok-live.ensures ∙ (λ i. lived_begun (c.relation.ensures i) (head_piece (c.next_segment.ensures.result i + c.args.more) (own i))) in
    let begun : row ≡ map begun_row l.pieces = c.in_ok-row.ensures ∙ ap (λ (y : Lived). map begun_row y.pieces) c.deref.ensures in
    let is : map arc_value c.push-in-loop-relation.new.self.items ≡ ls ++ l ∷ [] = ap (map arc_value) c.in_ok-push-2.ensures.items ∙ map-append arc_value c.loop-relation.relations.items (c.in_ok-live.live ∷ []) in (
      subst (AreBegun s.segments.items c.args.more owns c.args.view.now (r + 1) c.push.new.self.items) (sym is)
          (subst (λ (xs : List (List KeptRow)). AreBegun s.segments.items c.args.more owns c.args.view.now (r + 1) xs (ls ++ l ∷ [])) (sym c.in_ok-push.ensures.items)
          (begun_more s.segments.items c.args.more owns c.args.view.now r rows ls c.loop-relation.invariant.0 row l live begun)),
      omega (arith, lt),
    )

pub of-requires : goal.of-requires
of-requires c =
    let s = c.args.self.now in
    let owns : List Rows = map arc_value c.args.heads.now in
    let within = c.loop-relation.invariant.1 in
    begun_live s.segments.items c.args.more owns c.args.view.now c.loop-relation.relation c.loop-relation.rows.items (map arc_value c.loop-relation.relations.items) c.loop-relation.invariant.0 (λ q h. c.requires.lived q (omega (arith, h, within)))

pub returns : goal.returns
returns c =
    let s = c.args.self.now in
    let owns : List Rows = map arc_value c.args.heads.now in
    let rows : List (List KeptRow) = c.loop-relation.rows.items in
    let all : c.loop-relation.relation ≡ length s.schema = omega (arith, c.loop-relation.invariant.1, c.loop-relation-test.false, c.width-relation-end.ensures) in
    subst (λ n. AreBegun s.segments.items c.args.more owns c.args.view.now n rows c.of.result) all
    (subst (AreBegun s.segments.items c.args.more owns c.args.view.now c.loop-relation.relation rows) (sym c.of.ensures) c.loop-relation.invariant.0)
