use Rattle.std.proofs.Common.{◌≡◌, ◌+◌, ◌++◌, ◌∷◌, [], ◌∙◌, ap, sym, subst, arith, length, map, ℕ, List}
use Rattle.std.specs.Arc.{arc_value}
use Rattle.std.proofs.lemmas.List.{map-append, length_push}
use Rattle.record_page.specs.Page.{Rows}
use Rattle.hybrid_view.specs.Live.{Lived, lived_at}
use Rattle.hybrid_store.specs.Ready.{AreOwn}
use Rattle.hybrid_store.specs.Stored.{head_number, HasPiece, IsOwnOf}
use Rattle.hybrid_store.proofs.CommitLemmas.{next_own}
use Rattle.hybrid_store.proofs.TableLemmas.{own_more}
use Rattle.hybrid_store.proofs.store.HybridStore.head_records.Goals as goal

pub loop-relation-preserved : goal.loop-relation-preserved
loop-relation-preserved c =
    let xs : List Rows = map arc_value c.loop-relation.all.items in
    let x : Rows = arc_value c.in_ok-records.records in
    let r : ℕ = c.loop-relation.relation in
    let is : map arc_value c.push.new.self.items ≡ xs ++ x ∷ [] = ap (map arc_value) c.in_ok-push.ensures.items ∙ map-append arc_value c.loop-relation.all.items (c.in_ok-records.records ∷ []) in
    let long = ap (λ (ys : List Rows). length ys) is in
    let p = length_push xs x in
    let n = c.loop-relation.invariant.count in
    let heads : ℕ → ℕ = head_number c.args.self.now.segments.items c.args.branch in
    let own : IsOwnOf (heads r) (lived_at c.args.table.now r).pieces x =
    subst (λ h. IsOwnOf h (lived_at c.args.table.now r).pieces x) c.head_of-head.ensures.segment
    (subst (λ (l : Lived). IsOwnOf c.head_of-head.result.0 l.pieces x) c.relation.ensures c.in_ok-records.ensures) in
    record {
      count = omega (arith, long, p, n);
      done = subst (AreOwn heads c.args.table.now (r + 1)) (sym is) (own_more heads c.args.table.now xs x r n c.loop-relation.invariant.done own);
    }

pub own_records-requires : goal.own_records-requires
own_records-requires c =
    let s = c.args.self.now in
    let r : ℕ = c.loop-relation.relation in
    subst (λ (l : Lived). HasPiece c.head_of-head.result.0 l.pieces) (sym c.relation.ensures)
    (subst (λ h. HasPiece h (lived_at c.args.table.now r).pieces) (sym c.head_of-head.ensures.segment)
    (next_own s.schema s.lanes.items s.segments.items c.args.branch c.args.changes.now c.args.table.now c.requires.branch s.stored c.requires.next r (omega (arith, c.loop-relation-test.true, c.width-relation-end.ensures))))
