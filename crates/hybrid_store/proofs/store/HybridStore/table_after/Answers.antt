use Rattle.std.proofs.Common.{◌≡◌, ◌<◌, ◌+◌, ◌++◌, ◌∷◌, [], ◌∙◌, ap, sym, subst, arith, length, map, get_or, ℕ, List}
use Rattle.std.specs.Arc.{arc_value}
use Rattle.std.proofs.lemmas.List.{map-append, length_push}
use Rattle.commit_history.specs.Runs.{Next}
use Rattle.hybrid_view.specs.Live.{Lived, lived_at, IsLived}
use Rattle.bit_rows.specs.Kept.{KeptLane, no_kept, kept_rows}
use Rattle.bit_rows.specs.Differences.{AreDifferences}
use Rattle.hybrid_store.specs.Stored.{head_number, AllNextIn, AllDifferences, AreSmall}
use Rattle.hybrid_store.proofs.TableLemmas.{next_more, lived_more, small_more, ready_more}
use Rattle.hybrid_store.proofs.store.HybridStore.table_after.Goals as goal

pub loop-relation-preserved : goal.loop-relation-preserved
loop-relation-preserved c =
    let s = c.args.self.now in
    let k : KeptLane = get_or s.lanes.items c.args.branch no_kept in
    let cs = c.args.changes.now in
    let heads : ℕ → ℕ = head_number s.segments.items c.args.branch in
    let r : ℕ = c.loop-relation.relation in
    let ls : List Lived = map arc_value c.loop-relation.relations.items in
    let l : Lived = arc_value c.in_ok-live.live in
    let ns : List (List Next) = c.loop-relation.deltas.items in
    let x : List Next = c.in_ok-nexts.nexts in
    let n = c.loop-relation.invariant.count in
    let m = c.loop-relation.invariant.ready in
    let is : map arc_value c.push-in-loop-relation.new.self.items ≡ ls ++ l ∷ [] = ap (map arc_value) c.in_ok-push-2.ensures.items ∙ map-append arc_value c.loop-relation.relations.items (c.in_ok-live.live ∷ []) in
    let long = ap (λ (xs : List Lived). length xs) is in
    let p = length_push ls l in
    let pn = length_push ns x in
    let nexts : c.push.new.self.items ≡ ns ++ x ∷ [] = c.in_ok-push.ensures.items in
    let ln = ap (λ (xs : List (List Next)). length xs) nexts in
    record {
      count = omega (arith, long, p, n);
      ready = omega (arith, ln, pn, m);
      next = subst (AllNextIn heads k cs (r + 1)) (sym is) (next_more heads k cs ls l r n c.loop-relation.invariant.next c.in_ok-live.ensures.next);
      deltas = subst (λ (xs : List Lived). AllDifferences k c.push.new.self.items (r + 1) xs) (sym is)
          (subst (λ (ys : List (List Next)). AllDifferences k ys (r + 1) (ls ++ l ∷ [])) (sym nexts)
          (ready_more k ls l ns x r n m c.loop-relation.invariant.deltas
          (subst (λ (y : Lived). AreDifferences (kept_rows k r) x (lived_at k.head r).pieces y.pieces) c.deref-in-loop-relation.ensures c.in_ok-nexts.ensures)));
      lived = subst (λ (xs : List Lived). (q : ℕ) → q < r + 1 → IsLived (lived_at xs q)) (sym is) (lived_more heads k cs ls l r n c.loop-relation.invariant.lived c.in_ok-live.ensures.lived);
      small = subst (λ (xs : List Lived). (q : ℕ) → q < r + 1 → AreSmall (lived_at xs q)) (sym is) (small_more heads k cs ls l r n c.loop-relation.invariant.small c.in_ok-live.ensures.small);
    }
