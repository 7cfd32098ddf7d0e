use Rattle.std.proofs.Common.{arith, ap, ◌∙◌, not}
use Rattle.std.proofs.lemmas.List.Filters.{FiltersInPlace-more_swap, FiltersInPlace-more_no}
use Rattle.std.proofs.lemmas.Bool.{ne_eqb, eq-eqb}
use Rattle.lock_table.proofs.lock.Lock.release.Goals as goal

pub loop-i-preserved : goal.loop-i-preserved
loop-i-preserved c = elim c.if-index-session.branch [
  | goal.then-index-session w ↦ rw (w.self-inside-is, w.kept-is) (
    FiltersInPlace-more_swap c.loop-i.invariant.0 (omega arith) (ap not (ne_eqb _ _ w.if-index-session.true)) c.index.ensures w.swap.ensures.by_index,
    w.swap.ensures.capacity ∙ c.loop-i.invariant.1,
  )
  | goal.else-index-session w ↦ rw (w.self-inside-is, w.kept-is) (
    FiltersInPlace-more_no c.loop-i.invariant.0 (omega arith) (ap not (eq-eqb _ _ w.if-index-session.false)) c.index.ensures,
    c.loop-i.invariant.1,
  )
]
