use Rattle.std.proofs.Common.{◌∙◌, ap, sym, subst, arith, length, List}
use Rattle.bit_rows.specs.Kept.{KeptLane}
use Rattle.bit_rows.specs.Segments.{KeptList, list_at}
use Rattle.bit_rows.specs.Told.{all_told, CanTell}
use Rattle.hybrid_store.proofs.ReportLemmas.{told_is, can_tell}
use Rattle.hybrid_store.proofs.store.HybridStoreStore.layout_report.Goals as goal

pub layout_lines-requires-clause-wide : goal.layout_lines-requires-clause-wide
layout_lines-requires-clause-wide c =
    let s = c.args.self.now in
    ap (λ (ls : List KeptList). length ls) c.deref-2.ensures.value ∙ s.stored.wide

pub layout_lines-requires-clause-few : goal.layout_lines-requires-clause-few
layout_lines-requires-clause-few c =
    let s = c.args.self.now in
    let n = ap (λ (ls : List KeptList). length ls) c.deref-2.ensures.value in
    let w = s.stored.wide in
    let f = s.few_relations in
    omega (arith, n, w, f)

pub layout_lines-requires-clause-can : goal.layout_lines-requires-clause-can
layout_lines-requires-clause-can c =
    let s = c.args.self.now in
    let n = ap (λ (ls : List KeptList). length ls) c.deref-2.ensures.value in
    λ r h.
    subst (λ (ks : List KeptLane). CanTell ks r (list_at c.deref-2.result.now r)) (sym c.deref.ensures.value)
    (subst (λ (ls : List KeptList). CanTell s.lanes.items r (list_at ls r)) (sym c.deref-2.ensures.value)
    (can_tell s.schema s.lanes.items s.order.items s.segments.items s.stored s.laid s.sound r (omega (arith, h, n))))

pub returns : goal.returns
returns c =
    let s = c.args.self.now in
    c.in_ok-lines.ensures
    ∙ (λ i. all_told s.schema (c.deref.ensures.value i) (c.deref-2.ensures.value i))
    ∙ told_is s.schema s.lanes.items s.order.items s.segments.items s.stored
