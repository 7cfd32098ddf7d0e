use Rattle.std.proofs.Common.{◌≡◌, ◌<◌, ◌∙◌, ap, sym, subst, length, get_or, List}
use Rattle.std.specs.Arc.{arc_value}
use Rattle.db_store.specs.Parts.{AreOf}
use Rattle.hybrid_view.specs.Live.{Lived, table_of, parts_in, lived_at}
use Rattle.bit_rows.specs.Kept.{KeptLane, no_kept}
use Rattle.hybrid_store.specs.Store.{state_of}
use Rattle.hybrid_store.proofs.HeadLemmas.{head_is, head_parts}
use Rattle.hybrid_store.proofs.store.HybridStore.last_view.Goals as goal

pub returns-clause-table : goal.returns-clause-table
returns-clause-table c =
    let s = c.args.self.now in
    let some : 0 < length (get_or s.lanes.items c.args.branch no_kept).seconds = subst (λ (k : KeptLane). 0 < length k.seconds) c.lane.ensures.lane c.lane.ensures.versions.some in
    ap table_of (c.view.ensures ∙ ap (λ (k : KeptLane). k.head) c.lane.ensures.lane) ∙ head_is s.schema s.lanes.items s.order.items s.segments.items c.args.branch c.requires s.stored some

pub returns-clause-parts : goal.returns-clause-parts
returns-clause-parts c =
    let s = c.args.self.now in
    let is : arc_value c.view.result.now.table ≡ (get_or s.lanes.items c.args.branch no_kept).head = c.view.ensures ∙ ap (λ (k : KeptLane). k.head) c.lane.ensures.lane in
    subst (λ (ls : List Lived). AreOf (state_of s) (λ r. parts_in (lived_at ls r))) (sym is) (head_parts s.schema s.lanes.items s.order.items s.segments.items c.args.branch c.requires s.stored s.laid)
