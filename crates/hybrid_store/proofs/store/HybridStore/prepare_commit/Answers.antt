use Rattle.std.proofs.Common.{◌≡◌, ◌∙◌, ap, sym, subst, arith, map, List}
use Rattle.std.specs.Arc.{arc_value}
use Rattle.hybrid_view.specs.Live.{Lived}
use Rattle.record_page.specs.Page.{Rows}
use Rattle.hybrid_store.specs.Store.{layout_of}
use Rattle.hybrid_store.specs.Ready.{IsMadeOf}
use Rattle.hybrid_store.proofs.CommitLemmas.{branch_there, prepared_is}
use Rattle.hybrid_store.proofs.store.HybridStore.prepare_commit.Goals as goal

pub head_records-requires-clause-branch : goal.head_records-requires-clause-branch
head_records-requires-clause-branch c = let s = c.args.self.now in branch_there s.schema s.lanes.items s.order.items s.segments.items c.args.branch c.args.second c.args.changes.now c.requires

pub returns : goal.returns
returns c =
    let s = c.args.self.now in
    let b = branch_there s.schema s.lanes.items s.order.items s.segments.items c.args.branch c.args.second c.args.changes.now c.requires in
    let w = c.in_ok-table.ensures.wide in
    let owns : List Rows = map arc_value c.in_ok-records.records.items in
    let head_eq : arc_value c.of-head.result.table ≡ c.in_ok-table.table = ap arc_value c.of-head.ensures ∙ c.in_ok-table-2.ensures.ok in (
      c.requires,
      subst (λ (hd : List Lived). IsMadeOf (layout_of s) c.args.branch c.args.second c.args.changes.now c.args.branch c.args.second c.table_after.new.deltas.items hd owns) (sym head_eq)
          (prepared_is s.schema s.lanes.items s.order.items s.segments.items c.args.branch c.args.second c.args.changes.now b s.stored s.laid c.requires c.table_after.new.deltas.items c.in_ok-table.table owns
          c.in_ok-table.ensures.count w (c.in_ok-records.ensures.count ∙ w) c.in_ok-table.ensures.next c.in_ok-table.ensures.deltas
          c.told.ensures (λ r h. c.in_ok-records.ensures.own r (omega (arith, w, h))) c.in_ok-table.ensures.small),
    )
