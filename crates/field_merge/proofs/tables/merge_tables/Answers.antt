use Rattle.std.proofs.Common.{◌≡◌, ap, sym, ◌∙◌, ◌<◌, ◌≤◌, List, [], length, Ok, arith}
use Rattle.std.specs.List.{list_all}
use Rattle.std.specs.FinMap as finite
use Rattle.db_value.specs.declared.entry.Change.{Change}
use Rattle.db_store.specs.Overlay.{own_widths}
use Rattle.db_store.specs.RowWidths.{all_widths}
use Rattle.db_store.specs.Table.{relation_at, with_changes}
use Rattle.db_store.specs.Fits.{ascends, change_fits}
use Rattle.field_merge.specs.Merge.{Clash, least_clash, relation_changes, relation_clashes, table_changes, table_clashes}
use Rattle.field_merge.specs.Results.{IsFirstClash, MakesMerge}
use Rattle.field_merge.proofs.TableLemmas.{gathered_more, none_more, least_of, none_left, gathered_all, same_stop}
use Rattle.field_merge.proofs.MadeLemmas.{merged_table}
use Rattle.field_merge.proofs.OrderLemmas.{merged_ascends, merged_fits}
use Rattle.field_merge.proofs.ClashLemmas.{least_within}
use Rattle.field_merge.proofs.tables.merge_tables.Goals as goal

pub loop-relation-preserved : goal.loop-relation-preserved
loop-relation-preserved g c =
    let base = g.B.View.table c.args.base.now in
    let left = g.L.View.table c.args.left.now in
    let right = g.R.View.table c.args.right.now in
    let h : c.loop-relation.relation < length left = omega (arith, c.loop-relation-test.true, c.relation_count-relation-end.ensures.count, c.requires.left.wide) in
    record {
      changes = gathered_more (λ r. relation_changes (own_widths (all_widths c.args.schema.now) r) c.args.prefer r (relation_at base r) (relation_at left r) (relation_at right r)) c.loop-relation.relation (length left) _ _ (table_changes (all_widths c.args.schema.now) c.args.prefer base left right) h c.in-Ok.ensures.changes c.loop-relation.invariant.changes;
      clashes = none_more (λ r. relation_clashes c.args.prefer r (relation_at base r) (relation_at left r) (relation_at right r)) c.loop-relation.relation (length left) (table_clashes c.args.prefer base left right) h c.in-Ok.ensures.free c.loop-relation.invariant.clashes;
    }

pub returns-in-Err-clause-conflict : goal.returns-in-Err-clause-conflict
returns-in-Err-clause-conflict g c = λ r k f e.
    let base = g.B.View.table c.args.base.now in
    let left = g.L.View.table c.args.left.now in
    let right = g.R.View.table c.args.right.now in
    let clash : Clash = record { relation = r; key = k; field = f } in
    let h : c.loop-relation.relation < length left = omega (arith, c.loop-relation-test.true, c.relation_count-relation-end.ensures.count, c.requires.left.wide) in
    let least = ap least_clash (sym c.loop-relation.invariant.clashes)
    ∙ least_of (λ r. relation_clashes c.args.prefer r (relation_at base r) (relation_at left r) (relation_at right r)) c.loop-relation.relation (length left) clash h (c.in-Err.ensures.conflict r k f (same_stop _ _ e)) in
    let within = least_within c.args.schema.now c.args.prefer base left right clash c.requires.left least in
    let first : IsFirstClash c.args.schema.now c.args.prefer base left right clash = record {
      least = least;
      asked = c.in-Err.ensures.asked r k f (same_stop _ _ e);
      relation_there = within.0;
      field_there = within.1;
    } in
    first

pub returns-clause-merged : goal.returns-clause-merged
returns-clause-merged g c =
    let base = g.B.View.table c.args.base.now in
    let left = g.L.View.table c.args.left.now in
    let right = g.R.View.table c.args.right.now in
    let h : length left ≤ c.loop-relation.relation = omega (arith, c.loop-relation-test.false, c.relation_count-relation-end.ensures.count, c.requires.left.wide) in
    let is : c.loop-relation.all ≡ table_changes (all_widths c.args.schema.now) c.args.prefer base left right = gathered_all (λ r. relation_changes (own_widths (all_widths c.args.schema.now) r) c.args.prefer r (relation_at base r) (relation_at left r) (relation_at right r)) c.loop-relation.relation (length left) _ _ h c.loop-relation.invariant.changes in
    let free : table_clashes c.args.prefer base left right ≡ [] = sym c.loop-relation.invariant.clashes ∙ none_left (λ r. relation_clashes c.args.prefer r (relation_at base r) (relation_at left r) (relation_at right r)) c.loop-relation.relation (length left) h in
    let merged : MakesMerge c.args.schema.now c.args.prefer base left right c.loop-relation.all = record {
      changes = is;
      free = free;
      made = λ r key l. merged_table (all_widths c.args.schema.now) c.args.prefer base left right free r key (omega (arith, l, c.requires.left.wide))
          ∙ ap (λ (cs : List Change). Ok (finite.get (relation_at (with_changes left cs) r) key)) (sym is);
      order = ap ascends is ∙ merged_ascends (all_widths c.args.schema.now) c.args.prefer base left right;
      fit = ap (list_all (change_fits c.args.schema.now)) is ∙ merged_fits c.args.schema.now c.args.prefer base left right (omega (arith, c.relation_count-relation-end.ensures.count, c.relation_count-relation-end.ensures.few)) c.requires.left c.requires.right;
    } in
    merged
