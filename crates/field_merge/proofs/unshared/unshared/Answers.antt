use Rattle.std.proofs.Common.{List}
use Rattle.db_store.specs.Table.{relation_at}
use Rattle.db_store.specs.Parts.{Part}
use Rattle.field_merge.proofs.SplitLemmas.{whole_split}
use Rattle.field_merge.proofs.unshared.unshared.Goals as goal

pub returns : goal.returns
returns g c =
    let r = c.args.relation in
    let bs : List Part = g.B.View.parts_of c.args.base.now r in
    let ls : List Part = g.L.View.parts_of c.args.left.now r in
    let rs : List Part = g.R.View.parts_of c.args.right.now r in
    let all = c.loop-more.invariant in
    c.in_order.ensures (relation_at (g.B.View.table c.args.base.now) c.args.relation) (relation_at (g.L.View.table c.args.left.now) c.args.relation) (relation_at (g.R.View.table c.args.right.now) c.args.relation)
    (whole_split bs ls rs c.loop-more.taken c.loop-more.sides c.loop-more.sides all.split _ _ _ (all.end c.loop-more-test.false)
    (g.met.B.View.rows_are c.args.base.now r c.requires.relation.of_base) (g.met.L.View.rows_are c.args.left.now r c.requires.relation.of_left) (g.met.R.View.rows_are c.args.right.now r c.requires.relation.of_right))
