use Rattle.std.proofs.Common.{◌≡◌, ◌++◌, ap, sym, ◌∙◌, subst, List, ℕ, [], OnOk}
use Rattle.db_value.specs.declared.entry.Change.{Change}
use Rattle.db_store.specs.Table.{relation_at}
use Rattle.db_store.specs.Overlay.{own_widths}
use Rattle.db_store.specs.RowWidths.{all_widths}
use Rattle.db_store.proofs.WidthLemmas.{widths_here}
use Rattle.field_merge.specs.Merge.{Clash, least_clash, relation_changes}
use Rattle.field_merge.proofs.UnsharedLemmas.{unshared_sides, changes_same, clashes_same}
use Rattle.field_merge.proofs.tables.merge_relation.Goals as goal

pub merge_rows-requires : goal.merge_rows-requires
merge_rows-requires g c =
    let views = c.requires.views in
    unshared_sides c.args.schema.now c.args.relation (g.B.View.table c.args.base.now) (g.L.View.table c.args.left.now) (g.R.View.table c.args.right.now) c.in-Ok.sides c.requires.relation views.of_base views.of_left views.of_right c.in-Ok.ensures

-- the widths of the relation are told by the schema
pub returns-in-Ok-clause-changes : goal.returns-in-Ok-clause-changes
returns-in-Ok-clause-changes g c =
    let base = relation_at (g.B.View.table c.args.base.now) c.args.relation in
    let left = relation_at (g.L.View.table c.args.left.now) c.args.relation in
    let right = relation_at (g.R.View.table c.args.right.now) c.args.relation in
    let own : c.widths.result ≡ own_widths (all_widths c.args.schema.now) c.args.relation = c.widths.ensures ∙ sym (widths_here c.args.schema.now c.args.relation c.requires.relation c.requires.few) in
    subst (λ (cs : List Change). OnOk c.merge_rows.result (c.merge_rows.new.all ≡ c.args.all.now ++ cs))
    (changes_same c.widths.result c.args.prefer c.args.relation base left right c.in-Ok.sides c.in-Ok.ensures ∙ ap (λ (ws : List ℕ). relation_changes ws c.args.prefer c.args.relation base left right) own)
    c.merge_rows.ensures.changes

pub returns-in-Ok-clause-free : goal.returns-in-Ok-clause-free
returns-in-Ok-clause-free g c =
    subst (λ (cs : List Clash). OnOk c.merge_rows.result (cs ≡ []))
    (clashes_same c.widths.result c.args.prefer c.args.relation (relation_at (g.B.View.table c.args.base.now) c.args.relation) (relation_at (g.L.View.table c.args.left.now) c.args.relation) (relation_at (g.R.View.table c.args.right.now) c.args.relation) c.in-Ok.sides c.in-Ok.ensures)
    c.merge_rows.ensures.free

pub returns-in-Ok-clause-conflict : goal.returns-in-Ok-clause-conflict
returns-in-Ok-clause-conflict g c = λ r k f e.
    ap least_clash (sym (clashes_same c.widths.result c.args.prefer c.args.relation (relation_at (g.B.View.table c.args.base.now) c.args.relation) (relation_at (g.L.View.table c.args.left.now) c.args.relation) (relation_at (g.R.View.table c.args.right.now) c.args.relation) c.in-Ok.sides c.in-Ok.ensures))
    ∙ c.merge_rows.ensures.conflict r k f e
