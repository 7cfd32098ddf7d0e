use Rattle.std.proofs.Common.{◌≡◌, ◌<◌, ◌≤◌, ◌∷◌, [], nat_lt, true, Err, length, List, ap, sym, ◌∙◌, subst, arith}
use Rattle.std.specs.List.{list_all}
use Rattle.db_value.specs.Relations.{columns_at}
use Rattle.db_value.specs.declared.entry.Change.{Change}
use Rattle.db_value.specs.declared.reply.Refusal.TheVariants.{Conflict as RefusedConflict}
use Rattle.db_value.specs.declared.reply.Reply.TheVariants.{Refused}
use Rattle.db_store.specs.Table.{Table}
use Rattle.db_store.specs.Counted.{IsTable}
use Rattle.db_value.specs.Schema.{most_relations}
use Rattle.db_store.specs.Overlay.{Overlay, laid, untouched}
use Rattle.db_store.specs.RowWidths.{all_widths}
use Rattle.db_store.specs.Fits.{change_fits}
use Rattle.db_store.specs.WorkState.{overlays_of}
use Rattle.db_store.proofs.CountLemmas.{ascending_differ}
use Rattle.field_merge.specs.Merge.{Clash, least_clash, table_changes, table_clashes}
use Rattle.field_merge.specs.Named.{IsFieldOf}
use Rattle.field_merge.proofs.OrderLemmas.{merged_within}
use Rattle.branch_tx.specs.Act.{Outcome}
use Rattle.branch_tx.specs.Merging.{relation_name, field_name}
use Rattle.branch_tx.specs.Granted.{Granted, with_merge}
use Rattle.branch_tx.specs.Shown.{parts_by, ViewsAgree}
use Rattle.branch_tx.proofs.MergeAgree.{merge_agrees}
use Rattle.branch_tx.proofs.MergeLemmas.{laid_is, merged_by, conflicting}
use Rattle.branch_tx.proofs.tx.Tx.merge.Goals as goal

pub merge_tables-requires-clause-left : goal.merge_tables-requires-clause-left
merge_tables-requires-clause-left g c =
    subst (λ (x : Granted). IsTable x.schema (laid x.head x.overlays)) (sym c.self.view_is) (subst (IsTable c.args.self.now.schema) (sym (laid_is c.args.self.now c.requires.may.untouched)) c.requires.may.of_left)

pub merge_tables-requires-clause-agree : goal.merge_tables-requires-clause-agree
merge_tables-requires-clause-agree g c =
    let own = c.self.inside.work in
    let few = own.viewable.relations in
    let small : length c.self.inside.schema ≤ most_relations = omega (arith, c.self.invariant.0, few) in
    let is : overlays_of own ≡ untouched = ap (λ (x : Granted). x.overlays) c.self.view_is ∙ c.requires.may.untouched in
    let agree = subst (λ (x : Granted). ViewsAgree (x.below ∷ parts_by (g.St.View.View.parts_of c.args.base.now) ∷ parts_by (g.St.View.View.parts_of c.args.right.now) ∷ [])) (sym c.self.view_is) c.requires.may.agree in
    merge_agrees own is c.self.inside.schema c.args.base.now c.args.right.now small agree

pub adopt-requires-clause-relations : goal.adopt-requires-clause-relations
adopt-requires-clause-relations g c =
    let left : Table = laid (g.St.View.View.table c.self.inside.work.view) (overlays_of c.self.inside.work) in
    let long : length left ≡ length c.args.self.now.head = ap (λ (x : Granted). length (laid x.head x.overlays)) c.self.view_is ∙ ap length (laid_is c.args.self.now c.requires.may.untouched) in
    subst (λ n. list_all (λ (x : Change). nat_lt x.relation n) c.in-Ok.changes ≡ true) long
    (ap (list_all (λ (x : Change). nat_lt x.relation (length left))) c.in-Ok.ensures.merged.changes
    ∙ merged_within (all_widths c.self.inside.schema) c.args.prefer (g.St.View.View.table c.args.base.now) left (g.St.View.View.table c.args.right.now))

pub adopt-requires-clause-fit : goal.adopt-requires-clause-fit
adopt-requires-clause-fit g c = subst (λ (x : Granted). list_all (change_fits x.schema) c.in-Ok.changes ≡ true) c.self.view_is c.in-Ok.ensures.merged.fit

pub adopt-requires-clause-differ : goal.adopt-requires-clause-differ
adopt-requires-clause-differ g c = ascending_differ c.in-Ok.changes c.in-Ok.ensures.merged.order

pub relation_name-requires : goal.relation_name-requires
relation_name-requires g c =
    let h = (c.merge_tables.ensures.conflict c.in-Err-Conflict.relation c.in-Err-Conflict.key c.in-Err-Conflict.field (c.in-Err-Conflict.is ∙ ap Err c.in-Err-Conflict.field-0-is)).relation_there in
    subst (λ r. r < length c.self.inside.schema) (sym c.in-Err-Conflict.relation-is) h

pub field_name-requires-clause-relation : goal.field_name-requires-clause-relation
field_name-requires-clause-relation g c =
    let h = (c.merge_tables.ensures.conflict c.in-Err-Conflict.relation c.in-Err-Conflict.key c.in-Err-Conflict.field (c.in-Err-Conflict.is ∙ ap Err c.in-Err-Conflict.field-0-is)).relation_there in
    subst (λ r. r < length c.self.inside.schema) (sym c.in-Err-Conflict.relation-is) h

pub field_name-requires-clause-field : goal.field_name-requires-clause-field
field_name-requires-clause-field g c =
    let h = (c.merge_tables.ensures.conflict c.in-Err-Conflict.relation c.in-Err-Conflict.key c.in-Err-Conflict.field (c.in-Err-Conflict.is ∙ ap Err c.in-Err-Conflict.field-0-is)).field_there in
    subst (IsFieldOf (length (columns_at c.self.inside.schema _))) (sym c.in-Err-Conflict.field-is)
    (subst (λ r. IsFieldOf (length (columns_at c.self.inside.schema r)) c.in-Err-Conflict.field) (sym c.in-Err-Conflict.relation-is) h)

pub returns-in-Ok-clause-reply : goal.returns-in-Ok-clause-reply
returns-in-Ok-clause-reply g c =
    let old : Granted = c.args.self.now in
    let base = g.St.View.View.table c.args.base.now in
    let right = g.St.View.View.table c.args.right.now in
    let is = c.in-Ok.ensures.merged.changes ∙ ap (λ (x : Granted). table_changes (all_widths x.schema) c.args.prefer base (laid x.head x.overlays) right) c.self.view_is in
    let free = ap (λ (x : Granted). table_clashes c.args.prefer base (laid x.head x.overlays) right) (sym c.self.view_is) ∙ c.in-Ok.ensures.merged.free in
    c.adopt.ensures.reply
    ∙ ap (λ (o : Outcome (List Overlay)). o.reply) (merged_by old c.requires.may.untouched c.args.from c.args.prefer base right c.in-Ok.changes (sym c.is_full.ensures ∙ c.if-is_full.false) is free)

pub returns-in-Ok-clause-left : goal.returns-in-Ok-clause-left
returns-in-Ok-clause-left g c =
    let old : Granted = c.args.self.now in
    let base = g.St.View.View.table c.args.base.now in
    let right = g.St.View.View.table c.args.right.now in
    let is = c.in-Ok.ensures.merged.changes ∙ ap (λ (x : Granted). table_changes (all_widths x.schema) c.args.prefer base (laid x.head x.overlays) right) c.self.view_is in
    let free = ap (λ (x : Granted). table_clashes c.args.prefer base (laid x.head x.overlays) right) (sym c.self.view_is) ∙ c.in-Ok.ensures.merged.free in
    c.adopt.ensures.left
    ∙ ap (with_merge old) (merged_by old c.requires.may.untouched c.args.from c.args.prefer base right c.in-Ok.changes (sym c.is_full.ensures ∙ c.if-is_full.false) is free)

pub returns-in-Err-Conflict-clause-reply : goal.returns-in-Err-Conflict-clause-reply
returns-in-Err-Conflict-clause-reply g c =
    let old : Granted = c.args.self.now in
    let base = g.St.View.View.table c.args.base.now in
    let right = g.St.View.View.table c.args.right.now in
    let clash : Clash = record { relation = c.in-Err-Conflict.relation; key = c.in-Err-Conflict.key; field = c.in-Err-Conflict.field } in
    let least = ap (λ (x : Granted). least_clash (table_clashes c.args.prefer base (laid x.head x.overlays) right)) (sym c.self.view_is)
    ∙ (c.merge_tables.ensures.conflict clash.relation clash.key clash.field (c.in-Err-Conflict.is ∙ ap Err c.in-Err-Conflict.field-0-is)).least in
    let name = c.relation_name.ensures ∙ ap (relation_name c.self.inside.schema) c.in-Err-Conflict.relation-is ∙ ap (λ (x : Granted). relation_name x.schema clash.relation) c.self.view_is in
    let field = c.field_name.ensures ∙ (λ i. field_name c.self.inside.schema (c.in-Err-Conflict.relation-is i) (c.in-Err-Conflict.field-is i)) ∙ ap (λ (x : Granted). field_name x.schema clash.relation clash.field) c.self.view_is in
    c.refused.ensures
    ∙ (λ i. Refused (RefusedConflict (name i) (c.in-Err-Conflict.key-is i) (field i)))
    ∙ ap (λ (o : Outcome (List Overlay)). o.reply) (conflicting old c.requires.may.untouched c.args.from c.args.prefer base right clash (sym c.is_full.ensures ∙ c.if-is_full.false) least)

pub returns-in-Err-Conflict-clause-left : goal.returns-in-Err-Conflict-clause-left
returns-in-Err-Conflict-clause-left g c =
    let old : Granted = c.args.self.now in
    let base = g.St.View.View.table c.args.base.now in
    let right = g.St.View.View.table c.args.right.now in
    let clash : Clash = record { relation = c.in-Err-Conflict.relation; key = c.in-Err-Conflict.key; field = c.in-Err-Conflict.field } in
    let least = ap (λ (x : Granted). least_clash (table_clashes c.args.prefer base (laid x.head x.overlays) right)) (sym c.self.view_is)
    ∙ (c.merge_tables.ensures.conflict clash.relation clash.key clash.field (c.in-Err-Conflict.is ∙ ap Err c.in-Err-Conflict.field-0-is)).least in
    ap (with_merge old) (conflicting old c.requires.may.untouched c.args.from c.args.prefer base right clash (sym c.is_full.ensures ∙ c.if-is_full.false) least)
