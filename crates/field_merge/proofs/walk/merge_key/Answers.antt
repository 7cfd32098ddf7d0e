use Rattle.std.proofs.Common.{◌≡◌, ◌∙◌, ◌++◌, ℕ, List, [], drop, Option, Result, ap, sym, subst}
use Rattle.std.specs.Prelude.{OnOk}
use Rattle.std.specs.Option.{option_copied}
use Rattle.db_value.specs.Value.{Value}
use Rattle.db_value.specs.declared.record.Record.{Record}
use Rattle.db_value.specs.declared.entry.Change.{Change}
use Rattle.field_merge.specs.Merge.{Clash, change_where, clash_where}
use Rattle.field_merge.specs.Rows.{fields_if, told, merge_records, AreVersions}
use Rattle.field_merge.specs.Steps.{merged_at}
use Rattle.field_merge.specs.Walk.{first_at}
use Rattle.field_merge.proofs.PreferLemmas.{clash_asked}
use Rattle.field_merge.proofs.walk.merge_key.Goals as goal

-- what was read is what stands in front
pub merge3-merged-requires : goal.merge3-merged-requires
merge3-merged-requires c =
    let key = c.args.key in
    let sides = c.args.sides.now in
    let at = c.args.at.now in
    let base : option_copied c.row_if-base.result ≡ first_at key (drop at.base sides.base) = c.row_if-base.ensures ∙ sym c.read_first-in_base.ensures in
    let left : option_copied c.row_if-left.result ≡ first_at key (drop at.left sides.left) = c.row_if-left.ensures ∙ sym c.read_first-in_left.ensures in
    let right : option_copied c.row_if-right.result ≡ first_at key (drop at.right sides.right) = c.row_if-right.ensures ∙ sym c.read_first-in_right.ensures in
    subst (λ (b : Option Record). AreVersions b (option_copied c.row_if-left.result) (option_copied c.row_if-right.result)) (sym base)
    (subst (λ (l : Option Record). AreVersions (first_at key (drop at.base sides.base)) l (option_copied c.row_if-right.result)) (sym left)
    (subst (λ (r : Option Record). AreVersions (first_at key (drop at.base sides.base)) (first_at key (drop at.left sides.left)) r) (sym right) c.requires))

pub returns-clause-changes : goal.returns-clause-changes
returns-clause-changes c =
    let key = c.args.key in
    let sides = c.args.sides.now in
    let at = c.args.at.now in
    let base : option_copied c.row_if-base.result ≡ first_at key (drop at.base sides.base) = c.row_if-base.ensures ∙ sym c.read_first-in_base.ensures in
    let left : option_copied c.row_if-left.result ≡ first_at key (drop at.left sides.left) = c.row_if-left.ensures ∙ sym c.read_first-in_left.ensures in
    let right : option_copied c.row_if-right.result ≡ first_at key (drop at.right sides.right) = c.row_if-right.ensures ∙ sym c.read_first-in_right.ensures in
    let merged : told c.merge3-merged.result c.merge3-merged.new.into ≡ merged_at c.args.prefer key sides at = c.merge3-merged.ensures ∙ (λ i. merge_records c.args.prefer (base i) (left i) (right i)) in
    let listed : change_where c.args.widths.now c.args.relation key (fields_if (option_copied c.row_if-left.result)) (told c.merge3-merged.result c.merge3-merged.new.into) ≡ change_where c.args.widths.now c.args.relation key (fields_if (first_at key (drop at.left sides.left))) (merged_at c.args.prefer key sides at) =
    λ i. change_where c.args.widths.now c.args.relation key (fields_if (left i)) (merged i) in
    subst (λ (cs : List Change). OnOk c.list_merged.result (c.list_merged.new.all ≡ c.args.all.now ++ cs)) listed c.list_merged.ensures.changes

pub returns-clause-free : goal.returns-clause-free
returns-clause-free c =
    let key = c.args.key in
    let sides = c.args.sides.now in
    let at = c.args.at.now in
    let base : option_copied c.row_if-base.result ≡ first_at key (drop at.base sides.base) = c.row_if-base.ensures ∙ sym c.read_first-in_base.ensures in
    let left : option_copied c.row_if-left.result ≡ first_at key (drop at.left sides.left) = c.row_if-left.ensures ∙ sym c.read_first-in_left.ensures in
    let right : option_copied c.row_if-right.result ≡ first_at key (drop at.right sides.right) = c.row_if-right.ensures ∙ sym c.read_first-in_right.ensures in
    let merged : told c.merge3-merged.result c.merge3-merged.new.into ≡ merged_at c.args.prefer key sides at = c.merge3-merged.ensures ∙ (λ i. merge_records c.args.prefer (base i) (left i) (right i)) in
    subst (λ (m : Result (Option (List Value)) (Option ℕ)). OnOk c.list_merged.result (clash_where c.args.relation key m ≡ [])) merged c.list_merged.ensures.free

pub returns-clause-conflict : goal.returns-clause-conflict
returns-clause-conflict c = λ r k f e.
    let key = c.args.key in
    let sides = c.args.sides.now in
    let at = c.args.at.now in
    let base : option_copied c.row_if-base.result ≡ first_at key (drop at.base sides.base) = c.row_if-base.ensures ∙ sym c.read_first-in_base.ensures in
    let left : option_copied c.row_if-left.result ≡ first_at key (drop at.left sides.left) = c.row_if-left.ensures ∙ sym c.read_first-in_left.ensures in
    let right : option_copied c.row_if-right.result ≡ first_at key (drop at.right sides.right) = c.row_if-right.ensures ∙ sym c.read_first-in_right.ensures in
    let merged : told c.merge3-merged.result c.merge3-merged.new.into ≡ merged_at c.args.prefer key sides at = c.merge3-merged.ensures ∙ (λ i. merge_records c.args.prefer (base i) (left i) (right i)) in
    ap (clash_where c.args.relation key) (sym merged) ∙ c.list_merged.ensures.conflict r k f e

pub returns-clause-asked : goal.returns-clause-asked
returns-clause-asked c = λ r k f e.
    let key = c.args.key in
    let sides = c.args.sides.now in
    let at = c.args.at.now in
    let base : option_copied c.row_if-base.result ≡ first_at key (drop at.base sides.base) = c.row_if-base.ensures ∙ sym c.read_first-in_base.ensures in
    let left : option_copied c.row_if-left.result ≡ first_at key (drop at.left sides.left) = c.row_if-left.ensures ∙ sym c.read_first-in_left.ensures in
    let right : option_copied c.row_if-right.result ≡ first_at key (drop at.right sides.right) = c.row_if-right.ensures ∙ sym c.read_first-in_right.ensures in
    let merged : told c.merge3-merged.result c.merge3-merged.new.into ≡ merged_at c.args.prefer key sides at = c.merge3-merged.ensures ∙ (λ i. merge_records c.args.prefer (base i) (left i) (right i)) in
    let clash : Clash = record { relation = r; key = k; field = f } in
    clash_asked c.args.prefer (fields_if (first_at key (drop at.base sides.base))) (fields_if (first_at key (drop at.left sides.left))) (fields_if (first_at key (drop at.right sides.right))) c.args.relation key clash
    (ap (clash_where c.args.relation key) (sym merged) ∙ c.list_merged.ensures.conflict r k f e)
