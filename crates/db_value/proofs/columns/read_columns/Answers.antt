use Rattle.std.proofs.Common.{arith, ap, sym, ◌∙◌, refl, ◌∷◌, [], length, length-append}
use Rattle.std.specs.List.{list_any, list_all}
use Rattle.std.proofs.lemmas.List.Folds.{list_all-append}
use Rattle.db_value.specs.Width.{is_width}
use Rattle.db_value.specs.Text.{same}
use Rattle.db_value.specs.declared.schema.Column.{Column}
use Rattle.db_value.proofs.SchemaLemmas.{columns_step, columns_again}
use Rattle.db_value.proofs.columns.read_columns.Goals as goal

pub returns-then-has_column-clause-columns : goal.returns-then-has_column-clause-columns
returns-then-has_column-clause-columns c =
    sym (columns_again c.loop-word.items.items c.args.words.now c.loop-word.word-index _ c.in-Some.column (omega arith) (sym c.read_column.ensures.column ∙ c.in-Some.is) (ap (list_any (λ (d : Column). same d.name c.in-Some.column.name)) (sym c.deref.ensures.value) ∙ sym c.has_column.ensures ∙ c.if-has_column.true)) ∙ c.loop-word.invariant.same

pub loop-word-preserved : goal.loop-word-preserved
loop-word-preserved c =
    let step = columns_step c.loop-word.items.items c.args.words.now c.loop-word.word-index _ c.in-Some.column (omega arith) (sym c.read_column.ensures.column ∙ c.in-Some.is) (ap (list_any (λ (d : Column). same d.name c.in-Some.column.name)) (sym c.deref.ensures.value) ∙ sym c.has_column.ensures ∙ c.if-has_column.false) in
    record {
      same = rw (c.in_ok-push.ensures.items, ← step) c.loop-word.invariant.same;
      count = omega (arith, simp length-append at (ap length c.in_ok-push.ensures.items), c.loop-word.invariant.count);
      bound = ap (list_all (λ (d : Column). is_width d.width)) c.in_ok-push.ensures.items ∙ list_all-append (λ (d : Column). is_width d.width) c.loop-word.items.items (c.in-Some.column ∷ []) ∙ rw (c.loop-word.invariant.bound, c.in-Some.ensures.bound) refl;
    }
