use Rattle.std.proofs.Common.{rules, ◌≡◌, ◌<◌, ◌≤◌, ◌∙◌, ◌++◌, ◌∷◌, [], ℕ, List, Bool, true, Option, Some, None, refl, ap, sym, subst, arith, length, take}
use Rattle.std.proofs.lemmas.List.{length-take-le}
use Rattle.db_value.specs.Value.{Value}
use Rattle.db_value.specs.Width.{are_widths}
use Rattle.db_value.specs.declared.entry.Change.{Change}
use Rattle.entry_codec.specs.Grammar.{form_in, row_of}
use Rattle.entry_codec.specs.Pushed.{PushesForm}
use Rattle.entry_codec.proofs.RowForm.{read_widths}
use Rattle.entry_codec.proofs.Lists.{pushed_none, pushed_some}
use Rattle.entry_codec.proofs.read.push_fields.Goals as goal

pub returns-then-count-eq0-clause-pushed : goal.returns-then-count-eq0-clause-pushed
returns-then-count-eq0-clause-pushed c =
    subst (λ (n : ℕ). PushesForm c.args.wide c.args.changes.now c.remove.new.self c.args.relation c.args.row.now.key n c.args.b.now (form_in c.args.wide n c.args.b.now) (Some 0)) (sym c.if-count-eq0.true)
    (pushed_none c.args.wide c.args.changes.now c.remove.new.self c.args.relation c.args.row.now.key c.args.b.now c.in_ok-remove.ensures.removed)

pub returns-in-None-clause-pushed : goal.returns-in-None-clause-pushed
returns-in-None-clause-pushed c = subst (λ (o : Option (List ℕ)). PushesForm c.args.wide c.args.changes.now c.args.changes.now c.args.relation c.args.row.now.key c.args.count c.args.b.now o None) (sym c.in-None.ensures.none) (refl, refl)

pub take_form-requires-clause-there : goal.take_form-requires-clause-there
take_form-requires-clause-there c =
    ap (λ (n : ℕ). form_in c.args.wide n c.args.b.now) (length-take-le c.args.count c.first_form.new.widths (omega (arith, c.requires, c.first_form.array_long))) ∙ c.in-Some.ensures.widths

pub unreachable-requires : goal.unreachable-requires
unreachable-requires c =
    let are : are_widths (take c.args.count c.first_form.new.widths) ≡ true = read_widths c.args.wide c.args.count (take c.args.count c.first_form.new.widths) c.args.b.now (λ i. (c.type_inv.b i).fits) c.in-Some.ensures.widths (omega (arith, c.if-count-eq0.false)) c.requires in
    let there = c.of.ensures.some.1 are in
    search (rules, there)

pub returns-in_ok-put-in-Some-clause-pushed : goal.returns-in_ok-put-in-Some-clause-pushed
returns-in_ok-put-in-Some-clause-pushed c =
    let wide : Bool = c.args.wide in
    let b : List ℕ = c.args.b.now in
    let r : ℕ = c.args.relation in
    let key : ℕ = c.args.row.now.key in
    let n : ℕ = c.args.count in
    let old : List Change = c.args.changes.now in
    let ws : List ℕ = take n c.first_form.new.widths in
    let is : form_in wide n b ≡ Some ws = c.in-Some.ensures.widths in
    let fields : c.take_form.new.into ≡ row_of wide ws b = c.take_form.ensures in
    let own : c.in-Some-of.own ≡ ws = c.in-Some-of.ensures.value in
    subst (λ (o : Option (List ℕ)). PushesForm wide old c.put.new.self r key n b o (Some c.in-Some.size)) (sym is)
    (pushed_some wide old c.put.new.self r key n b ws c.in-Some.size (omega (arith, c.if-count-eq0.false)) c.in-Some.ensures.size
    (c.in_ok-put-in-Some.ensures.put
    ∙ ap (λ (fs : List Value). let x : Change = record { relation = r; key = key; fields = Some fs; widths = Some c.in-Some-of.own } in old ++ x ∷ []) fields
    ∙ ap (λ (us : List ℕ). let x : Change = record { relation = r; key = key; fields = Some (row_of wide ws b); widths = Some us } in old ++ x ∷ []) own))
