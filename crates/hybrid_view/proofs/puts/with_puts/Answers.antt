use Rattle.std.proofs.Common.{◌≡◌, ◌+◌, ◌<◌, ◌++◌, ◌∷◌, [], ℕ, List, length, drop, append_assoc, arith, ap, sym, ◌∙◌, subst}
use Rattle.std.specs.Prelude.{IfOk}
use Rattle.std.proofs.lemmas.List.{append-nil, length-append}
use Rattle.db_value.specs.PackedChanges.{change_here}
use Rattle.db_value.specs.declared.record.Record.{Record}
use Rattle.db_value.specs.declared.entry.Change.{Change}
use Rattle.record_page.specs.Page.{Rows}
use Rattle.segment.specs.Pages.{AreWide}
use Rattle.db_store.specs.LayoutGrowth.{puts}
use Rattle.hybrid_view.proofs.PutLemmas.{puts_drop, puts_past, wide_front, wide_rest}
use Rattle.hybrid_view.proofs.puts.with_puts.Goals as goal

pub with_put-requires-clause-wide : goal.with_put-requires-clause-wide
with_put-requires-clause-wide c =
    let i : ℕ = c.loop-at.at in
    let cs : List Change = c.args.changes.now in
    let z : Change = change_here cs i in
    let inv = c.loop-at.invariant in
    let one : List Record = puts (z ∷ []) c.args.relation in
    let rest : List Record = puts (drop (i + 1) cs) c.args.relation in
    let within : i < length cs = omega (arith, c.loop-at-test.true, c.len-at-end.ensures) in
    let split : puts (drop i cs) c.args.relation ≡ one ++ rest = puts_drop cs c.args.relation i within in
    subst (λ (ws : List ℕ). AreWide ws one) (sym inv.widths) (wide_front c.args.segment.now.widths one rest (subst (AreWide c.args.segment.now.widths) split inv.wide))

pub with_put-requires-clause-few : goal.with_put-requires-clause-few
with_put-requires-clause-few c =
    let i : ℕ = c.loop-at.at in
    let cs : List Change = c.args.changes.now in
    let z : Change = change_here cs i in
    let inv = c.loop-at.invariant in
    let own : List Record = c.loop-at.longer.records in
    let one : List Record = puts (z ∷ []) c.args.relation in
    let rest : List Record = puts (drop (i + 1) cs) c.args.relation in
    let within : i < length cs = omega (arith, c.loop-at-test.true, c.len-at-end.ensures) in
    let split : puts (drop i cs) c.args.relation ≡ one ++ rest = puts_drop cs c.args.relation i within in
    let all = ap (λ (xs : List Record). length xs) (ap (λ (xs : List Record). own ++ xs) (sym split) ∙ inv.records) in
    let a = length-append own (one ++ rest) in
    let b = length-append one rest in
    let d = length-append c.args.segment.now.records (puts cs c.args.relation) in
    let few = c.requires.few in
    omega (arith, all, a, b, d, few)

pub loop-at-preserved : goal.loop-at-preserved
loop-at-preserved c =
    let i : ℕ = c.loop-at.at in
    let cs : List Change = c.args.changes.now in
    let z : Change = change_here cs i in
    let inv = c.loop-at.invariant in
    let own : List Record = c.loop-at.longer.records in
    let one : List Record = puts (z ∷ []) c.args.relation in
    let rest : List Record = puts (drop (i + 1) cs) c.args.relation in
    let within : i < length cs = omega (arith, c.loop-at-test.true, c.len-at-end.ensures) in
    let split : puts (drop i cs) c.args.relation ≡ one ++ rest = puts_drop cs c.args.relation i within in
    let next = c.in_ok-longer-2.ensures in
    record {
      widths = ap (λ (r : Rows). r.widths) next ∙ inv.widths;
      records = ap (λ (r : Rows). r.records ++ rest) next ∙ append_assoc own one rest ∙ ap (λ (xs : List Record). own ++ xs) (sym split) ∙ inv.records;
      wide = wide_rest c.args.segment.now.widths one rest (subst (AreWide c.args.segment.now.widths) split inv.wide);
    }

pub loop-at-init : goal.loop-at-init
loop-at-init c = record {
  widths = ap (λ (r : Rows). r.widths) c.in_ok-longer.ensures.same;
  records = ap (λ (r : Rows). r.records ++ puts c.args.changes.now c.args.relation) c.in_ok-longer.ensures.same;
  wide = c.requires.wide;
}

pub returns : goal.returns
returns c =
    let cs : List Change = c.args.changes.now in
    let inv = c.loop-at.invariant in
    let own : List Record = c.loop-at.longer.records in
    let past : puts (drop c.loop-at.at cs) c.args.relation ≡ [] = puts_past cs c.args.relation c.loop-at.at (omega (arith, c.loop-at-test.false, c.len-at-end.ensures)) in
    let all : own ≡ c.args.segment.now.records ++ puts cs c.args.relation = sym (append-nil own) ∙ ap (λ (xs : List Record). own ++ xs) (sym past) ∙ inv.records in
    subst (λ (v : Rows). IfOk c.closed.result (λ s. s ≡ v)) (λ i. record { widths = inv.widths i; records = all i }) c.closed.ensures
