use Rattle.std.proofs.Common.{◌≡◌, [], ℕ, List, true, ap, sym, ◌∙◌, subst, arith}
use Rattle.std.proofs.lemmas.List.Elements.{All-from_recursion}
use Rattle.db_value.specs.Widths.{meets}
use Rattle.db_value.specs.declared.record.Record.{Record}
use Rattle.record_page.specs.Page.{Rows, IsRecord, record_at}
use Rattle.image_text.proofs.records.put_records.Goals as goal

pub with-requires-clause-meets : goal.with-requires-clause-meets
with-requires-clause-meets g c =
    let page : Rows = c.args.page.now in
    let slot : ℕ = c.loop-slot.slot in
    let none : Record = record { key = 0; fields = [] } in
    let n = c.len-slot-end.ensures.count in
    let more = c.loop-slot-test.true in
    let is : IsRecord page.widths (record_at page.records slot) = All-from_recursion (IsRecord page.widths) page.records c.len-slot-end.ensures.paged.each slot none (omega (arith, n, more)) in
    let same = c.read.ensures.row in
    let met = subst (λ (r : Record). meets page.widths r.fields ≡ true) (sym same) is.meets in
    let widths = ap (λ (v : Rows). v.widths) c.loop-slot.invariant ∙ c.requires.widths in
    subst (λ (ws : List ℕ). meets ws c.read.new.into.fields ≡ true) (sym widths) met
