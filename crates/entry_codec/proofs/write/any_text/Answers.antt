use Rattle.std.proofs.Common.{◌≡◌, ◌<◌, ◌+◌, ◌∙◌, ℕ, List, Bool, true, false, ap, sym, arith, drop, length}
use Rattle.std.specs.Prelude.{◌||◌}
use Rattle.std.proofs.lemmas.List.{drop_all}
use Rattle.db_value.specs.PackedChanges.{change_here}
use Rattle.db_value.specs.declared.entry.Change.{Change}
use Rattle.db_store.specs.Body.{have_texts, has_text, any_text}
use Rattle.entry_codec.proofs.Lists.{text_next}
use Rattle.entry_codec.proofs.write.any_text.Goals as goal

pub loop-at-preserved : goal.loop-at-preserved
loop-at-preserved c =
    let cs : List Change = c.args.changes.now in
    let i : ℕ = c.loop-at.at in
    let here : i < length cs = omega (arith, c.loop-at-test.true, c.len-at-end.ensures) in
    let none : has_text (change_here cs i) ≡ false = ap have_texts (sym c.widths.ensures) ∙ sym c.have_texts.ensures ∙ c.if-have_texts.false in
    sym (text_next cs i here ∙ ap (λ (b : Bool). b || any_text (drop (i + 1) cs)) none) ∙ c.loop-at.invariant

pub returns-then-have_texts : goal.returns-then-have_texts
returns-then-have_texts c =
    let cs : List Change = c.args.changes.now in
    let i : ℕ = c.loop-at.at in
    let here : i < length cs = omega (arith, c.loop-at-test.true, c.len-at-end.ensures) in
    let some : has_text (change_here cs i) ≡ true = ap have_texts (sym c.widths.ensures) ∙ sym c.have_texts.ensures ∙ c.if-have_texts.true in
    sym (text_next cs i here ∙ ap (λ (b : Bool). b || any_text (drop (i + 1) cs)) some) ∙ c.loop-at.invariant

pub returns : goal.returns
returns c = sym (ap any_text (drop_all c.loop-at.at c.args.changes.now (omega (arith, c.loop-at-test.false, c.len-at-end.ensures)))) ∙ c.loop-at.invariant
