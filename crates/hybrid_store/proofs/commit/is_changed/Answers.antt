use Rattle.std.proofs.Common.{◌≡◌, ◌<◌, ◌+◌, ◌==◌, ◌∙◌, ℕ, List, Bool, true, false, ap, sym, arith, drop, length}
use Rattle.std.specs.Prelude.{◌||◌}
use Rattle.std.proofs.lemmas.Bool.{eq-eqb, ne_eqb}
use Rattle.std.proofs.lemmas.List.{drop_all}
use Rattle.db_value.specs.PackedChanges.{change_here}
use Rattle.db_value.specs.declared.entry.Change.{Change}
use Rattle.db_store.specs.Adopt.{is_changed}
use Rattle.db_store.proofs.AdoptLemmas.{changed_next}
use Rattle.hybrid_store.proofs.commit.is_changed.Goals as goal

pub loop-at-preserved : goal.loop-at-preserved
loop-at-preserved c =
    let r : ℕ = c.args.relation in
    let changes : List Change = c.args.changes.now in
    let i : ℕ = c.loop-at.at in
    let here : i < length changes = omega (arith, c.loop-at-test.true, c.len-at-end.ensures) in
    let other : ((change_here changes i).relation == r) ≡ false = ne_eqb (change_here changes i).relation r (λ e. c.if-own-relation.false (c.relation-own.ensures ∙ e)) in
    sym (changed_next r changes i here ∙ ap (λ (b : Bool). b || is_changed r (drop (i + 1) changes)) other) ∙ c.loop-at.invariant

pub returns-then-own-relation : goal.returns-then-own-relation
returns-then-own-relation c =
    let r : ℕ = c.args.relation in
    let changes : List Change = c.args.changes.now in
    let i : ℕ = c.loop-at.at in
    let here : i < length changes = omega (arith, c.loop-at-test.true, c.len-at-end.ensures) in
    let own : ((change_here changes i).relation == r) ≡ true = eq-eqb (change_here changes i).relation r (sym c.relation-own.ensures ∙ c.if-own-relation.true) in
    sym (changed_next r changes i here ∙ ap (λ (b : Bool). b || is_changed r (drop (i + 1) changes)) own) ∙ c.loop-at.invariant

pub returns : goal.returns
returns c = sym (ap (is_changed c.args.relation) (drop_all c.loop-at.at c.args.changes.now (omega (arith, c.loop-at-test.false, c.len-at-end.ensures)))) ∙ c.loop-at.invariant
