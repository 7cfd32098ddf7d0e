use Rattle.std.proofs.Common.{◌≡◌, ◌+◌, ◌-◌, ◌++◌, ◌∷◌, [], ◌∙◌, suc, ℕ, List, ap, sym, arith, append-nil}
use Rattle.db_value.specs.declared.schema.Relation.{Relation}
use Rattle.db_store.specs.RowWidths.{widths_or, widths_from, all_widths}
use Rattle.db_store.proofs.WidthLemmas.{widths_next}
use Rattle.db_store.proofs.row_widths.all_widths.Goals as goal

pub loop-relation-preserved : goal.loop-relation-preserved
loop-relation-preserved c =
    let schema : List Relation = c.args.schema.now in
    let all : List (List ℕ) = c.loop-relation.all.items in
    let n : ℕ = c.loop-relation.relation in
    let k : ℕ = 8 - (n + 1) in
    let back : 8 - n ≡ suc k = omega (arith, c.loop-relation-test.true) in
    ap (λ (xs : List (List ℕ)). xs ++ widths_from schema (n + 1) k) (c.in_ok-push.ensures.items ∙ ap (λ (ws : List ℕ). all ++ ws ∷ []) c.widths_or.ensures)
    ∙ widths_next schema all n k
    ∙ sym (ap (λ j. all ++ widths_from schema n j) back)
    ∙ c.loop-relation.invariant

pub returns : goal.returns
unfolding all_widths
returns c =
    let schema : List Relation = c.args.schema.now in
    let all : List (List ℕ) = c.loop-relation.all.items in
    let n : ℕ = c.loop-relation.relation in
    let end : 8 - n ≡ 0 = omega (arith, c.loop-relation-test.false) in
    sym (append-nil all) ∙ sym (ap (λ j. all ++ widths_from schema n j) end) ∙ c.loop-relation.invariant
