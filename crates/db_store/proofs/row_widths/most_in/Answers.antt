use Rattle.std.proofs.Common.{◌≡◌, ◌+◌, ◌<◌, ◌≤◌, ◌∙◌, ℕ, List, Bool, cond, ap, sym, arith, drop, length, nat_lt}
use Rattle.std.proofs.lemmas.Bool.{lt-ltb, le-ltb}
use Rattle.std.proofs.lemmas.List.{drop_all}
use Rattle.db_store.specs.RowWidths.{most_from}
use Rattle.db_store.proofs.WidthLemmas.{most_next}
use Rattle.db_store.proofs.row_widths.most_in.Goals as goal

pub loop-widths-preserved-then-most-own : goal.loop-widths-preserved-then-most-own
loop-widths-preserved-then-most-own c =
    let all : List (List ℕ) = c.args.all.now in
    let i : ℕ = c.loop-widths.widths-index in
    let most : ℕ = c.loop-widths.most in
    let own : ℕ = c.most_of-own.result in
    let here : i < length all = omega (arith, c.loop-widths-test.true) in
    sym (ap (λ (b : Bool). most_from (cond b own most) (drop (i + 1) all)) (le-ltb most own (omega (arith, c.if-most-own.true))))
    ∙ most_next most own i all c.widths-item.result here c.widths-item.is c.most_of-own.ensures
    ∙ c.loop-widths.invariant

pub loop-widths-preserved : goal.loop-widths-preserved
loop-widths-preserved c =
    let all : List (List ℕ) = c.args.all.now in
    let i : ℕ = c.loop-widths.widths-index in
    let most : ℕ = c.loop-widths.most in
    let own : ℕ = c.most_of-own.result in
    let here : i < length all = omega (arith, c.loop-widths-test.true) in
    sym (ap (λ (b : Bool). most_from (cond b own most) (drop (i + 1) all)) (lt-ltb most own (omega (arith, c.if-most-own.false))))
    ∙ most_next most own i all c.widths-item.result here c.widths-item.is c.most_of-own.ensures
    ∙ c.loop-widths.invariant

pub returns : goal.returns
returns c = sym (ap (most_from c.loop-widths.most) (drop_all c.loop-widths.widths-index c.args.all.now c.loop-widths-test.false)) ∙ c.loop-widths.invariant
