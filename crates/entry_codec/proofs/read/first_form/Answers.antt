use Rattle.std.proofs.Common.{◌≡◌, ◌<◌, ◌≤◌, ◌*◌, ◌∙◌, ℕ, List, Bool, Option, Some, None, true, false, cond, nat_le, ap, sym, subst, arith, length, take, replicate}
use Rattle.std.specs.Prelude.{IfSome, IfNone}
use Rattle.std.proofs.lemmas.Bool.{lt-leb, le-leb}
use Rattle.db_value.specs.RowForm.{row_size}
use Rattle.entry_codec.specs.Spelling.{number_widths}
use Rattle.db_store.specs.Body.{form_size}
use Rattle.entry_codec.specs.Grammar.{form_in}
use Rattle.entry_codec.proofs.RowForm.{number_size, taken_zeros}
use Rattle.entry_codec.proofs.read.first_form.Goals as goal

pub returns-then-wide-clause-none : goal.returns-then-wide-clause-none
returns-then-wide-clause-none c = subst (λ (w : Bool). IfNone c.first_widths.result (form_in w c.args.count c.args.b.now ≡ None)) (sym c.if-wide.true) c.first_widths.ensures.none

pub returns-then-wide-clause-widths : goal.returns-then-wide-clause-widths
returns-then-wide-clause-widths c = subst (λ (w : Bool). IfSome c.first_widths.result (λ n. form_in w c.args.count c.args.b.now ≡ Some (take c.args.count c.first_widths.new.widths))) (sym c.if-wide.true) c.first_widths.ensures.widths

pub returns-then-wide-clause-size : goal.returns-then-wide-clause-size
returns-then-wide-clause-size c = subst (λ (w : Bool). IfSome c.first_widths.result (λ n. n ≡ form_size w (take c.args.count c.first_widths.new.widths))) (sym c.if-wide.true) c.first_widths.ensures.size

pub returns-then-size-long-clause-none : goal.returns-then-size-long-clause-none
returns-then-size-long-clause-none c =
    let n : ℕ = c.args.count in
    let b : List ℕ = c.args.b.now in
    let long : nat_le (row_size (number_widths n)) (length b) ≡ false = lt-leb (row_size (number_widths n)) (length b) (omega (arith, number_size n, c.if-size-long.true)) in
    ap (λ (w : Bool). form_in w n b) c.if-wide.false ∙ ap (λ (q : Bool). cond q (Some (number_widths n)) None) long

pub returns-clause-widths : goal.returns-clause-widths
returns-clause-widths c =
    let n : ℕ = c.args.count in
    let b : List ℕ = c.args.b.now in
    let long : nat_le (row_size (number_widths n)) (length b) ≡ true = le-leb (row_size (number_widths n)) (length b) (omega (arith, number_size n, c.if-size-long.false)) in
    ap (λ (w : Bool). form_in w n b) c.if-wide.false
    ∙ ap (λ (q : Bool). cond q (Some (number_widths n)) None) long
    ∙ ap (λ (ws : List ℕ). Some ws) (sym (ap (take n) c.requires.zeros ∙ taken_zeros n 15 c.requires.few))

pub returns-clause-size : goal.returns-clause-size
returns-clause-size c =
    let n : ℕ = c.args.count in
    sym (ap (λ (w : Bool). form_size w (take n c.args.widths.now)) c.if-wide.false ∙ ap row_size (ap (take n) c.requires.zeros ∙ taken_zeros n 15 c.requires.few) ∙ number_size n)
