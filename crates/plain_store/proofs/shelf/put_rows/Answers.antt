use Rattle.std.proofs.Common.{◌≡◌, ◌∙◌, ◌++◌, ◌∷◌, [], ◌-◌, List, take, drop, append_assoc, ap, sym, arith}
use Rattle.std.proofs.lemmas.List.{append-nil}
use Rattle.db_value.specs.declared.record.Record.{Record}
use Rattle.plain_store.proofs.ShelfLemmas.{row_more}
use Rattle.plain_store.proofs.shelf.put_rows.Goals as goal

pub loop-at-init : goal.loop-at-init
loop-at-init c =
    let none : 0 ≡ c.args.from - c.args.from = omega arith in
    record {
      all = sym (append-nil c.args.all.now) ∙ ap (λ m. c.args.all.now ++ take m (drop c.args.from c.args.rows.now)) none;
      from = omega arith;
      to = omega (arith, c.requires.from);
    }

pub loop-at-preserved : goal.loop-at-preserved
loop-at-preserved c =
    let rows = c.args.rows.now in
    let row = c.read.new.into in
    let front = take (c.loop-at.at - c.args.from) (drop c.args.from rows) in
    record {
      all = c.in_ok-push.ensures.pushed
          ∙ ap (λ (l : List Record). l ++ row ∷ []) c.loop-at.invariant.all
          ∙ append_assoc c.args.all.now front (row ∷ [])
          ∙ ap (λ (l : List Record). c.args.all.now ++ l) (sym (row_more rows c.args.from c.loop-at.at row c.loop-at.invariant.from (omega (arith, c.loop-at-test.true, c.requires.to)) c.read.ensures));
      from = omega (arith, c.loop-at.invariant.from);
      to = omega (arith, c.loop-at-test.true);
    }

pub returns : goal.returns
returns c =
    let end : c.loop-at.at - c.args.from ≡ c.args.to - c.args.from = omega (arith, c.loop-at-test.false, c.loop-at.invariant.to) in
    c.loop-at.invariant.all ∙ ap (λ m. c.args.all.now ++ take m (drop c.args.from c.args.rows.now)) end
