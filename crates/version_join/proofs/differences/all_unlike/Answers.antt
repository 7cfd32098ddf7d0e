use Rattle.std.proofs.Common.{◌≡◌, ◌+◌, ◌∙◌, ◌++◌, ◌∷◌, [], ℕ, List, ap, sym, map, arith, drop, append_assoc, append-nil}
use Rattle.std.proofs.lemmas.List.{drop_all}
use Rattle.db_value.specs.declared.record.Record.{Record}
use Rattle.db_store.specs.Table.{Contents, relation_at}
use Rattle.db_store.specs.Rows.{marked}
use Rattle.version_join.specs.Join.{unlike}
use Rattle.version_join.proofs.JoinLemmas.{drop_read, unlike_first}
use Rattle.version_join.proofs.differences.all_unlike.Goals as goal

pub loop-at-preserved : goal.loop-at-preserved
loop-at-preserved g c =
    let right : Contents = relation_at (g.V.View.table c.args.right.now) c.args.relation in
    let rows : List Record = c.args.rows.now in
    let i : ℕ = c.loop-at.at in
    let row : Record = c.read.new.into in
    let rest : List Record = unlike (drop (i + 1) rows) right in
    record {
      rows =
          ap (λ (rs : List Record). rs ++ rest) c.in_ok-keep_unlike.ensures.kept
          ∙ append_assoc c.loop-at.kept (unlike (row ∷ []) right) rest
          ∙ ap (λ (rs : List Record). c.loop-at.kept ++ rs) (unlike_first row (drop (i + 1) rows) right ∙ sym (ap (λ (rs : List Record). unlike rs right) (drop_read rows i row c.read.ensures)))
          ∙ c.loop-at.invariant.rows;
      cost = omega (arith, c.keep_unlike.ensures.cost, c.loop-at.invariant.cost);
    }

pub returns-clause-rows : goal.returns-clause-rows
returns-clause-rows g c =
    let right : Contents = relation_at (g.V.View.table c.args.right.now) c.args.relation in
    let none : drop c.loop-at.at c.args.rows.now ≡ [] = drop_all c.loop-at.at c.args.rows.now (omega (arith, c.loop-at-test.false, c.len-at-end.ensures)) in
    c.in_ok-alone.ensures
    ∙ ap (map marked) (sym (append-nil c.loop-at.kept) ∙ sym (ap (λ (rs : List Record). c.loop-at.kept ++ unlike rs right) none) ∙ c.loop-at.invariant.rows)
