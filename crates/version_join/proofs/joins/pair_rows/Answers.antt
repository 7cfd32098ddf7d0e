use Rattle.std.proofs.Common.{◌≡◌, ◌+◌, ◌∙◌, ◌++◌, [], ℕ, List, ap, sym, arith, drop, append_assoc, append-nil}
use Rattle.std.specs.FinMap as finite
use Rattle.std.proofs.lemmas.List.{drop_all}
use Rattle.db_value.specs.Pairs.{paired}
use Rattle.db_value.specs.declared.record.Record.{Record}
use Rattle.db_value.specs.declared.pairs.Pair.{Pair}
use Rattle.db_store.specs.Table.{Contents, relation_at}
use Rattle.version_join.specs.Join.{pair_with, pairs_of}
use Rattle.version_join.proofs.JoinLemmas.{drop_read}
use Rattle.version_join.proofs.joins.pair_rows.Goals as goal

pub loop-at-preserved : goal.loop-at-preserved
loop-at-preserved g c =
    let right : Contents = relation_at (g.V.View.table c.args.right.now) c.args.relation in
    let rows : List Record = c.args.rows.now in
    let i : ℕ = c.loop-at.at in
    let row : Record = c.read.new.into in
    let rest : List Pair = pairs_of (drop (i + 1) rows) right in
    let old : List Pair = paired c.loop-at.lefts c.loop-at.rights in
    record {
      even = c.in_ok-keep_pair.ensures.even;
      pairs =
          ap (λ (ps : List Pair). ps ++ rest) c.in_ok-keep_pair.ensures.pairs
          ∙ append_assoc old (pair_with row (finite.get right row.key)) rest
          ∙ sym (ap (λ (rs : List Record). old ++ pairs_of rs right) (drop_read rows i row c.read.ensures))
          ∙ c.loop-at.invariant.pairs;
      cost = omega (arith, c.keep_pair.ensures.cost, c.loop-at.invariant.cost);
    }

pub returns-clause-pairs : goal.returns-clause-pairs
returns-clause-pairs g c =
    let right : Contents = relation_at (g.V.View.table c.args.right.now) c.args.relation in
    let none : drop c.loop-at.at c.args.rows.now ≡ [] = drop_all c.loop-at.at c.args.rows.now (omega (arith, c.loop-at-test.false, c.len-at-end.ensures)) in
    c.in_ok-of.ensures
    ∙ sym (append-nil (paired c.loop-at.lefts c.loop-at.rights))
    ∙ sym (ap (λ (rs : List Record). paired c.loop-at.lefts c.loop-at.rights ++ pairs_of rs right) none)
    ∙ c.loop-at.invariant.pairs
