use Rattle.std.proofs.Common.{◌∙◌, ◌++◌, List, ap, ap₂, sym, append-nil}
use Rattle.std.specs.FinMap as finite
use Rattle.db_value.specs.Pairs.{paired}
use Rattle.db_value.specs.declared.record.Record.{Record}
use Rattle.db_value.specs.declared.pairs.Pair.{Pair}
use Rattle.db_store.specs.Table.{relation_at}
use Rattle.version_join.proofs.JoinLemmas.{paired_more, pair_none, pair_some}
use Rattle.version_join.proofs.joins.keep_pair.Goals as goal

pub returns-then-not-find_record-clause-pairs : goal.returns-then-not-find_record-clause-pairs
returns-then-not-find_record-clause-pairs g c =
    let right = relation_at (g.V.View.table c.args.view.now) c.args.relation in
    let old : List Pair = paired c.args.lefts.now c.args.rights.now in
    sym (append-nil old) ∙ ap (λ (ps : List Pair). old ++ ps) (sym (pair_none c.args.row.now (finite.get right c.args.row.now.key) (sym c.find_record.ensures.there ∙ c.if-not-find_record.true)))

pub returns-clause-pairs : goal.returns-clause-pairs
returns-clause-pairs g c =
    let right = relation_at (g.V.View.table c.args.view.now) c.args.relation in
    let row : Record = c.args.row.now in
    let other : Record = c.find_record.new.into in
    let old : List Pair = paired c.args.lefts.now c.args.rights.now in
    ap₂ (λ (ls rs : List Record). paired ls rs) c.in_ok-push.ensures.pushed c.in_ok-push-2.ensures.pushed
    ∙ paired_more c.args.lefts.now c.args.rights.now row other c.requires.even
    ∙ ap (λ (ps : List Pair). old ++ ps) (sym (pair_some row other (finite.get right row.key) (sym c.find_record.ensures.there ∙ c.if-not-find_record.false) c.find_record.ensures.fields))
