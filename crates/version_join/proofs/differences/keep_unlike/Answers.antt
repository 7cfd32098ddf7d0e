use Rattle.std.proofs.Common.{◌∙◌, ◌++◌, List, ap, sym, append-nil}
use Rattle.db_value.specs.declared.record.Record.{Record}
use Rattle.db_store.specs.Table.{Contents, relation_at}
use Rattle.version_join.proofs.JoinLemmas.{unlike_absent, unlike_same, unlike_other}
use Rattle.version_join.proofs.differences.keep_unlike.Goals as goal

pub returns-then-not-find_record-clause-kept : goal.returns-then-not-find_record-clause-kept
returns-then-not-find_record-clause-kept g c =
    let right : Contents = relation_at (g.V.View.table c.args.right.now) c.args.relation in
    c.in_ok-push.ensures.pushed
    ∙ ap (λ (rs : List Record). c.args.kept.now ++ rs) (unlike_absent c.args.row.now right (sym c.find_record.ensures.there ∙ c.if-not-find_record.true))

pub returns-then-same-clause-kept : goal.returns-then-same-clause-kept
returns-then-same-clause-kept g c =
    let right : Contents = relation_at (g.V.View.table c.args.right.now) c.args.relation in
    sym (append-nil c.args.kept.now)
    ∙ ap (λ (rs : List Record). c.args.kept.now ++ rs) (unlike_same c.args.row.now right c.find_record.new.into.fields (sym c.find_record.ensures.there ∙ c.if-not-find_record.false) c.find_record.ensures.fields (sym c.eq-same.ensures ∙ c.if-same.true))

pub returns-clause-kept : goal.returns-clause-kept
returns-clause-kept g c =
    let right : Contents = relation_at (g.V.View.table c.args.right.now) c.args.relation in
    c.in_ok-push-2.ensures.pushed
    ∙ ap (λ (rs : List Record). c.args.kept.now ++ rs) (unlike_other c.args.row.now right c.find_record.new.into.fields (sym c.find_record.ensures.there ∙ c.if-not-find_record.false) c.find_record.ensures.fields (sym c.eq-same.ensures ∙ c.if-same.false))
