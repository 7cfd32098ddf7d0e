use Rattle.std.proofs.Common.{true, false, List, ◌++◌, sym, ap, ◌∙◌}
use Rattle.lock_table.specs.declared.need.Need.{Need}
use Rattle.db_store.specs.State.{dataset_of}
use Rattle.line_needs.specs.Needs.{stmt_needs}
use Rattle.line_needs.proofs.Knowing.{known_needs}
use Rattle.line_needs.proofs.needs.needs_of.Goals as goal

pub returns-then-is_refused : goal.returns-then-is_refused
returns-then-is_refused g c = λ begun changed e.
    c.of.ensures ∙ c.new-needs.ensures.items
    ∙ known_needs (dataset_of (g.St.Store.state c.args.store.now)) c.args.branch begun changed c.args.stmt.now c.args.known.now true e (sym c.is_refused.ensures ∙ c.if-is_refused.true)

pub returns : goal.returns
returns g c = λ begun changed e.
    let d = dataset_of (g.St.Store.state c.args.store.now) in
    c.of-2.ensures ∙ c.in_ok-push_stmt.ensures ∙ ap (λ (ns : List Need). ns ++ stmt_needs d c.args.branch c.args.stmt.now) c.new-needs.ensures.items
    ∙ known_needs d c.args.branch begun changed c.args.stmt.now c.args.known.now false e (sym c.is_refused.ensures ∙ c.if-is_refused.false)
