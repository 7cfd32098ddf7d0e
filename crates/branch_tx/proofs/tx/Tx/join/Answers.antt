use Rattle.std.proofs.Common.{ap, sym, ◌∙◌, List, Bool}
use Rattle.db_value.specs.declared.record.Record.{Record}
use Rattle.db_store.specs.Overlay.{Overlay}
use Rattle.branch_tx.specs.Act.{Outcome}
use Rattle.branch_tx.specs.Granted.{joined}
use Rattle.branch_tx.proofs.KnownLines.{join_stopped, join_is}
use Rattle.branch_tx.proofs.tx.Tx.join.Goals as goal

pub returns-in_default : goal.returns-in_default
returns-in_default g c = λ left right e.
    let s = join_stopped c.args.self.now c.args.known.now left right c.args.first.now c.args.second.now c.args.terms.now e c.in_default.not-Both in
    c.refused_by.ensures s.0 s.1 ∙ ap (λ (o : Outcome (List Overlay)). o.reply) (sym s.2)

pub condition-requires : goal.condition-requires
condition-requires g c =
    let is = join_is c.args.self.now c.requires.0 c.requires.1 c.args.first.now c.args.second.now c.args.terms.now c.in-Both.left c.in-Both.right (sym c.requires.2 ∙ c.in-Both.is) in
    record { relation = is.0; asked = is.2 }

pub join_in-requires : goal.join_in-requires
join_in-requires g c =
    let is = join_is c.args.self.now c.requires.0 c.requires.1 c.args.first.now c.args.second.now c.args.terms.now c.in-Both.left c.in-Both.right (sym c.requires.2 ∙ c.in-Both.is) in
    record { left = is.0; right = is.1 }

pub returns : goal.returns
returns g c = λ left right e.
    c.in_ok-reply.ensures
    ∙ ap (λ (p : Record → Bool). (joined c.args.self.now c.in-Both.left c.in-Both.right c.args.first.now c.args.second.now p).reply) c.in_ok-pred.ensures
    ∙ ap (λ (o : Outcome (List Overlay)). o.reply) (sym (join_is c.args.self.now left right c.args.first.now c.args.second.now c.args.terms.now c.in-Both.left c.in-Both.right (sym e ∙ c.in-Both.is)).3)
