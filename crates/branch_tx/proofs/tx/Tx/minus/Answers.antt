use Rattle.std.proofs.Common.{ap, sym, ◌∙◌, List}
use Rattle.db_store.specs.Overlay.{Overlay}
use Rattle.branch_tx.specs.Act.{Outcome}
use Rattle.branch_tx.proofs.KnownLines.{minus_stopped, minus_is}
use Rattle.branch_tx.proofs.tx.Tx.minus.Goals as goal

pub returns-in_default : goal.returns-in_default
returns-in_default g c = λ name e.
    let s = minus_stopped c.args.self.now c.args.known.now name c.args.first.now c.args.second.now e c.in_default.not-Of in
    c.refused_by.ensures s.0 s.1 ∙ ap (λ (o : Outcome (List Overlay)). o.reply) (sym s.2)

pub minus_in-requires : goal.minus_in-requires
minus_in-requires g c = (minus_is c.args.self.now c.requires.0 c.args.first.now c.args.second.now c.in-Of.relation (sym c.requires.1 ∙ c.in-Of.is)).0

pub returns : goal.returns
returns g c = λ name e.
    c.in_ok-reply.ensures
    ∙ ap (λ (o : Outcome (List Overlay)). o.reply) (sym (minus_is c.args.self.now name c.args.first.now c.args.second.now c.in-Of.relation (sym e ∙ c.in-Of.is)).1)
