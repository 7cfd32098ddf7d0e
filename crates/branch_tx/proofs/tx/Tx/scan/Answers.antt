use Rattle.std.proofs.Common.{ap, sym, ◌∙◌, List, Bool}
use Rattle.db_value.specs.declared.record.Record.{Record}
use Rattle.db_store.specs.Overlay.{Overlay}
use Rattle.branch_tx.specs.Act.{Outcome}
use Rattle.branch_tx.specs.Granted.{scanned}
use Rattle.branch_tx.proofs.KnownLines.{scan_stopped, scan_is}
use Rattle.branch_tx.proofs.tx.Tx.scan.Goals as goal

pub returns-in_default : goal.returns-in_default
returns-in_default g c = λ name e.
    let s = scan_stopped c.args.self.now c.args.known.now name c.args.over.now c.args.terms.now e c.in_default.not-Of in
    c.refused_by.ensures s.0 s.1 ∙ ap (λ (o : Outcome (List Overlay)). o.reply) (sym s.2)

pub condition-requires : goal.condition-requires
condition-requires g c =
    let is = scan_is c.args.self.now c.requires.0 c.args.over.now c.args.terms.now c.in-Of.relation (sym c.requires.1 ∙ c.in-Of.is) in
    record { relation = is.0; asked = is.1 }

pub scan_over-requires : goal.scan_over-requires
scan_over-requires g c = (scan_is c.args.self.now c.requires.0 c.args.over.now c.args.terms.now c.in-Of.relation (sym c.requires.1 ∙ c.in-Of.is)).0

pub returns : goal.returns
returns g c = λ name e.
    c.in_ok-reply.ensures
    ∙ ap (λ (p : Record → Bool). (scanned c.args.self.now c.in-Of.relation p c.args.over.now).reply) c.in_ok-pred.ensures
    ∙ ap (λ (o : Outcome (List Overlay)). o.reply) (sym (scan_is c.args.self.now name c.args.over.now c.args.terms.now c.in-Of.relation (sym e ∙ c.in-Of.is)).2)
