use Rattle.std.proofs.Common.{◌≡◌, true, ap, sym, ◌∙◌, subst, List}
use Rattle.std.proofs.lemmas.Result.{IfOk-weaker, on_err_weaker}
use Rattle.db_store.specs.Overlay.{Overlay}
use Rattle.branch_tx.specs.Act.{Outcome}
use Rattle.branch_tx.specs.Granted.{tells_far}
use Rattle.branch_tx.proofs.KnownLines.{get_stopped, get_is}
use Rattle.branch_tx.proofs.tx.Tx.get.Goals as goal

pub returns-in_default-clause-reply : goal.returns-in_default-clause-reply
returns-in_default-clause-reply g c = λ name e.
    let s = get_stopped c.args.self.now c.args.known.now name c.args.key c.args.at.now e c.in_default.not-Of in
    c.refused_by.ensures s.0 s.1 ∙ ap (λ (o : Outcome (List Overlay)). o.reply) (sym s.2)

pub get_at-requires : goal.get_at-requires
get_at-requires g c = (get_is c.args.self.now c.requires.0 c.args.key c.args.at.now c.in-Of.relation (sym c.requires.1 ∙ c.in-Of.is)).0

pub returns-clause-reply : goal.returns-clause-reply
returns-clause-reply g c = IfOk-weaker c.get_at.result _ _ (λ r f name e. f ∙ ap (λ (o : Outcome (List Overlay)). o.reply) (sym (get_is c.args.self.now name c.args.key c.args.at.now c.in-Of.relation (sym e ∙ c.in-Of.is)).1)) c.get_at.ensures.reply

pub returns-clause-far : goal.returns-clause-far
returns-clause-far g c = on_err_weaker c.get_at.result (λ f name e. subst (λ (o : Outcome (List Overlay)). tells_far o.reply ≡ true) (sym (get_is c.args.self.now name c.args.key c.args.at.now c.in-Of.relation (sym e ∙ c.in-Of.is)).1) f) c.get_at.ensures.far
