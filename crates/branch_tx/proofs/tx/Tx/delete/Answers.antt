use Rattle.std.proofs.Common.{rules, arith, ◌≡◌, ◌<◌, ℕ, None, refl, ap, sym, subst, ◌∙◌, length, List}
use Rattle.db_store.specs.Overlay.{Overlay}
use Rattle.db_store.specs.RowWidths.{all_widths}
use Rattle.db_store.specs.Work.{change_stop}
use Rattle.db_store.specs.WorkState.{widths_of, working_of}
use Rattle.branch_tx.specs.Act.{Outcome}
use Rattle.branch_tx.specs.Granted.{Granted, with_work}
use Rattle.branch_tx.proofs.KnownLines.{changed, delete_stopped, delete_is}
use Rattle.branch_tx.proofs.Stopping.{working_with, working_in}
use Rattle.branch_tx.proofs.Works.{holds_put}
use Rattle.branch_tx.proofs.tx.Tx.delete.Goals as goal

pub returns-in_default : goal.returns-in_default
returns-in_default g c =
    let old : Granted = c.args.self.now in
    let s = delete_stopped old c.args.known.now c.args.name c.args.key c.requires c.in_default.not-Of in
    record { reply = c.refused_by.ensures s.0 s.1 ∙ ap (λ (o : Outcome (List Overlay)). o.reply) (sym s.2); left = ap (with_work old) (sym s.2) }

pub delete-requires : goal.delete-requires
delete-requires g c =
    let there = (delete_is c.args.self.now c.args.name c.args.key c.in-Of.relation (sym c.requires ∙ c.in-Of.is)).0 in
    let wide = ap (λ (x : Granted). length x.schema) c.self.view_is in
    omega (arith, there, wide, c.self.invariant.0)

pub invariant_of-self : goal.invariant_of-self
invariant_of-self g c =
    let is = delete_is c.args.self.now c.args.name c.args.key c.in-Of.relation (sym c.requires ∙ c.in-Of.is) in
    let there = subst (λ (x : Granted). c.in-Of.relation < length x.schema) (sym c.self.view_is) is.0 in
    holds_put c.self.inside.schema c.delete.result _ c.self.inside.lent.1 c.self.inside.work c.delete.new.self c.in-Of.relation c.args.key None
    c.delete.ensures.stays c.delete.ensures.changed c.delete.ensures.err there refl c.self.invariant

pub returns-then-is_full : goal.returns-then-is_full
returns-then-is_full g c =
    let is = (delete_is c.args.self.now c.args.name c.args.key c.in-Of.relation (sym c.requires ∙ c.in-Of.is)).1 in
    record { reply = rw is (search rules); left = rw is (search rules) }

pub returns-clause-reply : goal.returns-clause-reply
returns-clause-reply g c =
    let old : Granted = c.args.self.now in
    let work = c.self.inside.work in
    let at : working_in old ≡ working_of work =
    ap (λ (wss : List (List ℕ)). working_with wss old) (sym (c.self.invariant.3 ∙ ap (λ (x : Granted). all_widths x.schema) c.self.view_is)) ∙ ap (working_with (widths_of work)) (sym c.self.view_is) in
    let is = (delete_is c.args.self.now c.args.name c.args.key c.in-Of.relation (sym c.requires ∙ c.in-Of.is)).1
    ∙ (λ i. changed old c.in-Of.relation c.args.name c.args.key None (change_stop (at i) c.in-Of.relation c.args.key None)) in
    rw is (search rules)

pub returns-clause-left : goal.returns-clause-left
returns-clause-left g c =
    let old : Granted = c.args.self.now in
    let work = c.self.inside.work in
    let at : working_in old ≡ working_of work =
    ap (λ (wss : List (List ℕ)). working_with wss old) (sym (c.self.invariant.3 ∙ ap (λ (x : Granted). all_widths x.schema) c.self.view_is)) ∙ ap (working_with (widths_of work)) (sym c.self.view_is) in
    let is = (delete_is c.args.self.now c.args.name c.args.key c.in-Of.relation (sym c.requires ∙ c.in-Of.is)).1
    ∙ (λ i. changed old c.in-Of.relation c.args.name c.args.key None (change_stop (at i) c.in-Of.relation c.args.key None)) in
    rw is (search rules)
