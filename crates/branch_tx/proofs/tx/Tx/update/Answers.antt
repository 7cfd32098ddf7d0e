use Rattle.std.proofs.Common.{rules, arith, ◌≡◌, ◌<◌, ℕ, true, ap, sym, subst, ◌∙◌, length, List}
use Rattle.std.specs.Prelude.{IfSome}
use Rattle.db_value.specs.Widths.{meets}
use Rattle.db_value.specs.Relations.{widths_at}
use Rattle.db_store.specs.Overlay.{Overlay}
use Rattle.db_store.specs.RowWidths.{all_widths}
use Rattle.db_store.specs.Work.{fields_at, change_stop, updated}
use Rattle.db_store.specs.WorkState.{widths_of, working_of}
use Rattle.line_needs.proofs.SetLemmas.{AreFitting}
use Rattle.branch_tx.specs.Act.{Outcome}
use Rattle.branch_tx.specs.Granted.{Granted, with_work}
use Rattle.branch_tx.proofs.KnownLines.{changed, update_stopped, update_is}
use Rattle.branch_tx.proofs.Stopping.{working_with, working_in}
use Rattle.branch_tx.proofs.WithSets.{fields_meet}
use Rattle.branch_tx.proofs.Works.{own_are, updated_at_meets, holds_put}
use Rattle.branch_tx.proofs.tx.Tx.update.Goals as goal

pub returns-in_default : goal.returns-in_default
returns-in_default g c =
    let old : Granted = c.args.self.now in
    let s = update_stopped old c.args.known.now c.args.name c.args.key c.args.named.now c.requires c.in_default.not-With in
    record {
      reply = c.refused_by.ensures s.0 s.1 ∙ ap (λ (o : Outcome (List Overlay)). o.reply) (sym s.2);
      left = ap (with_work old) (sym s.2);
    }

pub sets_of-sets-requires : goal.sets_of-sets-requires
sets_of-sets-requires g c = (update_is c.args.self.now c.args.name c.args.key c.args.named.now c.in-With.relation c.in-With.columns (sym c.requires ∙ c.in-With.is)).1

pub update-requires-clause-relation : goal.update-requires-clause-relation
update-requires-clause-relation g c =
    let there = (update_is c.args.self.now c.args.name c.args.key c.args.named.now c.in-With.relation c.in-With.columns (sym c.requires ∙ c.in-With.is)).0 in
    let wide = ap (λ (x : Granted). length x.schema) c.self.view_is in
    omega (arith, there, wide, c.self.invariant.0)

pub update-requires-clause-meets : goal.update-requires-clause-meets
update-requires-clause-meets g c =
    let is = update_is c.args.self.now c.args.name c.args.key c.args.named.now c.in-With.relation c.in-With.columns (sym c.requires ∙ c.in-With.is) in
    let r = c.in-With.relation in
    let schema = c.self.inside.schema in
    let work = c.self.inside.work in
    let there = subst (λ (x : Granted). r < length x.schema) (sym c.self.view_is) is.0 in
    let sets = c.sets_of-sets.result in
    let named = subst (AreFitting (widths_at c.args.self.now.schema r)) (sym c.sets_of-sets.ensures) is.3 in
    let fitting = subst (λ (x : Granted). AreFitting (widths_at x.schema r) sets) (sym c.self.view_is) named in
    let new = updated_at_meets schema work c.self.invariant.0 c.self.invariant.4 r c.args.key sets there fitting in
    subst (λ (ws : List ℕ). IfSome (updated sets (fields_at (working_of work) r c.args.key)) (λ fields. meets ws fields ≡ true)) (sym (own_are schema work r c.self.invariant.3 c.self.invariant.0 there))
    (fields_meet (widths_at schema r) (updated sets (fields_at (working_of work) r c.args.key)) new)

pub invariant_of-self : goal.invariant_of-self
invariant_of-self g c =
    let is = update_is c.args.self.now c.args.name c.args.key c.args.named.now c.in-With.relation c.in-With.columns (sym c.requires ∙ c.in-With.is) in
    let r = c.in-With.relation in
    let schema = c.self.inside.schema in
    let work = c.self.inside.work in
    let there = subst (λ (x : Granted). r < length x.schema) (sym c.self.view_is) is.0 in
    let sets = c.sets_of-sets.result in
    let named = subst (AreFitting (widths_at c.args.self.now.schema r)) (sym c.sets_of-sets.ensures) is.3 in
    let fitting = subst (λ (x : Granted). AreFitting (widths_at x.schema r) sets) (sym c.self.view_is) named in
    let new = updated_at_meets schema work c.self.invariant.0 c.self.invariant.4 r c.args.key sets there fitting in
    holds_put schema c.update.result _ c.self.inside.lent.1 work c.update.new.self r c.args.key (updated sets (fields_at (working_of work) r c.args.key))
    c.update.ensures.stays c.update.ensures.changed c.update.ensures.err there new c.self.invariant

pub returns-then-is_full : goal.returns-then-is_full
returns-then-is_full g c =
    let is = (update_is c.args.self.now c.args.name c.args.key c.args.named.now c.in-With.relation c.in-With.columns (sym c.requires ∙ c.in-With.is)).2 in
    record { reply = rw is (search rules); left = rw is (search rules) }

pub returns-clause-reply : goal.returns-clause-reply
returns-clause-reply g c =
    let old : Granted = c.args.self.now in
    let work = c.self.inside.work in
    let at : working_in old ≡ working_of work =
    ap (λ (wss : List (List ℕ)). working_with wss old) (sym (c.self.invariant.3 ∙ ap (λ (x : Granted). all_widths x.schema) c.self.view_is)) ∙ ap (working_with (widths_of work)) (sym c.self.view_is) in
    let is = (update_is c.args.self.now c.args.name c.args.key c.args.named.now c.in-With.relation c.in-With.columns (sym c.requires ∙ c.in-With.is)).2
    ∙ (λ i. changed old c.in-With.relation c.args.name c.args.key (updated (sym c.sets_of-sets.ensures i) (fields_at (at i) c.in-With.relation c.args.key))
    (change_stop (at i) c.in-With.relation c.args.key (updated (sym c.sets_of-sets.ensures i) (fields_at (at i) c.in-With.relation c.args.key)))) in
    rw is (search rules)

pub returns-clause-left : goal.returns-clause-left
returns-clause-left g c =
    let old : Granted = c.args.self.now in
    let work = c.self.inside.work in
    let at : working_in old ≡ working_of work =
    ap (λ (wss : List (List ℕ)). working_with wss old) (sym (c.self.invariant.3 ∙ ap (λ (x : Granted). all_widths x.schema) c.self.view_is)) ∙ ap (working_with (widths_of work)) (sym c.self.view_is) in
    let is = (update_is c.args.self.now c.args.name c.args.key c.args.named.now c.in-With.relation c.in-With.columns (sym c.requires ∙ c.in-With.is)).2
    ∙ (λ i. changed old c.in-With.relation c.args.name c.args.key (updated (sym c.sets_of-sets.ensures i) (fields_at (at i) c.in-With.relation c.args.key))
    (change_stop (at i) c.in-With.relation c.args.key (updated (sym c.sets_of-sets.ensures i) (fields_at (at i) c.in-With.relation c.args.key)))) in
    rw is (search rules)
