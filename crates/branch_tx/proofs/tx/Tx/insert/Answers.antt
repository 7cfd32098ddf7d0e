use Rattle.std.proofs.Common.{rules, arith, ◌≡◌, ◌<◌, ℕ, true, Some, ap, sym, subst, ◌∙◌, length, List}
use Rattle.std.specs.Prelude.{OnOk}
use Rattle.db_value.specs.Widths.{meets}
use Rattle.db_value.specs.Relations.{widths_at}
use Rattle.db_value.specs.declared.record.Record.{Record}
use Rattle.db_store.specs.Overlay.{Overlay, own_widths, touch}
use Rattle.db_store.specs.WorkState.{overlays_of, widths_of, working_of}
use Rattle.db_store.specs.RowWidths.{all_widths}
use Rattle.db_store.specs.Work.{insert_stop}
use Rattle.branch_tx.specs.Act.{Outcome}
use Rattle.branch_tx.specs.Granted.{Granted, with_work}
use Rattle.branch_tx.proofs.KnownLines.{changed, insert_stopped, insert_is}
use Rattle.branch_tx.proofs.Stopping.{working_with, working_in}
use Rattle.branch_tx.proofs.Works.{own_are, holds_put}
use Rattle.branch_tx.proofs.tx.Tx.insert.Goals as goal
use Rattle.branch_tx.proofs.tx.Tx.insert.Goals.{in-Ok, in-Err}

pub returns-in_default : goal.returns-in_default
returns-in_default g c =
    let old : Granted = c.args.self.now in
    let s = insert_stopped old c.args.known.now c.args.name c.args.key c.args.kept.now c.requires c.in_default.not-Of in
    record { reply = c.refused_by.ensures s.0 s.1 ∙ ap (λ (o : Outcome (List Overlay)). o.reply) (sym s.2); left = ap (with_work old) (sym s.2) }

pub insert-requires-clause-relation : goal.insert-requires-clause-relation
insert-requires-clause-relation g c =
    let there = (insert_is c.args.self.now c.args.name c.args.key c.args.kept.now c.in-Of.relation (sym c.requires ∙ c.in-Of.is)).0 in
    let wide = ap (λ (x : Granted). length x.schema) c.self.view_is in
    omega (arith, there, wide, c.self.invariant.0)

pub insert-requires-clause-meets : goal.insert-requires-clause-meets
insert-requires-clause-meets g c =
    let is = insert_is c.args.self.now c.args.name c.args.key c.args.kept.now c.in-Of.relation (sym c.requires ∙ c.in-Of.is) in
    let work = c.self.inside.work in
    let there = subst (λ (x : Granted). c.in-Of.relation < length x.schema) (sym c.self.view_is) is.0 in
    ap (λ (row : Record). meets (own_widths (widths_of work) c.in-Of.relation) row.fields) c.read_row.ensures
    ∙ ap (λ (ws : List ℕ). meets ws c.args.kept.now) (own_are c.self.inside.schema work c.in-Of.relation c.self.invariant.3 c.self.invariant.0 there ∙ ap (λ (x : Granted). widths_at x.schema c.in-Of.relation) c.self.view_is)
    ∙ is.2

pub invariant_of-self : goal.invariant_of-self
invariant_of-self g c =
    let is = insert_is c.args.self.now c.args.name c.args.key c.args.kept.now c.in-Of.relation (sym c.requires ∙ c.in-Of.is) in
    let there = subst (λ (x : Granted). c.in-Of.relation < length x.schema) (sym c.self.view_is) is.0 in
    let met = subst (λ (x : Granted). meets (widths_at x.schema c.in-Of.relation) c.args.kept.now ≡ true) (sym c.self.view_is) is.2 in
    let changed = subst (λ (row : Record). OnOk c.insert.result (overlays_of c.insert.new.self ≡ touch (overlays_of c.self.inside.work) c.in-Of.relation row.key (Some row.fields))) c.read_row.ensures c.insert.ensures.changed in
    holds_put c.self.inside.schema c.insert.result _ c.self.inside.lent.1 c.self.inside.work c.insert.new.self c.in-Of.relation c.args.key (Some c.args.kept.now)
    c.insert.ensures.stays changed c.insert.ensures.err there met c.self.invariant

pub returns-then-is_full : goal.returns-then-is_full
returns-then-is_full g c =
    let is = (insert_is c.args.self.now c.args.name c.args.key c.args.kept.now c.in-Of.relation (sym c.requires ∙ c.in-Of.is)).1 in
    record { reply = rw is (search rules); left = rw is (search rules) }

pub returns-clause-reply : goal.returns-clause-reply
returns-clause-reply g c =
    let old : Granted = c.args.self.now in
    let work = c.self.inside.work in
    let at : working_in old ≡ working_of work =
    ap (λ (wss : List (List ℕ)). working_with wss old) (sym (c.self.invariant.3 ∙ ap (λ (x : Granted). all_widths x.schema) c.self.view_is)) ∙ ap (working_with (widths_of work)) (sym c.self.view_is) in
    let is = (insert_is c.args.self.now c.args.name c.args.key c.args.kept.now c.in-Of.relation (sym c.requires ∙ c.in-Of.is)).1
    ∙ (λ i. changed old c.in-Of.relation c.args.name c.args.key (Some c.args.kept.now) (insert_stop (at i) c.in-Of.relation (sym c.read_row.ensures i))) in
    rw is (search rules)

pub returns-clause-left : goal.returns-clause-left
returns-clause-left g c =
    let old : Granted = c.args.self.now in
    let work = c.self.inside.work in
    let at : working_in old ≡ working_of work =
    ap (λ (wss : List (List ℕ)). working_with wss old) (sym (c.self.invariant.3 ∙ ap (λ (x : Granted). all_widths x.schema) c.self.view_is)) ∙ ap (working_with (widths_of work)) (sym c.self.view_is) in
    let is = (insert_is c.args.self.now c.args.name c.args.key c.args.kept.now c.in-Of.relation (sym c.requires ∙ c.in-Of.is)).1
    ∙ (λ i. changed old c.in-Of.relation c.args.name c.args.key (Some c.args.kept.now) (insert_stop (at i) c.in-Of.relation (sym c.read_row.ensures i))) in
    elim c.match-insert.branch [
      | in-Ok w ↦ rw is (search rules)
      | in-Err w ↦ rw is (search rules)
    ]
