use Rattle.std.proofs.Common.{sym, ap, ◌∙◌, subst, arith}
use Rattle.history_note.specs.Views.{taking_view}
use Rattle.history_note.specs.Rule.{PenIs, Tells}
use Rattle.history_note.specs.Shown.{AtPen, AtPass, is_carrying, pen_at, carrying, FitsPen}
use Rattle.history_note.proofs.Steps.{looks}
use Rattle.history_note.proofs.Calls as calls
use Rattle.history_note.proofs.note.Note.take_in.Goals as goal

pub join_seat-requires : goal.join_seat-requires
join_seat-requires g c =
    let f = g.St.Store.state in
    let pen_on = calls.pen_on f c.pen.inside.seat.table_id c.pen.inside.seat.me.0 c.args.pen.now c.args.self.now _ c.pen.view_is c.self.view_is c.requires.pen in
    let pass_on = calls.pass_on f c.pass.inside.seat.table_id c.pass.inside.seat.me.0 c.args.pass c.args.self.now _ c.pass.view_is c.self.view_is c.requires.pass in
    (pen_on, pass_on, c.pass.invariant.0, omega (arith, c.self.invariant), calls.take_joins _ _ _ _ _ c.pen.invariant.1 c.pass.invariant.1)

pub load-requires : goal.load-requires
load-requires g c =
    let f = g.St.Store.state in
    let pen_on = calls.pen_on f c.pen.inside.seat.table_id c.pen.inside.seat.me.0 c.args.pen.now c.args.self.now _ c.pen.view_is c.self.view_is c.requires.pen in
    (c.join_seat.ensures.0 ∙ pen_on, omega (arith, c.self.invariant), looks _ _ _ _)

pub invariant_of-pen : goal.invariant_of-pen
invariant_of-pen g c =
    let f = g.St.Store.state in
    let v = c.pen.inside.seat.me.0 in
    let w = c.pass.inside.seat.me.0 in
    let l = c.load.ensures in
    let j = c.join_seat.ensures in
    let v' = ap (λ m. m.0) l.2.0 ∙ ap (λ m. m.0) j.2 in
    let told : Tells c.load.result (taking_view v w) = subst (Tells c.load.result) (ap (λ m. m.0) j.2) l.2.1 in (
      ap (λ m. m.1) l.2.0 ∙ ap (λ m. m.1) j.2 ∙ c.pen.invariant.0,
      subst PenIs (sym v') (calls.told_pen c.load.result v w c.pen.invariant.1 c.pass.invariant.1 told),
      calls.carries_after_take f c.load.new.seat.table_id v w c.pen.invariant.1 c.pass.invariant.1 ∙ sym (ap (λ u. is_carrying (pen_at f c.load.new.seat.table_id u)) v'),
    )

pub returns-clause-taken : goal.returns-clause-taken
returns-clause-taken g c =
    let f = g.St.Store.state in
    let z = c.pen.inside.seat.table_id in
    let v = c.pen.inside.seat.me.0 in
    let w = c.pass.inside.seat.me.0 in
    let l = c.load.ensures in
    let j = c.join_seat.ensures in
    calls.pen_same f z c.load.new.seat.table_id (taking_view v w) c.load.new.seat.me.0 (l.0 ∙ j.0) (ap (λ m. m.0) l.2.0 ∙ ap (λ m. m.0) j.2) ∙ calls.take_pen_at f z c.pass.inside.seat.table_id v w c.pen.invariant.1 c.pass.invariant.1 ∙ (λ i. carrying (c.pass.view_is i) (c.pen.view_is i))

pub returns-clause-fits : goal.returns-clause-fits
returns-clause-fits g c =
    let f = g.St.Store.state in
    let v = c.pen.inside.seat.me.0 in
    let w = c.pass.inside.seat.me.0 in
    let l = c.load.ensures in
    let j = c.join_seat.ensures in
    let told : Tells c.load.result (taking_view v w) = subst (Tells c.load.result) (ap (λ m. m.0) j.2) l.2.1 in
    let fits = calls.told_fits f c.pen.inside.seat.table_id c.pass.inside.seat.table_id c.load.result v w c.pen.invariant.1 c.pass.invariant.1 told in
    subst (λ (x : AtPen × AtPass). FitsPen x.0 x.1) (λ i. (c.pen.view_is i, c.pass.view_is i)) fits

pub returns-clause-facts : goal.returns-clause-facts
returns-clause-facts g c =
    let f = g.St.Store.state in
    let v = c.pen.inside.seat.me.0 in
    let w = c.pass.inside.seat.me.0 in
    let l = c.load.ensures in
    let j = c.join_seat.ensures in
    let v' = ap (λ m. m.0) l.2.0 ∙ ap (λ m. m.0) j.2 in
    let told : Tells c.load.result (taking_view v w) = subst (Tells c.load.result) (ap (λ m. m.0) j.2) l.2.1 in
    calls.facts_shown f c.load.new.seat.table_id c.load.new.seat.me.0 (subst PenIs (sym v') (calls.told_pen c.load.result v w c.pen.invariant.1 c.pass.invariant.1 told))
