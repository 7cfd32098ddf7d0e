use Rattle.std.proofs.Common.{refl, sym, ap, ◌∙◌, subst, arith}
use Rattle.history_note.specs.Places.{IsIssued}
use Rattle.history_note.specs.Views.{says, writes}
use Rattle.history_note.specs.Rule.{PenIs, Tells, with_pen}
use Rattle.history_note.specs.Shown.{is_carrying, pen_at, MayEnter, writing}
use Rattle.history_note.proofs.Steps.{looks}
use Rattle.history_note.proofs.Calls as calls
use Rattle.history_note.proofs.note.Note.write.Goals as goal

pub say-requires : goal.say-requires
say-requires g c =
    let on = calls.pen_on g.St.Store.state c.pen.inside.seat.table_id c.pen.inside.seat.me.0 c.args.pen.now c.args.self.now _ c.pen.view_is c.self.view_is c.requires.note in
    record { table = (on, c.self.invariant); pen = c.pen.invariant.1 }

pub load-count-requires : goal.load-count-requires
load-count-requires g c =
    let on = calls.pen_on g.St.Store.state c.pen.inside.seat.table_id c.pen.inside.seat.me.0 c.args.pen.now c.args.self.now _ c.pen.view_is c.self.view_is c.requires.note in
    (c.say.ensures.same.0 ∙ on, omega (arith, c.self.invariant), looks _ _ _ _)

pub compare_exchange_with-requires : goal.compare_exchange_with-requires
compare_exchange_with-requires g c =
    let f = g.St.Store.state in
    let z = c.pen.inside.seat.table_id in
    let v = c.pen.inside.seat.me.0 in
    let on = calls.pen_on f z v c.args.pen.now c.args.self.now _ c.pen.view_is c.self.view_is c.requires.note in
    let l = c.load-count.ensures in
    let is : IsIssued (pen_at f z v).noted c.from.result = rw (c.pen.view_is, c.from.ensures) c.requires.issued in
    let may : MayEnter c.from.result c.args.step.now.line (pen_at f z v) = rw (c.pen.view_is, c.from.ensures) c.requires.line in
    let v' = ap (λ m. m.0) l.2.0 ∙ ap (λ m. m.0) c.say.ensures.said in
    let told : Tells c.load-count.result c.load-count.new.seat.me.0 = subst (Tells c.load-count.result) (sym (ap (λ m. m.0) l.2.0)) l.2.1 in
    (l.0 ∙ c.say.ensures.same.0 ∙ on, omega (arith, c.self.invariant), calls.write_allowed f z _ _ _ v c.load-count.new.seat.me c.from.result 0 c.load-count.result c.args.step.now c.pen.invariant.1 is may v' told)

pub invariant_of-pen : goal.invariant_of-pen
invariant_of-pen g c =
    let f = g.St.Store.state in
    let z = c.pen.inside.seat.table_id in
    let v = c.pen.inside.seat.me.0 in
    let l = c.load-count.ensures in
    let is : IsIssued (pen_at f z v).noted c.from.result = rw (c.pen.view_is, c.from.ensures) c.requires.issued in
    let done = c.compare_exchange_with.ensures.2 c.args.step.now refl in
    let v' = ap (λ m. m.0) done ∙ ap (λ m. with_pen (writes c.args.step.now) m.0) (l.2.0 ∙ c.say.ensures.said) in (
      ap (λ m. m.1) done ∙ ap (λ m. m.1) (l.2.0 ∙ c.say.ensures.said) ∙ c.pen.invariant.0,
      subst PenIs (sym v') (calls.write_is f z v c.from.result 0 c.args.step.now c.pen.invariant.1 is),
      c.pen.invariant.2 ∙ sym (ap (λ u. is_carrying (pen_at f c.compare_exchange_with.new.seat.table_id u)) v' ∙ calls.write_carries f c.compare_exchange_with.new.seat.table_id v c.from.result 0 c.args.step.now c.pen.invariant.1 ∙ calls.carries_same f z c.compare_exchange_with.new.seat.table_id v),
    )

pub returns : goal.returns
returns g c =
    let f = g.St.Store.state in
    let z = c.pen.inside.seat.table_id in
    let v = c.pen.inside.seat.me.0 in
    let l = c.load-count.ensures in
    let x = c.compare_exchange_with.ensures in
    let done = x.2 c.args.step.now refl in
    let v' = ap (λ m. m.0) done ∙ ap (λ m. with_pen (writes c.args.step.now) m.0) (l.2.0 ∙ c.say.ensures.said) in
    let seen = calls.pen_same f z c.compare_exchange_with.new.seat.table_id (with_pen (writes c.args.step.now) (with_pen (says c.from.result 0) v)) c.compare_exchange_with.new.seat.me.0 (x.0 ∙ l.0 ∙ c.say.ensures.same.0) v' in
    record { written = seen ∙ calls.write_pen_at f z v c.from.result 0 c.args.step.now c.pen.invariant.1 ∙ (λ i. writing (c.from.ensures i) c.args.step.now (c.pen.view_is i)) }
