use Rattle.std.proofs.Common.{◌≡◌, true, refl, sym, ap, ◌∙◌, subst}
use Rattle.history_note.specs.Views.{leaves}
use Rattle.history_note.specs.Rule.{PenIs, with_pen}
use Rattle.history_note.specs.Shown.{is_carrying, pen_at, leaving}
use Rattle.history_note.proofs.Calls as calls
use Rattle.history_note.proofs.note.Note.leave.Goals as goal

pub leave_line-requires : goal.leave_line-requires
leave_line-requires g c =
    let f = g.St.Store.state in
    let z = c.pen.inside.seat.table_id in
    let v = c.pen.inside.seat.me.0 in
    let on = calls.pen_on f z v c.args.pen.now c.args.self.now _ c.pen.view_is c.self.view_is c.requires.note in
    let has : is_carrying (pen_at f z v) ≡ true = ap is_carrying c.pen.view_is ∙ c.requires.carries in
    record { table = (on, c.self.invariant); pen = calls.carries_shown f z v c.pen.invariant.1 has; line = refl }

pub invariant_of-pen : goal.invariant_of-pen
invariant_of-pen g c =
    let f = g.St.Store.state in
    let z = c.pen.inside.seat.table_id in
    let v = c.pen.inside.seat.me.0 in
    let t = c.args.line.now in
    let done = c.leave_line.ensures.left in
    let v' = ap (λ m. m.0) done in
    let z' = c.leave_line.new.seat.table_id in (
      ap (λ m. m.1) done ∙ c.pen.invariant.0,
      subst PenIs (sym v') (calls.leave_is v t c.pen.invariant.1),
      c.pen.invariant.2 ∙ sym (ap (λ u. is_carrying (pen_at f z' u)) v' ∙ calls.leave_carries f z' v t c.pen.invariant.1 ∙ calls.carries_same f z z' v),
    )

pub returns : goal.returns
returns g c =
    let f = g.St.Store.state in
    let z = c.pen.inside.seat.table_id in
    let v = c.pen.inside.seat.me.0 in
    let t = c.args.line.now in
    let seen = calls.pen_same f z c.leave_line.new.seat.table_id (with_pen (leaves t) v) c.leave_line.new.seat.me.0 c.leave_line.ensures.same.0 (ap (λ m. m.0) c.leave_line.ensures.left) in
    record { left = seen ∙ calls.leave_pen_at f z v t c.pen.invariant.1 ∙ ap (leaving t) c.pen.view_is }
