use Rattle.std.proofs.Common.{◌≡◌, true, sym, ap, ◌∙◌, subst, arith}
use Rattle.history_note.specs.Views.{handing_view, handed_view}
use Rattle.history_note.specs.Rule.{PenIs, PassIs}
use Rattle.history_note.specs.Shown.{AtPen, AtPass, is_carrying, pen_at, handing, IsHanded}
use Rattle.history_note.proofs.Calls as calls
use Rattle.history_note.proofs.note.Note.hand_out.Goals as goal

pub split_seat-seat-requires : goal.split_seat-seat-requires
split_seat-seat-requires g c =
    let f = g.St.Store.state in
    let z = c.pen.inside.seat.table_id in
    let v = c.pen.inside.seat.me.0 in
    let on = calls.pen_on f z v c.args.pen.now c.args.self.now _ c.pen.view_is c.self.view_is c.requires.note in
    let has : is_carrying (pen_at f z v) ≡ true = ap is_carrying c.pen.view_is ∙ c.requires.carries in
    (on, omega (arith, c.self.invariant), calls.hand_splits f z _ _ v c.pen.invariant.1 has)

pub invariant_of-result : goal.invariant_of-result
invariant_of-result g c =
    let f = g.St.Store.state in
    let z = c.pen.inside.seat.table_id in
    let v = c.pen.inside.seat.me.0 in
    let has : is_carrying (pen_at f z v) ≡ true = ap is_carrying c.pen.view_is ∙ c.requires.carries in
    let e = c.split_seat-seat.ensures in
    (ap (λ m. m.1) e.4, subst PassIs (sym (ap (λ m. m.0) e.4)) (calls.hand_pass f z v c.pen.invariant.1 has))

pub invariant_of-pen : goal.invariant_of-pen
invariant_of-pen g c =
    let f = g.St.Store.state in
    let z = c.pen.inside.seat.table_id in
    let v = c.pen.inside.seat.me.0 in
    let has : is_carrying (pen_at f z v) ≡ true = ap is_carrying c.pen.view_is ∙ c.requires.carries in
    let e = c.split_seat-seat.ensures in
    let v' = ap (λ m. m.0) e.2 in (
      ap (λ m. m.1) e.2 ∙ c.pen.invariant.0,
      subst PenIs (sym v') (calls.hand_pen v c.pen.invariant.1),
      calls.carries_after_hand f z v c.pen.invariant.1 has ∙ sym (ap is_carrying (calls.pen_same f z c.split_seat-seat.new.seat.table_id (handing_view v) c.split_seat-seat.new.seat.me.0 e.0 v')),
    )

pub returns-clause-pen : goal.returns-clause-pen
returns-clause-pen g c =
    let f = g.St.Store.state in
    let z = c.pen.inside.seat.table_id in
    let v = c.pen.inside.seat.me.0 in
    let e = c.split_seat-seat.ensures in
    calls.pen_same f z c.split_seat-seat.new.seat.table_id (handing_view v) c.split_seat-seat.new.seat.me.0 e.0 (ap (λ m. m.0) e.2) ∙ calls.hand_pen_at f z v c.pen.invariant.1 ∙ ap handing c.pen.view_is

pub returns-clause-pass : goal.returns-clause-pass
returns-clause-pass g c =
    let f = g.St.Store.state in
    let z = c.pen.inside.seat.table_id in
    let v = c.pen.inside.seat.me.0 in
    let e = c.split_seat-seat.ensures in
    let same = calls.pass_same f z c.split_seat-seat.result.table_id (handed_view v) c.split_seat-seat.result.me.0 e.3 (ap (λ m. m.0) e.4) in
    subst (λ (x : AtPen × AtPass). IsHanded x.0 x.1) (λ i. (c.pen.view_is i, sym same i)) (calls.hand_pass_at f z v c.pen.invariant.1)

pub returns-clause-mine : goal.returns-clause-mine
returns-clause-mine g c =
    let f = g.St.Store.state in
    let z = c.pen.inside.seat.table_id in
    let v = c.pen.inside.seat.me.0 in
    let has : is_carrying (pen_at f z v) ≡ true = ap is_carrying c.pen.view_is ∙ c.requires.carries in
    let e = c.split_seat-seat.ensures in
    calls.mine_of f c.split_seat-seat.result.table_id c.split_seat-seat.result.me.0 (subst PassIs (sym (ap (λ m. m.0) e.4)) (calls.hand_pass f z v c.pen.invariant.1 has))
