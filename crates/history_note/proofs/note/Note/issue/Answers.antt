use Rattle.std.proofs.Common.{sym, ap, ◌∙◌, subst, arith}
use Rattle.history_note.specs.Places.{IsIssued}
use Rattle.history_note.specs.Views.{says, noting_view, issued_view}
use Rattle.history_note.specs.Rule.{PenIs, PassIs, with_pen}
use Rattle.history_note.specs.Shown.{is_carrying, pen_at, noting, issued_pass}
use Rattle.history_note.proofs.Calls as calls
use Rattle.history_note.proofs.note.Note.issue.Goals as goal

pub split_seat-seat-requires : goal.split_seat-seat-requires
split_seat-seat-requires g c =
    let f = g.St.Store.state in
    let z = c.pen.inside.seat.table_id in
    let v = c.pen.inside.seat.me.0 in
    let on = calls.pen_on f z v c.args.pen.now c.args.self.now _ c.pen.view_is c.self.view_is c.requires.note in
    let new : IsIssued (pen_at f z v).noted c.from.result → ⊥ = rw (c.pen.view_is, c.from.ensures) c.requires.new in
    (c.say.ensures.same.0 ∙ on, omega (arith, c.self.invariant), calls.issue_splits f z _ _ v c.say.new.seat.me.0 c.from.result c.from-2.result c.pen.invariant.1 new (ap (λ m. m.0) c.say.ensures.said))

pub invariant_of-result : goal.invariant_of-result
invariant_of-result g c =
    let f = g.St.Store.state in
    let z = c.pen.inside.seat.table_id in
    let v = c.pen.inside.seat.me.0 in
    let new : IsIssued (pen_at f z v).noted c.from.result → ⊥ = rw (c.pen.view_is, c.from.ensures) c.requires.new in
    let e = c.split_seat-seat.ensures in
    let is = calls.issue_pass f z v c.from.result c.from-2.result c.pen.invariant.1 new in
    let v' = ap issued_view (ap (λ m. m.0) c.say.ensures.said) in
    (ap (λ m. m.1) e.4, subst PassIs (sym (ap (λ m. m.0) e.4 ∙ v')) is)

pub invariant_of-pen : goal.invariant_of-pen
invariant_of-pen g c =
    let f = g.St.Store.state in
    let z = c.pen.inside.seat.table_id in
    let v = c.pen.inside.seat.me.0 in
    let e = c.split_seat-seat.ensures in
    let is = calls.issue_pen v c.from.result c.from-2.result c.pen.invariant.1 in
    let v' = ap (λ m. m.0) e.2 ∙ ap noting_view (ap (λ m. m.0) c.say.ensures.said) in
    let seen = calls.pen_same f z c.split_seat-seat.new.seat.table_id (noting_view (with_pen (says c.from.result c.from-2.result) v)) c.split_seat-seat.new.seat.me.0 (e.0 ∙ c.say.ensures.same.0) v' ∙ calls.issue_pen_at f z v c.from.result c.from-2.result c.pen.invariant.1 in
    (ap (λ m. m.1) e.2 ∙ ap (λ m. m.1) c.say.ensures.said ∙ c.pen.invariant.0, subst PenIs (sym v') is, c.pen.invariant.2 ∙ sym (ap is_carrying seen))

pub returns-clause-pen : goal.returns-clause-pen
returns-clause-pen g c =
    let f = g.St.Store.state in
    let z = c.pen.inside.seat.table_id in
    let v = c.pen.inside.seat.me.0 in
    let e = c.split_seat-seat.ensures in
    let v' = ap (λ m. m.0) e.2 ∙ ap noting_view (ap (λ m. m.0) c.say.ensures.said) in
    let seen = calls.pen_same f z c.split_seat-seat.new.seat.table_id (noting_view (with_pen (says c.from.result c.from-2.result) v)) c.split_seat-seat.new.seat.me.0 (e.0 ∙ c.say.ensures.same.0) v' ∙ calls.issue_pen_at f z v c.from.result c.from-2.result c.pen.invariant.1 in
    seen ∙ (λ i. noting (c.from.ensures i) (c.from-2.ensures i) (c.pen.view_is i))

pub returns-clause-pass : goal.returns-clause-pass
returns-clause-pass g c =
    let f = g.St.Store.state in
    let z = c.pen.inside.seat.table_id in
    let v = c.pen.inside.seat.me.0 in
    let e = c.split_seat-seat.ensures in
    let v' = ap (λ m. m.0) e.4 ∙ ap issued_view (ap (λ m. m.0) c.say.ensures.said) in
    let seen = calls.pass_same f z c.split_seat-seat.result.table_id (issued_view (with_pen (says c.from.result c.from-2.result) v)) c.split_seat-seat.result.me.0 (e.3 ∙ c.say.ensures.same.0) v' ∙ calls.issue_pass_at f z v c.from.result c.from-2.result c.pen.invariant.1 in
    seen ∙ (λ i. issued_pass (c.from.ensures i) (c.from-2.ensures i) (c.pen.view_is i))

pub returns-clause-mine : goal.returns-clause-mine
returns-clause-mine g c =
    let f = g.St.Store.state in
    let z = c.pen.inside.seat.table_id in
    let v = c.pen.inside.seat.me.0 in
    let new : IsIssued (pen_at f z v).noted c.from.result → ⊥ = rw (c.pen.view_is, c.from.ensures) c.requires.new in
    let e = c.split_seat-seat.ensures in
    let v' = ap (λ m. m.0) e.4 ∙ ap issued_view (ap (λ m. m.0) c.say.ensures.said) in
    calls.mine_of f c.split_seat-seat.result.table_id c.split_seat-seat.result.me.0 (subst PassIs (sym v') (calls.issue_pass f z v c.from.result c.from-2.result c.pen.invariant.1 new))
