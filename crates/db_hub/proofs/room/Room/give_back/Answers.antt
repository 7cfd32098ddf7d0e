use Rattle.std.proofs.Common.{◌≡◌, ◌∙◌, ℕ, Some, sym, ap, subst}
use Rattle.history_note.specs.Shown.{AtPass}
use Rattle.db_core.specs.Desk.{AtDesk}
use Rattle.db_hub.specs.Seats.{AtSeat, seat_at}
use Rattle.db_hub.specs.Served.{IsReady, IsGiven}
use Rattle.db_hub.proofs.Standings.{desk_is}
use Rattle.db_hub.proofs.Asking.{seat_number, given_fits, given_is}
use Rattle.db_hub.proofs.room.Room.give_back.Goals as goal

pub hand-requires : goal.hand-requires
hand-requires g c = (c.args.seat.now.number, (c.args.seat.now.desk.session, c.requires.ready.carries))

pub invariant_of-seat : goal.invariant_of-seat
invariant_of-seat g c =
    let n : ℕ = c.seat.inside.number in
    let k : AtDesk = c.seat.inside.desk in
    let p : AtPass = c.in_ok-pass.pass in
    let number_is : n ≡ c.args.seat.now.number = seat_number n c.seat.inside.pass k ∙ ap (λ (s : AtSeat). s.number) c.seat.view_is in
    let desk_is_same : k ≡ c.args.seat.now.desk = sym (desk_is n c.seat.inside.pass k) ∙ ap (λ (s : AtSeat). s.desk) c.seat.view_is in
    let r : IsReady g.T.Opened.opened g.T.Tag.since c.args.self.now n k = subst (λ (x : ℕ × AtDesk). IsReady g.T.Opened.opened g.T.Tag.since c.args.self.now x.0 x.1) (λ j. (sym number_is j, sym desk_is_same j)) c.requires.ready in
    (c.seat.invariant.0, given_fits g.T.Tag.note g.T.Opened.opened g.T.Tag.since c.args.self.now n k p r (c.in_ok-pass.ensures.pass n k.session r.carries))

pub returns-clause-given : goal.returns-clause-given
returns-clause-given g c =
    let n : ℕ = c.seat.inside.number in
    let k : AtDesk = c.seat.inside.desk in
    let p : AtPass = c.in_ok-pass.pass in
    let number_is : n ≡ c.args.seat.now.number = seat_number n c.seat.inside.pass k ∙ ap (λ (s : AtSeat). s.number) c.seat.view_is in
    let desk_is_same : k ≡ c.args.seat.now.desk = sym (desk_is n c.seat.inside.pass k) ∙ ap (λ (s : AtSeat). s.desk) c.seat.view_is in
    let r : IsReady g.T.Opened.opened g.T.Tag.since c.args.self.now n k = subst (λ (x : ℕ × AtDesk). IsReady g.T.Opened.opened g.T.Tag.since c.args.self.now x.0 x.1) (λ j. (sym number_is j, sym desk_is_same j)) c.requires.ready in
    subst (λ (s : AtSeat). IsGiven c.args.self.now.pen s (seat_at n (Some p) k)) c.seat.view_is
    (given_is g.T.Tag.note g.T.Opened.opened c.args.self.now.pen n k.session k c.seat.inside.pass p (c.in_ok-pass.ensures.pass n k.session r.carries))
