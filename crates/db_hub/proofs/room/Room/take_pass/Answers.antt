use Rattle.std.proofs.Common.{◌≡◌, ◌∙◌, ℕ, List, Option, Some, false, sym, ap, subst}
use Rattle.history_note.specs.Places.{IsNoted}
use Rattle.history_note.specs.Shown.{AtPen, AtPass, known}
use Rattle.db_core.specs.Desk.{AtDesk}
use Rattle.db_hub.specs.Desks.{DesksFit}
use Rattle.db_hub.specs.Rooms.{AtRoom, AllOutIf}
use Rattle.db_hub.specs.Seats.{AtSeat, seat_at, PassFits, PassFitsIf}
use Rattle.db_hub.specs.Served.{IsTaken}
use Rattle.db_hub.proofs.Visits.{is_out}
use Rattle.db_hub.proofs.Asking.{room_taken, taken_is, only_passes, passes_are}
use Rattle.db_hub.proofs.room.Room.take_pass.Goals as goal

pub invariant_of-self : goal.invariant_of-self
invariant_of-self g c =
    let inside = c.self.inside in
    let i = c.self.invariant in
    let taken = c.take_in.ensures.taken in (
      room_taken g.T.Tag.note g.T.Tag.numbers g.T.Opened.opened g.T.Tag.since inside.note inside.pen c.take_in.new.pen inside.board.kept inside.out.items inside.issued (Some (known c.in-Some.pass)) inside.pen.owed i.0 taken,
      i.1,
      i.2,
      subst (λ (p : AtPen). DesksFit inside.board.kept p.noted inside.out.items inside.desks.items) (sym taken) i.3,
      subst (λ (p : AtPen). AllOutIf g.T.Tag.stays p.noted inside.out.items) (sym taken) i.4,
    )

pub returns-clause-taken : goal.returns-clause-taken
returns-clause-taken g c =
    let inside = c.self.inside in
    let i = c.self.invariant in
    let out : List (ℕ × ℕ) = inside.out.items in
    let pen0 : AtPen = inside.pen in
    let k : AtDesk = c.seat.inside.desk in
    let n : ℕ = c.seat.inside.number in
    let q : AtPass = c.in-Some.pass in
    let eq : c.seat.inside.pass ≡ Some q = sym c.take.ensures.value ∙ c.in-Some.is in
    let pf : PassFits g.T.Tag.note g.T.Opened.opened g.T.Tag.since n k q = subst (PassFitsIf g.T.Tag.note g.T.Opened.opened g.T.Tag.since n k) eq c.seat.invariant.1 in
    let seat_is : seat_at n (Some q) k ≡ c.args.seat.now = ap (λ (p : Option AtPass). seat_at n p k) (sym eq) ∙ c.seat.view_is in
    let fits = c.take_in.ensures.fits in
    let may : g.T.Tag.stays ≡ false → IsNoted out n k.session = λ stays. subst (λ (p : AtRoom _ × AtSeat). IsNoted p.0.out p.1.number p.1.desk.session) (λ j. (sym c.self.view_is j, sym seat_is j)) (c.requires stays) in
    let at : IsNoted out n k.session = is_out g.T.Tag.stays pen0.noted out n k.session may i.4 (subst (λ (p : ℕ × ℕ). IsNoted pen0.noted p.0 p.1) (λ j. (pf.number_is j, pf.session_is j)) fits.is_noted) in
    subst (λ (p : AtSeat × AtSeat). IsTaken g.T.Opened.opened g.T.Tag.since (record { board = inside.board; pen = c.take_in.new.pen; out = out; desks = inside.desks.items; issued = inside.issued }) p.0 p.1) (λ j. (seat_is j, seat_at n (sym c.take.ensures.after j) k))
    (taken_is g.T.Tag.note g.T.Tag.numbers g.T.Opened.opened g.T.Tag.since inside.note pen0 inside.board out inside.issued i.0 n k q pf c.take_in.new.pen c.take_in.ensures.taken fits at inside.desks.items)

pub returns-clause-room : goal.returns-clause-room
returns-clause-room g c =
    let inside = c.self.inside in
    let r : AtRoom _ = record { board = inside.board; pen = inside.pen; out = inside.out.items; desks = inside.desks.items; issued = inside.issued } in
    passes_are r c.args.self.now c.take_in.new.pen c.self.view_is (only_passes inside.pen c.take_in.new.pen inside.pen.owed (Some (known c.in-Some.pass)) c.take_in.ensures.taken)
