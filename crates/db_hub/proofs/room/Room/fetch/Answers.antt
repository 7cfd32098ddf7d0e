use Rattle.std.proofs.Common.{◌≡◌, ◌∙◌, ℕ, List, Some, None, false, sym, ap, subst}
use Rattle.history_note.specs.Places.{kept_for, without, IsNoted}
use Rattle.history_note.specs.Shown.{AtPen, AtPass, carrying, known, handing, handed_pass}
use Rattle.db_core.specs.Desk.{AtDesk}
use Rattle.db_hub.specs.Desks.{DesksFit}
use Rattle.db_hub.specs.Rooms.{AtRoom, AllOutIf}
use Rattle.db_hub.specs.Seats.{AtSeat, seat_at}
use Rattle.db_hub.specs.Served.{IsAway, SeatReturns}
use Rattle.db_hub.proofs.Standings.{desk_is}
use Rattle.db_hub.proofs.Visits.{is_out}
use Rattle.db_hub.proofs.Asking.{seat_number, room_taken, only_passes, passes_are}
use Rattle.db_hub.proofs.Fetching.{fits_now, returned}
use Rattle.db_hub.proofs.room.Room.fetch.Goals as goal

pub invariant_of-self : goal.invariant_of-self
invariant_of-self g c =
    let inside = c.self.inside in
    let i = c.self.invariant in
    let same = c.in_err-handed.ensures.failed ∙ c.take_in.ensures.taken in (
      room_taken g.T.Tag.note g.T.Tag.numbers g.T.Opened.opened g.T.Tag.since inside.note inside.pen c.hand_out.new.pen inside.board.kept inside.out.items inside.issued (Some (known c.args.pass)) inside.pen.owed i.0 same,
      i.1,
      i.2,
      subst (λ (p : AtPen). DesksFit inside.board.kept p.noted inside.out.items inside.desks.items) (sym same) i.3,
      subst (λ (p : AtPen). AllOutIf g.T.Tag.stays p.noted inside.out.items) (sym same) i.4,
    )

pub invariant_of-self-2 : goal.invariant_of-self-2
invariant_of-self-2 g c =
    let inside = c.self.inside in
    let i = c.self.invariant in
    let q : AtPass = c.args.pass in
    let same : c.hand_out.new.pen ≡ record inside.pen { owed = without q.number inside.pen.owed; carried = None } = c.in_ok-handed.ensures.pen ∙ ap handing c.take_in.ensures.taken in (
      room_taken g.T.Tag.note g.T.Tag.numbers g.T.Opened.opened g.T.Tag.since inside.note inside.pen c.hand_out.new.pen inside.board.kept inside.out.items inside.issued None (without q.number inside.pen.owed) i.0 same,
      i.1,
      i.2,
      subst (λ (p : AtPen). DesksFit inside.board.kept p.noted inside.out.items inside.desks.items) (sym same) i.3,
      subst (λ (p : AtPen). AllOutIf g.T.Tag.stays p.noted inside.out.items) (sym same) i.4,
    )

pub returns-in_err-handed-clause-room : goal.returns-in_err-handed-clause-room
returns-in_err-handed-clause-room g c =
    let inside = c.self.inside in
    let r : AtRoom _ = record { board = inside.board; pen = inside.pen; out = inside.out.items; desks = inside.desks.items; issued = inside.issued } in
    passes_are r c.args.self.now c.hand_out.new.pen c.self.view_is (only_passes inside.pen c.hand_out.new.pen inside.pen.owed (Some (known c.args.pass)) (c.in_err-handed.ensures.failed ∙ c.take_in.ensures.taken))

pub returns-clause-room : goal.returns-clause-room
returns-clause-room g c =
    let inside = c.self.inside in
    let r : AtRoom _ = record { board = inside.board; pen = inside.pen; out = inside.out.items; desks = inside.desks.items; issued = inside.issued } in
    passes_are r c.args.self.now c.hand_out.new.pen c.self.view_is (only_passes inside.pen c.hand_out.new.pen (without c.args.pass.number inside.pen.owed) None (c.in_ok-handed.ensures.pen ∙ ap handing c.take_in.ensures.taken))

pub invariant_of-seat-2 : goal.invariant_of-seat-2
invariant_of-seat-2 g c =
    let inside = c.self.inside in
    let i = c.self.invariant in
    let o = g.T.Opened.opened in
    let n : ℕ = c.seat.inside.number in
    let k : AtDesk = c.seat.inside.desk in
    let q : AtPass = c.args.pass in
    let text : List ℕ = c.requires.away.0 in
    let pen0 : AtPen = inside.pen in
    let out : List (ℕ × ℕ) = inside.out.items in
    let n_is : n ≡ c.args.seat.now.number = seat_number n c.seat.inside.pass k ∙ ap (λ (x : AtSeat). x.number) c.seat.view_is in
    let k_is : k ≡ c.args.seat.now.desk = sym (desk_is n c.seat.inside.pass k) ∙ ap (λ (x : AtSeat). x.desk) c.seat.view_is in
    let at : IsAway g.T.Tag.note o g.T.Tag.since n k text q = subst (λ (x : ℕ × AtDesk). IsAway g.T.Tag.note o g.T.Tag.since x.0 x.1 text q) (λ j. (sym n_is j, sym k_is j)) c.requires.away.1 in
    let fits = c.take_in.ensures.fits in
    let may : g.T.Tag.stays ≡ false → IsNoted out n k.session = λ stays. subst (λ (p : AtRoom _ × (ℕ × AtDesk)). IsNoted p.0.out p.1.0 p.1.1.session) (λ j. (sym c.self.view_is j, (sym n_is j, sym k_is j))) (c.requires.out stays) in
    let sits : IsNoted out n k.session = is_out g.T.Tag.stays pen0.noted out n k.session may i.4 (subst (λ (p : ℕ × ℕ). IsNoted pen0.noted p.0 p.1) (λ j. (at.number_is j, at.session_is j)) fits.is_noted) in
    let settled : kept_for n pen0.kept ≡ None = (λ j. kept_for (n_is j) (c.self.view_is j).pen.kept) ∙ c.requires.settled in
    let p2 : AtPass = c.in_ok-handed.handed in
    let given : p2 ≡ handed_pass (known q) (carrying q pen0) = c.in_ok-handed.ensures.pass (known q) (ap (λ (p : AtPen). p.carried) c.take_in.ensures.taken) ∙ ap (handed_pass (known q)) c.take_in.ensures.taken in
    (c.seat.invariant.0, fits_now g.T.Tag.note g.T.Tag.numbers o g.T.Tag.since inside.note pen0 inside.board.kept out inside.issued i.0 n k text q at fits sits settled p2 given c.in_ok-handed.ensures.mine)

pub returns-clause-seat : goal.returns-clause-seat
returns-clause-seat g c = λ text away.
    let inside = c.self.inside in
    let i = c.self.invariant in
    let o = g.T.Opened.opened in
    let n : ℕ = c.seat.inside.number in
    let k : AtDesk = c.seat.inside.desk in
    let q : AtPass = c.args.pass in
    let pen0 : AtPen = inside.pen in
    let out : List (ℕ × ℕ) = inside.out.items in
    let n_is : n ≡ c.args.seat.now.number = seat_number n c.seat.inside.pass k ∙ ap (λ (x : AtSeat). x.number) c.seat.view_is in
    let k_is : k ≡ c.args.seat.now.desk = sym (desk_is n c.seat.inside.pass k) ∙ ap (λ (x : AtSeat). x.desk) c.seat.view_is in
    let at : IsAway g.T.Tag.note o g.T.Tag.since n k text q = subst (λ (x : ℕ × AtDesk). IsAway g.T.Tag.note o g.T.Tag.since x.0 x.1 text q) (λ j. (sym n_is j, sym k_is j)) away in
    let fits = c.take_in.ensures.fits in
    let may : g.T.Tag.stays ≡ false → IsNoted out n k.session = λ stays. subst (λ (p : AtRoom _ × (ℕ × AtDesk)). IsNoted p.0.out p.1.0 p.1.1.session) (λ j. (sym c.self.view_is j, (sym n_is j, sym k_is j))) (c.requires.out stays) in
    let sits : IsNoted out n k.session = is_out g.T.Tag.stays pen0.noted out n k.session may i.4 (subst (λ (p : ℕ × ℕ). IsNoted pen0.noted p.0 p.1) (λ j. (at.number_is j, at.session_is j)) fits.is_noted) in
    let settled : kept_for n pen0.kept ≡ None = (λ j. kept_for (n_is j) (c.self.view_is j).pen.kept) ∙ c.requires.settled in
    let p2 : AtPass = c.in_ok-handed.handed in
    let given : p2 ≡ handed_pass (known q) (carrying q pen0) = c.in_ok-handed.ensures.pass (known q) (ap (λ (p : AtPen). p.carried) c.take_in.ensures.taken) ∙ ap (handed_pass (known q)) c.take_in.ensures.taken in
    subst (λ (x : AtSeat). SeatReturns o q x (seat_at n (Some p2) k) text) c.seat.view_is (returned g.T.Tag.note g.T.Tag.numbers o g.T.Tag.since inside.note pen0 inside.board.kept out inside.issued i.0 n k text q at fits sits settled p2 given c.in_ok-handed.ensures.mine c.seat.inside.pass)
