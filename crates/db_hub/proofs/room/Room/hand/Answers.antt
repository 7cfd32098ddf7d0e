use Rattle.std.proofs.Common.{◌∙◌, None, sym, ap, subst}
use Rattle.std.specs.Prelude.{is_some}
use Rattle.history_note.specs.Shown.{AtPen}
use Rattle.db_hub.specs.Desks.{DesksFit}
use Rattle.db_hub.specs.Rooms.{AtRoom, AllOutIf}
use Rattle.db_hub.specs.Served.{CarriesFor, IsHandedTo}
use Rattle.db_hub.proofs.Asking.{room_taken, handed_pen, handed_to, only_passes, passes_are}
use Rattle.db_hub.proofs.room.Room.hand.Goals as goal

pub hand_out-requires-clause-carries : goal.hand_out-requires-clause-carries
hand_out-requires-clause-carries g c =
    ap (λ (r : AtRoom _). is_some r.pen.carried) c.self.view_is ∙ ap is_some c.requires.1.1.carried

pub invariant_of-self : goal.invariant_of-self
invariant_of-self g c =
    let inside = c.self.inside in
    let i = c.self.invariant in
    let same = c.in_err-pass.ensures.failed in (
      room_taken g.T.Tag.note g.T.Tag.numbers g.T.Opened.opened g.T.Tag.since inside.note inside.pen c.hand_out.new.pen inside.board.kept inside.out.items inside.issued inside.pen.carried inside.pen.owed i.0 same,
      i.1,
      i.2,
      subst (λ (p : AtPen). DesksFit inside.board.kept p.noted inside.out.items inside.desks.items) (sym same) i.3,
      subst (λ (p : AtPen). AllOutIf g.T.Tag.stays p.noted inside.out.items) (sym same) i.4,
    )

pub invariant_of-self-2 : goal.invariant_of-self-2
invariant_of-self-2 g c =
    let inside = c.self.inside in
    let i = c.self.invariant in
    let carries : CarriesFor inside.pen c.requires.0 c.requires.1.0 = subst (λ (r : AtRoom _). CarriesFor r.pen c.requires.0 c.requires.1.0) (sym c.self.view_is) c.requires.1.1 in
    let same = handed_pen inside.pen c.hand_out.new.pen c.requires.0 c.requires.1.0 carries c.in_ok-pass.ensures.pen in (
      room_taken g.T.Tag.note g.T.Tag.numbers g.T.Opened.opened g.T.Tag.since inside.note inside.pen c.hand_out.new.pen inside.board.kept inside.out.items inside.issued None inside.pen.owed i.0 same,
      i.1,
      i.2,
      subst (λ (p : AtPen). DesksFit inside.board.kept p.noted inside.out.items inside.desks.items) (sym same) i.3,
      subst (λ (p : AtPen). AllOutIf g.T.Tag.stays p.noted inside.out.items) (sym same) i.4,
    )

pub returns-in_err-pass-clause-room : goal.returns-in_err-pass-clause-room
returns-in_err-pass-clause-room g c =
    let inside = c.self.inside in
    let r : AtRoom _ = record { board = inside.board; pen = inside.pen; out = inside.out.items; desks = inside.desks.items; issued = inside.issued } in
    passes_are r c.args.self.now c.hand_out.new.pen c.self.view_is (only_passes inside.pen c.hand_out.new.pen inside.pen.owed inside.pen.carried c.in_err-pass.ensures.failed)

pub returns-clause-room : goal.returns-clause-room
returns-clause-room g c =
    let inside = c.self.inside in
    let r : AtRoom _ = record { board = inside.board; pen = inside.pen; out = inside.out.items; desks = inside.desks.items; issued = inside.issued } in
    let carries : CarriesFor inside.pen c.requires.0 c.requires.1.0 = subst (λ (x : AtRoom _). CarriesFor x.pen c.requires.0 c.requires.1.0) (sym c.self.view_is) c.requires.1.1 in
    passes_are r c.args.self.now c.hand_out.new.pen c.self.view_is (only_passes inside.pen c.hand_out.new.pen inside.pen.owed None (handed_pen inside.pen c.hand_out.new.pen c.requires.0 c.requires.1.0 carries c.in_ok-pass.ensures.pen))

pub returns-clause-pass : goal.returns-clause-pass
returns-clause-pass g c = λ n s h.
    let inside = c.self.inside in
    let rf = c.self.invariant.0 in
    subst (λ (r : AtRoom _). IsHandedTo g.T.Tag.note g.T.Opened.opened r.pen n s c.in_ok-pass.pass) c.self.view_is
    (handed_to g.T.Tag.note g.T.Opened.opened inside.pen c.in_ok-pass.pass n s rf.pen_is rf.pen_opening (subst (λ (r : AtRoom _). CarriesFor r.pen n s) (sym c.self.view_is) h) c.in_ok-pass.ensures.pass c.in_ok-pass.ensures.mine)
