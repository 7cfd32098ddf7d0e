use Rattle.std.proofs.Common.{◌≡◌, ◌∙◌, ◌++◌, ◌∷◌, [], ℕ, List, true, length, drop, refl, sym, ap, subst, arith}
use Rattle.std.specs.Prelude.{is_some}
use Rattle.std.proofs.lemmas.Bool.{false≢true}
use Rattle.db_value.specs.declared.step.Step.{Step}
use Rattle.db_store.specs.State.{State}
use Rattle.history_note.specs.Places.{kept_for}
use Rattle.history_note.specs.Shown.{AtPen, leaving}
use Rattle.db_core.specs.declared.offer.Offered.{Offered}
use Rattle.db_core.specs.Kept.{Kept, Logged, step_of, saids}
use Rattle.db_core.specs.Answered.{IsAnswered, call_now}
use Rattle.db_core.specs.Desk.{AtDesk, entered}
use Rattle.db_core.specs.Waiting.{members_of}
use Rattle.db_core.specs.Offers.{settles_first, IsRightly, IfFirst, GivesBack, IfAnswered, IfWaits, IsUntouched, IsServedFor, Waits}
use Rattle.db_core.specs.Awaiting.{AgreesAfter}
use Rattle.db_core.proofs.Awaiting.{ticketed_agrees}
use Rattle.db_core.proofs.Standing.{agree_same}
use Rattle.db_hub.specs.Entered.{lines_of}
use Rattle.db_hub.specs.Desks.{DesksFit}
use Rattle.db_hub.specs.Rooms.{AtRoom, RoomFits, AllOutIf, StoresSince, written_all}
use Rattle.db_hub.specs.Left.{BatchFits}
use Rattle.db_hub.specs.Served.{IsReady}
use Rattle.db_hub.proofs.Storing.{since_ran, since_left}
use Rattle.db_hub.proofs.Serving.{on_err}
use Rattle.db_hub.proofs.Batches.{AllOther, all_other, none_waits}
use Rattle.db_hub.proofs.Asking.{free_line, ready_still, rest_is, lines_now, offered_grows, first_grows, first_stands, served_grows, waiting_grows, waiting_stands, waiting_members, issued_now, as_long, room_for, carries_now, none_now, opening_now, room_grown, desks_grown, all_out, fits_grown, ready_now, left_line, left_lines, left_noted, left_carries, left_room, left_desks, fits_left}
use Rattle.db_hub.proofs.Lasts.{some_last}
use Rattle.db_hub.proofs.room.Room.offer.Goals as goal

pub offer-requires-clause-may : goal.offer-requires-clause-may
offer-requires-clause-may g c =
    let inside = c.self.inside in
    let i = c.self.invariant in
    let o = g.T.Opened.opened in
    let since = g.T.Tag.since in
    let n : ℕ = c.args.number in
    let k : AtDesk = c.args.desk.now in
    let text : List ℕ = c.args.text in
    let out : List (ℕ × ℕ) = inside.out.items in
    let b0 = inside.board in
    let pen0 : AtPen = inside.pen in
    let ns : List ℕ = c.args.batch.now.numbers.items in
    let ks = c.args.batch.now.waiting.members.items in
    let q = c.args.batch.now.queue in
    let room0 : AtRoom _ = record { board = b0; pen = pen0; out = out; desks = inside.desks.items; issued = inside.issued } in
    let f : BatchFits g.St.Store.Prepares room0 q ns ks = subst (λ (x : AtRoom _). BatchFits g.St.Store.Prepares x q ns ks) (sym c.self.view_is) c.requires.fits in
    let r : IsReady o since room0 n k = subst (λ (x : AtRoom _). IsReady o since x n k) (sym c.self.view_is) c.requires.ready in
    let other : AllOther n ns = all_other out n ns (members_of ks) f.numbers_are (ap (kept_for n) (sym f.kept_are) ∙ r.keeps_none) in
    record {
      agree = r.agree;
      line = c.requires.may.line;
      local = c.requires.may.local;
      offered = f.offered;
      alone = none_waits out n k.session i.0.out_fits.once r.is_out ns (members_of ks) f.numbers_are other;
    }

pub write_from-requires-clause-issued : goal.write_from-requires-clause-issued
write_from-requires-clause-issued g c =
    let inside = c.self.inside in
    let i = c.self.invariant in
    let o = g.T.Opened.opened in
    let since = g.T.Tag.since in
    let n : ℕ = c.args.number in
    let k : AtDesk = c.args.desk.now in
    let text : List ℕ = c.args.text in
    let out : List (ℕ × ℕ) = inside.out.items in
    let b0 = inside.board in
    let pen0 : AtPen = inside.pen in
    let ns : List ℕ = c.args.batch.now.numbers.items in
    let ks = c.args.batch.now.waiting.members.items in
    let q = c.args.batch.now.queue in
    let room0 : AtRoom _ = record { board = b0; pen = pen0; out = out; desks = inside.desks.items; issued = inside.issued } in
    let f : BatchFits g.St.Store.Prepares room0 q ns ks = subst (λ (x : AtRoom _). BatchFits g.St.Store.Prepares x q ns ks) (sym c.self.view_is) c.requires.fits in
    let r : IsReady o since room0 n k = subst (λ (x : AtRoom _). IsReady o since x n k) (sym c.self.view_is) c.requires.ready in
    issued_now g.T.Tag.note g.T.Tag.numbers o since inside.note pen0 b0.kept out inside.issued i.0 n k.session r.is_out r.carries r.keeps_none

pub write_from-requires-clause-from : goal.write_from-requires-clause-from
write_from-requires-clause-from g c =
    let inside = c.self.inside in
    let i = c.self.invariant in
    let o = g.T.Opened.opened in
    let since = g.T.Tag.since in
    let n : ℕ = c.args.number in
    let k : AtDesk = c.args.desk.now in
    let text : List ℕ = c.args.text in
    let out : List (ℕ × ℕ) = inside.out.items in
    let b0 = inside.board in
    let pen0 : AtPen = inside.pen in
    let ns : List ℕ = c.args.batch.now.numbers.items in
    let ks = c.args.batch.now.waiting.members.items in
    let q = c.args.batch.now.queue in
    let room0 : AtRoom _ = record { board = b0; pen = pen0; out = out; desks = inside.desks.items; issued = inside.issued } in
    let f : BatchFits g.St.Store.Prepares room0 q ns ks = subst (λ (x : AtRoom _). BatchFits g.St.Store.Prepares x q ns ks) (sym c.self.view_is) c.requires.fits in
    let r : IsReady o since room0 n k = subst (λ (x : AtRoom _). IsReady o since x n k) (sym c.self.view_is) c.requires.ready in
    let e = c.in_ok-told.ensures in
    let b1 = c.offer.new.self in
    let l : AtDesk = c.offer.new.desk in
    let p = c.offer.new.queue in
    let ms = c.offer.new.waiting.members.items in
    let from : ℕ = length c.steps-from.result.now in
    let from_is : from ≡ length b0.kept.steps = ap length c.steps-from.ensures in
    let grows = offered_grows g.J.Log b0 b1 k l q p ks ms text c.args.stmt.now r.agree c.requires.may.line c.in_ok-told.told e.first e.answered e.waits in
    let room = room_for g.T.Tag.note g.T.Tag.numbers o since inside.note pen0 b0.kept out inside.issued i.0 n k.session r.is_out r.carries r.keeps_none b1.kept grows.0.0 grows.0.1 grows.1 in
    let all = ap length c.steps.ensures in
    omega (arith, room, all, from_is)

pub write_from-requires-clause-lines : goal.write_from-requires-clause-lines
write_from-requires-clause-lines g c =
    let inside = c.self.inside in
    let i = c.self.invariant in
    let o = g.T.Opened.opened in
    let since = g.T.Tag.since in
    let n : ℕ = c.args.number in
    let k : AtDesk = c.args.desk.now in
    let text : List ℕ = c.args.text in
    let out : List (ℕ × ℕ) = inside.out.items in
    let b0 = inside.board in
    let pen0 : AtPen = inside.pen in
    let ns : List ℕ = c.args.batch.now.numbers.items in
    let ks = c.args.batch.now.waiting.members.items in
    let q = c.args.batch.now.queue in
    let room0 : AtRoom _ = record { board = b0; pen = pen0; out = out; desks = inside.desks.items; issued = inside.issued } in
    let f : BatchFits g.St.Store.Prepares room0 q ns ks = subst (λ (x : AtRoom _). BatchFits g.St.Store.Prepares x q ns ks) (sym c.self.view_is) c.requires.fits in
    let r : IsReady o since room0 n k = subst (λ (x : AtRoom _). IsReady o since x n k) (sym c.self.view_is) c.requires.ready in
    let e = c.in_ok-told.ensures in
    let b1 = c.offer.new.self in
    let l : AtDesk = c.offer.new.desk in
    let p = c.offer.new.queue in
    let ms = c.offer.new.waiting.members.items in
    let from : ℕ = length c.steps-from.result.now in
    let from_is : from ≡ length b0.kept.steps = ap length c.steps-from.ensures in
    as_long g.T.Tag.note g.T.Tag.numbers o since inside.note pen0 b0.kept out inside.issued i.0 n k.session r.is_out r.carries r.keeps_none ∙ sym from_is

pub leave-requires-clause-note : goal.leave-requires-clause-note
leave-requires-clause-note g c =
    let inside = c.self.inside in
    let i = c.self.invariant in
    let o = g.T.Opened.opened in
    let since = g.T.Tag.since in
    let n : ℕ = c.args.number in
    let k : AtDesk = c.args.desk.now in
    let text : List ℕ = c.args.text in
    let out : List (ℕ × ℕ) = inside.out.items in
    let b0 = inside.board in
    let pen0 : AtPen = inside.pen in
    let ns : List ℕ = c.args.batch.now.numbers.items in
    let ks = c.args.batch.now.waiting.members.items in
    let q = c.args.batch.now.queue in
    let room0 : AtRoom _ = record { board = b0; pen = pen0; out = out; desks = inside.desks.items; issued = inside.issued } in
    let f : BatchFits g.St.Store.Prepares room0 q ns ks = subst (λ (x : AtRoom _). BatchFits g.St.Store.Prepares x q ns ks) (sym c.self.view_is) c.requires.fits in
    let r : IsReady o since room0 n k = subst (λ (x : AtRoom _). IsReady o since x n k) (sym c.self.view_is) c.requires.ready in
    let e = c.in_ok-told.ensures in
    let b1 = c.offer.new.self in
    let l : AtDesk = c.offer.new.desk in
    let p = c.offer.new.queue in
    let ms = c.offer.new.waiting.members.items in
    let from : ℕ = length c.steps-from.result.now in
    let from_is : from ≡ length b0.kept.steps = ap length c.steps-from.ensures in
    let h : Waits b0 b1 k l q p ks ms text = subst (λ (x : Offered). IfWaits x (Waits b0 b1 k l q p ks ms text)) c.in-Waits.is e.waits in
    let more : List Step = k.waiting in
    let gr = waiting_grows g.J.Log b0 b1 k l q p ks ms text c.args.stmt.now r.agree c.requires.may.line h in
    let stands = waiting_stands g.J.Log b0 b1 k l q p ks ms text c.args.stmt.now r.agree c.requires.may.line h in
    let pen1 : AtPen = c.write_from.new.pen in
    let wrote : pen1 ≡ written_all n (drop from b1.kept.steps) pen0 = c.write_from.ensures ∙ ap (λ (ss : List Step). written_all n (drop from ss) pen0) c.steps.ensures in
    let room = room_grown g.T.Tag.note g.T.Tag.numbers o since inside.note pen0 b0.kept out inside.issued i.0 n k.session r.is_out r.carries r.keeps_none b1.kept more gr stands pen1 from from_is wrote in
    room.pen_is ∙ sym room.note_is

pub leave-requires-clause-carries : goal.leave-requires-clause-carries
leave-requires-clause-carries g c =
    let inside = c.self.inside in
    let i = c.self.invariant in
    let o = g.T.Opened.opened in
    let since = g.T.Tag.since in
    let n : ℕ = c.args.number in
    let k : AtDesk = c.args.desk.now in
    let text : List ℕ = c.args.text in
    let out : List (ℕ × ℕ) = inside.out.items in
    let b0 = inside.board in
    let pen0 : AtPen = inside.pen in
    let ns : List ℕ = c.args.batch.now.numbers.items in
    let ks = c.args.batch.now.waiting.members.items in
    let q = c.args.batch.now.queue in
    let room0 : AtRoom _ = record { board = b0; pen = pen0; out = out; desks = inside.desks.items; issued = inside.issued } in
    let f : BatchFits g.St.Store.Prepares room0 q ns ks = subst (λ (x : AtRoom _). BatchFits g.St.Store.Prepares x q ns ks) (sym c.self.view_is) c.requires.fits in
    let r : IsReady o since room0 n k = subst (λ (x : AtRoom _). IsReady o since x n k) (sym c.self.view_is) c.requires.ready in
    let e = c.in_ok-told.ensures in
    let b1 = c.offer.new.self in
    let l : AtDesk = c.offer.new.desk in
    let p = c.offer.new.queue in
    let ms = c.offer.new.waiting.members.items in
    let from : ℕ = length c.steps-from.result.now in
    let from_is : from ≡ length b0.kept.steps = ap length c.steps-from.ensures in
    let h : Waits b0 b1 k l q p ks ms text = subst (λ (x : Offered). IfWaits x (Waits b0 b1 k l q p ks ms text)) c.in-Waits.is e.waits in
    let more : List Step = k.waiting in
    let gr = waiting_grows g.J.Log b0 b1 k l q p ks ms text c.args.stmt.now r.agree c.requires.may.line h in
    let stands = waiting_stands g.J.Log b0 b1 k l q p ks ms text c.args.stmt.now r.agree c.requires.may.line h in
    let pen1 : AtPen = c.write_from.new.pen in
    let wrote : pen1 ≡ written_all n (drop from b1.kept.steps) pen0 = c.write_from.ensures ∙ ap (λ (ss : List Step). written_all n (drop from ss) pen0) c.steps.ensures in
    ap is_some (carries_now g.T.Tag.note g.T.Tag.numbers o since inside.note pen0 b0.kept out inside.issued i.0 n k.session r.is_out r.carries r.keeps_none b1.kept more gr stands pen1 from from_is wrote).carried

pub leave-requires-clause-free : goal.leave-requires-clause-free
leave-requires-clause-free g c =
    let inside = c.self.inside in
    let i = c.self.invariant in
    let o = g.T.Opened.opened in
    let since = g.T.Tag.since in
    let n : ℕ = c.args.number in
    let k : AtDesk = c.args.desk.now in
    let text : List ℕ = c.args.text in
    let out : List (ℕ × ℕ) = inside.out.items in
    let b0 = inside.board in
    let pen0 : AtPen = inside.pen in
    let ns : List ℕ = c.args.batch.now.numbers.items in
    let ks = c.args.batch.now.waiting.members.items in
    let q = c.args.batch.now.queue in
    let room0 : AtRoom _ = record { board = b0; pen = pen0; out = out; desks = inside.desks.items; issued = inside.issued } in
    let f : BatchFits g.St.Store.Prepares room0 q ns ks = subst (λ (x : AtRoom _). BatchFits g.St.Store.Prepares x q ns ks) (sym c.self.view_is) c.requires.fits in
    let r : IsReady o since room0 n k = subst (λ (x : AtRoom _). IsReady o since x n k) (sym c.self.view_is) c.requires.ready in
    let e = c.in_ok-told.ensures in
    let b1 = c.offer.new.self in
    let l : AtDesk = c.offer.new.desk in
    let p = c.offer.new.queue in
    let ms = c.offer.new.waiting.members.items in
    let from : ℕ = length c.steps-from.result.now in
    let from_is : from ≡ length b0.kept.steps = ap length c.steps-from.ensures in
    let h : Waits b0 b1 k l q p ks ms text = subst (λ (x : Offered). IfWaits x (Waits b0 b1 k l q p ks ms text)) c.in-Waits.is e.waits in
    let more : List Step = k.waiting in
    let gr = waiting_grows g.J.Log b0 b1 k l q p ks ms text c.args.stmt.now r.agree c.requires.may.line h in
    let stands = waiting_stands g.J.Log b0 b1 k l q p ks ms text c.args.stmt.now r.agree c.requires.may.line h in
    let pen1 : AtPen = c.write_from.new.pen in
    let wrote : pen1 ≡ written_all n (drop from b1.kept.steps) pen0 = c.write_from.ensures ∙ ap (λ (ss : List Step). written_all n (drop from ss) pen0) c.steps.ensures in
    free_line pen1 n k.session (carries_now g.T.Tag.note g.T.Tag.numbers o since inside.note pen0 b0.kept out inside.issued i.0 n k.session r.is_out r.carries r.keeps_none b1.kept more gr stands pen1 from from_is wrote) (none_now g.T.Tag.note g.T.Tag.numbers o since inside.note pen0 b0.kept out inside.issued i.0 n k.session r.is_out r.carries r.keeps_none b1.kept more gr stands pen1 from from_is wrote)

pub invariant_of-self-in-SettleFirst : goal.invariant_of-self-in-SettleFirst
invariant_of-self-in-SettleFirst g c =
    let inside = c.self.inside in
    let i = c.self.invariant in
    let o = g.T.Opened.opened in
    let since = g.T.Tag.since in
    let n : ℕ = c.args.number in
    let k : AtDesk = c.args.desk.now in
    let text : List ℕ = c.args.text in
    let out : List (ℕ × ℕ) = inside.out.items in
    let b0 = inside.board in
    let pen0 : AtPen = inside.pen in
    let ns : List ℕ = c.args.batch.now.numbers.items in
    let ks = c.args.batch.now.waiting.members.items in
    let q = c.args.batch.now.queue in
    let room0 : AtRoom _ = record { board = b0; pen = pen0; out = out; desks = inside.desks.items; issued = inside.issued } in
    let f : BatchFits g.St.Store.Prepares room0 q ns ks = subst (λ (x : AtRoom _). BatchFits g.St.Store.Prepares x q ns ks) (sym c.self.view_is) c.requires.fits in
    let r : IsReady o since room0 n k = subst (λ (x : AtRoom _). IsReady o since x n k) (sym c.self.view_is) c.requires.ready in
    let e = c.in_ok-told.ensures in
    let b1 = c.offer.new.self in
    let l : AtDesk = c.offer.new.desk in
    let p = c.offer.new.queue in
    let ms = c.offer.new.waiting.members.items in
    let from : ℕ = length c.steps-from.result.now in
    let from_is : from ≡ length b0.kept.steps = ap length c.steps-from.ensures in
    let h : IsUntouched b0 b1 k l q p ks ms = subst (λ (x : Offered). IfFirst x (IsUntouched b0 b1 k l q p ks ms)) c.in-SettleFirst.is e.first in
    let more : List Step = [] in
    let gr = first_grows g.J.Log b0 b1 k l q p ks ms text c.args.stmt.now r.agree c.requires.may.line h in
    let stands = first_stands g.J.Log b0 b1 k l q p ks ms text c.args.stmt.now r.agree c.requires.may.line h in
    let pen1 : AtPen = c.write_from.new.pen in
    let wrote : pen1 ≡ written_all n (drop from b1.kept.steps) pen0 = c.write_from.ensures ∙ ap (λ (ss : List Step). written_all n (drop from ss) pen0) c.steps.ensures in (
      room_grown g.T.Tag.note g.T.Tag.numbers o since inside.note pen0 b0.kept out inside.issued i.0 n k.session r.is_out r.carries r.keeps_none b1.kept more gr stands pen1 from from_is wrote,
      ap (λ (x : Logged _). x.kept.first_count) h.board ∙ i.1,
      subst (λ (x : Logged _). StoresSince g.J.Log g.T.LogTag.log x) (sym h.board) i.2,
      desks_grown g.T.Tag.note g.T.Tag.numbers o since inside.note pen0 b0.kept out inside.issued i.0 n k.session r.is_out r.carries r.keeps_none b1.kept more gr stands pen1 from from_is wrote inside.desks.items i.3,
      all_out g.T.Tag.note g.T.Tag.numbers o since inside.note pen0 b0.kept out inside.issued i.0 n k.session r.is_out r.carries r.keeps_none b1.kept more gr stands pen1 from from_is wrote g.T.Tag.stays i.4,
    )

pub invariant_of-self-in-Answered : goal.invariant_of-self-in-Answered
invariant_of-self-in-Answered g c =
    let inside = c.self.inside in
    let i = c.self.invariant in
    let o = g.T.Opened.opened in
    let since = g.T.Tag.since in
    let n : ℕ = c.args.number in
    let k : AtDesk = c.args.desk.now in
    let text : List ℕ = c.args.text in
    let out : List (ℕ × ℕ) = inside.out.items in
    let b0 = inside.board in
    let pen0 : AtPen = inside.pen in
    let ns : List ℕ = c.args.batch.now.numbers.items in
    let ks = c.args.batch.now.waiting.members.items in
    let q = c.args.batch.now.queue in
    let room0 : AtRoom _ = record { board = b0; pen = pen0; out = out; desks = inside.desks.items; issued = inside.issued } in
    let f : BatchFits g.St.Store.Prepares room0 q ns ks = subst (λ (x : AtRoom _). BatchFits g.St.Store.Prepares x q ns ks) (sym c.self.view_is) c.requires.fits in
    let r : IsReady o since room0 n k = subst (λ (x : AtRoom _). IsReady o since x n k) (sym c.self.view_is) c.requires.ready in
    let e = c.in_ok-told.ensures in
    let b1 = c.offer.new.self in
    let l : AtDesk = c.offer.new.desk in
    let p = c.offer.new.queue in
    let ms = c.offer.new.waiting.members.items in
    let from : ℕ = length c.steps-from.result.now in
    let from_is : from ≡ length b0.kept.steps = ap length c.steps-from.ensures in
    let h : IsServedFor g.J.Log b0 b1 k l q p ks ms text = subst (λ (x : Offered). IfAnswered x (IsServedFor g.J.Log b0 b1 k l q p ks ms text)) c.in-Answered.is e.answered in
    let more : List Step = k.waiting ++ step_of text h.ran.ran.0 h.ran.told ∷ [] in
    let gr = served_grows g.J.Log b0 b1 k l q p ks ms text c.args.stmt.now r.agree c.requires.may.line h in
    let stands = h.desk.agree.stands in
    let pen1 : AtPen = c.write_from.new.pen in
    let wrote : pen1 ≡ written_all n (drop from b1.kept.steps) pen0 = c.write_from.ensures ∙ ap (λ (ss : List Step). written_all n (drop from ss) pen0) c.steps.ensures in (
      room_grown g.T.Tag.note g.T.Tag.numbers o since inside.note pen0 b0.kept out inside.issued i.0 n k.session r.is_out r.carries r.keeps_none b1.kept more gr stands pen1 from from_is wrote,
      ap (λ (x : Kept). x.first_count) h.ran.ran.1.kept ∙ i.1,
      since_ran g.J.Log g.T.LogTag.log b0 b1 k l r.agree i.2 text h.ran,
      desks_grown g.T.Tag.note g.T.Tag.numbers o since inside.note pen0 b0.kept out inside.issued i.0 n k.session r.is_out r.carries r.keeps_none b1.kept more gr stands pen1 from from_is wrote inside.desks.items i.3,
      all_out g.T.Tag.note g.T.Tag.numbers o since inside.note pen0 b0.kept out inside.issued i.0 n k.session r.is_out r.carries r.keeps_none b1.kept more gr stands pen1 from from_is wrote g.T.Tag.stays i.4,
    )

pub invariant_of-self-in-Waits : goal.invariant_of-self-in-Waits
invariant_of-self-in-Waits g c =
    let inside = c.self.inside in
    let i = c.self.invariant in
    let o = g.T.Opened.opened in
    let since = g.T.Tag.since in
    let n : ℕ = c.args.number in
    let k : AtDesk = c.args.desk.now in
    let text : List ℕ = c.args.text in
    let out : List (ℕ × ℕ) = inside.out.items in
    let b0 = inside.board in
    let pen0 : AtPen = inside.pen in
    let ns : List ℕ = c.args.batch.now.numbers.items in
    let ks = c.args.batch.now.waiting.members.items in
    let q = c.args.batch.now.queue in
    let room0 : AtRoom _ = record { board = b0; pen = pen0; out = out; desks = inside.desks.items; issued = inside.issued } in
    let f : BatchFits g.St.Store.Prepares room0 q ns ks = subst (λ (x : AtRoom _). BatchFits g.St.Store.Prepares x q ns ks) (sym c.self.view_is) c.requires.fits in
    let r : IsReady o since room0 n k = subst (λ (x : AtRoom _). IsReady o since x n k) (sym c.self.view_is) c.requires.ready in
    let e = c.in_ok-told.ensures in
    let b1 = c.offer.new.self in
    let l : AtDesk = c.offer.new.desk in
    let p = c.offer.new.queue in
    let ms = c.offer.new.waiting.members.items in
    let from : ℕ = length c.steps-from.result.now in
    let from_is : from ≡ length b0.kept.steps = ap length c.steps-from.ensures in
    let h : Waits b0 b1 k l q p ks ms text = subst (λ (x : Offered). IfWaits x (Waits b0 b1 k l q p ks ms text)) c.in-Waits.is e.waits in
    let more : List Step = k.waiting in
    let gr = waiting_grows g.J.Log b0 b1 k l q p ks ms text c.args.stmt.now r.agree c.requires.may.line h in
    let stands = waiting_stands g.J.Log b0 b1 k l q p ks ms text c.args.stmt.now r.agree c.requires.may.line h in
    let pen1 : AtPen = c.write_from.new.pen in
    let wrote : pen1 ≡ written_all n (drop from b1.kept.steps) pen0 = c.write_from.ensures ∙ ap (λ (ss : List Step). written_all n (drop from ss) pen0) c.steps.ensures in
    let wait = waiting_members g.J.Log b0 b1 k l q p ks ms text c.args.stmt.now r.agree c.requires.may.line h in
    let left : c.leave.new.pen ≡ leaving text pen1 = c.leave.ensures.left ∙ ap (λ (x : List ℕ). leaving x pen1) (c.last_line-left.ensures (members_of ks) wait.0 wait.1 ∙ wait.3) in (
      left_room g.T.Tag.note g.T.Tag.numbers o since inside.note pen0 b0.kept out inside.issued i.0 n k.session r.is_out r.carries r.keeps_none b1.kept more gr stands pen1 from from_is wrote text c.leave.new.pen left,
      ap (λ (x : Kept). x.first_count) h.kept ∙ i.1,
      since_left g.J.Log g.T.LogTag.log b0 b1 k l r.agree i.2 h.kept h.log,
      left_desks g.T.Tag.note g.T.Tag.numbers o since inside.note pen0 b0.kept out inside.issued i.0 n k.session r.is_out r.carries r.keeps_none b1.kept more gr stands pen1 from from_is wrote text c.leave.new.pen left inside.desks.items i.3,
      subst (λ (ns : List (ℕ × ℕ)). AllOutIf g.T.Tag.stays ns out) (sym (left_noted g.T.Tag.note g.T.Tag.numbers o since inside.note pen0 b0.kept out inside.issued i.0 n k.session r.is_out r.carries r.keeps_none b1.kept more gr stands pen1 from from_is wrote text c.leave.new.pen left)) i.4,
    )

pub returns-in-Answered-clause-fits : goal.returns-in-Answered-clause-fits
returns-in-Answered-clause-fits g c =
    let inside = c.self.inside in
    let i = c.self.invariant in
    let o = g.T.Opened.opened in
    let since = g.T.Tag.since in
    let n : ℕ = c.args.number in
    let k : AtDesk = c.args.desk.now in
    let text : List ℕ = c.args.text in
    let out : List (ℕ × ℕ) = inside.out.items in
    let b0 = inside.board in
    let pen0 : AtPen = inside.pen in
    let ns : List ℕ = c.args.batch.now.numbers.items in
    let ks = c.args.batch.now.waiting.members.items in
    let q = c.args.batch.now.queue in
    let room0 : AtRoom _ = record { board = b0; pen = pen0; out = out; desks = inside.desks.items; issued = inside.issued } in
    let f : BatchFits g.St.Store.Prepares room0 q ns ks = subst (λ (x : AtRoom _). BatchFits g.St.Store.Prepares x q ns ks) (sym c.self.view_is) c.requires.fits in
    let r : IsReady o since room0 n k = subst (λ (x : AtRoom _). IsReady o since x n k) (sym c.self.view_is) c.requires.ready in
    let e = c.in_ok-told.ensures in
    let b1 = c.offer.new.self in
    let l : AtDesk = c.offer.new.desk in
    let p = c.offer.new.queue in
    let ms = c.offer.new.waiting.members.items in
    let from : ℕ = length c.steps-from.result.now in
    let from_is : from ≡ length b0.kept.steps = ap length c.steps-from.ensures in
    let h : IsServedFor g.J.Log b0 b1 k l q p ks ms text = subst (λ (x : Offered). IfAnswered x (IsServedFor g.J.Log b0 b1 k l q p ks ms text)) c.in-Answered.is e.answered in
    let more : List Step = k.waiting ++ step_of text h.ran.ran.0 h.ran.told ∷ [] in
    let gr = served_grows g.J.Log b0 b1 k l q p ks ms text c.args.stmt.now r.agree c.requires.may.line h in
    let stands = h.desk.agree.stands in
    let pen1 : AtPen = c.write_from.new.pen in
    let wrote : pen1 ≡ written_all n (drop from b1.kept.steps) pen0 = c.write_from.ensures ∙ ap (λ (ss : List Step). written_all n (drop from ss) pen0) c.steps.ensures in
    fits_grown g.T.Tag.note g.T.Tag.numbers o since inside.note pen0 b0.kept out inside.issued i.0 n k.session r.is_out r.carries r.keeps_none b1.kept more gr stands pen1 from from_is wrote g.St.Store.Prepares room0 (record { board = b1; pen = pen1; out = out; desks = inside.desks.items; issued = inside.issued }) q p ns ks ms f refl refl refl h.members c.offer.ensures.offered c.reserve.new.self.items c.reserve.ensures.items

pub returns-in-Waits-clause-fits : goal.returns-in-Waits-clause-fits
returns-in-Waits-clause-fits g c =
    let inside = c.self.inside in
    let i = c.self.invariant in
    let o = g.T.Opened.opened in
    let since = g.T.Tag.since in
    let n : ℕ = c.args.number in
    let k : AtDesk = c.args.desk.now in
    let text : List ℕ = c.args.text in
    let out : List (ℕ × ℕ) = inside.out.items in
    let b0 = inside.board in
    let pen0 : AtPen = inside.pen in
    let ns : List ℕ = c.args.batch.now.numbers.items in
    let ks = c.args.batch.now.waiting.members.items in
    let q = c.args.batch.now.queue in
    let room0 : AtRoom _ = record { board = b0; pen = pen0; out = out; desks = inside.desks.items; issued = inside.issued } in
    let f : BatchFits g.St.Store.Prepares room0 q ns ks = subst (λ (x : AtRoom _). BatchFits g.St.Store.Prepares x q ns ks) (sym c.self.view_is) c.requires.fits in
    let r : IsReady o since room0 n k = subst (λ (x : AtRoom _). IsReady o since x n k) (sym c.self.view_is) c.requires.ready in
    let e = c.in_ok-told.ensures in
    let b1 = c.offer.new.self in
    let l : AtDesk = c.offer.new.desk in
    let p = c.offer.new.queue in
    let ms = c.offer.new.waiting.members.items in
    let from : ℕ = length c.steps-from.result.now in
    let from_is : from ≡ length b0.kept.steps = ap length c.steps-from.ensures in
    let h : Waits b0 b1 k l q p ks ms text = subst (λ (x : Offered). IfWaits x (Waits b0 b1 k l q p ks ms text)) c.in-Waits.is e.waits in
    let more : List Step = k.waiting in
    let gr = waiting_grows g.J.Log b0 b1 k l q p ks ms text c.args.stmt.now r.agree c.requires.may.line h in
    let stands = waiting_stands g.J.Log b0 b1 k l q p ks ms text c.args.stmt.now r.agree c.requires.may.line h in
    let pen1 : AtPen = c.write_from.new.pen in
    let wrote : pen1 ≡ written_all n (drop from b1.kept.steps) pen0 = c.write_from.ensures ∙ ap (λ (ss : List Step). written_all n (drop from ss) pen0) c.steps.ensures in
    let wait = waiting_members g.J.Log b0 b1 k l q p ks ms text c.args.stmt.now r.agree c.requires.may.line h in
    let left : c.leave.new.pen ≡ leaving text pen1 = c.leave.ensures.left ∙ ap (λ (x : List ℕ). leaving x pen1) (c.last_line-left.ensures (members_of ks) wait.0 wait.1 ∙ wait.3) in
    let pushed : c.push_reserved.new.self.items ≡ ns ++ n ∷ [] = c.push_reserved.ensures.items ∙ ap (λ (x : List ℕ). x ++ n ∷ []) c.reserve.ensures.items in
    fits_left g.T.Tag.note g.T.Tag.numbers o since inside.note pen0 b0.kept out inside.issued i.0 n k.session r.is_out r.carries r.keeps_none b1.kept more gr stands pen1 from from_is wrote text c.leave.new.pen left g.St.Store.Prepares room0 (record { board = b1; pen = c.leave.new.pen; out = out; desks = inside.desks.items; issued = inside.issued }) q p ns ks ms f refl refl refl refl wait.0 wait.1 wait.2 wait.3 c.offer.ensures.offered c.push_reserved.new.self.items pushed

pub returns-in-Answered-clause-ready : goal.returns-in-Answered-clause-ready
returns-in-Answered-clause-ready g c =
    let inside = c.self.inside in
    let i = c.self.invariant in
    let o = g.T.Opened.opened in
    let since = g.T.Tag.since in
    let n : ℕ = c.args.number in
    let k : AtDesk = c.args.desk.now in
    let text : List ℕ = c.args.text in
    let out : List (ℕ × ℕ) = inside.out.items in
    let b0 = inside.board in
    let pen0 : AtPen = inside.pen in
    let ns : List ℕ = c.args.batch.now.numbers.items in
    let ks = c.args.batch.now.waiting.members.items in
    let q = c.args.batch.now.queue in
    let room0 : AtRoom _ = record { board = b0; pen = pen0; out = out; desks = inside.desks.items; issued = inside.issued } in
    let f : BatchFits g.St.Store.Prepares room0 q ns ks = subst (λ (x : AtRoom _). BatchFits g.St.Store.Prepares x q ns ks) (sym c.self.view_is) c.requires.fits in
    let r : IsReady o since room0 n k = subst (λ (x : AtRoom _). IsReady o since x n k) (sym c.self.view_is) c.requires.ready in
    let e = c.in_ok-told.ensures in
    let b1 = c.offer.new.self in
    let l : AtDesk = c.offer.new.desk in
    let p = c.offer.new.queue in
    let ms = c.offer.new.waiting.members.items in
    let from : ℕ = length c.steps-from.result.now in
    let from_is : from ≡ length b0.kept.steps = ap length c.steps-from.ensures in
    let h : IsServedFor g.J.Log b0 b1 k l q p ks ms text = subst (λ (x : Offered). IfAnswered x (IsServedFor g.J.Log b0 b1 k l q p ks ms text)) c.in-Answered.is e.answered in
    let more : List Step = k.waiting ++ step_of text h.ran.ran.0 h.ran.told ∷ [] in
    let gr = served_grows g.J.Log b0 b1 k l q p ks ms text c.args.stmt.now r.agree c.requires.may.line h in
    let stands = h.desk.agree.stands in
    let pen1 : AtPen = c.write_from.new.pen in
    let wrote : pen1 ≡ written_all n (drop from b1.kept.steps) pen0 = c.write_from.ensures ∙ ap (λ (ss : List Step). written_all n (drop from ss) pen0) c.steps.ensures in
    ready_now g.T.Tag.note g.T.Tag.numbers o since inside.note pen0 b0.kept out inside.issued i.0 n k.session r.is_out r.carries r.keeps_none b1.kept more gr stands pen1 from from_is wrote (record { board = b1; pen = pen1; out = out; desks = inside.desks.items; issued = inside.issued }) l refl refl refl h.desk.session_is h.desk.agree r.since_is

pub returns-in-Waits-clause-waits : goal.returns-in-Waits-clause-waits
returns-in-Waits-clause-waits g c =
    let inside = c.self.inside in
    let i = c.self.invariant in
    let o = g.T.Opened.opened in
    let since = g.T.Tag.since in
    let n : ℕ = c.args.number in
    let k : AtDesk = c.args.desk.now in
    let text : List ℕ = c.args.text in
    let out : List (ℕ × ℕ) = inside.out.items in
    let b0 = inside.board in
    let pen0 : AtPen = inside.pen in
    let ns : List ℕ = c.args.batch.now.numbers.items in
    let ks = c.args.batch.now.waiting.members.items in
    let q = c.args.batch.now.queue in
    let room0 : AtRoom _ = record { board = b0; pen = pen0; out = out; desks = inside.desks.items; issued = inside.issued } in
    let f : BatchFits g.St.Store.Prepares room0 q ns ks = subst (λ (x : AtRoom _). BatchFits g.St.Store.Prepares x q ns ks) (sym c.self.view_is) c.requires.fits in
    let r : IsReady o since room0 n k = subst (λ (x : AtRoom _). IsReady o since x n k) (sym c.self.view_is) c.requires.ready in
    let e = c.in_ok-told.ensures in
    let b1 = c.offer.new.self in
    let l : AtDesk = c.offer.new.desk in
    let p = c.offer.new.queue in
    let ms = c.offer.new.waiting.members.items in
    let from : ℕ = length c.steps-from.result.now in
    let from_is : from ≡ length b0.kept.steps = ap length c.steps-from.ensures in
    let h : Waits b0 b1 k l q p ks ms text = subst (λ (x : Offered). IfWaits x (Waits b0 b1 k l q p ks ms text)) c.in-Waits.is e.waits in
    let more : List Step = k.waiting in
    let gr = waiting_grows g.J.Log b0 b1 k l q p ks ms text c.args.stmt.now r.agree c.requires.may.line h in
    let stands = waiting_stands g.J.Log b0 b1 k l q p ks ms text c.args.stmt.now r.agree c.requires.may.line h in
    let pen1 : AtPen = c.write_from.new.pen in
    let wrote : pen1 ≡ written_all n (drop from b1.kept.steps) pen0 = c.write_from.ensures ∙ ap (λ (ss : List Step). written_all n (drop from ss) pen0) c.steps.ensures in
    let wait = waiting_members g.J.Log b0 b1 k l q p ks ms text c.args.stmt.now r.agree c.requires.may.line h in
    let left : c.leave.new.pen ≡ leaving text pen1 = c.leave.ensures.left ∙ ap (λ (x : List ℕ). leaving x pen1) (c.last_line-left.ensures (members_of ks) wait.0 wait.1 ∙ wait.3) in
    let pen_is : pen0 ≡ c.args.self.now.pen = ap (λ (x : AtRoom _). x.pen) c.self.view_is in
    record {
      lines = left_lines g.T.Tag.note g.T.Tag.numbers o since inside.note pen0 b0.kept out inside.issued i.0 n k.session r.is_out r.carries r.keeps_none b1.kept more gr stands pen1 from from_is wrote text c.leave.new.pen left ∙ ap (λ (x : AtPen). x.lines ++ lines_of n k.waiting) pen_is;
      carries = left_carries g.T.Tag.note g.T.Tag.numbers o since inside.note pen0 b0.kept out inside.issued i.0 n k.session r.is_out r.carries r.keeps_none b1.kept more gr stands pen1 from from_is wrote text c.leave.new.pen left;
      left = left_line g.T.Tag.note g.T.Tag.numbers o since inside.note pen0 b0.kept out inside.issued i.0 n k.session r.is_out r.carries r.keeps_none b1.kept more gr stands pen1 from from_is wrote text c.leave.new.pen left;
      desk = h.desk;
      after = subst (λ (x : State × List Step). AgreesAfter x.0 (saids x.1) text l) (λ j. (opening_now g.T.Tag.note g.T.Tag.numbers o since inside.note pen0 b0.kept out inside.issued i.0 n k.session r.is_out r.carries r.keeps_none b1.kept more gr stands pen1 from from_is wrote j, (left_room g.T.Tag.note g.T.Tag.numbers o since inside.note pen0 b0.kept out inside.issued i.0 n k.session r.is_out r.carries r.keeps_none b1.kept more gr stands pen1 from from_is wrote text c.leave.new.pen left).steps_are j))
          (ticketed_agrees g.St.Store.Prepares b1.ready b0 b1 k l q p ks ms text r.agree h c.offer.ensures.offered);
    }

pub returns-in-SettleFirst-clause-first : goal.returns-in-SettleFirst-clause-first
returns-in-SettleFirst-clause-first g c =
    let inside = c.self.inside in
    let i = c.self.invariant in
    let o = g.T.Opened.opened in
    let since = g.T.Tag.since in
    let n : ℕ = c.args.number in
    let k : AtDesk = c.args.desk.now in
    let text : List ℕ = c.args.text in
    let out : List (ℕ × ℕ) = inside.out.items in
    let b0 = inside.board in
    let pen0 : AtPen = inside.pen in
    let ns : List ℕ = c.args.batch.now.numbers.items in
    let ks = c.args.batch.now.waiting.members.items in
    let q = c.args.batch.now.queue in
    let room0 : AtRoom _ = record { board = b0; pen = pen0; out = out; desks = inside.desks.items; issued = inside.issued } in
    let f : BatchFits g.St.Store.Prepares room0 q ns ks = subst (λ (x : AtRoom _). BatchFits g.St.Store.Prepares x q ns ks) (sym c.self.view_is) c.requires.fits in
    let r : IsReady o since room0 n k = subst (λ (x : AtRoom _). IsReady o since x n k) (sym c.self.view_is) c.requires.ready in
    let e = c.in_ok-told.ensures in
    let b1 = c.offer.new.self in
    let l : AtDesk = c.offer.new.desk in
    let p = c.offer.new.queue in
    let ms = c.offer.new.waiting.members.items in
    let from : ℕ = length c.steps-from.result.now in
    let from_is : from ≡ length b0.kept.steps = ap length c.steps-from.ensures in
    let h : IsUntouched b0 b1 k l q p ks ms = subst (λ (x : Offered). IfFirst x (IsUntouched b0 b1 k l q p ks ms)) c.in-SettleFirst.is e.first in
    let more : List Step = [] in
    let gr = first_grows g.J.Log b0 b1 k l q p ks ms text c.args.stmt.now r.agree c.requires.may.line h in
    let stands = first_stands g.J.Log b0 b1 k l q p ks ms text c.args.stmt.now r.agree c.requires.may.line h in
    let pen1 : AtPen = c.write_from.new.pen in
    let wrote : pen1 ≡ written_all n (drop from b1.kept.steps) pen0 = c.write_from.ensures ∙ ap (λ (ss : List Step). written_all n (drop from ss) pen0) c.steps.ensures in
    let pen_same : pen1 ≡ pen0 = wrote ∙ ap (λ (ss : List Step). written_all n ss pen0) (rest_is g.T.Tag.note g.T.Tag.numbers o since inside.note pen0 b0.kept out inside.issued i.0 n k.session r.is_out r.carries r.keeps_none b1.kept more gr stands from from_is) in
    let first : settles_first b0.kept k text c.args.stmt.now q (members_of ks) ≡ true = subst (λ (x : Offered). IsRightly x (settles_first b0.kept k text c.args.stmt.now q (members_of ks)) (call_now (entered b0.kept k) text)) c.in-SettleFirst.is e.which in
    record {
      room = (λ j. record { board = h.board j; pen = pen_same j; out = out; desks = inside.desks.items; issued = inside.issued }) ∙ c.self.view_is;
      desk = h.desk;
      some_wait = λ none. false≢true (sym (ap (settles_first b0.kept k text c.args.stmt.now q) none) ∙ first);
    }

pub returns-in-Answered-clause-answered : goal.returns-in-Answered-clause-answered
returns-in-Answered-clause-answered g c =
    let inside = c.self.inside in
    let i = c.self.invariant in
    let o = g.T.Opened.opened in
    let since = g.T.Tag.since in
    let n : ℕ = c.args.number in
    let k : AtDesk = c.args.desk.now in
    let text : List ℕ = c.args.text in
    let out : List (ℕ × ℕ) = inside.out.items in
    let b0 = inside.board in
    let pen0 : AtPen = inside.pen in
    let ns : List ℕ = c.args.batch.now.numbers.items in
    let ks = c.args.batch.now.waiting.members.items in
    let q = c.args.batch.now.queue in
    let room0 : AtRoom _ = record { board = b0; pen = pen0; out = out; desks = inside.desks.items; issued = inside.issued } in
    let f : BatchFits g.St.Store.Prepares room0 q ns ks = subst (λ (x : AtRoom _). BatchFits g.St.Store.Prepares x q ns ks) (sym c.self.view_is) c.requires.fits in
    let r : IsReady o since room0 n k = subst (λ (x : AtRoom _). IsReady o since x n k) (sym c.self.view_is) c.requires.ready in
    let e = c.in_ok-told.ensures in
    let b1 = c.offer.new.self in
    let l : AtDesk = c.offer.new.desk in
    let p = c.offer.new.queue in
    let ms = c.offer.new.waiting.members.items in
    let from : ℕ = length c.steps-from.result.now in
    let from_is : from ≡ length b0.kept.steps = ap length c.steps-from.ensures in
    let h : IsServedFor g.J.Log b0 b1 k l q p ks ms text = subst (λ (x : Offered). IfAnswered x (IsServedFor g.J.Log b0 b1 k l q p ks ms text)) c.in-Answered.is e.answered in
    let more : List Step = k.waiting ++ step_of text h.ran.ran.0 h.ran.told ∷ [] in
    let gr = served_grows g.J.Log b0 b1 k l q p ks ms text c.args.stmt.now r.agree c.requires.may.line h in
    let stands = h.desk.agree.stands in
    let pen1 : AtPen = c.write_from.new.pen in
    let wrote : pen1 ≡ written_all n (drop from b1.kept.steps) pen0 = c.write_from.ensures ∙ ap (λ (ss : List Step). written_all n (drop from ss) pen0) c.steps.ensures in
    let pen_is : pen0 ≡ c.args.self.now.pen = ap (λ (x : AtRoom _). x.pen) c.self.view_is in
    let board_is : b0.kept ≡ c.args.self.now.board.kept = ap (λ (x : AtRoom _). x.board.kept) c.self.view_is in
    record {
      reply = h.ran.told;
      failed = h.ran.ran.0;
      answered = subst (λ (x : Kept). IsAnswered (entered x k) b1.kept text h.ran.ran.0 h.ran.told) board_is h.ran.ran.1;
      lines = lines_now g.T.Tag.note g.T.Tag.numbers o since inside.note pen0 b0.kept out inside.issued i.0 n k.session r.is_out r.carries r.keeps_none b1.kept more gr stands pen1 from from_is wrote ∙ ap (λ (x : AtPen). x.lines ++ lines_of n more) pen_is;
      session = h.desk.session_is;
      none = h.none;
    }

pub returns-in_err-told-clause-failed : goal.returns-in_err-told-clause-failed
returns-in_err-told-clause-failed g c =
    let inside = c.self.inside in
    let i = c.self.invariant in
    let o = g.T.Opened.opened in
    let since = g.T.Tag.since in
    let n : ℕ = c.args.number in
    let k : AtDesk = c.args.desk.now in
    let text : List ℕ = c.args.text in
    let out : List (ℕ × ℕ) = inside.out.items in
    let b0 = inside.board in
    let pen0 : AtPen = inside.pen in
    let ns : List ℕ = c.args.batch.now.numbers.items in
    let ks = c.args.batch.now.waiting.members.items in
    let q = c.args.batch.now.queue in
    let room0 : AtRoom _ = record { board = b0; pen = pen0; out = out; desks = inside.desks.items; issued = inside.issued } in
    let f : BatchFits g.St.Store.Prepares room0 q ns ks = subst (λ (x : AtRoom _). BatchFits g.St.Store.Prepares x q ns ks) (sym c.self.view_is) c.requires.fits in
    let r : IsReady o since room0 n k = subst (λ (x : AtRoom _). IsReady o since x n k) (sym c.self.view_is) c.requires.ready in
    let err = c.in_err-told.ensures.err in
    let l : AtDesk = c.offer.new.desk in
    let same : l.session ≡ k.session = ap (λ (d : AtDesk). d.session) err.desk.desk in
    on_err c.from_residual-in_err-told.result _ (record {
      pen = ap (λ (x : AtRoom _). x.pen) c.self.view_is;
      desk = err.desk.desk;
      ready = ready_still o since n room0 (record room0 { board = c.offer.new.self }) k l r (ap (λ (x : Logged _). x.kept) err.board) refl refl same (agree_same b0.kept k l r.agree err.desk.desk err.desk.same);
    })

pub invariant_of-self : goal.invariant_of-self
invariant_of-self g c =
    let inside = c.self.inside in
    let i = c.self.invariant in
    let o = g.T.Opened.opened in
    let since = g.T.Tag.since in
    let n : ℕ = c.args.number in
    let k : AtDesk = c.args.desk.now in
    let text : List ℕ = c.args.text in
    let out : List (ℕ × ℕ) = inside.out.items in
    let b0 = inside.board in
    let pen0 : AtPen = inside.pen in
    let ns : List ℕ = c.args.batch.now.numbers.items in
    let ks = c.args.batch.now.waiting.members.items in
    let q = c.args.batch.now.queue in
    let room0 : AtRoom _ = record { board = b0; pen = pen0; out = out; desks = inside.desks.items; issued = inside.issued } in
    let f : BatchFits g.St.Store.Prepares room0 q ns ks = subst (λ (x : AtRoom _). BatchFits g.St.Store.Prepares x q ns ks) (sym c.self.view_is) c.requires.fits in
    let r : IsReady o since room0 n k = subst (λ (x : AtRoom _). IsReady o since x n k) (sym c.self.view_is) c.requires.ready in
    let err = c.in_err-told.ensures.err in (
      subst (λ (x : Logged _). RoomFits g.T.Tag.note g.T.Tag.numbers o since inside.note pen0 x.kept out inside.issued) (sym err.board) i.0,
      ap (λ (x : Logged _). x.kept.first_count) err.board ∙ i.1,
      subst (λ (x : Logged _). StoresSince g.J.Log g.T.LogTag.log x) (sym err.board) i.2,
      subst (λ (x : Logged _). DesksFit x.kept pen0.noted out inside.desks.items) (sym err.board) i.3,
      i.4,
    )

pub returns-in-SettleFirst-clause-back : goal.returns-in-SettleFirst-clause-back
returns-in-SettleFirst-clause-back g c = subst (λ (x : Offered). GivesBack x c.args.text) c.in-SettleFirst.is c.in_ok-told.ensures.back

pub last_line-left-requires : goal.last_line-left-requires
last_line-left-requires g c =
    let b0 = c.self.inside.board in
    let b1 = c.offer.new.self in
    let k : AtDesk = c.args.desk.now in
    let l : AtDesk = c.offer.new.desk in
    let q = c.args.batch.now.queue in
    let p = c.offer.new.queue in
    let ks = c.args.batch.now.waiting.members.items in
    let ms = c.offer.new.waiting.members.items in
    let text : List ℕ = c.args.text in
    let h : Waits b0 b1 k l q p ks ms text = subst (λ (x : Offered). IfWaits x (Waits b0 b1 k l q p ks ms text)) c.in-Waits.is c.in_ok-told.ensures.waits in
    some_last ks h.member ms h.members
