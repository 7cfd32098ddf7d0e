use Rattle.std.proofs.Common.{◌≡◌, ◌∙◌, ℕ, List, Option, sym, ap, subst}
use Rattle.history_note.specs.Places.{IsNoted}
use Rattle.history_note.specs.Shown.{AtPass, carried_line}
use Rattle.db_core.specs.declared.offer.Offered.{Offered}
use Rattle.db_core.specs.Desk.{AtDesk}
use Rattle.db_core.specs.Waiting.{members_of}
use Rattle.db_core.specs.Offers.{IfFirst, GivesBack, IfAnswered, IfWaits}
use Rattle.db_hub.specs.Seats.{AtSeat, SeatVisited, SeatStays, seat_at}
use Rattle.db_hub.specs.Rooms.{AtRoom}
use Rattle.db_hub.specs.Served.{IsReady, IsTaken, IsGiven, IsAway, SeatLeaves, MayAsk, UnlessWaits, SettlesFirst, AnswersNow, LeavesLine}
use Rattle.db_hub.proofs.Standings.{desk_is}
use Rattle.db_hub.proofs.Asking.{free_line}
use Rattle.db_hub.proofs.Serving.{on_err, asks_ready, asks_fits, asks_here, asks_seat, asks_visited, asks_left, asks_carries, asks_stays}
use Rattle.db_hub.proofs.room.Room.ask.Goals as goal

pub offer-requires-clause-ready : goal.offer-requires-clause-ready
offer-requires-clause-ready g c =
    let o = g.T.Opened.opened in
    let since = g.T.Tag.since in
    let n : ℕ = c.seat.inside.number in
    let pass : Option AtPass = c.seat.inside.pass in
    let k : AtDesk = c.seat.inside.desk in
    let t : AtSeat = c.args.seat.now in
    let text : List ℕ = c.args.text in
    let w1 : AtRoom _ = c.args.self.now in
    let view = c.seat.view_is in
    let s0 : AtSeat = c.requires.taken.0 in
    let h0 : IsTaken o since w1 s0 t = c.requires.taken.1 in
    asks_ready o since w1 w1 n pass k t view k s0 h0

pub offer-requires-clause-may : goal.offer-requires-clause-may
offer-requires-clause-may g c =
    let o = g.T.Opened.opened in
    let since = g.T.Tag.since in
    let n : ℕ = c.seat.inside.number in
    let pass : Option AtPass = c.seat.inside.pass in
    let k : AtDesk = c.seat.inside.desk in
    let t : AtSeat = c.args.seat.now in
    let text : List ℕ = c.args.text in
    let w1 : AtRoom _ = c.args.self.now in
    let view = c.seat.view_is in
    let s0 : AtSeat = c.requires.taken.0 in
    let h0 : IsTaken o since w1 s0 t = c.requires.taken.1 in
    let k_is : k ≡ t.desk = sym (desk_is n pass k) ∙ ap (λ (x : AtSeat). x.desk) view in
    subst (λ (d : AtDesk). MayAsk d text c.args.stmt.now c.args.known.now) (sym k_is) c.requires.may

pub settle-requires-clause-free : goal.settle-requires-clause-free
settle-requires-clause-free g c =
    let o = g.T.Opened.opened in
    let since = g.T.Tag.since in
    let n : ℕ = c.seat.inside.number in
    let pass : Option AtPass = c.seat.inside.pass in
    let k : AtDesk = c.seat.inside.desk in
    let t : AtSeat = c.args.seat.now in
    let text : List ℕ = c.args.text in
    let w1 : AtRoom _ = c.args.self.now in
    let view = c.seat.view_is in
    let s0 : AtSeat = c.requires.taken.0 in
    let h0 : IsTaken o since w1 s0 t = c.requires.taken.1 in
    let ms = members_of c.args.batch.now.waiting.members.items in
    let first : SettlesFirst w1 c.offer.new.self k c.offer.new.desk ms = subst (λ (x : Offered). IfFirst x (SettlesFirst w1 c.offer.new.self k c.offer.new.desk ms)) c.in-SettleFirst.is c.in_ok-offer.ensures.first in
    let r : IsReady o since w1 n k = asks_ready o since w1 w1 n pass k t view k s0 h0 in
    ap (λ (x : AtRoom _). carried_line x.pen) first.room ∙ free_line w1.pen n k.session r.carries r.keeps_none

pub offer_alone-requires-clause-ready : goal.offer_alone-requires-clause-ready
offer_alone-requires-clause-ready g c =
    let o = g.T.Opened.opened in
    let since = g.T.Tag.since in
    let n : ℕ = c.seat.inside.number in
    let pass : Option AtPass = c.seat.inside.pass in
    let k : AtDesk = c.seat.inside.desk in
    let t : AtSeat = c.args.seat.now in
    let text : List ℕ = c.args.text in
    let w1 : AtRoom _ = c.args.self.now in
    let view = c.seat.view_is in
    let s0 : AtSeat = c.requires.taken.0 in
    let h0 : IsTaken o since w1 s0 t = c.requires.taken.1 in
    let ms = members_of c.args.batch.now.waiting.members.items in
    let first : SettlesFirst w1 c.offer.new.self k c.offer.new.desk ms = subst (λ (x : Offered). IfFirst x (SettlesFirst w1 c.offer.new.self k c.offer.new.desk ms)) c.in-SettleFirst.is c.in_ok-offer.ensures.first in
    let k1 : AtDesk = c.offer.new.desk in
    let view1 : seat_at n pass k1 ≡ t = ap (seat_at n pass) first.desk ∙ view in
    let w3 : AtRoom _ = c.settle.new.self in
    let move : (s : AtSeat) → IsTaken o since w1 s t → IsTaken o since w3 s t = λ s h. c.settle.ensures.taken s t (subst (λ (x : AtRoom _). IsTaken o since x s t) (sym first.room) h) in
    let h1 : IsTaken o since w3 s0 t = move s0 h0 in
    asks_ready o since w3 w3 n pass k1 t view1 k1 s0 h1

pub offer_alone-requires-clause-may : goal.offer_alone-requires-clause-may
offer_alone-requires-clause-may g c =
    let o = g.T.Opened.opened in
    let since = g.T.Tag.since in
    let n : ℕ = c.seat.inside.number in
    let pass : Option AtPass = c.seat.inside.pass in
    let k : AtDesk = c.seat.inside.desk in
    let t : AtSeat = c.args.seat.now in
    let text : List ℕ = c.args.text in
    let w1 : AtRoom _ = c.args.self.now in
    let view = c.seat.view_is in
    let s0 : AtSeat = c.requires.taken.0 in
    let h0 : IsTaken o since w1 s0 t = c.requires.taken.1 in
    let ms = members_of c.args.batch.now.waiting.members.items in
    let first : SettlesFirst w1 c.offer.new.self k c.offer.new.desk ms = subst (λ (x : Offered). IfFirst x (SettlesFirst w1 c.offer.new.self k c.offer.new.desk ms)) c.in-SettleFirst.is c.in_ok-offer.ensures.first in
    let k1 : AtDesk = c.offer.new.desk in
    let view1 : seat_at n pass k1 ≡ t = ap (seat_at n pass) first.desk ∙ view in
    let w3 : AtRoom _ = c.settle.new.self in
    let move : (s : AtSeat) → IsTaken o since w1 s t → IsTaken o since w3 s t = λ s h. c.settle.ensures.taken s t (subst (λ (x : AtRoom _). IsTaken o since x s t) (sym first.room) h) in
    let h1 : IsTaken o since w3 s0 t = move s0 h0 in
    let k_is : k ≡ t.desk = sym (desk_is n pass k) ∙ ap (λ (x : AtSeat). x.desk) view in
    let back : c.in-SettleFirst.text ≡ text = subst (λ (x : Offered). GivesBack x text) c.in-SettleFirst.is c.in_ok-offer.ensures.back in
    subst (λ (x : AtDesk × List ℕ). MayAsk x.0 x.1 c.args.stmt.now c.args.known.now) (λ j. (sym (first.desk ∙ k_is) j, sym back j)) c.requires.may

pub invariant_of-seat-in-Answered : goal.invariant_of-seat-in-Answered
invariant_of-seat-in-Answered g c =
    let o = g.T.Opened.opened in
    let since = g.T.Tag.since in
    let n : ℕ = c.seat.inside.number in
    let pass : Option AtPass = c.seat.inside.pass in
    let k : AtDesk = c.seat.inside.desk in
    let t : AtSeat = c.args.seat.now in
    let text : List ℕ = c.args.text in
    let w1 : AtRoom _ = c.args.self.now in
    let view = c.seat.view_is in
    let s0 : AtSeat = c.requires.taken.0 in
    let h0 : IsTaken o since w1 s0 t = c.requires.taken.1 in
    let w2 : AtRoom _ = c.offer.new.self in
    let l : AtDesk = c.offer.new.desk in
    let a : AnswersNow w1 w2 n k l text = subst (λ (x : Offered). IfAnswered x (AnswersNow w1 w2 n k l text)) c.in-Answered.is c.in_ok-offer.ensures.answered in
    asks_fits o since w1 w2 n pass k t view l g.T.Tag.note g.T.Tag.numbers s0 h0 c.seat.invariant.0 a.session

pub invariant_of-seat-in-Waits : goal.invariant_of-seat-in-Waits
invariant_of-seat-in-Waits g c =
    let o = g.T.Opened.opened in
    let since = g.T.Tag.since in
    let n : ℕ = c.seat.inside.number in
    let pass : Option AtPass = c.seat.inside.pass in
    let k : AtDesk = c.seat.inside.desk in
    let t : AtSeat = c.args.seat.now in
    let text : List ℕ = c.args.text in
    let w1 : AtRoom _ = c.args.self.now in
    let view = c.seat.view_is in
    let s0 : AtSeat = c.requires.taken.0 in
    let h0 : IsTaken o since w1 s0 t = c.requires.taken.1 in
    let w2 : AtRoom _ = c.offer.new.self in
    let l : AtDesk = c.offer.new.desk in
    let a : LeavesLine o w1 w2 n k l text = subst (λ (x : Offered). IfWaits x (LeavesLine o w1 w2 n k l text)) c.in-Waits.is c.in_ok-offer.ensures.waits in
    asks_fits o since w1 w2 n pass k t view l g.T.Tag.note g.T.Tag.numbers s0 h0 c.seat.invariant.0 (ap (λ (d : AtDesk). d.session) a.desk)

pub invariant_of-seat : goal.invariant_of-seat
invariant_of-seat g c =
    let o = g.T.Opened.opened in
    let since = g.T.Tag.since in
    let n : ℕ = c.seat.inside.number in
    let pass : Option AtPass = c.seat.inside.pass in
    let k : AtDesk = c.seat.inside.desk in
    let t : AtSeat = c.args.seat.now in
    let text : List ℕ = c.args.text in
    let w1 : AtRoom _ = c.args.self.now in
    let view = c.seat.view_is in
    let s0 : AtSeat = c.requires.taken.0 in
    let h0 : IsTaken o since w1 s0 t = c.requires.taken.1 in
    let w2 : AtRoom _ = c.offer.new.self in
    let l : AtDesk = c.offer.new.desk in
    asks_fits o since w1 w2 n pass k t view l g.T.Tag.note g.T.Tag.numbers s0 h0 c.seat.invariant.0 (ap (λ (d : AtDesk). d.session) c.in_err-offer.ensures.failed.desk)

pub returns-in-Answered-clause-served : goal.returns-in-Answered-clause-served
returns-in-Answered-clause-served g c =
    let o = g.T.Opened.opened in
    let since = g.T.Tag.since in
    let n : ℕ = c.seat.inside.number in
    let pass : Option AtPass = c.seat.inside.pass in
    let k : AtDesk = c.seat.inside.desk in
    let t : AtSeat = c.args.seat.now in
    let text : List ℕ = c.args.text in
    let w1 : AtRoom _ = c.args.self.now in
    let view = c.seat.view_is in
    let s0 : AtSeat = c.requires.taken.0 in
    let h0 : IsTaken o since w1 s0 t = c.requires.taken.1 in
    let w2 : AtRoom _ = c.offer.new.self in
    let l : AtDesk = c.offer.new.desk in
    let a : AnswersNow w1 w2 n k l text = subst (λ (x : Offered). IfAnswered x (AnswersNow w1 w2 n k l text)) c.in-Answered.is c.in_ok-offer.ensures.answered in
    let r : IsReady o since w2 n l = subst (λ (x : Offered). UnlessWaits x (IsReady o since w2 n l)) c.in-Answered.is c.in_ok-offer.ensures.ready in
    λ yes. asks_visited o since w1 w2 n pass k t view l text a r

pub returns-in-Answered-clause-here : goal.returns-in-Answered-clause-here
returns-in-Answered-clause-here g c =
    let o = g.T.Opened.opened in
    let since = g.T.Tag.since in
    let n : ℕ = c.seat.inside.number in
    let pass : Option AtPass = c.seat.inside.pass in
    let k : AtDesk = c.seat.inside.desk in
    let t : AtSeat = c.args.seat.now in
    let text : List ℕ = c.args.text in
    let w1 : AtRoom _ = c.args.self.now in
    let view = c.seat.view_is in
    let s0 : AtSeat = c.requires.taken.0 in
    let h0 : IsTaken o since w1 s0 t = c.requires.taken.1 in
    let w2 : AtRoom _ = c.offer.new.self in
    let l : AtDesk = c.offer.new.desk in
    let r : IsReady o since w2 n l = subst (λ (x : Offered). UnlessWaits x (IsReady o since w2 n l)) c.in-Answered.is c.in_ok-offer.ensures.ready in
    λ yes. asks_here o since w1 w2 n pass k t view l s0 h0 r

pub returns-in-Answered-clause-seat : goal.returns-in-Answered-clause-seat
returns-in-Answered-clause-seat g c =
    let o = g.T.Opened.opened in
    let since = g.T.Tag.since in
    let n : ℕ = c.seat.inside.number in
    let pass : Option AtPass = c.seat.inside.pass in
    let k : AtDesk = c.seat.inside.desk in
    let t : AtSeat = c.args.seat.now in
    let text : List ℕ = c.args.text in
    let w1 : AtRoom _ = c.args.self.now in
    let view = c.seat.view_is in
    let s0 : AtSeat = c.requires.taken.0 in
    let h0 : IsTaken o since w1 s0 t = c.requires.taken.1 in
    let w2 : AtRoom _ = c.offer.new.self in
    let l : AtDesk = c.offer.new.desk in
    asks_seat o since w1 w2 n pass k t view l s0 h0

pub returns-in-Waits-clause-left : goal.returns-in-Waits-clause-left
returns-in-Waits-clause-left g c =
    let o = g.T.Opened.opened in
    let since = g.T.Tag.since in
    let n : ℕ = c.seat.inside.number in
    let pass : Option AtPass = c.seat.inside.pass in
    let k : AtDesk = c.seat.inside.desk in
    let t : AtSeat = c.args.seat.now in
    let text : List ℕ = c.args.text in
    let w1 : AtRoom _ = c.args.self.now in
    let view = c.seat.view_is in
    let s0 : AtSeat = c.requires.taken.0 in
    let h0 : IsTaken o since w1 s0 t = c.requires.taken.1 in
    let w2 : AtRoom _ = c.offer.new.self in
    let l : AtDesk = c.offer.new.desk in
    let a : LeavesLine o w1 w2 n k l text = subst (λ (x : Offered). IfWaits x (LeavesLine o w1 w2 n k l text)) c.in-Waits.is c.in_ok-offer.ensures.waits in
    λ yes. asks_left o since w1 w2 n pass k t view l g.T.Tag.note text a

pub returns-in-Waits-clause-carries : goal.returns-in-Waits-clause-carries
returns-in-Waits-clause-carries g c =
    let o = g.T.Opened.opened in
    let since = g.T.Tag.since in
    let n : ℕ = c.seat.inside.number in
    let pass : Option AtPass = c.seat.inside.pass in
    let k : AtDesk = c.seat.inside.desk in
    let t : AtSeat = c.args.seat.now in
    let text : List ℕ = c.args.text in
    let w1 : AtRoom _ = c.args.self.now in
    let view = c.seat.view_is in
    let s0 : AtSeat = c.requires.taken.0 in
    let h0 : IsTaken o since w1 s0 t = c.requires.taken.1 in
    let w2 : AtRoom _ = c.offer.new.self in
    let l : AtDesk = c.offer.new.desk in
    let a : LeavesLine o w1 w2 n k l text = subst (λ (x : Offered). IfWaits x (LeavesLine o w1 w2 n k l text)) c.in-Waits.is c.in_ok-offer.ensures.waits in
    λ yes. asks_carries o since w1 w2 n pass k t view l text a s0 h0

pub returns-in-Waits-clause-seat : goal.returns-in-Waits-clause-seat
returns-in-Waits-clause-seat g c =
    let o = g.T.Opened.opened in
    let since = g.T.Tag.since in
    let n : ℕ = c.seat.inside.number in
    let pass : Option AtPass = c.seat.inside.pass in
    let k : AtDesk = c.seat.inside.desk in
    let t : AtSeat = c.args.seat.now in
    let text : List ℕ = c.args.text in
    let w1 : AtRoom _ = c.args.self.now in
    let view = c.seat.view_is in
    let s0 : AtSeat = c.requires.taken.0 in
    let h0 : IsTaken o since w1 s0 t = c.requires.taken.1 in
    let w2 : AtRoom _ = c.offer.new.self in
    let l : AtDesk = c.offer.new.desk in
    asks_seat o since w1 w2 n pass k t view l s0 h0

pub returns-in_err-offer-clause-failed : goal.returns-in_err-offer-clause-failed
returns-in_err-offer-clause-failed g c =
    let o = g.T.Opened.opened in
    let since = g.T.Tag.since in
    let n : ℕ = c.seat.inside.number in
    let pass : Option AtPass = c.seat.inside.pass in
    let k : AtDesk = c.seat.inside.desk in
    let t : AtSeat = c.args.seat.now in
    let text : List ℕ = c.args.text in
    let w1 : AtRoom _ = c.args.self.now in
    let view = c.seat.view_is in
    let s0 : AtSeat = c.requires.taken.0 in
    let h0 : IsTaken o since w1 s0 t = c.requires.taken.1 in
    let w2 : AtRoom _ = c.offer.new.self in
    let l : AtDesk = c.offer.new.desk in
    let a = c.in_err-offer.ensures.failed in
    on_err c.from_residual.result _ (asks_here o since w1 w2 n pass k t view l s0 h0 a.ready, asks_stays o since w1 w2 n pass k t view l a)

pub returns-in_err-offer-clause-seat : goal.returns-in_err-offer-clause-seat
returns-in_err-offer-clause-seat g c =
    let o = g.T.Opened.opened in
    let since = g.T.Tag.since in
    let n : ℕ = c.seat.inside.number in
    let pass : Option AtPass = c.seat.inside.pass in
    let k : AtDesk = c.seat.inside.desk in
    let t : AtSeat = c.args.seat.now in
    let text : List ℕ = c.args.text in
    let w1 : AtRoom _ = c.args.self.now in
    let view = c.seat.view_is in
    let s0 : AtSeat = c.requires.taken.0 in
    let h0 : IsTaken o since w1 s0 t = c.requires.taken.1 in
    let w2 : AtRoom _ = c.offer.new.self in
    let l : AtDesk = c.offer.new.desk in
    asks_seat o since w1 w2 n pass k t view l s0 h0

pub invariant_of-seat-in-SettleFirst : goal.invariant_of-seat-in-SettleFirst
invariant_of-seat-in-SettleFirst g c =
    let o = g.T.Opened.opened in
    let since = g.T.Tag.since in
    let n : ℕ = c.seat.inside.number in
    let pass : Option AtPass = c.seat.inside.pass in
    let k : AtDesk = c.seat.inside.desk in
    let t : AtSeat = c.args.seat.now in
    let text : List ℕ = c.args.text in
    let w1 : AtRoom _ = c.args.self.now in
    let view = c.seat.view_is in
    let s0 : AtSeat = c.requires.taken.0 in
    let h0 : IsTaken o since w1 s0 t = c.requires.taken.1 in
    let ms = members_of c.args.batch.now.waiting.members.items in
    let first : SettlesFirst w1 c.offer.new.self k c.offer.new.desk ms = subst (λ (x : Offered). IfFirst x (SettlesFirst w1 c.offer.new.self k c.offer.new.desk ms)) c.in-SettleFirst.is c.in_ok-offer.ensures.first in
    let k1 : AtDesk = c.offer.new.desk in
    let view1 : seat_at n pass k1 ≡ t = ap (seat_at n pass) first.desk ∙ view in
    let w3 : AtRoom _ = c.settle.new.self in
    let move : (s : AtSeat) → IsTaken o since w1 s t → IsTaken o since w3 s t = λ s h. c.settle.ensures.taken s t (subst (λ (x : AtRoom _). IsTaken o since x s t) (sym first.room) h) in
    let h1 : IsTaken o since w3 s0 t = move s0 h0 in
    let w4 : AtRoom _ = c.offer_alone.new.self in
    let l : AtDesk = c.offer_alone.new.desk in
    asks_fits o since w3 w4 n pass k1 t view1 l g.T.Tag.note g.T.Tag.numbers s0 h1 (subst (λ (d : AtDesk). IsNoted g.T.Tag.numbers n d.session) (sym first.desk) c.seat.invariant.0) c.in_ok-waits-in-SettleFirst.ensures.session

pub invariant_of-seat-in_err-waits-in-SettleFirst : goal.invariant_of-seat-in_err-waits-in-SettleFirst
invariant_of-seat-in_err-waits-in-SettleFirst g c =
    let o = g.T.Opened.opened in
    let since = g.T.Tag.since in
    let n : ℕ = c.seat.inside.number in
    let pass : Option AtPass = c.seat.inside.pass in
    let k : AtDesk = c.seat.inside.desk in
    let t : AtSeat = c.args.seat.now in
    let text : List ℕ = c.args.text in
    let w1 : AtRoom _ = c.args.self.now in
    let view = c.seat.view_is in
    let s0 : AtSeat = c.requires.taken.0 in
    let h0 : IsTaken o since w1 s0 t = c.requires.taken.1 in
    let ms = members_of c.args.batch.now.waiting.members.items in
    let first : SettlesFirst w1 c.offer.new.self k c.offer.new.desk ms = subst (λ (x : Offered). IfFirst x (SettlesFirst w1 c.offer.new.self k c.offer.new.desk ms)) c.in-SettleFirst.is c.in_ok-offer.ensures.first in
    let k1 : AtDesk = c.offer.new.desk in
    let view1 : seat_at n pass k1 ≡ t = ap (seat_at n pass) first.desk ∙ view in
    let w3 : AtRoom _ = c.settle.new.self in
    let move : (s : AtSeat) → IsTaken o since w1 s t → IsTaken o since w3 s t = λ s h. c.settle.ensures.taken s t (subst (λ (x : AtRoom _). IsTaken o since x s t) (sym first.room) h) in
    let h1 : IsTaken o since w3 s0 t = move s0 h0 in
    let w4 : AtRoom _ = c.offer_alone.new.self in
    let l : AtDesk = c.offer_alone.new.desk in
    asks_fits o since w3 w4 n pass k1 t view1 l g.T.Tag.note g.T.Tag.numbers s0 h1 (subst (λ (d : AtDesk). IsNoted g.T.Tag.numbers n d.session) (sym first.desk) c.seat.invariant.0) (ap (λ (d : AtDesk). d.session) c.in_err-waits-in-SettleFirst.ensures.failed.desk)

pub returns-in_ok-waits-in-SettleFirst-clause-served : goal.returns-in_ok-waits-in-SettleFirst-clause-served
returns-in_ok-waits-in-SettleFirst-clause-served g c =
    let o = g.T.Opened.opened in
    let since = g.T.Tag.since in
    let n : ℕ = c.seat.inside.number in
    let pass : Option AtPass = c.seat.inside.pass in
    let k : AtDesk = c.seat.inside.desk in
    let t : AtSeat = c.args.seat.now in
    let text : List ℕ = c.args.text in
    let w1 : AtRoom _ = c.args.self.now in
    let view = c.seat.view_is in
    let s0 : AtSeat = c.requires.taken.0 in
    let h0 : IsTaken o since w1 s0 t = c.requires.taken.1 in
    let ms = members_of c.args.batch.now.waiting.members.items in
    let first : SettlesFirst w1 c.offer.new.self k c.offer.new.desk ms = subst (λ (x : Offered). IfFirst x (SettlesFirst w1 c.offer.new.self k c.offer.new.desk ms)) c.in-SettleFirst.is c.in_ok-offer.ensures.first in
    let k1 : AtDesk = c.offer.new.desk in
    let view1 : seat_at n pass k1 ≡ t = ap (seat_at n pass) first.desk ∙ view in
    let w3 : AtRoom _ = c.settle.new.self in
    let move : (s : AtSeat) → IsTaken o since w1 s t → IsTaken o since w3 s t = λ s h. c.settle.ensures.taken s t (subst (λ (x : AtRoom _). IsTaken o since x s t) (sym first.room) h) in
    let h1 : IsTaken o since w3 s0 t = move s0 h0 in
    let w4 : AtRoom _ = c.offer_alone.new.self in
    let l : AtDesk = c.offer_alone.new.desk in
    let back : c.in-SettleFirst.text ≡ text = subst (λ (x : Offered). GivesBack x text) c.in-SettleFirst.is c.in_ok-offer.ensures.back in
    let a = c.in_ok-waits-in-SettleFirst.ensures.answered in
    λ no s v h given. subst (SeatVisited o s v) back (asks_visited o since w3 w4 n pass k1 t view1 l c.in-SettleFirst.text (a no).0 (a no).1 s v (move s h) given)

pub returns-in_ok-waits-in-SettleFirst-clause-left : goal.returns-in_ok-waits-in-SettleFirst-clause-left
returns-in_ok-waits-in-SettleFirst-clause-left g c =
    let o = g.T.Opened.opened in
    let since = g.T.Tag.since in
    let n : ℕ = c.seat.inside.number in
    let pass : Option AtPass = c.seat.inside.pass in
    let k : AtDesk = c.seat.inside.desk in
    let t : AtSeat = c.args.seat.now in
    let text : List ℕ = c.args.text in
    let w1 : AtRoom _ = c.args.self.now in
    let view = c.seat.view_is in
    let s0 : AtSeat = c.requires.taken.0 in
    let h0 : IsTaken o since w1 s0 t = c.requires.taken.1 in
    let ms = members_of c.args.batch.now.waiting.members.items in
    let first : SettlesFirst w1 c.offer.new.self k c.offer.new.desk ms = subst (λ (x : Offered). IfFirst x (SettlesFirst w1 c.offer.new.self k c.offer.new.desk ms)) c.in-SettleFirst.is c.in_ok-offer.ensures.first in
    let k1 : AtDesk = c.offer.new.desk in
    let view1 : seat_at n pass k1 ≡ t = ap (seat_at n pass) first.desk ∙ view in
    let w3 : AtRoom _ = c.settle.new.self in
    let move : (s : AtSeat) → IsTaken o since w1 s t → IsTaken o since w3 s t = λ s h. c.settle.ensures.taken s t (subst (λ (x : AtRoom _). IsTaken o since x s t) (sym first.room) h) in
    let h1 : IsTaken o since w3 s0 t = move s0 h0 in
    let w4 : AtRoom _ = c.offer_alone.new.self in
    let l : AtDesk = c.offer_alone.new.desk in
    let back : c.in-SettleFirst.text ≡ text = subst (λ (x : Offered). GivesBack x text) c.in-SettleFirst.is c.in_ok-offer.ensures.back in
    let u : AtSeat = seat_at n pass l in
    λ yes s p h to. subst (λ (x : List ℕ). SeatLeaves o s u p × IsAway g.T.Tag.note o since u.number u.desk x p) back (asks_left o since w3 w4 n pass k1 t view1 l g.T.Tag.note c.in-SettleFirst.text (c.in_ok-waits-in-SettleFirst.ensures.waits yes) s p (move s h) to)

pub returns-in_err-waits-in-SettleFirst-clause-failed : goal.returns-in_err-waits-in-SettleFirst-clause-failed
returns-in_err-waits-in-SettleFirst-clause-failed g c =
    let o = g.T.Opened.opened in
    let since = g.T.Tag.since in
    let n : ℕ = c.seat.inside.number in
    let pass : Option AtPass = c.seat.inside.pass in
    let k : AtDesk = c.seat.inside.desk in
    let t : AtSeat = c.args.seat.now in
    let text : List ℕ = c.args.text in
    let w1 : AtRoom _ = c.args.self.now in
    let view = c.seat.view_is in
    let s0 : AtSeat = c.requires.taken.0 in
    let h0 : IsTaken o since w1 s0 t = c.requires.taken.1 in
    let ms = members_of c.args.batch.now.waiting.members.items in
    let first : SettlesFirst w1 c.offer.new.self k c.offer.new.desk ms = subst (λ (x : Offered). IfFirst x (SettlesFirst w1 c.offer.new.self k c.offer.new.desk ms)) c.in-SettleFirst.is c.in_ok-offer.ensures.first in
    let k1 : AtDesk = c.offer.new.desk in
    let view1 : seat_at n pass k1 ≡ t = ap (seat_at n pass) first.desk ∙ view in
    let w3 : AtRoom _ = c.settle.new.self in
    let move : (s : AtSeat) → IsTaken o since w1 s t → IsTaken o since w3 s t = λ s h. c.settle.ensures.taken s t (subst (λ (x : AtRoom _). IsTaken o since x s t) (sym first.room) h) in
    let h1 : IsTaken o since w3 s0 t = move s0 h0 in
    let w4 : AtRoom _ = c.offer_alone.new.self in
    let l : AtDesk = c.offer_alone.new.desk in
    let a = c.in_err-waits-in-SettleFirst.ensures.failed in
    let stays : (s v : AtSeat) → IsTaken o since w1 s t → IsGiven w4.pen (seat_at n pass l) v → SeatStays s v = λ s v h. asks_stays o since w3 w4 n pass k1 t view1 l a s v (move s h) in
    on_err c.from_residual-in_err-waits-in-SettleFirst.result _ (asks_here o since w3 w4 n pass k1 t view1 l s0 h1 a.ready, stays)

pub returns-in_err-waits-in-SettleFirst-clause-seat : goal.returns-in_err-waits-in-SettleFirst-clause-seat
returns-in_err-waits-in-SettleFirst-clause-seat g c =
    let o = g.T.Opened.opened in
    let since = g.T.Tag.since in
    let n : ℕ = c.seat.inside.number in
    let pass : Option AtPass = c.seat.inside.pass in
    let k : AtDesk = c.seat.inside.desk in
    let t : AtSeat = c.args.seat.now in
    let text : List ℕ = c.args.text in
    let w1 : AtRoom _ = c.args.self.now in
    let view = c.seat.view_is in
    let s0 : AtSeat = c.requires.taken.0 in
    let h0 : IsTaken o since w1 s0 t = c.requires.taken.1 in
    let ms = members_of c.args.batch.now.waiting.members.items in
    let first : SettlesFirst w1 c.offer.new.self k c.offer.new.desk ms = subst (λ (x : Offered). IfFirst x (SettlesFirst w1 c.offer.new.self k c.offer.new.desk ms)) c.in-SettleFirst.is c.in_ok-offer.ensures.first in
    let k1 : AtDesk = c.offer.new.desk in
    let view1 : seat_at n pass k1 ≡ t = ap (seat_at n pass) first.desk ∙ view in
    let w3 : AtRoom _ = c.settle.new.self in
    let move : (s : AtSeat) → IsTaken o since w1 s t → IsTaken o since w3 s t = λ s h. c.settle.ensures.taken s t (subst (λ (x : AtRoom _). IsTaken o since x s t) (sym first.room) h) in
    let h1 : IsTaken o since w3 s0 t = move s0 h0 in
    let w4 : AtRoom _ = c.offer_alone.new.self in
    let l : AtDesk = c.offer_alone.new.desk in
    asks_seat o since w3 w4 n pass k1 t view1 l s0 h1
