use Rattle.std.proofs.Common.{ℕ, List, ap, subst}
use Rattle.db_core.specs.declared.offer.Offered.{Offered}
use Rattle.db_core.specs.Desk.{AtDesk}
use Rattle.db_core.specs.Waiting.{members_of}
use Rattle.db_core.specs.Offers.{IfFirst, IfAnswered, IfWaits}
use Rattle.db_hub.specs.Rooms.{AtRoom}
use Rattle.db_hub.specs.Served.{IsReady, UnlessWaits, SettlesFirst, AnswersNow, LeavesLine}
use Rattle.db_hub.proofs.room.Room.offer_alone.Goals as goal

pub unreachable-requires : goal.unreachable-requires
unreachable-requires g c =
    let r0 : AtRoom _ = c.args.self.now in
    let k : AtDesk = c.args.desk.now in
    let ms = members_of c.args.batch.now.waiting.members.items in
    let first : SettlesFirst r0 c.offer.new.self k c.offer.new.desk ms = subst (λ (x : Offered). IfFirst x (SettlesFirst r0 c.offer.new.self k c.offer.new.desk ms)) c.in-SettleFirst.is c.in_ok-offer.ensures.first in
    first.some_wait (ap members_of c.requires.none)

pub returns-in-Answered-clause-answered : goal.returns-in-Answered-clause-answered
returns-in-Answered-clause-answered g c = λ no.
    let r0 : AtRoom _ = c.args.self.now in
    let r1 : AtRoom _ = c.offer.new.self in
    let k : AtDesk = c.args.desk.now in
    let l : AtDesk = c.offer.new.desk in
    let n : ℕ = c.args.number in
    let text : List ℕ = c.args.text in (
      subst (λ (x : Offered). IfAnswered x (AnswersNow r0 r1 n k l text)) c.in-Answered.is c.in_ok-offer.ensures.answered,
      subst (λ (x : Offered). UnlessWaits x (IsReady g.T.Opened.opened g.T.Tag.since r1 n l)) c.in-Answered.is c.in_ok-offer.ensures.ready,
    )

pub returns-in-Answered-clause-session : goal.returns-in-Answered-clause-session
returns-in-Answered-clause-session g c =
    let r0 : AtRoom _ = c.args.self.now in
    let r1 : AtRoom _ = c.offer.new.self in
    let k : AtDesk = c.args.desk.now in
    let l : AtDesk = c.offer.new.desk in
    let n : ℕ = c.args.number in
    let text : List ℕ = c.args.text in
    let a : AnswersNow r0 r1 n k l text = subst (λ (x : Offered). IfAnswered x (AnswersNow r0 r1 n k l text)) c.in-Answered.is c.in_ok-offer.ensures.answered in
    a.session

pub returns-in-Waits-clause-waits : goal.returns-in-Waits-clause-waits
returns-in-Waits-clause-waits g c = λ yes.
    let r0 : AtRoom _ = c.args.self.now in
    let r1 : AtRoom _ = c.offer.new.self in
    let k : AtDesk = c.args.desk.now in
    let l : AtDesk = c.offer.new.desk in
    let n : ℕ = c.args.number in
    let text : List ℕ = c.args.text in
    subst (λ (x : Offered). IfWaits x (LeavesLine g.T.Opened.opened r0 r1 n k l text)) c.in-Waits.is c.in_ok-offer.ensures.waits

pub returns-in-Waits-clause-session : goal.returns-in-Waits-clause-session
returns-in-Waits-clause-session g c =
    let r0 : AtRoom _ = c.args.self.now in
    let r1 : AtRoom _ = c.offer.new.self in
    let k : AtDesk = c.args.desk.now in
    let l : AtDesk = c.offer.new.desk in
    let n : ℕ = c.args.number in
    let text : List ℕ = c.args.text in
    let a : LeavesLine g.T.Opened.opened r0 r1 n k l text = subst (λ (x : Offered). IfWaits x (LeavesLine g.T.Opened.opened r0 r1 n k l text)) c.in-Waits.is c.in_ok-offer.ensures.waits in
    ap (λ (d : AtDesk). d.session) a.desk
