use Rattle.std.proofs.Common.{◌<◌, ◌∙◌, ap, sym, subst, length}
use Rattle.plain_bits.specs.Truth.{bit_of}
use Rattle.record_page.specs.Page.{Rows}
use Rattle.hybrid_view.specs.Live.{Piece}
use Rattle.hybrid_view.proofs.WalkLemmas.{IsLeft, left_some}
use Rattle.hybrid_view.proofs.part.LivePart.find.Goals as goal

pub returns-then-live-clause-slot : goal.returns-then-live-clause-slot
returns-then-live-clause-slot c =
    (left_some c.args.self.now.rows.records (bit_of c.args.self.now.bits) c.args.key c.in-Some.slot
    (subst (IsLeft c.args.self.now.rows.records (bit_of c.args.self.now.bits) c.args.key) c.in-Some.is c.loop-at.invariant)).0

pub returns-then-live-clause-key : goal.returns-then-live-clause-key
returns-then-live-clause-key c =
    (left_some c.args.self.now.rows.records (bit_of c.args.self.now.bits) c.args.key c.in-Some.slot
    (subst (IsLeft c.args.self.now.rows.records (bit_of c.args.self.now.bits) c.args.key) c.in-Some.is c.loop-at.invariant)).1

pub before-at-requires : goal.before-at-requires
before-at-requires c =
    subst (λ (rows : Rows). c.in-Some.slot < length rows.records) (sym (c.deref-in-Some.ensures ∙ ap (λ (p : Piece). p.rows) c.self.view_is))
    (left_some c.args.self.now.rows.records (bit_of c.args.self.now.bits) c.args.key c.in-Some.slot
    (subst (IsLeft c.args.self.now.rows.records (bit_of c.args.self.now.bits) c.args.key) c.in-Some.is c.loop-at.invariant)).0
