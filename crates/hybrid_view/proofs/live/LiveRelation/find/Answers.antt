use Rattle.std.proofs.Common.{◌≡◌, ◌<◌, ◌==◌, Bool, length, ap, sym, ◌∙◌, subst, arith, Some}
use Rattle.std.specs.Prelude.{position}
use Rattle.std.specs.FinMap as finite
use Rattle.db_value.specs.declared.record.Record.{Record}
use Rattle.db_store.specs.Parts.{part_at, slot_at}
use Rattle.db_store.proofs.BitLemmas.{get_contents}
use Rattle.hybrid_view.specs.Live.{Piece, Lived, live_pieces, place_of, contents_in, parts_in}
use Rattle.hybrid_view.specs.Spots.{places_by}
use Rattle.hybrid_view.proofs.FindLemmas.{Found, found_at, found_none, never_lost, slots_count, slot_at_is}
use Rattle.hybrid_view.proofs.live.LiveRelation.find.Goals as goal

found : (c : goal.In-Some-place_in) → Found c.self.inside.parts.items c.args.key c.in-Some.segment c.in-Some.slot c.in-Some-place_in.part
found c =
    found_at c.self.inside.parts.items c.args.key c.in-Some.segment c.in-Some.slot c.in-Some-place_in.part c.self.invariant.ascend
    (ap (λ (v : Lived). place_of v.pieces c.args.key) c.self.view_is ∙ sym c.live_place.ensures ∙ c.in-Some.is)
    (ap (position (λ (p : Piece). p.segment == c.in-Some.segment)) (sym c.deref.ensures.value) ∙ sym c.place_in.ensures ∙ c.in-Some-place_in.is)

slot_now : (c : goal.In-Some-place_in) → slot_at (parts_in c.args.self.now) c.in-Some-place_in.part c.in-Some.slot
    ≡ slot_at (parts_in (record { pieces = c.self.inside.parts.items; places = places_by c.self.inside.index c.self.inside.parts.items; count = c.self.inside.count })) c.in-Some-place_in.part c.in-Some.slot
slot_now c = ap (λ (v : Lived). slot_at (parts_in v) c.in-Some-place_in.part c.in-Some.slot) (sym c.self.view_is)

pub returns-in-None-clause-none : goal.returns-in-None-clause-none
returns-in-None-clause-none c =
    ap (λ (v : Lived). finite.get (contents_in v) c.args.key) (sym c.self.view_is)
    ∙ get_contents (live_pieces c.self.inside.parts.items) c.args.key
    ∙ found_none c.self.inside.parts.items c.args.key (ap (λ (v : Lived). place_of v.pieces c.args.key) c.self.view_is ∙ sym c.live_place.ensures ∙ c.in-None.is)

pub returns-in-None-place_in-clause-none : goal.returns-in-None-place_in-clause-none
returns-in-None-place_in-clause-none c =
    absurd (never_lost c.self.inside.parts.items c.args.key c.in-Some.segment c.in-Some.slot
    (ap (λ (v : Lived). place_of v.pieces c.args.key) c.self.view_is ∙ sym c.live_place.ensures ∙ c.in-Some.is)
    (ap (position (λ (p : Piece). p.segment == c.in-Some.segment)) (sym c.deref.ensures.value) ∙ sym c.place_in.ensures ∙ c.in-None-place_in.is))

pub returns-in-Some-place_in-clause-slot : goal.returns-in-Some-place_in-clause-slot
returns-in-Some-place_in-clause-slot c =
    let f = found c in
    let n = slots_count c.self.inside.parts.items c.in-Some-place_in.part f.part_there in
    let h = f.slot_there in
    subst (λ (v : Lived). c.in-Some.slot < length (part_at (parts_in v) c.in-Some-place_in.part).slots) c.self.view_is (omega (arith, n, h))

pub returns-in-Some-place_in-clause-live : goal.returns-in-Some-place_in-clause-live
returns-in-Some-place_in-clause-live c =
    let f = found c in
    ap (λ (s : Record × Bool). s.1) (slot_now c ∙ slot_at_is c.self.inside.parts.items c.in-Some-place_in.part c.in-Some.slot f.part_there f.slot_there) ∙ f.live

pub returns-in-Some-place_in-clause-key : goal.returns-in-Some-place_in-clause-key
returns-in-Some-place_in-clause-key c =
    let f = found c in
    ap (λ (s : Record × Bool). s.0.key) (slot_now c ∙ slot_at_is c.self.inside.parts.items c.in-Some-place_in.part c.in-Some.slot f.part_there f.slot_there) ∙ f.key_is

pub returns-in-Some-place_in-clause-fields : goal.returns-in-Some-place_in-clause-fields
returns-in-Some-place_in-clause-fields c =
    let f = found c in
    ap (λ (v : Lived). finite.get (contents_in v) c.args.key) (sym c.self.view_is)
    ∙ get_contents (live_pieces c.self.inside.parts.items) c.args.key
    ∙ f.fields
    ∙ sym (ap (λ (s : Record × Bool). Some s.0.fields) (slot_now c ∙ slot_at_is c.self.inside.parts.items c.in-Some-place_in.part c.in-Some.slot f.part_there f.slot_there))
