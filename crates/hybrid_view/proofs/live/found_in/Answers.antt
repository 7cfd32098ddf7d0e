use Rattle.std.proofs.Common.{◌≡◌, ◌<◌, ◌∙◌, ap, sym, subst, arith, length, List, Some, None, true}
use Rattle.std.proofs.lemmas.List.{get_or_default}
use Rattle.plain_bits.specs.Truth.{bit_of}
use Rattle.record_page.specs.Page.{record_at}
use Rattle.hybrid_view.specs.Live.{Piece, no_piece, piece_at, slot_in}
use Rattle.hybrid_view.proofs.WalkLemmas.{ahead_found, ahead_more}
use Rattle.hybrid_view.proofs.live.found_in.Goals as goal

pub returns-in-Some : goal.returns-in-Some
returns-in-Some c =
    let ps : List Piece = c.args.parts.now in
    let i = c.loop-part.part-index in
    let s = c.in-Some.slot in
    let lt : i < length ps = omega (arith, c.loop-part-test.true, c.loop-part.auto.part-index-end) in
    let item : c.part-item.result ≡ piece_at ps i = c.part-item.is ∙ get_or_default ps i c.part-item.result no_piece lt in
    ap (λ g. Some (g, s)) (c.segment.ensures ∙ ap (λ (p : Piece). p.segment) item)
    ∙ sym
    (ahead_found ps c.args.key i s c.loop-part.invariant lt
    (subst (λ (p : Piece). s < length p.rows.records) item c.in-Some.ensures.slot)
    (subst (λ (p : Piece). bit_of p.bits s ≡ true) item c.in-Some.ensures.live)
    (subst (λ (p : Piece). (record_at p.rows.records s).key ≡ c.args.key) item c.in-Some.ensures.key))

pub loop-part-preserved : goal.loop-part-preserved
loop-part-preserved c =
    let ps : List Piece = c.args.parts.now in
    let i = c.loop-part.part-index in
    let lt : i < length ps = omega (arith, c.loop-part-test.true, c.loop-part.auto.part-index-end) in
    let item : c.part-item.result ≡ piece_at ps i = c.part-item.is ∙ get_or_default ps i c.part-item.result no_piece lt in
    ahead_more ps c.args.key i c.loop-part.invariant lt
    (subst (λ (p : Piece). slot_in 0 p.rows.records (bit_of p.bits) c.args.key ≡ None) item c.in_default.ensures.none)
