use Rattle.std.proofs.Common.{◌≡◌, ◌<◌, ◌∙◌, ap, arith, length, List}
use Rattle.std.proofs.lemmas.List.{get_or_default}
use Rattle.plain_bits.specs.Truth.{count_true}
use Rattle.hybrid_view.specs.Live.{Piece, no_piece, piece_at}
use Rattle.bit_rows.proofs.CountLemmas.{counted_first}
use Rattle.bit_rows.proofs.seen.live_count.Goals as goal

pub overflow_add-count : goal.overflow_add-count
overflow_add-count c =
    let ps : List Piece = c.args.parts.now in
    let i = c.loop-part.part-index in
    let lt : i < length ps = omega (arith, c.loop-part-test.true, c.loop-part.auto.part-index-end) in
    let item : c.part-item.result ≡ piece_at ps i = c.part-item.is ∙ get_or_default ps i c.part-item.result no_piece lt in
    let here : c.count-count.result ≡ count_true (piece_at ps i).bits = c.count-count.ensures ∙ ap count_true (c.bits.ensures ∙ ap (λ (p : Piece). p.bits) item) in
    let first = counted_first ps i c.requires.covered lt in
    omega (arith, c.loop-part.invariant, first, here, c.requires.few)
