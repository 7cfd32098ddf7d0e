use Rattle.std.proofs.Common.{◌≡◌, ◌<◌, ◌++◌, ◌∷◌, [], ◌∙◌, ap, sym, arith, length, map, take, List}
use Rattle.std.proofs.lemmas.List.{map-append, take_more}
use Rattle.hybrid_view.specs.Live.{Piece, no_piece, piece_at}
use Rattle.hybrid_view.specs.Deltas.{slots_of}
use Rattle.bit_rows.specs.Short.{shortest}
use Rattle.bit_rows.specs.Rows.{begun_row}
use Rattle.bit_rows.proofs.begun.rows_begun.Goals as goal

pub loop-index-preserved : goal.loop-index-preserved
loop-index-preserved c =
    let ps : List Piece = c.args.live.now.pieces in
    let i = c.loop-index.index in
    let lt : i < length ps = omega (arith, c.loop-index-test.true, c.parts-index-end.ensures.count) in
    let segment = c.segment.ensures ∙ ap (λ (p : Piece). p.segment) c.part-part.ensures in
    let bits = c.bits.ensures ∙ ap (λ (p : Piece). p.bits) c.part-part.ensures in
    let row : c.in_ok-row.row ≡ begun_row (piece_at ps i) = c.in_ok-row.ensures ∙ (λ j. record { segment = segment j; from = 0; deltas = shortest (slots_of (bits j)) ∷ [] }) in
    c.in_ok-push.ensures.items
    ∙ (λ j. c.loop-index.invariant j ++ row j ∷ [])
    ∙ sym (ap (map begun_row) (take_more ps i no_piece lt) ∙ map-append begun_row (take i ps) (piece_at ps i ∷ []))
