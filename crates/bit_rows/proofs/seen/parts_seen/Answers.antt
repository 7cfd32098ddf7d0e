use Rattle.std.proofs.Common.{◌<◌, ◌∙◌, ap, sym, arith, length, take, cond, ℕ, List, ◌++◌, ◌∷◌, []}
use Rattle.std.proofs.lemmas.List.{take_more}
use Rattle.hybrid_view.specs.Live.{Piece}
use Rattle.bit_rows.specs.Rows.{KeptRow, no_kept_row, kept_row_at}
use Rattle.bit_rows.specs.Seen.{is_begun, piece_of_row, pieces_seen}
use Rattle.bit_rows.proofs.SeenLemmas.{begun_push}
use Rattle.bit_rows.proofs.seen.parts_seen.Goals as goal

pub loop-index-preserved : goal.loop-index-preserved
loop-index-preserved c =
    let rows : List KeptRow = c.args.rows.now in
    let i : ℕ = c.loop-index.index in
    let lt : i < length rows = omega (arith, c.loop-index-test.true, c.len-index-end.ensures) in
    let row : KeptRow = kept_row_at rows i in
    record {
      parts = c.in_ok-push_seen.ensures.parts
          ∙ (λ j. c.loop-index.invariant.parts j ++ cond (is_begun c.args.position row) (piece_of_row c.args.kept.now.all c.args.position row ∷ []) [])
          ∙ sym (ap (pieces_seen c.args.kept.now.all c.args.position) (take_more rows i no_kept_row lt) ∙ begun_push c.args.kept.now.all c.args.position (take i rows) row);
      small = c.in_ok-push_seen.ensures.small c.loop-index.invariant.small;
    }
