use Rattle.std.proofs.Common.{◌≡◌, ◌<◌, ◌+◌, ◌++◌, ◌∷◌, [], ◌∙◌, ap, sym, subst, arith, length, ℕ, List}
use Rattle.std.proofs.lemmas.List.{length_push}
use Rattle.commit_history.specs.Runs.{Next, next_of}
use Rattle.hybrid_view.specs.Live.{Piece, piece_at}
use Rattle.bit_rows.specs.Short.{shortest}
use Rattle.bit_rows.specs.Rows.{KeptRow, next_at, kept_row_at}
use Rattle.bit_rows.specs.Differences.{difference_of}
use Rattle.bit_rows.proofs.ChangedLemmas.{differences_more}
use Rattle.bit_rows.proofs.changed.next_deltas.Goals as goal

pub loop-index-preserved : goal.loop-index-preserved
loop-index-preserved c =
    let ps : List Piece = c.args.old.now.pieces in
    let qs : List Piece = c.args.new.now.pieces in
    let rows : List KeptRow = c.args.rows.now in
    let i = c.loop-index.index in
    let ns : List Next = c.loop-index.nexts.items in
    let n = c.loop-index.invariant.count in
    let x : c.in_ok-next.next ≡ next_of (kept_row_at rows i).deltas (shortest (difference_of (piece_at ps i) (piece_at qs i))) =
    c.in_ok-next.ensures ∙ (λ k. next_of (c.row-row.ensures k).deltas (shortest (difference_of (c.part.ensures k) (c.part-in-loop-index.ensures k)))) in
    let is : c.push.new.self.items ≡ ns ++ c.in_ok-next.next ∷ [] = c.in_ok-push.ensures.items in
    let ln = ap (λ (xs : List Next). length xs) is in
    let p = length_push ns c.in_ok-next.next in
    record {
      count = omega (arith, ln, p, n);
      each = subst (λ (xs : List Next). (j : ℕ) → j < i + 1 → next_at xs j ≡ next_of (kept_row_at rows j).deltas (shortest (difference_of (piece_at ps j) (piece_at qs j)))) (sym is)
          (differences_more rows ps qs ns c.in_ok-next.next i n c.loop-index.invariant.each x);
    }
