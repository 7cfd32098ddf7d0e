use Rattle.std.proofs.Common.{◌≡◌, ℕ, ◌<◌, ◌+◌, ◌∷◌, [], ◌++◌, ◌∙◌, List, length, arith, ap, sym, subst}
use Rattle.std.proofs.lemmas.List.{get_or_default, length_push}
use Rattle.hybrid_view.specs.Live.{Piece, Lived, no_piece, piece_at}
use Rattle.hybrid_view.specs.RowPlaces.{Next}
use Rattle.hybrid_view.proofs.NextLemmas.{next_push}
use Rattle.hybrid_view.proofs.live.LiveRelation.parts_after.Goals as goal

pub loop-part-preserved : goal.loop-part-preserved
loop-part-preserved c =
    let ps : List Piece = c.args.self.now.pieces in
    let xs : List Piece = c.deref-part-items.result.now in
    let same : xs ≡ ps = c.deref-part-items.ensures.value ∙ ap (λ (l : Lived). l.pieces) c.self.view_is in
    let qs : List Piece = c.loop-part.parts.items in
    let i = c.loop-part.part-index in
    let q : Piece = c.in_ok-next.next in
    let lt : i < length xs = omega (arith, c.loop-part-test.true, c.loop-part.auto.part-index-end) in
    let item : c.part-item.result ≡ piece_at ps i = c.part-item.is ∙ get_or_default xs i c.part-item.result no_piece lt ∙ ap (λ (ys : List Piece). piece_at ys i) same in
    let n = c.loop-part.invariant.0 in
    let is : c.push.new.self.items ≡ qs ++ q ∷ [] = c.in_ok-push.ensures.items in
    let ln = ap (λ (ys : List Piece). length ys) is in
    let p = length_push qs q in (
      omega (arith, ln, p, n),
      subst (λ (ys : List Piece). (j : ℕ) → j < i + 1 → Next c.args.places.now c.args.head c.args.rows.now (piece_at ps j) (piece_at ys j)) (sym is)
          (next_push c.args.places.now c.args.head c.args.rows.now ps qs i q n c.loop-part.invariant.1
          (subst (λ (y : Piece). Next c.args.places.now c.args.head c.args.rows.now y q) item c.in_ok-next.ensures)),
    )
