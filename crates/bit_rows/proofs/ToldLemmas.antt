-- What is told of pieces, one after another.
use Rattle.std.proofs.Common.{◌≡◌, ℕ, ◌+◌, ◌==◌, Bool, true, false, cond, List, [], ◌∷◌, ◌++◌, refl, ap, sym, ◌∙◌, zero-add}
use Rattle.std.specs.List.{range_with_len}
use Rattle.std.proofs.lemmas.List.{map-id}
use Rattle.std.proofs.lemmas.List.FromFn.{map-range_with_len_more}
use Rattle.db_value.specs.declared.report.Live.{Live}
use Rattle.hybrid_view.specs.Live.{Piece}
use Rattle.bit_rows.specs.Told.{told_of, live_of_piece, lives_of}

-- one piece more
pub lives_more : (name : List ℕ) (s : ℕ) (ps : List Piece) (p : Piece) → lives_of name s (ps ++ p ∷ []) ≡ lives_of name s ps ++ live_of_piece name s p
lives_more name s [] p = refl
lives_more name s (x ∷ xs) p = by (x.segment == s) (lives_of name s (xs ++ p ∷ [])) (lives_of name s xs) (live_of_piece name s p) (lives_more name s xs p)
  where
    by : (b : Bool) (u v w : List Live) → u ≡ v ++ w → cond b (told_of name x ∷ u) u ≡ cond b (told_of name x ∷ v) v ++ w
    by true u v w e = ap (λ (ys : List Live). told_of name x ∷ ys) e
    by false u v w e = e

-- one number more
pub range_more : (n : ℕ) → range_with_len 0 (n + 1) ≡ range_with_len 0 n ++ n ∷ []
range_more n =
    sym (map-id (range_with_len 0 (n + 1)))
    ∙ map-range_with_len_more (λ x. x) 0 n n (zero-add n)
    ∙ ap (λ (xs : List ℕ). xs ++ n ∷ []) (map-id (range_with_len 0 n))
