-- What `retain` leaves, where the closure stays as it is.
use Rattle.std.proofs.Common.{◌≡◌, Bool, true, false, cond, List, [], ◌∷◌, filter, length, refl, ap, ◌∙◌, subst, arith}
use Rattle.std.specs.List.{items_where_true}
use Rattle.std.specs.List.Retain.{ReturnsInTurn, IsFiltered}

module _ {X P : Type 0} (R : P → X → Bool → P → Type 0) (test : X → Bool) (p : P) (says : (x : X) (b : Bool) (q : P) → R p x b q → (b ≡ test x) × (q ≡ p)) where
  first : (x : X) (xs ys : List X) (bs : List Bool) (b t : Bool) → b ≡ t → items_where_true bs xs ≡ ys → items_where_true (b ∷ bs) (x ∷ xs) ≡ cond t (x ∷ ys) ys
  first x xs ys bs true t e rest = ap (λ (l : List X). x ∷ l) rest ∙ ap (λ (a : Bool). cond a (x ∷ ys) ys) e
  first x xs ys bs false t e rest = rest ∙ ap (λ (a : Bool). cond a (x ∷ ys) ys) e

  told : (q : P) (bs : List Bool) (xs : List X) → length bs ≡ length xs → ReturnsInTurn R p bs xs q → items_where_true bs xs ≡ filter test xs
  told q [] [] e h = refl
  told q [] (x ∷ xs) e h = absurd (omega arith)
  told q (b ∷ bs) [] e h = absurd h
  told q (b ∷ bs) (x ∷ xs) e h =
      let one = says x b h.0 h.1 in
      first x xs (filter test xs) bs b (test x) one.0 (told q bs xs (omega arith) (subst (λ (y : P). ReturnsInTurn R y bs xs q) one.1 h.2))

  pub retained : (xs ys : List X) → IsFiltered R p xs ys → ys ≡ filter test xs
  retained xs ys k = k.4 ∙ told k.1 k.0 xs k.2 k.3
