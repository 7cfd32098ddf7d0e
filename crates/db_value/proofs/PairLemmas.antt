-- Two lists of records side by side: as many pairs as records, in their order.
use Rattle.std.proofs.Common.{◌≡◌, ℕ, zero, suc, List, [], ◌∷◌, length, ap, ap₂, arith, refl, sym, Option, Some, None}
use Rattle.std.specs.Prelude.{slice_get}
use Rattle.db_value.specs.declared.record.Record.{Record}
use Rattle.db_value.specs.Pairs.{beside, paired, pair_here}

pub many_pairs : (left right : List Record) → length right ≡ length left → length (paired left right) ≡ length left
many_pairs [] right h = refl
many_pairs (l ∷ ls) [] h = absurd (omega (arith, h))
many_pairs (l ∷ ls) (r ∷ rs) h = ap suc (many_pairs ls rs (omega (arith, h)))

pub pair_is : (left right : List Record) (i : ℕ) (l r : Record) → length right ≡ length left → slice_get left i ≡ Some l → slice_get right i ≡ Some r → beside l r ≡ pair_here (paired left right) i
pair_is [] right i l r h e f = absurd cc
pair_is (x ∷ ls) [] i l r h e f = absurd (omega (arith, h))
pair_is (x ∷ ls) (y ∷ rs) zero l r h e f =
    let a : x ≡ l = ap (λ (o : Option Record). elim o [ None ↦ x | Some z ↦ z ]) e in
    let b : y ≡ r = ap (λ (o : Option Record). elim o [ None ↦ y | Some z ↦ z ]) f in
    ap₂ (λ (p q : Record). beside p q) (sym a) (sym b)
pair_is (x ∷ ls) (y ∷ rs) (suc i) l r h e f = pair_is ls rs i l r (omega (arith, h)) e f
