-- Fields that are written one after another.
use Rattle.std.proofs.Common.{◌≡◌, ℕ, zero, suc, ◌+◌, ◌≤◌, List, [], ◌∷◌, ◌++◌, length, refl, sym, ap, ◌∙◌, append_assoc, append-nil, arith}
use Rattle.std.specs.List.{flat_map}
use Rattle.db_value.specs.Value.{Value}
use Rattle.reply_text.specs.Piece.{field_text}

-- one field more
pub next_field : (out new total : List ℕ) (v : Value) (all rest : List Value) → all ≡ v ∷ rest → new ≡ out ++ field_text v → out ++ flat_map field_text all ≡ total → new ++ flat_map field_text rest ≡ total
next_field out new total v all rest e is so_far =
    ap (λ (l : List ℕ). l ++ flat_map field_text rest) is ∙ append_assoc out (field_text v) (flat_map field_text rest)
    ∙ sym (ap (λ (vs : List Value). out ++ flat_map field_text vs) e) ∙ so_far

-- none is left
pub no_field : (out total : List ℕ) (left : List Value) (done many : ℕ) → length left + done ≡ many → many ≤ done → out ++ flat_map field_text left ≡ total → out ≡ total
no_field out total [] done many n h so_far = sym (append-nil out) ∙ so_far
no_field out total (v ∷ left) done many n h so_far = absurd (omega (arith, n, h))
