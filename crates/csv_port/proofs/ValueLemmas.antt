-- Texts that are written one after another.
use Rattle.std.proofs.Common.{◌≡◌, ℕ, ◌+◌, ◌≤◌, Bool, true, false, cond, List, [], ◌∷◌, ◌++◌, length, drop, Some, sym, ap, ◌∙◌, append_assoc, append-nil, arith}
use Rattle.std.specs.Prelude.{slice_get}
use Rattle.std.specs.List.{flat_map}
use Rattle.std.proofs.lemmas.List.{drop_more}
use Rattle.std.proofs.lemmas.Option.{get_or_from_slice_get, slice_get_within}
use Rattle.db_value.specs.Value.{Value}
use Rattle.csv_port.specs.Written.{has_comma, next_text, text_cell}

-- ---- one text as a cell

pub bare_cell : (out before new t : List ℕ) (q : Bool) → q ≡ has_comma t → q ≡ false → before ≡ out ++ 44 ∷ [] → new ≡ before ++ t → new ≡ out ++ 44 ∷ text_cell t
bare_cell out before new t q is none a b =
    b ∙ ap (λ (u : List ℕ). u ++ t) a ∙ append_assoc out (44 ∷ []) t ∙ ap (λ (r : Bool). out ++ 44 ∷ cond r (34 ∷ t ++ 34 ∷ []) t) (sym (sym is ∙ none))

pub quoted_cell : (out new t : List ℕ) (q : Bool) → q ≡ has_comma t → q ≡ true → new ≡ out ++ 44 ∷ (34 ∷ t ++ 34 ∷ []) → new ≡ out ++ 44 ∷ text_cell t
quoted_cell out new t q is some e = e ∙ ap (λ (r : Bool). out ++ 44 ∷ cond r (34 ∷ t ++ 34 ∷ []) t) (sym (sym is ∙ some))

-- ---- values and rows

-- one text more
pub next_part : {A : Type 0} (f : A → List ℕ) (out new total : List ℕ) (x : A) (all rest : List A) → all ≡ x ∷ rest → new ≡ out ++ f x → out ++ flat_map f all ≡ total → new ++ flat_map f rest ≡ total
next_part {A} f out new total x all rest e is so_far =
    ap (λ (l : List ℕ). l ++ flat_map f rest) is ∙ append_assoc out (f x) (flat_map f rest)
    ∙ sym (ap (λ (xs : List A). out ++ flat_map f xs) e) ∙ so_far

-- one value more
pub next_value : (out new total : List ℕ) (v : Value) (all rest : List Value) → all ≡ v ∷ rest → new ≡ out ++ next_text v → out ++ flat_map next_text all ≡ total → new ++ flat_map next_text rest ≡ total
next_value = next_part next_text

-- none is left
pub no_value : (out total : List ℕ) (left : List Value) (done many : ℕ) → length left + done ≡ many → many ≤ done → out ++ flat_map next_text left ≡ total → out ≡ total
no_value out total [] done many n h so_far = sym (append-nil out) ∙ so_far
no_value out total (v ∷ left) done many n h so_far = absurd (omega (arith, n, h))

-- the item at a place stands before those behind it
pub item_here : {A : Type 0} (xs : List A) (i : ℕ) (x : A) → slice_get xs i ≡ Some x → drop i xs ≡ x ∷ drop (i + 1) xs
item_here {A} xs i x e = drop_more xs i x (slice_get_within xs i x e) ∙ ap (λ (y : A). y ∷ drop (i + 1) xs) (get_or_from_slice_get xs i x x e)
