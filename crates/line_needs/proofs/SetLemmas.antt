-- Columns behind those that were found, and new values of columns that were found, which have their places there.
use Rattle.std.proofs.Common.{◌≡◌, ℕ, ◌+◌, ◌<◌, true, List, [], ◌∷◌, ◌++◌, length, map, drop, get_or, append_assoc, refl, arith, ap, sym, subst, ◌∙◌, Option, Some, None}
use Rattle.std.proofs.lemmas.List.{drop_more}
use Rattle.std.specs.Prelude.{Result, Ok, Err}
use Rattle.db_value.specs.declared.condition.Set.{Set}
use Rattle.stmt_text.specs.declared.stmt.NamedSet.{NamedSet}
use Rattle.db_value.specs.Widths.{fits_width}
use Rattle.line_needs.specs.Columns.{column_named, set_at, set_onto, resolved, resolved_columns, sets_at}
use Rattle.line_needs.specs.Misfits.{set_misfit, sets_misfit}
use Rattle.line_needs.proofs.MisfitLemmas.{none_fits, first_none}

-- each new value has its place in its column, among columns of these widths
abbrev pub AreFitting : List ℕ → List Set → Type 0
AreFitting ws [] = Unit {0}
AreFitting ws (s ∷ ss) = (fits_width (get_or ws s.column 0) s.value ≡ true) × AreFitting ws ss

-- columns that were found, and those of what the others give
abbrev pub behind : List ℕ → Result (List Set) (List ℕ) → Result (List ℕ) (List ℕ)
behind done (Err name) = Err name
behind done (Ok sets) = Ok (done ++ map (λ (s : Set). s.column) sets)

-- none was found yet
pub found_all : (o : Result (List Set) (List ℕ)) → resolved_columns o ≡ behind [] o
found_all (Err name) = refl
found_all (Ok sets) = refl

-- one column more was found
pub found_more : (done : List ℕ) (s : NamedSet) (c : ℕ) (o : Option ℕ) (rest : Result (List Set) (List ℕ)) → o ≡ Some c
    → behind done (set_onto s o rest) ≡ behind (done ++ c ∷ []) rest
found_more done s c o (Err name) e = ap (λ q. behind done (set_onto s q (Err name))) e
found_more done s c o (Ok sets) e = ap (λ q. behind done (set_onto s q (Ok sets))) e ∙ ap Ok (sym (append_assoc done (c ∷ []) (map (λ (x : Set). x.column) sets)))

-- a column is unknown
pub found_none : (done : List ℕ) (s : NamedSet) (o : Option ℕ) (rest : Result (List Set) (List ℕ)) → o ≡ None → behind done (set_onto s o rest) ≡ Err s.column
found_none done s o rest e = ap (λ q. behind done (set_onto s q rest)) e

pub found_step : (columns : List (List ℕ)) (sets : List NamedSet) (all : Result (List ℕ) (List ℕ)) (done : List ℕ) (i : ℕ) (x d : NamedSet) (c : ℕ) → i < length sets → get_or sets i d ≡ x → column_named columns x.column ≡ Some c
    → all ≡ behind done (resolved columns (drop i sets)) → all ≡ behind (done ++ c ∷ []) (resolved columns (drop (i + 1) sets))
found_step columns sets all done i x d c h is at inv =
    inv ∙ ap (λ t. behind done (resolved columns t)) (drop_more sets i d h ∙ ap (λ (y : NamedSet). y ∷ drop (i + 1) sets) is)
    ∙ found_more done x c (column_named columns x.column) (resolved columns (drop (i + 1) sets)) at

pub found_stop : (columns : List (List ℕ)) (sets : List NamedSet) (all : Result (List ℕ) (List ℕ)) (done : List ℕ) (i : ℕ) (x d : NamedSet) → i < length sets → get_or sets i d ≡ x → column_named columns x.column ≡ None
    → all ≡ behind done (resolved columns (drop i sets)) → all ≡ Err x.column
found_stop columns sets all done i x d h is at inv =
    inv ∙ ap (λ t. behind done (resolved columns t)) (drop_more sets i d h ∙ ap (λ (y : NamedSet). y ∷ drop (i + 1) sets) is)
    ∙ found_none done x (column_named columns x.column) (resolved columns (drop (i + 1) sets)) at

-- ---- new values of columns that were found

pub set_step : (columns : List ℕ) (sets : List NamedSet) (all done : List Set) (i c e : ℕ) (x d : NamedSet) → i < length columns → i < length sets → get_or columns i e ≡ c → get_or sets i d ≡ x
    → all ≡ done ++ sets_at (drop i columns) (drop i sets) → all ≡ (done ++ set_at c x ∷ []) ++ sets_at (drop (i + 1) columns) (drop (i + 1) sets)
set_step columns sets all done i c e x d h k at is inv =
    inv ∙ ap (λ (p : List ℕ × List NamedSet). done ++ sets_at p.0 p.1) (λ j. ((drop_more columns i e h ∙ ap (λ (n : ℕ). n ∷ drop (i + 1) columns) at) j, (drop_more sets i d k ∙ ap (λ (y : NamedSet). y ∷ drop (i + 1) sets) is) j))
    ∙ sym (append_assoc done (set_at c x ∷ []) (sets_at (drop (i + 1) columns) (drop (i + 1) sets)))

-- what resolving gives: as many columns as new values, and from both the new values by column
onto_is : (s : NamedSet) (o : Option ℕ) (rest : Result (List Set) (List ℕ)) (sets : List Set) → set_onto s o rest ≡ Ok sets → (c : ℕ) × (more : List Set) × (rest ≡ Ok more) × (sets ≡ set_at c s ∷ more)
onto_is s None rest sets e = absurd cc
onto_is s (Some c) (Err name) sets e = absurd cc
onto_is s (Some c) (Ok more) sets e = (c, more, refl, cc)

abbrev columns_of : List Set → List ℕ
columns_of sets = map (λ (s : Set). s.column) sets

pub sets_back : (columns : List (List ℕ)) (named : List NamedSet) (sets : List Set) → resolved columns named ≡ Ok sets
    → (length (map (λ (s : Set). s.column) sets) ≡ length named) × (sets_at (map (λ (s : Set). s.column) sets) named ≡ sets)
sets_back columns [] sets e =
    let none : sets ≡ [] = cc in
    (ap (λ (l : List Set). length (columns_of l)) none, ap (λ (l : List Set). sets_at (columns_of l) []) none ∙ sym none)
sets_back columns (s ∷ ss) sets e =
    let o = onto_is s (column_named columns s.column) (resolved columns ss) sets e in
    let r = sets_back columns ss o.1 o.2 in (
      (let more = ap (λ (l : List Set). length (columns_of l)) o.3 in let rest = r.0 in omega (arith, more, rest)),
      ap (λ (l : List Set). sets_at (columns_of l) (s ∷ ss)) o.3 ∙ ap (λ (l : List Set). set_at o.0 s ∷ l) r.1 ∙ sym o.3,
    )

-- ---- they have their places in their columns, if none is a misfit

onto_fitting : (ws : List ℕ) (s : NamedSet) (o : Option ℕ) (rest : Result (List Set) (List ℕ)) (sets : List Set) → set_misfit ws s o ≡ None → ((ss : List Set) → rest ≡ Ok ss → AreFitting ws ss) → set_onto s o rest ≡ Ok sets → AreFitting ws sets
onto_fitting ws s None rest sets fit more e = absurd cc
onto_fitting ws s (Some c) (Err name) sets fit more e = absurd cc
onto_fitting ws s (Some c) (Ok ss) sets fit more e = let same : set_at c s ∷ ss ≡ sets = cc in subst (AreFitting ws) same (none_fits s.column (get_or ws c 0) s.value fit, more ss refl)

pub resolved_fitting : (ws : List ℕ) (columns : List (List ℕ)) (named : List NamedSet) (sets : List Set) → resolved columns named ≡ Ok sets → sets_misfit ws columns named ≡ None → AreFitting ws sets
resolved_fitting ws columns [] sets e none = let same : [] ≡ sets = cc in subst (AreFitting ws) same tt
resolved_fitting ws columns (s ∷ ss) sets e none =
    let n = first_none (set_misfit ws s (column_named columns s.column)) (sets_misfit ws columns ss) none in
    onto_fitting ws s (column_named columns s.column) (resolved columns ss) sets n.0 (λ more f. resolved_fitting ws columns ss more f n.1) e
