-- The parts of a statement, one after another, and the statement again.
use Rattle.std.proofs.Common.{◌≡◌, ℕ, suc, ◌+◌, ◌-◌, ◌≤◌, Bool, true, false, cond, List, [], ◌∷◌, ◌++◌, map, take, drop, refl, ap, ap₂, sym, ◌∙◌, arith, append_assoc, Bor, Some, None}
use Rattle.std.specs.Prelude.{◌==◌, not}
use Rattle.std.specs.List.{onto_first}
use Rattle.std.proofs.lemmas.Bool.{eqb-true}
use Rattle.std.proofs.lemmas.List.{map-append}
use Rattle.std.proofs.lemmas.Option.{same_Some}
use Rattle.stmt_text.specs.Cut.{is_cut, is_inside, parts_from, parts_of, cut_from}
use Rattle.stmt_text.specs.Spelling.{behind_spaces}
use Rattle.stmt_text.proofs.NumberLemmas.{both}

-- ---- parts behind spaces are the statement behind a space

onto_spaced : (b : ℕ) (ps : List (List ℕ)) (bs : List ℕ) → behind_spaces ps ≡ 32 ∷ bs → behind_spaces (onto_first b ps) ≡ 32 ∷ b ∷ bs
onto_spaced b [] bs e = absurd cc
onto_spaced b (p ∷ ps) bs e = let rest : p ++ behind_spaces ps ≡ bs = cc in ap (λ (t : List ℕ). 32 ∷ b ∷ t) rest

spaced_by : (t inside : Bool) (b : ℕ) (bs : List ℕ) → is_cut inside b ≡ t → behind_spaces (parts_from false bs) ≡ 32 ∷ bs → behind_spaces (parts_from (is_inside inside b) bs) ≡ 32 ∷ bs
    → behind_spaces (cond t ([] ∷ parts_from false bs) (onto_first b (parts_from (is_inside inside b) bs))) ≡ 32 ∷ b ∷ bs
spaced_by true inside b bs e cut more = let space : b ≡ 32 = eqb-true b 32 (both (not inside) (b == 32) e).1 in ap (λ (t : List ℕ). 32 ∷ t) cut ∙ ap (λ (c : ℕ). 32 ∷ c ∷ bs) (sym space)
spaced_by false inside b bs e cut more = onto_spaced b (parts_from (is_inside inside b) bs) bs more

pub parts_spaced : (inside : Bool) (bs : List ℕ) → behind_spaces (parts_from inside bs) ≡ 32 ∷ bs
parts_spaced inside [] = refl
parts_spaced inside (b ∷ bs) = spaced_by (is_cut inside b) inside b bs refl (parts_spaced false bs) (parts_spaced (is_inside inside b) bs)

-- ---- the first part

-- where nothing cuts, there is one part
none_by : (t inside : Bool) (k b : ℕ) (bs : List ℕ) → (cut_from (k + 1) (is_inside inside b) bs ≡ None → parts_from (is_inside inside b) bs ≡ bs ∷ []) → cond t (Some k) (cut_from (k + 1) (is_inside inside b) bs) ≡ None
    → cond t ([] ∷ parts_from false bs) (onto_first b (parts_from (is_inside inside b) bs)) ≡ (b ∷ bs) ∷ []
none_by true inside k b bs more e = absurd cc
none_by false inside k b bs more e = ap (onto_first b) (more e)

pub parts_none : (k : ℕ) (inside : Bool) (bs : List ℕ) → cut_from k inside bs ≡ None → parts_from inside bs ≡ bs ∷ []
parts_none k inside [] e = refl
parts_none k inside (b ∷ bs) e = none_by (is_cut inside b) inside k b bs (parts_none (k + 1) (is_inside inside b) bs) e

-- what stands before a cut is the first part, and what stands behind it has the others
abbrev pub IsCutAt : ℕ → ℕ → Bool → List ℕ → Type 0
IsCutAt k i inside bs = (k ≤ i) × (parts_from inside bs ≡ take (i - k) bs ∷ parts_from false (drop (i - k + 1) bs))

at_by : (t inside : Bool) (k i b : ℕ) (bs : List ℕ) → (cut_from (k + 1) (is_inside inside b) bs ≡ Some i → IsCutAt (k + 1) i (is_inside inside b) bs) → cond t (Some k) (cut_from (k + 1) (is_inside inside b) bs) ≡ Some i
    → (k ≤ i) × (cond t ([] ∷ parts_from false bs) (onto_first b (parts_from (is_inside inside b) bs)) ≡ take (i - k) (b ∷ bs) ∷ parts_from false (drop (i - k + 1) (b ∷ bs)))
at_by true inside k i b bs more e =
    let same : k ≡ i = same_Some k i e in
    let none : 0 ≡ i - k = omega (arith, same) in
    (omega (arith, same), ap (λ (n : ℕ). take n (b ∷ bs) ∷ parts_from false (drop (n + 1) (b ∷ bs))) none)
at_by false inside k i b bs more e =
    let h = more e in
    let below = h.0 in
    let one : suc (i - (k + 1)) ≡ i - k = omega (arith, below) in
    let two : suc (i - (k + 1) + 1) ≡ i - k + 1 = omega (arith, below) in
    (omega (arith, below), ap (onto_first b) h.1 ∙ ap₂ (λ (m n : ℕ). take m (b ∷ bs) ∷ parts_from false (drop n (b ∷ bs))) one two)

cut_known : (k i : ℕ) (inside : Bool) (bs : List ℕ) → cut_from k inside bs ≡ Some i → IsCutAt k i inside bs
cut_known k i inside [] e = absurd cc
cut_known k i inside (b ∷ bs) e = at_by (is_cut inside b) inside k i b bs (cut_known (k + 1) i (is_inside inside b) bs) e

pub parts_cut : (i : ℕ) (inside : Bool) (bs : List ℕ) → cut_from 0 inside bs ≡ Some i → parts_from inside bs ≡ take i bs ∷ parts_from false (drop (i + 1) bs)
parts_cut i inside bs e = let n : i - 0 ≡ i = omega arith in (cut_known 0 i inside bs e).1 ∙ ap (λ (n : ℕ). take n bs ∷ parts_from false (drop (n + 1) bs)) n

-- ---- parts, gathered

-- one part more
pub one_part : (done new : List (Bor (List ℕ))) (w : Bor (List ℕ)) (rest next : List ℕ) (all : List (List ℕ)) → new ≡ done ++ w ∷ [] → parts_of rest ≡ w.now ∷ parts_of next → map (λ w. w.now) done ++ parts_of rest ≡ all → map (λ w. w.now) new ++ parts_of next ≡ all
one_part done new w rest next all is one inv = rw (is, map-append, append_assoc) (ap (λ (us : List (List ℕ)). map (λ (v : Bor (List ℕ)). v.now) done ++ us) (sym one) ∙ inv)

-- and the last one
pub last_part : (done new : List (Bor (List ℕ))) (w : Bor (List ℕ)) (rest : List ℕ) (all : List (List ℕ)) → new ≡ done ++ w ∷ [] → w.now ≡ rest → parts_of rest ≡ rest ∷ [] → map (λ w. w.now) done ++ parts_of rest ≡ all → map (λ w. w.now) new ≡ all
last_part done new w rest all is front one inv =
    let last : w.now ∷ [] ≡ parts_of rest = ap (λ (u : List ℕ). u ∷ []) front ∙ sym one in
    rw (is, map-append) (ap (λ (us : List (List ℕ)). map (λ (v : Bor (List ℕ)). v.now) done ++ us) last ∙ inv)
