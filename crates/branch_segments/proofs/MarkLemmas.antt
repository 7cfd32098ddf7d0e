-- Numbers below a bound, and rows behind others.
use Rattle.std.proofs.Common.{◌≡◌, ℕ, zero, suc, ◌+◌, ◌-◌, ◌<◌, ◌≤◌, Bool, false, cond, List, [], ◌∷◌, ◌++◌, length, set, replicate, get_or, refl, arith, ap, sym, ◌∙◌, subst, zero-add, ◌⊎◌, inl, inr}
use Rattle.std.specs.Prelude.{filter}
use Rattle.std.specs.List.{range_with_len, All, AllZip}
use Rattle.std.proofs.lemmas.Bool.{cases_lt}
use Rattle.std.proofs.lemmas.List.{map-id, length-append, length-replicate, length_push, get_or_push, get_or_append_left, get_or_past}
use Rattle.std.proofs.lemmas.List.FromFn.{filter_of_map_range_with_len_more}
use Rattle.plain_bits.specs.Truth.{bit_of, lengthened}
use Rattle.branch_segments.specs.Marks.{ids_where, IsLonger, SameRows}

pub ids_more : (p : ℕ → Bool) (n : ℕ) → ids_where p (n + 1) ≡ ids_where p n ++ cond (p n) (n ∷ []) []
ids_more p n =
    sym (ap (filter p) (map-id (range_with_len 0 (n + 1))))
    ∙ filter_of_map_range_with_len_more p (λ x. x) 0 n n (zero-add n)
    ∙ ap (λ xs. filter p xs ++ cond (p n) (n ∷ []) []) (map-id (range_with_len 0 n))

pub zip_same : (rows : List (List Bool)) → AllZip IsLonger rows rows
zip_same [] = tt
zip_same (row ∷ rows) = (record { bits = λ s. refl; longer = omega arith }, zip_same rows)

pub zip_set : (old new : List (List Bool)) (i : ℕ) (d x : List Bool) → AllZip IsLonger old new → IsLonger (get_or new i d) x → AllZip IsLonger old (set new i x)
zip_set [] [] i d x h g = h
zip_set [] (j ∷ js) i d x h g = absurd h
zip_set (k ∷ ks) [] i d x h g = absurd h
zip_set (k ∷ ks) (j ∷ js) zero d x h g = (record { bits = λ s. g.bits s ∙ h.0.bits s; longer = let a = g.longer in let b = h.0.longer in omega (arith, a, b) }, h.1)
zip_set (k ∷ ks) (j ∷ js) (suc i) d x h g = (h.0, zip_set ks js i d x h.1 g)

pub zip_rows : (old new : List (List Bool)) → AllZip IsLonger old new → SameRows old new
zip_rows [] [] h b s = refl
zip_rows [] (j ∷ js) h b s = absurd h
zip_rows (k ∷ ks) [] h b s = absurd h
zip_rows (k ∷ ks) (j ∷ js) h zero s = h.0.bits s
zip_rows (k ∷ ks) (j ∷ js) h (suc b) s = zip_rows ks js h.1 b s

-- a place past the end is false, and so are those that are put behind
bit_past : (bits : List Bool) (s : ℕ) → length bits ≤ s → bit_of bits s ≡ false
bit_past bits s h = get_or_past bits s false h

bit_falses : (n s : ℕ) → bit_of (replicate n false) s ≡ false
bit_falses zero s = refl
bit_falses (suc n) zero = refl
bit_falses (suc n) (suc s) = bit_falses n s

behind : (bits : List Bool) (k s : ℕ) → bit_of (bits ++ replicate k false) s ≡ bit_of bits s
behind [] k s = bit_falses k s
behind (b ∷ bs) k zero = refl
behind (b ∷ bs) k (suc s) = behind bs k s

pub longer : (bits : List Bool) (n : ℕ) → IsLonger bits (lengthened bits n)
longer bits n = record { bits = behind bits (n - length bits); longer = let k = length-append bits (replicate (n - length bits) false) in omega (arith, k) }

pub longer_by : (bits new : List Bool) (n : ℕ) → new ≡ lengthened bits n → IsLonger bits new
longer_by bits new n e = subst (IsLonger bits) (sym e) (longer bits n)

-- a row of falses behind others
pub rows_push : (old new : List (List Bool)) (row : List Bool) → SameRows old new → IsLonger [] row → SameRows old (new ++ row ∷ [])
rows_push old new row same none b s = by (cases_lt b (length new))
  where
    by : (b < length new) ⊎ (length new ≤ b) → bit_of (get_or (new ++ row ∷ []) b []) s ≡ bit_of (get_or old b []) s
    by (inl l) = ap (λ r. bit_of r s) (get_or_append_left new (row ∷ []) [] b l) ∙ same b s
    by (inr g) = end (cases_lt b (length new + 1)) ∙ sym (ap (λ r. bit_of r s) (get_or_past new b [] g)) ∙ same b s
      where
        end : (b < length new + 1) ⊎ (length new + 1 ≤ b) → bit_of (get_or (new ++ row ∷ []) b []) s ≡ bit_of [] s
        end (inl l) = ap (λ r. bit_of r s) (get_or_push new row [] b (omega (arith, l, g))) ∙ none.bits s
        end (inr h) = let n = length_push new row in ap (λ r. bit_of r s) (get_or_past (new ++ row ∷ []) b [] (omega (arith, n, h)))

pub long_by : (bits new : List Bool) (n : ℕ) → new ≡ lengthened bits n → n ≤ length new
long_by bits new n e =
    let k = length-append bits (replicate (n - length bits) false) in
    let m = length-replicate {A = Bool} (n - length bits) false in
    let l = ap length e in
    omega (arith, k, m, l)

-- rows that became longer, and then got others behind
pub longer_then : (a b c : List (List Bool)) → AllZip IsLonger a b → SameRows b c → SameRows a c
longer_then a b c h s branch place = s branch place ∙ zip_rows a b h branch place

-- they are as wide as they were
pub zip_wide : (old new : List (List Bool)) (m : ℕ) → AllZip IsLonger old new → All (λ row. m ≤ length row) old → All (λ row. m ≤ length row) new
zip_wide [] [] m h all i d l = all i d l
zip_wide [] (j ∷ js) m h all i d l = absurd h
zip_wide (k ∷ ks) [] m h all i d l = absurd h
zip_wide (k ∷ ks) (j ∷ js) m h all zero d l = let a = all zero d (omega arith) in let b = h.0.longer in omega (arith, a, b)
zip_wide (k ∷ ks) (j ∷ js) m h all (suc i) d l = zip_wide ks js m h.1 (λ n e x. all (suc n) e (omega (arith, x))) i d (omega (arith, l))

pub zip_count : (old new : List (List Bool)) → AllZip IsLonger old new → length new ≡ length old
zip_count [] [] h = refl
zip_count [] (j ∷ js) h = absurd h
zip_count (k ∷ ks) [] h = absurd h
zip_count (k ∷ ks) (j ∷ js) h = ap suc (zip_count ks js h.1)

-- a row that stays as it was
pub kept_zip : (old items : List (List Bool)) (i : ℕ) (row new : List Bool) → AllZip IsLonger old items → row ≡ get_or items i row → new ≡ row → AllZip IsLonger old (set items i new)
kept_zip old items i row new h is e =
    zip_set old items i row new h
    (subst (λ (x : List Bool). IsLonger x new) is (record { bits = λ s. ap (λ (x : List Bool). bit_of x s) e; longer = let n = ap length e in omega (arith, n) }))
