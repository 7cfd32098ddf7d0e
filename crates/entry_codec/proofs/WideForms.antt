-- Fields with their widths: what is put is read again, and what is read was put so.
use Rattle.std.proofs.Common.{◌≡◌, ℕ, zero, suc, ◌+◌, ◌-◌, ◌<◌, ◌&&◌, nat_le, Bool, true, false, cond, List, [], ◌∷◌, ◌++◌, length, take, drop, get_or, refl, arith, ap, ap₂, sym, subst, ◌∙◌, append_assoc, append-nil, Option, Some, None, option_map}
use Rattle.std.specs.List.{AllByRecursion, list_all}
use Rattle.std.proofs.lemmas.Bool.{leb-true, le-leb, and_from}
use Rattle.std.specs.Prelude.{slice_get}
use Rattle.std.proofs.lemmas.List.{drop_at, drop-drop, length-append, get_or-drop}
use Rattle.db_value.specs.Value.{Value, IsValue}
use Rattle.db_value.specs.Width.{is_width}
use Rattle.db_value.specs.Widths.{meets, fits_width}
use Rattle.db_value.specs.RowForm.{field_size, field_bytes, field_in, is_field}
use Rattle.db_value.proofs.RowForms.{both, size_of_field_bytes, field_again, field_spelled}
use Rattle.db_store.specs.Body.{wide_size}
use Rattle.entry_codec.specs.Wide.{wide_bytes, is_wide, onto, widths_in, wide_in, are_wide, first_width, ahead}

-- each number is one of 8 bits
abbrev pub AreSmall : List ℕ → Type 0
AreSmall bytes = (i : ℕ) → get_or bytes i 0 < 256

-- what is read has a spelling, and is spelled so
pub record IsSpelled (n : ℕ) (ws bytes : List ℕ) : Type 0 where
  pub widths : list_all is_width ws ≡ true
  pub meets : meets ws (wide_in ws bytes) ≡ true
  pub values : AllByRecursion IsValue (wide_in ws bytes)
  pub many : length ws ≡ n
  pub same : wide_bytes ws (wide_in ws bytes) ++ drop (wide_size ws) bytes ≡ bytes

passes : {T : Type 0} (q : Bool) (x y : T) → q ≡ true → cond q x y ≡ x
passes true x y is = refl
passes false x y is = absurd cc

-- what is spelled is read again
pub again_both : (ws : List ℕ) (vs : List Value) (rest : List ℕ) → list_all is_width ws ≡ true → meets ws vs ≡ true → AllByRecursion IsValue vs → (widths_in (length ws) (wide_bytes ws vs ++ rest) ≡ Some ws) × (wide_in ws (wide_bytes ws vs ++ rest) ≡ vs)
again_both [] [] rest b h are = (refl, refl)
again_both [] (v ∷ vs) rest b h are = absurd cc
again_both (w ∷ ws) [] rest b h are = absurd cc
again_both (w ∷ ws) (v ∷ vs) rest b h are =
    let q = both (is_width w) (list_all is_width ws) b in
    let p = both (fits_width w v) (meets ws vs) h in
    let more : List ℕ = wide_bytes ws vs ++ rest in
    let whole : (field_bytes w v ++ wide_bytes ws vs) ++ rest ≡ field_bytes w v ++ more = append_assoc (field_bytes w v) (wide_bytes ws vs) rest in
    let size = size_of_field_bytes w v p.0 in
    let one = field_again w v more p.0 are.0 in
    let others = again_both ws vs rest q.1 p.1 are.1 in
    let long : nat_le (field_size w) (length (field_bytes w v ++ more)) ≡ true = le-leb (field_size w) (length (field_bytes w v ++ more)) (let l = length-append (field_bytes w v) more in omega (arith, l, size)) in
    let able : is_wide w (field_bytes w v ++ more) ≡ true = rw (q.0, long, one.1) refl in
    let after : drop (field_size w) (field_bytes w v ++ more) ≡ more = drop_at (field_bytes w v) more (field_size w) size in (
      ap (λ (xs : List ℕ). widths_in (suc (length ws)) (w ∷ xs)) whole
          ∙ passes (is_wide w (field_bytes w v ++ more)) (option_map (onto w) (widths_in (length ws) (drop (field_size w) (field_bytes w v ++ more)))) None able
          ∙ ap (λ (xs : List ℕ). option_map (onto w) (widths_in (length ws) xs)) after
          ∙ ap (λ (o : Option (List ℕ)). option_map (onto w) o) others.0,
      ap (λ (xs : List ℕ). field_in w xs ∷ wide_in ws (drop (field_size w) xs)) whole
          ∙ ap₂ (λ (x : Value) (xs : List ℕ). x ∷ wide_in ws xs) one.0 after
          ∙ ap (λ (xs : List Value). v ∷ xs) others.1,
    )

-- a test that held
tested : {T : Type 0} (q : Bool) (x : Option T) (y : T) → cond q x None ≡ Some y → (q ≡ true) × (x ≡ Some y)
tested true x y is = (refl, is)
tested false x y is = absurd cc

-- what was put in front
mapped : (w : ℕ) (o : Option (List ℕ)) (ws : List ℕ) → option_map (onto w) o ≡ Some ws → (us : List ℕ) × ((o ≡ Some us) × (onto w us ≡ ws))
mapped w None ws is = absurd cc
mapped w (Some us) ws is = (us, (refl, ap (λ (o : Option (List ℕ)). elim o [ None ↦ [] | Some x ↦ x ]) is))

behind : (n : ℕ) (bytes : List ℕ) → AreSmall bytes → AreSmall (drop n bytes)
behind n bytes h i = rw get_or-drop (h (n + i))

pub spelled_all : (n : ℕ) (ws bytes : List ℕ) → AreSmall bytes → widths_in n bytes ≡ Some ws → IsSpelled n ws bytes
spelled_all zero ws bytes fits is =
    let none : [] ≡ ws = ap (λ (o : Option (List ℕ)). elim o [ None ↦ [] | Some x ↦ x ]) is in
    subst (λ (us : List ℕ). IsSpelled zero us bytes) none (record { widths = refl; meets = refl; values = tt; many = refl; same = refl })
spelled_all (suc n) ws [] fits is = absurd cc
spelled_all (suc n) ws (w ∷ bytes) fits is =
    let t = tested (is_wide w bytes) (option_map (onto w) (widths_in n (drop (field_size w) bytes))) ws is in
    let m = mapped w (widths_in n (drop (field_size w) bytes)) ws t.1 in
    let p = both (is_width w) (nat_le (field_size w) (length bytes) && is_field w bytes) t.0 in
    let q = both (nat_le (field_size w) (length bytes)) (is_field w bytes) p.1 in
    let rest : List ℕ = drop (field_size w) bytes in
    let own = behind 1 (w ∷ bytes) fits in
    let one = field_spelled w bytes (leb-true (field_size w) (length bytes) q.0) q.1 own in
    let others = spelled_all n m.0 rest (behind (field_size w) bytes own) m.1.0 in
    let d : drop (field_size w + wide_size m.0) bytes ≡ drop (wide_size m.0) rest = ap (λ (k : ℕ). drop k bytes) (omega arith) ∙ sym (drop-drop (wide_size m.0) (field_size w) bytes) in
    subst (λ (us : List ℕ). IsSpelled (suc n) us (w ∷ bytes)) m.1.1 (record {
      widths = and_from (is_width w) (list_all is_width m.0) p.0 others.widths;
      meets = and_from (fits_width w (field_in w bytes)) (meets m.0 (wide_in m.0 rest)) one.1.0 others.meets;
      values = (one.1.1, others.values);
      many = ap suc others.many;
      same =
          ap (λ (xs : List ℕ). w ∷ ((field_bytes w (field_in w bytes) ++ wide_bytes m.0 (wide_in m.0 rest)) ++ xs)) d
          ∙ ap (λ (xs : List ℕ). w ∷ xs) (append_assoc (field_bytes w (field_in w bytes)) (wide_bytes m.0 (wide_in m.0 rest)) (drop (wide_size m.0) rest)
          ∙ ap (λ (xs : List ℕ). field_bytes w (field_in w bytes) ++ xs) others.same ∙ one.0);
    })

pub size_of_wide : (ws : List ℕ) (vs : List Value) → meets ws vs ≡ true → length (wide_bytes ws vs) ≡ wide_size ws
size_of_wide [] [] h = refl
size_of_wide [] (v ∷ vs) h = absurd cc
size_of_wide (w ∷ ws) [] h = absurd cc
size_of_wide (w ∷ ws) (v ∷ vs) h =
    let p = both (fits_width w v) (meets ws vs) h in
    let one = size_of_field_bytes w v p.0 in
    let others = size_of_wide ws vs p.1 in
    let l = length-append (field_bytes w v) (wide_bytes ws vs) in
    omega (arith, one, others, l)

-- a field more behind its width
pub wide_more : (i : ℕ) (ws : List ℕ) (vs : List Value) (d : ℕ) (v : Value) → i < length ws → slice_get vs i ≡ Some v → wide_bytes (take (i + 1) ws) (take (i + 1) vs) ≡ wide_bytes (take i ws) (take i vs) ++ get_or ws i d ∷ field_bytes (get_or ws i d) v
wide_more i [] vs d v h e = absurd (omega (arith, h))
wide_more i (w ∷ ws) [] d v h e = absurd cc
wide_more zero (w ∷ ws) (u ∷ vs) d v h e =
    let same : u ≡ v = ap (λ o. elim o [ None ↦ u | Some x ↦ x ]) e in
    ap (λ (xs : List ℕ). w ∷ xs) (append-nil (field_bytes w u)) ∙ ap (λ (x : Value). w ∷ field_bytes w x) same
wide_more (suc i) (w ∷ ws) (u ∷ vs) d v h e =
    let one : suc i + 1 ≡ suc (i + 1) = omega arith in
    rw one (ap (λ (xs : List ℕ). w ∷ (field_bytes w u ++ xs)) (wide_more i ws vs d v (omega (arith, h)) e) ∙ ap (λ (xs : List ℕ). w ∷ xs) (sym (append_assoc (field_bytes w u) (wide_bytes (take i ws) (take i vs)) (get_or ws i d ∷ field_bytes (get_or ws i d) v))))

-- what was read stands there
pub known_wide : (n : ℕ) (ws bytes : List ℕ) → widths_in n bytes ≡ Some ws → are_wide ws bytes ≡ true
known_wide zero ws bytes is =
    let none : [] ≡ ws = ap (λ (o : Option (List ℕ)). elim o [ None ↦ [] | Some x ↦ x ]) is in
    subst (λ (us : List ℕ). are_wide us bytes ≡ true) none refl
known_wide (suc n) ws [] is = absurd cc
known_wide (suc n) ws (w ∷ bytes) is =
    let t = tested (is_wide w bytes) (option_map (onto w) (widths_in n (drop (field_size w) bytes))) ws is in
    let m = mapped w (widths_in n (drop (field_size w) bytes)) ws t.1 in
    let p = both (is_width w) (nat_le (field_size w) (length bytes) && is_field w bytes) t.0 in
    let q = both (nat_le (field_size w) (length bytes)) (is_field w bytes) p.1 in
    let others = known_wide n m.0 (drop (field_size w) bytes) m.1.0 in
    subst (λ (us : List ℕ). are_wide us (w ∷ bytes) ≡ true) m.1.1 (and_from (nat_le (field_size w) (length bytes)) (is_field w bytes && are_wide m.0 (drop (field_size w) bytes)) q.0 (and_from (is_field w bytes) (are_wide m.0 (drop (field_size w) bytes)) q.1 others))

-- a width more, or none
pub widths_stop : (n : ℕ) (bytes : List ℕ) → 0 < n → first_width bytes ≡ None → widths_in n bytes ≡ None
widths_stop zero bytes h e = absurd (omega (arith, h))
widths_stop (suc n) [] h e = refl
widths_stop (suc n) (w ∷ bytes) h e = elim (is_wide w bytes) as (λ b. cond b (Some w) None ≡ None → cond b (option_map (onto w) (widths_in n (drop (field_size w) bytes))) None ≡ None) [ true ↦ λ p. absurd cc | false ↦ λ p. refl ] e

pub widths_go : (n : ℕ) (bytes : List ℕ) (w : ℕ) → 0 < n → first_width bytes ≡ Some w → widths_in n bytes ≡ option_map (onto w) (widths_in (n - 1) (drop (suc (field_size w)) bytes))
widths_go zero bytes w h e = absurd (omega (arith, h))
widths_go (suc n) [] w h e = absurd cc
widths_go (suc n) (u ∷ bytes) w h e =
    let k : suc n - 1 ≡ n = omega arith in
    let t = tested_width (is_wide u bytes) u w e in
    passes (is_wide u bytes) (option_map (onto u) (widths_in n (drop (field_size u) bytes))) None t.0
    ∙ ap (λ (x : ℕ). option_map (onto x) (widths_in n (drop (field_size x) bytes))) t.1
    ∙ ap (λ (m : ℕ). option_map (onto w) (widths_in m (drop (field_size w) bytes))) (sym k)
  where
    tested_width : (q : Bool) (x y : ℕ) → cond q (Some x) None ≡ Some y → (q ≡ true) × (x ≡ y)
    tested_width true x y is = (refl, ap (λ (o : Option ℕ). elim o [ None ↦ x | Some z ↦ z ]) is)
    tested_width false x y is = absurd cc

pub ahead_onto : (us : List ℕ) (w : ℕ) (o : Option (List ℕ)) → option_map (ahead us) (option_map (onto w) o) ≡ option_map (ahead (us ++ w ∷ [])) o
ahead_onto us w None = refl
ahead_onto us w (Some ws) = ap (λ (xs : List ℕ). Some xs) (sym (append_assoc us (w ∷ []) ws))

pub size_further : (us : List ℕ) (w : ℕ) → wide_size (us ++ w ∷ []) ≡ wide_size us + suc (field_size w)
size_further [] w = omega arith
size_further (u ∷ us) w = let e = size_further us w in omega (arith, e)
