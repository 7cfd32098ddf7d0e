-- There is room for every grant that admitted sessions can have.
use Rattle.std.proofs.Common.{◌≡◌, inl, inr, ⊎_elim, ℕ, ◌+◌, ◌*◌, ◌<◌, ◌≤◌, ◌==◌, suc, zero, Bool, true, false, cond, not, List, [], ◌∷◌, ◌++◌, filter, length, get_or, set, refl, sym, ap, ◌∙◌, subst, arith}
use Rattle.std.proofs.lemmas.Bool.{eqb-true, eq-eqb, false≢true, true≢false, and_from, and_parts, or_cases, or_parts}
use Rattle.std.proofs.lemmas.List.{length_push}
use Rattle.std.proofs.lemmas.List.Elements.{AllZip-get_or, length_all_zip}
use Rattle.std.specs.List.{All, AllZip, list_any}
use Rattle.lock_table.specs.declared.lock.Grant.{Grant}
use Rattle.lock_table.specs.Grants.{Has, equal_bits, joined}
use Rattle.lock_table.specs.Kept.{LockGrants, same_grant, has_grant, with_grant, is_of_other, without_grants, Grows, AllDiffer, HasRoom, IsKept}
use Rattle.lock_table.proofs.Added.{equal_is, is_equal}
use Rattle.lock_table.proofs.Kept.{has_left, has_right, has_parts}

-- the items of a list but for one
others : {A : Type 0} (ys : List A) (x : A) → Has ys x → (zs : List A) × (suc (length zs) ≡ length ys) × ((z : A) → Has ys z → (x ≡ z → ⊥) → Has zs z)
others [] x h = absurd h
others (y ∷ ys) x h = ⊎_elim
    (λ (e : y ≡ x). (ys, refl, λ z i n. ⊎_elim (λ (a : y ≡ z). absurd (n (sym e ∙ a))) (λ (b : Has ys z). b) i))
    (λ (g : Has ys x). let r = others ys x g in (y ∷ r.0, ap suc r.1, λ z i n. ⊎_elim (λ (a : y ≡ z). inl a) (λ (b : Has ys z). inr (r.2 z b n)) i))
    h

-- grants of which no two are equal, each of them in a list, are at most as many as the list
at_most : (xs ys : List Grant) → AllDiffer xs → ((z : Grant) → Has xs z → Has ys z) → length xs ≤ length ys
at_most [] ys d f = omega arith
at_most (x ∷ xs) ys d f =
    let r = others ys x (f x (inl refl)) in
    let h = at_most xs r.0 d.1 (λ z i. r.2 z (f z (inr i)) (λ e. d.0 (subst (λ (y : Grant). Has xs y) (sym e) i))) in
    omega (arith, h, r.1)

-- both grants of each session
both_of : List ℕ → List Grant
both_of [] = []
both_of (s ∷ ss) = record { session = s; exclusive = true } ∷ record { session = s; exclusive = false } ∷ both_of ss

length-both_of : (ss : List ℕ) → length (both_of ss) ≡ length ss + length ss
unfolding both_of
length-both_of [] = refl
length-both_of (s ∷ ss) = let h = length-both_of ss in omega (arith, h)

one_of_both : (s : ℕ) (b : Bool) (rest : List Grant) → Has (record { session = s; exclusive = true } ∷ record { session = s; exclusive = false } ∷ rest) (record { session = s; exclusive = b })
one_of_both s true rest = inl refl
one_of_both s false rest = inr (inl refl)

in_both : (ss : List ℕ) (g : Grant) → Has ss g.session → Has (both_of ss) g
unfolding both_of
in_both [] g h = absurd h
in_both (s ∷ ss) g h = ⊎_elim
    (λ (e : s ≡ g.session). subst (λ (u : ℕ). Has (record { session = u; exclusive = true } ∷ record { session = u; exclusive = false } ∷ both_of ss) g) (sym e) (one_of_both g.session g.exclusive (both_of ss)))
    (λ (i : Has ss g.session). inr (inr (in_both ss g i)))
    h

grant_is : (g h : Grant) → same_grant h g ≡ true → h ≡ g
grant_is g h e =
    let two = and_parts _ _ e in let x : h.session ≡ g.session = eqb-true _ _ two.0 in let y : h.exclusive ≡ g.exclusive = equal_is _ _ two.1 in
    λ i. record { session = x i; exclusive = y i }

has_not : (g : Grant) (gs : List Grant) → has_grant g gs ≡ false → Has gs g → ⊥
has_not g [] e h = h
has_not g (k ∷ ks) e h =
    let parts = or_parts _ _ e in
    ⊎_elim
    (λ (a : k ≡ g). true≢false (sym (subst (λ (x : Grant). same_grant x g ≡ true) (sym a) (and_from (g.session == g.session) (equal_bits g.exclusive g.exclusive) (eq-eqb g.session g.session refl) (is_equal g.exclusive))) ∙ parts.0))
    (λ (b : Has ks g). has_not g ks parts.1 b)
    h

-- a grant that isn't there yet has room
pub room_left : (admitted : List ℕ) (k : LockGrants) (g : Grant) → HasRoom admitted k → Has admitted g.session → has_grant g k.grants ≡ false → length k.grants < k.room
room_left admitted k g room h none =
    let most = at_most (g ∷ k.grants) (both_of admitted) (has_not g k.grants none, room.differ) (λ z i. ⊎_elim (λ (e : g ≡ z). subst (λ (y : Grant). Has (both_of admitted) y) e (in_both admitted g h)) (λ (j : Has k.grants z). in_both admitted z (room.sessions z j)) i) in
    let all = length-both_of admitted in
    let r = room.room in
    omega (arith, most, all, r)

differ_push : (gs : List Grant) (g : Grant) → AllDiffer gs → (Has gs g → ⊥) → AllDiffer (gs ++ g ∷ [])
differ_push [] g d n = (λ h. h, tt)
differ_push (x ∷ xs) g d n = (
  λ h. ⊎_elim (λ (i : Has xs x). d.0 i) (λ (i : Has (g ∷ []) x). ⊎_elim (λ (e : g ≡ x). n (inl (sym e))) (λ (j : ⊥). j) i) (has_parts xs (g ∷ []) x h),
  differ_push xs g d.1 (λ i. n (inr i)),
)

-- a grant to an admitted session keeps the room
pub room_with : (admitted : List ℕ) (k : LockGrants) (g : Grant) → HasRoom admitted k → Has admitted g.session → HasRoom admitted (with_grant g k)
room_with admitted k g room h = at (has_grant g k.grants) refl
  where
    at : (b : Bool) → has_grant g k.grants ≡ b → HasRoom admitted (record { grants = cond b k.grants (k.grants ++ g ∷ []); room = k.room })
    at true e = room
    at false e = record {
      differ = differ_push k.grants g room.differ (has_not g k.grants e);
      sessions = λ z i. ⊎_elim (λ (j : Has k.grants z). room.sessions z j) (λ (j : Has (g ∷ []) z). ⊎_elim (λ (a : g ≡ z). subst (λ (y : Grant). Has admitted y.session) a h) (λ (n : ⊥). absurd n) j) (has_parts k.grants (g ∷ []) z i);
      room = room.room;
    }

kept_has : (s : ℕ) (gs : List Grant) (g : Grant) → Has (filter (is_of_other s) gs) g → Has gs g
kept_has s [] g h = h
kept_has s (x ∷ xs) g h = at (x.session == s) (λ i. kept_has s xs g i) h
  where
    at : (b : Bool) → (Has (filter (is_of_other s) xs) g → Has xs g) → Has (cond (not b) (x ∷ filter (is_of_other s) xs) (filter (is_of_other s) xs)) g → Has (x ∷ xs) g
    at true f i = inr (f i)
    at false f i = ⊎_elim (λ (e : x ≡ g). inl e) (λ (j : Has (filter (is_of_other s) xs) g). inr (f j)) i

differ_kept : (s : ℕ) (gs : List Grant) → AllDiffer gs → AllDiffer (filter (is_of_other s) gs)
differ_kept s [] d = d
differ_kept s (x ∷ xs) d = at (x.session == s) (differ_kept s xs d.1)
  where
    at : (b : Bool) → AllDiffer (filter (is_of_other s) xs) → AllDiffer (cond (not b) (x ∷ filter (is_of_other s) xs) (filter (is_of_other s) xs))
    at true f = f
    at false f = (λ i. d.0 (kept_has s xs x i), f)

-- a release keeps the room
pub room_without : (admitted : List ℕ) (s : ℕ) (k : LockGrants) → HasRoom admitted k → HasRoom admitted (without_grants s k)
room_without admitted s k room = record {
  differ = differ_kept s k.grants room.differ;
  sessions = λ g i. room.sessions g (kept_has s k.grants g i);
  room = room.room;
}

-- the session is among those that joined
pub joined_new : (s : ℕ) (ss : List ℕ) → Has (joined s ss) s
joined_new s ss = at (list_any (λ x. x == s) ss) refl
  where
    there : (xs : List ℕ) → list_any (λ x. x == s) xs ≡ true → Has xs s
    there [] e = absurd (false≢true e)
    there (x ∷ xs) e = ⊎_elim (λ (a : (x == s) ≡ true). inl (eqb-true x s a)) (λ (b : list_any (λ x. x == s) xs ≡ true). inr (there xs b)) (or_cases _ _ e)

    at : (b : Bool) → list_any (λ x. x == s) ss ≡ b → Has (cond b ss (ss ++ s ∷ [])) s
    at true e = there ss e
    at false e = has_right ss (s ∷ []) s (inl refl)

-- and so are those of before
pub joined_old : (s : ℕ) (ss : List ℕ) (t : ℕ) → Has ss t → Has (joined s ss) t
joined_old s ss t h = at (list_any (λ x. x == s) ss)
  where
    at : (b : Bool) → Has (cond b ss (ss ++ s ∷ [])) t
    at true = h
    at false = has_left ss (s ∷ []) t h

room_grown : (admitted more : List ℕ) (old new : LockGrants) → HasRoom admitted old → ((s : ℕ) → Has admitted s → Has more s) → new.grants ≡ old.grants → length more + length more ≤ new.room → HasRoom more new
room_grown admitted more old new room f e le = record {
  differ = subst (λ (gs : List Grant). AllDiffer gs) (sym e) room.differ;
  sessions = λ g i. f g.session (room.sessions g (subst (λ (gs : List Grant). Has gs g) e i));
  room = le;
}

-- more room keeps what held
pub kept_grown : (admitted : List ℕ) (old new : List LockGrants) → IsKept admitted old → AllZip Grows old new → IsKept admitted new
kept_grown admitted old new kept zip = record {
  count = sym (length_all_zip Grows old new zip) ∙ kept.count;
  roomy = λ k d lt.
      let within : k < length old = let e = length_all_zip Grows old new zip in omega (arith, e, lt) in
      let both = AllZip-get_or Grows old new k d d zip within in
      let room = kept.roomy k d within in
      room_grown admitted admitted (get_or old k d) (get_or new k d) room (λ s h. h) both.0 (let r = room.room in let g = both.1 in omega (arith, r, g));
}

-- and makes room for one session more
pub kept_joined : (admitted : List ℕ) (s : ℕ) (old new : List LockGrants) → IsKept admitted old → AllZip Grows old new → All (λ k. (length admitted + 1) * 2 ≤ k.room) new → IsKept (admitted ++ s ∷ []) new
kept_joined admitted s old new kept zip wide = record {
  count = sym (length_all_zip Grows old new zip) ∙ kept.count;
  roomy = λ k d lt.
      let within : k < length old = let e = length_all_zip Grows old new zip in omega (arith, e, lt) in
      let both = AllZip-get_or Grows old new k d d zip within in
      let room = kept.roomy k d within in
      room_grown admitted (admitted ++ s ∷ []) (get_or old k d) (get_or new k d) room (λ t h. has_left admitted (s ∷ []) t h) both.0 (let r = wide k d lt in let n = length_push admitted s in omega (arith, r, n));
}

-- one lock more has grown
pub zip_set : (old new : List LockGrants) (i : ℕ) (d x : LockGrants) → AllZip Grows old new → Grows (get_or new i d) x → AllZip Grows old (set new i x)
zip_set [] [] i d x h g = h
zip_set [] (j ∷ js) i d x h g = absurd h
zip_set (k ∷ ks) [] i d x h g = absurd h
zip_set (k ∷ ks) (j ∷ js) zero d x h g = ((g.0 ∙ h.0.0, let a = h.0.1 in let b = g.1 in omega (arith, a, b)), h.1)
zip_set (k ∷ ks) (j ∷ js) (suc i) d x h g = (h.0, zip_set ks js i d x h.1 g)

pub zip_same : (ks : List LockGrants) → AllZip Grows ks ks
zip_same [] = tt
zip_same (k ∷ ks) = ((refl, omega arith), zip_same ks)
