-- A session that would hold a request.
use Rattle.std.proofs.Common.{◌≡◌, ⊎_elim, inl, inr, ℕ, ◌<◌, ◌==◌, Bool, true, false, ◌&&◌, ◌||◌, List, [], ◌∷◌, ◌++◌, map, length, get_or, refl, sym, ◌∙◌, subst, arith}
use Rattle.std.proofs.lemmas.Bool.{eqb-true, eq-eqb, true≢false, false≢true, and_from, and_parts, or_left, or_right, or_cases}
use Rattle.lock_table.specs.declared.need.Need.{Need}
use Rattle.lock_table.specs.Rows.{Row, conflict, conflicts, holds}
use Rattle.lock_table.specs.Grants.{Has}
use Rattle.lock_table.specs.Kept.{LockGrants, row_of, rows_from}
use Rattle.lock_table.proofs.Kept.{part_has, has_part}

-- one of its rows conflicts with one of the needs
abbrev pub Held : ℕ → List Need → List Row → Type 0
Held s ns rows = (r : Row) × Has rows r × (r.session ≡ s) × (conflicts ns r.need ≡ true)

pub holds_held : (s : ℕ) (ns : List Need) (rows : List Row) → holds s ns rows ≡ true → Held s ns rows
holds_held s ns [] e = absurd (false≢true e)
holds_held s ns (r ∷ rs) e = ⊎_elim
    (λ (a : (r.session == s && conflicts ns r.need) ≡ true). let two = and_parts _ _ a in (r, inl refl, eqb-true _ _ two.0, two.1))
    (λ (a : holds s ns rs ≡ true). let h = holds_held s ns rs a in (h.0, inr h.1, h.2, h.3))
    (or_cases _ _ e)

pub held_holds : (s : ℕ) (ns : List Need) (rows : List Row) → Held s ns rows → holds s ns rows ≡ true
held_holds s ns [] h = absurd h.1
held_holds s ns (r ∷ rs) (q, has, session, bad) = ⊎_elim
    (λ (a : r ≡ q). or_left (r.session == s && conflicts ns r.need) (holds s ns rs)
    (subst (λ (t : Row). (t.session == s && conflicts ns t.need) ≡ true) (sym a) (and_from (q.session == s) (conflicts ns q.need) (eq-eqb _ _ session) bad)))
    (λ (a : Has rs q). or_right (r.session == s && conflicts ns r.need) (holds s ns rs) (held_holds s ns rs (q, a, session, bad)))
    has

same_bits : (a b : Bool) → (a ≡ true → b ≡ true) → (b ≡ true → a ≡ true) → a ≡ b
same_bits true b f g = sym (f refl)
same_bits false true f g = g refl
same_bits false false f g = refl

conflicts_on : (n m : Need) → conflicts (n ∷ []) m ≡ true → m.lock ≡ n.lock
conflicts_on n m e = ⊎_elim
    (λ (a : conflict n m ≡ true). sym (eqb-true _ _ (and_parts _ _ a).0))
    (λ (a : false ≡ true). absurd (false≢true a))
    (or_cases _ _ e)

-- it is read off the rows of the need's lock
pub holds_part : (s : ℕ) (n : Need) (ks : List LockGrants) (d : LockGrants) → n.lock < length ks → holds s (n ∷ []) (map (row_of n.lock) (get_or ks n.lock d).grants) ≡ holds s (n ∷ []) (rows_from 0 ks)
holds_part s n ks d lt =
    let here : List Row = map (row_of n.lock) (get_or ks n.lock d).grants in
    same_bits (holds s (n ∷ []) here) (holds s (n ∷ []) (rows_from 0 ks))
    (λ e. let h = holds_held s (n ∷ []) here e in held_holds s (n ∷ []) (rows_from 0 ks) (h.0, part_has ks n.lock 0 n.lock d h.0 (omega arith) lt h.1, h.2, h.3))
    (λ e. let h = holds_held s (n ∷ []) (rows_from 0 ks) e in held_holds s (n ∷ []) here (h.0, has_part ks n.lock 0 n.lock d h.0 (omega arith) lt (conflicts_on n h.0.need h.3) h.1, h.2, h.3))

-- ---- more needs

conflicts_parts : (ns ms : List Need) (m : Need) → conflicts (ns ++ ms) m ≡ (conflicts ns m || conflicts ms m)
conflicts_parts [] ms m = refl
conflicts_parts (n ∷ ns) ms m = either (conflict n m) (conflicts (ns ++ ms) m) (conflicts ns m) (conflicts ms m) (conflicts_parts ns ms m)
  where
    either : (a b c d : Bool) → b ≡ (c || d) → (a || b) ≡ ((a || c) || d)
    either true b c d e = refl
    either false b c d e = e

pub none_held : (s : ℕ) (rows : List Row) → holds s [] rows ≡ false
none_held s [] = refl
none_held s (r ∷ rs) = either (r.session == s) (holds s [] rs) (none_held s rs)
  where
    either : (a b : Bool) → b ≡ false → ((a && false) || b) ≡ false
    either true b e = e
    either false b e = e

-- one need more that it doesn't hold
pub held_more : (s : ℕ) (ns : List Need) (n : Need) (rows : List Row) → holds s ns rows ≡ false → holds s (n ∷ []) rows ≡ false → holds s (ns ++ n ∷ []) rows ≡ false
held_more s ns n rows e f = by (holds s (ns ++ n ∷ []) rows) refl
  where
    by : (q : Bool) → holds s (ns ++ n ∷ []) rows ≡ q → holds s (ns ++ n ∷ []) rows ≡ false
    by false g = g
    by true g =
        let h = holds_held s (ns ++ n ∷ []) rows g in
        ⊎_elim
        (λ (a : conflicts ns h.0.need ≡ true). absurd (true≢false (sym (held_holds s ns rows (h.0, h.1, h.2, a)) ∙ e)))
        (λ (a : conflicts (n ∷ []) h.0.need ≡ true). absurd (true≢false (sym (held_holds s (n ∷ []) rows (h.0, h.1, h.2, a)) ∙ f)))
        (or_cases (conflicts ns h.0.need) (conflicts (n ∷ []) h.0.need) (sym (conflicts_parts ns (n ∷ []) h.0.need) ∙ h.3))

-- a need that it holds is one of all
pub held_among : (s : ℕ) (ns ms : List Need) (n : Need) (rows : List Row) → holds s (n ∷ []) rows ≡ true → holds s ((ns ++ n ∷ []) ++ ms) rows ≡ true
held_among s ns ms n rows e =
    let h = holds_held s (n ∷ []) rows e in
    let front : conflicts (ns ++ n ∷ []) h.0.need ≡ true = conflicts_parts ns (n ∷ []) h.0.need ∙ or_right (conflicts ns h.0.need) (conflicts (n ∷ []) h.0.need) h.3 in
    held_holds s ((ns ++ n ∷ []) ++ ms) rows (h.0, h.1, h.2, conflicts_parts (ns ++ n ∷ []) ms h.0.need ∙ or_left (conflicts (ns ++ n ∷ []) h.0.need) (conflicts ms h.0.need) front)
