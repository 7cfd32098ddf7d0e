-- What a session's grants are after wants were added or taken back.
use Rattle.std.proofs.Common.{◌≡◌, ◌⊎◌, inl, inr, ⊎_elim, ℕ, ◌==◌, not, ◌&&◌, ◌||◌, Bool, true, false, cond, List, [], ◌∷◌, ◌++◌, refl, sym, ap, subst}
use Rattle.std.proofs.lemmas.Bool.{eqb-true, false≢true, and_from, and_parts, or_cases}
use Rattle.lock_table.specs.Grants.{Has}
use Rattle.lock_table.proofs.Kept.{has_left, has_right, has_parts}
use Rattle.wait_die.specs.declared.want.WaitLock.{WaitLock}
use Rattle.wait_die.specs.declared.want.Want.{Want}
use Rattle.wait_die.specs.declared.grant.Grant.{Grant}
use Rattle.wait_die.specs.Conflict.{same_lock, meets, includes}
use Rattle.wait_die.specs.Waiting.{has_want, grant, granted, added, is_of_other}
use Rattle.wait_die.specs.Laws.{HasWant, AddedLaw, IncludesLaw, EndedLaw}
use Rattle.wait_die.proofs.Lists.{has_filtered, filtered_has, other_is, is_other_not}
use Rattle.wait_die.proofs.Locks.{same_is, is_same}

either : (b : Bool) → (b || not b) ≡ true
either true = refl
either false = refl

includes_itself : (w : Want) → includes w w ≡ true
includes_itself w = and_from (same_lock w.lock w.lock) (w.exclusive || not w.exclusive) (is_same w.lock) (either w.exclusive)

has_want_is : (s : ℕ) (w : Want) (gs : List Grant) → has_want s w gs ≡ true → HasWant gs s w
has_want_is s w [] e = absurd (false≢true e)
has_want_is s w (g ∷ gs) e = ⊎_elim
    (λ (a : (g.session == s && includes g.want w) ≡ true). let two = and_parts (g.session == s) (includes g.want w) a in (g, inl refl, eqb-true g.session s two.0, two.1))
    (λ (a : has_want s w gs ≡ true). let r = has_want_is s w gs a in (r.0, inr r.1, r.2, r.3))
    (or_cases (g.session == s && includes g.want w) (has_want s w gs) e)

granted_old : (s : ℕ) (w : Want) (gs : List Grant) (g : Grant) → Has gs g → Has (granted s w gs) g
granted_old s w gs g h = at (has_want s w gs)
  where
    at : (b : Bool) → Has (cond b gs (gs ++ grant s w ∷ [])) g
    at true = h
    at false = has_left gs (grant s w ∷ []) g h

granted_new : (s : ℕ) (w : Want) (gs : List Grant) → HasWant (granted s w gs) s w
granted_new s w gs = at (has_want s w gs) refl
  where
    at : (b : Bool) → has_want s w gs ≡ b → HasWant (cond b gs (gs ++ grant s w ∷ [])) s w
    at true e = has_want_is s w gs e
    at false e = (grant s w, has_right gs (grant s w ∷ []) (grant s w) (inl refl), refl, includes_itself w)

granted_only : (s : ℕ) (w : Want) (gs : List Grant) (g : Grant) → Has (granted s w gs) g → Has gs g ⊎ (grant s w ≡ g)
granted_only s w gs g h = at (has_want s w gs) h
  where
    at : (b : Bool) → Has (cond b gs (gs ++ grant s w ∷ [])) g → Has gs g ⊎ (grant s w ≡ g)
    at true i = inl i
    at false i = ⊎_elim
        (λ (a : Has gs g). inl a)
        (λ (a : Has (grant s w ∷ []) g). ⊎_elim (λ (e : grant s w ≡ g). inr e) (λ (e : ⊥). absurd e) a)
        (has_parts gs (grant s w ∷ []) g i)

pub added_old : (s : ℕ) (ws : List Want) (gs : List Grant) (g : Grant) → Has gs g → Has (added s ws gs) g
added_old s [] gs g h = h
added_old s (w ∷ ws) gs g h = added_old s ws (granted s w gs) g (granted_old s w gs g h)

pub added_only : (s : ℕ) (ws : List Want) (gs : List Grant) (g : Grant) → Has (added s ws gs) g → Has gs g ⊎ ((g.session ≡ s) × Has ws g.want)
added_only s [] gs g h = inl h
added_only s (w ∷ ws) gs g h = ⊎_elim
    (λ (a : Has (granted s w gs) g). ⊎_elim
    (λ (b : Has gs g). inl b)
    (λ (b : grant s w ≡ g). inr (ap (λ (y : Grant). y.session) (sym b), inl (ap (λ (y : Grant). y.want) b)))
    (granted_only s w gs g a))
    (λ (a : (g.session ≡ s) × Has ws g.want). inr (a.0, inr a.1))
    (added_only s ws (granted s w gs) g h)

added_all : (s : ℕ) (ws : List Want) (gs : List Grant) (w : Want) → Has ws w → HasWant (added s ws gs) s w
added_all s [] gs w h = absurd h
added_all s (v ∷ vs) gs w h = ⊎_elim
    (λ (e : v ≡ w). subst (λ (x : Want). HasWant (added s vs (granted s v gs)) s x) e (let r = granted_new s v gs in (r.0, added_old s vs (granted s v gs) r.0 r.1, r.2, r.3)))
    (λ (i : Has vs w). added_all s vs (granted s v gs) w i)
    h

pub added_law : AddedLaw
added_law s ws gs = record { kept = added_old s ws gs; only = added_only s ws gs; all = added_all s ws gs }

stronger : (u v w : Bool) → (v || not w) ≡ true → (u || w) ≡ true → (u || v) ≡ true
stronger true v w e f = refl
stronger false true w e f = refl
stronger false false true e f = absurd (false≢true e)
stronger false false false e f = absurd (false≢true f)

pub includes_law : IncludesLaw
includes_law v w u i c =
    let two = and_parts (same_lock v.lock w.lock) (v.exclusive || not w.exclusive) i in
    let more = and_parts (meets u.lock w.lock) (u.exclusive || w.exclusive) c in
    and_from (meets u.lock v.lock) (u.exclusive || v.exclusive)
    (subst (λ (x : WaitLock). meets u.lock x ≡ true) (sym (same_is v.lock w.lock two.0)) more.0)
    (stronger u.exclusive v.exclusive w.exclusive two.1 more.1)

pub ended_law : EndedLaw
ended_law t s g = (
  λ h. let two = has_filtered (is_of_other s) t.grants g h in (two.0, is_other_not s g.session two.1),
  λ h. filtered_has (is_of_other s) t.grants g h.0 (other_is s g.session h.1),
)
