-- What reading gives keeps: one step after another, over all that can be read.
use Rattle.std.proofs.Common.{◌≡◌, ℕ, zero, suc, Bool, true, false, cond, List, [], ◌∷◌, ◌++◌, length, Result, Ok, refl, sym, ap, subst, ◌∙◌}
use Rattle.std.specs.List.{All}
use Rattle.std.proofs.lemmas.List.Elements.{All-nil, All-cons}
use Rattle.image_text.specs.Reading.{◌>>=◌, Read, test, repeat}
use Rattle.image_text.proofs.Loop.{bind_ok, ok_is}
use Rattle.image_text.proofs.Counted.{tested}
use Rattle.db_image.specs.Rules.{EachNext, after, onto}
use Rattle.db_image.proofs.ReadSteps.{after_onto}

-- what is read has this
pub record Keeps {A : Type 0} (r : Result A ℕ) (P : A → Type 0) : Type 0 where
  pub holds : (x : A) → r ≡ Ok x → P x

-- ---- steps

pub first_read : {A B : Type 0} {r : Result A ℕ} {Q : A → Type 0} {P : B → Type 0} (f : A → Result B ℕ) → Keeps r Q → ((a : A) → Q a → Keeps (f a) P) → Keeps (r >>= f) P
first_read {r = r} f one more = record {
  holds = λ x e.
      let y = bind_ok r f x e in
      (more y.0 (one.holds y.0 y.1)).holds x y.2;
}

-- a step of which nothing is asked
pub then_read : {A B : Type 0} {P : B → Type 0} (r : Result A ℕ) (f : A → Result B ℕ) → ((a : A) → Keeps (f a) P) → Keeps (r >>= f) P
then_read r f more = record {
  holds = λ x e.
      let y = bind_ok r f x e in
      (more y.0).holds x y.2;
}

pub if_tested : {B : Type 0} {P : B → Type 0} (b : Bool) (bytes : List ℕ) (f : Unit {0} → Result B ℕ) → (b ≡ true → Keeps (f tt) P) → Keeps (test b bytes >>= f) P
if_tested b bytes f more = record {
  holds = λ x e.
      let y = bind_ok (test b bytes) f x e in
      (more (tested b bytes y.0 y.1)).holds x y.2;
}

pub either_read : {A : Type 0} {P : A → Type 0} (b : Bool) (r s : Result A ℕ) → Keeps r P → Keeps s P → Keeps (cond b r s) P
either_read true r s p q = p
either_read false r s p q = q

pub all_read : {A : Type 0} {P : A → Type 0} (a : A) → P a → Keeps (Ok a) P
all_read {P = P} a p = record { holds = λ x e. subst P (ok_is a x e) p }

-- what follows from what is kept
pub so_kept : {A : Type 0} {r : Result A ℕ} {Q P : A → Type 0} → Keeps r Q → ((a : A) → Q a → P a) → Keeps r P
so_kept k more = record { holds = λ x e. more x (k.holds x e) }

pub both_kept : {A : Type 0} {r : Result A ℕ} {Q P : A → Type 0} → Keeps r Q → Keeps r P → Keeps r (λ a. Q a × P a)
both_kept k l = record { holds = λ x e. (k.holds x e, l.holds x e) }

-- ---- items, one after another

-- one item more, which keeps its rule
abbrev pub MakesOne : {S A : Type 0} → (S → A → S) → (S → A → Type 0) → S → S × List ℕ → Type 0
MakesOne {A = A} next P s t = (a : A) × (t.0 ≡ next s a) × P s a

-- so many items more, which keep their rules
abbrev pub MakesAll : {S A : Type 0} → (S → A → S) → (S → A → Type 0) → ℕ → S → S × List ℕ → Type 0
MakesAll {A = A} next P k s t = (got : List A) × (length got ≡ k) × (t.0 ≡ after next s got) × EachNext next P s got

pub one_more : {S A : Type 0} (next : S → A → S) (P : S → A → Type 0) (k : ℕ) (s : S) (t u : S × List ℕ) → MakesOne next P s t → MakesAll next P k t.0 u → MakesAll next P (suc k) s u
one_more next P k s t u one all =
    let rest = subst (λ x. MakesAll next P k x u) one.1 all in
    (one.0 ∷ rest.0, ap suc rest.1, rest.2, (one.2, rest.3))

pub each_read : {S A : Type 0} (next : S → A → S) (P : S → A → Type 0) (item : S → List ℕ → Read S) → ((s : S) (b : List ℕ) → Keeps (item s b) (MakesOne next P s)) → (k : ℕ) (s : S) (b : List ℕ) → Keeps (repeat item k s b) (MakesAll next P k s)
unfolding repeat
each_read next P item one zero s b = all_read (s, b) ([], refl, refl, tt)
each_read next P item one (suc k) s b =
    first_read _ (one s b) (λ t made. so_kept (each_read next P item one k t.0 t.1) (λ u all. one_more next P k s t u made all))

-- from no item on
pub from_none : {A : Type 0} (P : List A → A → Type 0) (k : ℕ) (t : List A × List ℕ) → MakesAll onto P k [] t → (length t.0 ≡ k) × EachNext onto P [] t.0
from_none P k t all = subst (λ xs. (length xs ≡ k) × EachNext onto P [] xs) (sym (all.2 ∙ after_onto [] all.0)) (all.1, all.3)

pub each_has : {A : Type 0} (P : List A → A → Type 0) (Q : A → Type 0) → ((t : List A) (x : A) → P t x → Q x) → (s xs : List A) → EachNext onto P s xs → All Q xs
each_has P Q so s [] each = All-nil Q
each_has P Q so s (x ∷ xs) each = All-cons Q x xs (so s x each.0) (each_has P Q so (s ++ x ∷ []) xs each.1)

pub all_of : {A : Type 0} (P : A → Type 0) (k : ℕ) (t : List A × List ℕ) → MakesAll onto (λ s x. P x) k [] t → All P t.0
all_of P k t all = each_has (λ s x. P x) P (λ s x p. p) [] t.0 (from_none (λ s x. P x) k t all).1
