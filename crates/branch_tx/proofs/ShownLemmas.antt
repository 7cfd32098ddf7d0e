-- Views of one state agree, and go on to do so as views are put and lent.
use Rattle.std.proofs.Common.{◌≡◌, ℕ, zero, suc, ◌<◌, ◌≤◌, Bool, true, false, List, [], ◌∷◌, ◌++◌, length, take, get_or, refl, ap, sym, subst, ◌∙◌, arith, Some}
use Rattle.std.specs.Prelude.{nat_lt}
use Rattle.std.proofs.lemmas.Bool.{ltb-true, ltb-false}
use Rattle.std.proofs.lemmas.List.{get_or_past}
use Rattle.std.proofs.lemmas.List.FromFn.{get_or-map-range_with_len, length-map-range_with_len}
use Rattle.db_value.specs.Schema.{most_relations}
use Rattle.db_store.specs.State.{State, part_records}
use Rattle.db_store.specs.Parts.{Part, part_at, records_in, AreOf}
use Rattle.multi_scan.specs.Agree.{AgreeOn}
use Rattle.branch_tx.specs.Shown.{Shown, parts_by, parts_at, parts_in, ViewsAgree, ViewsOf}

some_is : {X : Type 0} (a b : X) → Some a ≡ Some b → a ≡ b
some_is a b e = cc

-- the parts of a relation are among what is shown
pub shown_at : (parts : ℕ → List Part) (r : ℕ) → r < most_relations → parts_at (parts_by parts) r ≡ parts r
shown_at parts r h = get_or-map-range_with_len parts 0 most_relations r r [] h (omega arith)

-- views of one state agree
pub one_state : (s : State) (views : List Shown) → ViewsOf s views → ViewsAgree views
one_state s views of r v w i j h k e = some_is _ _ (sym (of v r i h) ∙ ap (λ id. part_records s r id) e ∙ of w r j k)

-- parts of a relation as a state has them
abbrev OfRelation : State → ℕ → List Part → Type 0
OfRelation s r parts = (i : ℕ) → i < length parts → part_records s r (part_at parts i).id ≡ Some (records_in (part_at parts i))

-- what is shown of a view of a state
pub view_of : (s : State) (parts : ℕ → List Part) → AreOf s parts → AreOf s (parts_at (parts_by parts))
view_of s parts a r = by (nat_lt r most_relations) refl
  where
    by : (b : Bool) → nat_lt r most_relations ≡ b → OfRelation s r (parts_at (parts_by parts) r)
    by true e = subst (OfRelation s r) (sym (shown_at parts r (ltb-true r most_relations e))) (a r)
    by false e = subst (OfRelation s r) (sym (get_or_past (parts_by parts) r [] (past (ltb-false r most_relations e)))) (λ i h. absurd (omega (arith, h)))
      where
        past : most_relations ≤ r → length (parts_by parts) ≤ r
        past l = let n = length-map-range_with_len parts 0 most_relations in omega (arith, n, l)

pub of_none : (s : State) → AreOf s (parts_at [])
of_none s r i h = absurd (omega (arith, h))

-- one view in front
pub of_front : (s : State) (view : Shown) (views : List Shown) → AreOf s (parts_at view) → ViewsOf s views → ViewsOf s (view ∷ views)
of_front s view views a o zero = a
of_front s view views a o (suc v) = o v

pub of_rest : (s : State) (view : Shown) (views : List Shown) → ViewsOf s (view ∷ views) → ViewsOf s views
of_rest s view views o v = o (suc v)

-- one view more
pub of_more : (s : State) (views : List Shown) (view : Shown) → ViewsOf s views → AreOf s (parts_at view) → ViewsOf s (views ++ view ∷ [])
of_more s [] view o a = of_front s view [] a o
of_more s (x ∷ xs) view o a = of_front s x (xs ++ view ∷ []) (o 0) (of_more s xs view (of_rest s x xs o) a)

-- the first few views
pub of_taken : (s : State) (n : ℕ) (views : List Shown) → ViewsOf s views → ViewsOf s (take n views)
of_taken s zero views o = λ v r i h. absurd (omega (arith, h))
of_taken s (suc n) [] o = o
of_taken s (suc n) (x ∷ xs) o = of_front s x (take n xs) (o 0) (of_taken s n xs (of_rest s x xs o))

-- each of the first few views is one of all, or there is none
taken_at : (n : ℕ) (views : List Shown) (v : ℕ) → (P : Shown → Type 0) → P [] → P (get_or views v []) → P (get_or (take n views) v [])
taken_at zero views v P none p = none
taken_at (suc n) [] v P none p = p
taken_at (suc n) (x ∷ xs) zero P none p = p
taken_at (suc n) (x ∷ xs) (suc v) P none p = taken_at n xs v P none p

-- the first few views agree
pub agree_taken : (n : ℕ) (views : List Shown) → ViewsAgree views → ViewsAgree (take n views)
agree_taken n views a r v w =
    taken_at n views v (λ x. AgreeOn (parts_at x r) (parts_in (take n views) w r)) (λ i j h. absurd (omega (arith, h)))
    (taken_at n views w (λ y. AgreeOn (parts_in views v r) (parts_at y r)) (λ i j h k. absurd (omega (arith, k))) (a r v w))
