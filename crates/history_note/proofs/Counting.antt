-- Places of lines, and what is owed.
use Rattle.std.proofs.Common.{◌≡◌, ◌≢◌, ◌⊎◌, ℕ, suc, ◌+◌, List, [], ◌∷◌, ◌++◌, length, take, drop, Bool, true, false, true≢false, cond, eqb, refl, sym, ap, ◌∙◌, subst, inl, inr, ⊎_elim, arith, length-append, append_assoc, append-nil, eq-eqb, ne_eqb, eqb-true}
use Rattle.std.proofs.Math.Seq.{take-append_seam, drop-append_seam}
use Rattle.std.specs.Prelude.{Option, Some, None, is_some}
use Rattle.atomic_table.proofs.Lists.{at_longer, at_last}
use Rattle.db_value.specs.declared.step.Step.{Step}
use Rattle.history_note.specs.declared.view.NotedLine.{NotedLine}
use Rattle.history_note.specs.declared.view.PassView.{PassView}
use Rattle.history_note.specs.Places.{place_if, places_from, places, owed_to, unless_to, without, kept_for, unless_for, kept_without, IsNoted, IsIssued, AllIssued, AllOwedIssued, AllKeptIssued}
use Rattle.history_note.specs.Views.{completed, carried_after, owed_after, noted_line}
use Rattle.history_note.specs.Rule.{LeftFits, IsCarried, CarriedFits, IsNotCarried, IsTheCarried, IsNext}

pub place_same : (n m p : ℕ) → m ≡ n → place_if n m p ≡ p ∷ []
place_same n m p e = ap (λ b. cond b (p ∷ []) []) (eq-eqb m n e)

pub place_other : (n m p : ℕ) → m ≢ n → place_if n m p ≡ []
place_other n m p e = ap (λ b. cond b (p ∷ []) []) (ne_eqb m n e)

pub places_append : (n k : ℕ) (xs ys : List NotedLine) → places_from n k (xs ++ ys) ≡ places_from n k xs ++ places_from n (k + length xs) ys
places_append n k [] ys = let e : k ≡ k + 0 = omega arith in ap (λ j. places_from n j ys) e
places_append n k (x ∷ xs) ys =
    let ih = places_append n (k + 1) xs ys in
    let e : k + 1 + length xs ≡ k + suc (length xs) = omega arith in
    ap (λ l. place_if n x.number k ++ l) (ih ∙ ap (λ j. places_from n (k + 1) xs ++ places_from n j ys) e) ∙ sym (append_assoc (place_if n x.number k) (places_from n (k + 1) xs) (places_from n (k + suc (length xs)) ys))

pub owed_append : (n : ℕ) (xs ys : List (ℕ × ℕ)) → owed_to n (xs ++ ys) ≡ owed_to n xs ++ owed_to n ys
owed_append n [] ys = refl
owed_append n (x ∷ xs) ys = ap (λ l. place_if n x.0 x.1 ++ l) (owed_append n xs ys) ∙ sym (append_assoc (place_if n x.0 x.1) (owed_to n xs) (owed_to n ys))

keep_same : (n : ℕ) (o : ℕ × ℕ) → o.0 ≡ n → unless_to n o ≡ []
keep_same n o e = ap (λ b. cond b [] (o ∷ [])) (eq-eqb o.0 n e)

keep_else : (n : ℕ) (o : ℕ × ℕ) → o.0 ≢ n → unless_to n o ≡ o ∷ []
keep_else n o e = ap (λ b. cond b [] (o ∷ [])) (ne_eqb o.0 n e)

-- a number is another one or not
pub same_or_not : (m n : ℕ) → (m ≡ n) ⊎ (m ≢ n)
same_or_not m n = by_test (eqb m n) refl
  where
    by_test : (b : Bool) → eqb m n ≡ b → (m ≡ n) ⊎ (m ≢ n)
    by_test true e = inl (eqb-true m n e)
    by_test false e = inr (λ h. let t : true ≡ false = sym (eq-eqb m n h) ∙ e in absurd cc)

pub owed_without_same : (n : ℕ) (os : List (ℕ × ℕ)) → owed_to n (without n os) ≡ []
owed_without_same n [] = refl
owed_without_same n (o ∷ os) =
    ⊎_elim
    (λ e. ap (λ k. owed_to n (k ++ without n os)) (keep_same n o e) ∙ owed_without_same n os)
    (λ e. ap (λ k. owed_to n (k ++ without n os)) (keep_else n o e) ∙ ap (λ h. h ++ owed_to n (without n os)) (place_other n o.0 o.1 e) ∙ owed_without_same n os)
    (same_or_not o.0 n)

pub owed_without_other : (n m : ℕ) (os : List (ℕ × ℕ)) → n ≢ m → owed_to n (without m os) ≡ owed_to n os
owed_without_other n m [] ne = refl
owed_without_other n m (o ∷ os) ne =
    ⊎_elim
    (λ e. ap (λ k. owed_to n (k ++ without m os)) (keep_same m o e) ∙ owed_without_other n m os ne ∙ sym (ap (λ h. h ++ owed_to n os) (place_other n o.0 o.1 (λ z. ne (sym z ∙ e)))))
    (λ e. ap (λ k. owed_to n (k ++ without m os)) (keep_else m o e) ∙ ap (λ h. place_if n o.0 o.1 ++ h) (owed_without_other n m os ne))
    (same_or_not o.0 m)

-- what was noted stays noted
pub noted_more : (xs ys : List (ℕ × ℕ)) (n s : ℕ) → IsNoted xs n s → IsNoted (xs ++ ys) n s
noted_more [] ys n s h = absurd h
noted_more (x ∷ xs) ys n s (inl h) = inl h
noted_more (x ∷ xs) ys n s (inr h) = inr (noted_more xs ys n s h)

pub noted_last : (xs : List (ℕ × ℕ)) (n s : ℕ) → IsNoted (xs ++ (n, s) ∷ []) n s
noted_last [] n s = inl (refl, refl)
noted_last (x ∷ xs) n s = inr (noted_last xs n s)

pub issued_more : (xs ys : List (ℕ × ℕ)) (n : ℕ) → IsIssued xs n → IsIssued (xs ++ ys) n
issued_more xs ys n h = (h.0, noted_more xs ys n h.0 h.1)

pub all_issued_more : (xs ys : List (ℕ × ℕ)) (ls : List NotedLine) → AllIssued xs ls → AllIssued (xs ++ ys) ls
all_issued_more xs ys [] h = tt
all_issued_more xs ys (l ∷ ls) h = (issued_more xs ys l.number h.0, all_issued_more xs ys ls h.1)

pub all_owed_more : (xs ys os : List (ℕ × ℕ)) → AllOwedIssued xs os → AllOwedIssued (xs ++ ys) os
all_owed_more xs ys [] h = tt
all_owed_more xs ys (o ∷ os) h = (issued_more xs ys o.0 h.0, all_owed_more xs ys os h.1)

pub all_issued_last : (xs : List (ℕ × ℕ)) (ls : List NotedLine) (l : NotedLine) → AllIssued xs ls → IsIssued xs l.number → AllIssued xs (ls ++ l ∷ [])
all_issued_last xs [] l h k = (k, tt)
all_issued_last xs (x ∷ ls) l h k = (h.0, all_issued_last xs ls l h.1 k)

pub all_owed_last : (xs os : List (ℕ × ℕ)) (o : ℕ × ℕ) → AllOwedIssued xs os → IsIssued xs o.0 → AllOwedIssued xs (os ++ o ∷ [])
all_owed_last xs [] o h k = (k, tt)
all_owed_last xs (x ∷ os) o h k = (h.0, all_owed_last xs os o h.1 k)

pub all_owed_without : (xs os : List (ℕ × ℕ)) (n : ℕ) → AllOwedIssued xs os → AllOwedIssued xs (without n os)
all_owed_without xs [] n h = tt
all_owed_without xs (o ∷ os) n h =
    ⊎_elim
    (λ e. subst (λ k. AllOwedIssued xs (k ++ without n os)) (sym (keep_same n o e)) (all_owed_without xs os n h.1))
    (λ e. subst (λ k. AllOwedIssued xs (k ++ without n os)) (sym (keep_else n o e)) (h.0, all_owed_without xs os n h.1))
    (same_or_not o.0 n)

-- a number that was not issued has no lines, and is owed nothing
pub no_places : (xs : List (ℕ × ℕ)) (n k : ℕ) (ls : List NotedLine) → (IsIssued xs n → ⊥) → AllIssued xs ls → places_from n k ls ≡ []
no_places xs n k [] new h = refl
no_places xs n k (l ∷ ls) new h = ap (λ t. t ++ places_from n (k + 1) ls) (place_other n l.number k (λ e. new (subst (IsIssued xs) e h.0))) ∙ no_places xs n (k + 1) ls new h.1

pub no_debts : (xs : List (ℕ × ℕ)) (n : ℕ) (os : List (ℕ × ℕ)) → (IsIssued xs n → ⊥) → AllOwedIssued xs os → owed_to n os ≡ []
no_debts xs n [] new h = refl
no_debts xs n (o ∷ os) new h = ap (λ t. t ++ owed_to n os) (place_other n o.0 o.1 (λ e. new (subst (IsIssued xs) e h.0))) ∙ no_debts xs n os new h.1

some_none : (t : List ℕ) → Some t ≡ None → ⊥
some_none t e = true≢false (ap is_some e)

-- what is kept for a number, after one was taken out
forget_same : (n : ℕ) (k : ℕ × List ℕ) → k.0 ≡ n → unless_for n k ≡ []
forget_same n k e = ap (λ b. cond b [] (k ∷ [])) (eq-eqb k.0 n e)

forget_else : (n : ℕ) (k : ℕ × List ℕ) → k.0 ≢ n → unless_for n k ≡ k ∷ []
forget_else n k e = ap (λ b. cond b [] (k ∷ [])) (ne_eqb k.0 n e)

kept_here : (n : ℕ) (k : ℕ × List ℕ) (ks : List (ℕ × List ℕ)) → k.0 ≡ n → kept_for n (k ∷ ks) ≡ Some k.1
kept_here n k ks e = ap (λ b. cond b (Some k.1) (kept_for n ks)) (eq-eqb k.0 n e)

kept_else : (n : ℕ) (k : ℕ × List ℕ) (ks : List (ℕ × List ℕ)) → k.0 ≢ n → kept_for n (k ∷ ks) ≡ kept_for n ks
kept_else n k ks e = ap (λ b. cond b (Some k.1) (kept_for n ks)) (ne_eqb k.0 n e)

pub kept_without_same : (n : ℕ) (ks : List (ℕ × List ℕ)) → kept_for n (kept_without n ks) ≡ None
kept_without_same n [] = refl
kept_without_same n (k ∷ ks) =
    ⊎_elim
    (λ e. ap (λ x. kept_for n (x ++ kept_without n ks)) (forget_same n k e) ∙ kept_without_same n ks)
    (λ e. ap (λ x. kept_for n (x ++ kept_without n ks)) (forget_else n k e) ∙ kept_else n k (kept_without n ks) e ∙ kept_without_same n ks)
    (same_or_not k.0 n)

pub kept_without_other : (n m : ℕ) (ks : List (ℕ × List ℕ)) → n ≢ m → kept_for n (kept_without m ks) ≡ kept_for n ks
kept_without_other n m [] ne = refl
kept_without_other n m (k ∷ ks) ne =
    ⊎_elim
    (λ e. ap (λ x. kept_for n (x ++ kept_without m ks)) (forget_same m k e) ∙ kept_without_other n m ks ne ∙ sym (kept_else n k ks (λ z. ne (sym z ∙ e))))
    (λ e. ap (λ x. kept_for n (x ++ kept_without m ks)) (forget_else m k e) ∙ ap (λ r. cond (eqb k.0 n) (Some k.1) r) (kept_without_other n m ks ne))
    (same_or_not k.0 m)

-- a line is kept for one number more
pub kept_more_other : (n m : ℕ) (t : List ℕ) (ks : List (ℕ × List ℕ)) → n ≢ m → kept_for n (ks ++ (m, t) ∷ []) ≡ kept_for n ks
kept_more_other n m t [] ne = kept_else n (m, t) [] (λ e. ne (sym e))
kept_more_other n m t (k ∷ ks) ne = ap (λ r. cond (eqb k.0 n) (Some k.1) r) (kept_more_other n m t ks ne)

pub kept_more_same : (n : ℕ) (t : List ℕ) (ks : List (ℕ × List ℕ)) → kept_for n ks ≡ None → kept_for n (ks ++ (n, t) ∷ []) ≡ Some t
kept_more_same n t [] none = kept_here n (n, t) [] refl
kept_more_same n t (k ∷ ks) none =
    ⊎_elim
    (λ e. absurd (some_none k.1 (sym (kept_here n k ks e) ∙ none)))
    (λ e. kept_else n k (ks ++ (n, t) ∷ []) e ∙ kept_more_same n t ks (sym (kept_else n k ks e) ∙ none))
    (same_or_not k.0 n)

pub kept_none : (xs : List (ℕ × ℕ)) (n : ℕ) (ks : List (ℕ × List ℕ)) → (IsIssued xs n → ⊥) → AllKeptIssued xs ks → kept_for n ks ≡ None
kept_none xs n [] new h = refl
kept_none xs n (k ∷ ks) new h = kept_else n k ks (λ e. new (subst (IsIssued xs) e h.0)) ∙ kept_none xs n ks new h.1

pub all_kept_more : (xs ys : List (ℕ × ℕ)) (ks : List (ℕ × List ℕ)) → AllKeptIssued xs ks → AllKeptIssued (xs ++ ys) ks
all_kept_more xs ys [] h = tt
all_kept_more xs ys (k ∷ ks) h = (issued_more xs ys k.0 h.0, all_kept_more xs ys ks h.1)

pub all_kept_last : (xs : List (ℕ × ℕ)) (ks : List (ℕ × List ℕ)) (k : ℕ × List ℕ) → AllKeptIssued xs ks → IsIssued xs k.0 → AllKeptIssued xs (ks ++ k ∷ [])
all_kept_last xs [] k h i = (i, tt)
all_kept_last xs (x ∷ ks) k h i = (h.0, all_kept_last xs ks k h.1 i)

pub all_kept_without : (xs : List (ℕ × ℕ)) (ks : List (ℕ × List ℕ)) (n : ℕ) → AllKeptIssued xs ks → AllKeptIssued xs (kept_without n ks)
all_kept_without xs [] n h = tt
all_kept_without xs (k ∷ ks) n h =
    ⊎_elim
    (λ e. subst (λ x. AllKeptIssued xs (x ++ kept_without n ks)) (sym (forget_same n k e)) (all_kept_without xs ks n h.1))
    (λ e. subst (λ x. AllKeptIssued xs (x ++ kept_without n ks)) (sym (forget_else n k e)) (h.0, all_kept_without xs ks n h.1))
    (same_or_not k.0 n)

-- what is left, if nothing of its number changes, or the list grows
pub left_move : (lines : List NotedLine) (n : ℕ) (x k k' : Option (List ℕ)) (o o' : List ℕ) → k' ≡ k → o' ≡ o → LeftFits lines k o n x → LeftFits lines k' o' n x
left_move lines n x k k' o o' a b h = subst (λ (y : Option (List ℕ) × List ℕ). LeftFits lines y.0 y.1 n x) (λ i. (sym a i, sym b i)) h

pub left_longer : (lines more : List NotedLine) (n : ℕ) (x k : Option (List ℕ)) (o : List ℕ) → LeftFits lines k o n x → LeftFits (lines ++ more) k o n x
left_longer lines more n None k o h = h
left_longer lines more n (Some t) k o (inl h) = inl h
left_longer lines more n (Some t) k o (inr h) = let l = h.1.2 in inr (h.0, (h.1.0, h.1.1, (l.0, at_longer lines more h.1.0 l.0 l.1, l.2, l.3)))

-- what a pass has left that is owed nothing
pub left_kept : (lines : List NotedLine) (n : ℕ) (k : Option (List ℕ)) (o : List ℕ) → o ≡ [] → LeftFits lines k o n k
left_kept lines n None o e = (refl, e)
left_kept lines n (Some t) o e = inl (refl, e)

text_of : Option (List ℕ) → List ℕ
text_of None = []
text_of (Some t) = t

same_text : (t u : List ℕ) → Some t ≡ Some u → t ≡ u
unfolding text_of
same_text t u e = ap text_of e

-- the line that was left is written
left_written : (n : ℕ) (s : Step) (lines : List NotedLine) (x k k' : Option (List ℕ)) (o o' : List ℕ) → k ≡ Some s.line → k' ≡ None → o' ≡ o ++ length lines ∷ [] → LeftFits lines k o n x → LeftFits (lines ++ noted_line n s ∷ []) k' o' n x
left_written n s lines None k k' o o' was gone more h = absurd (some_none s.line (sym was ∙ h.0))
left_written n s lines (Some t) k k' o o' was gone more (inl h) =
    inr (gone, (length lines, more ∙ ap (λ y. y ++ length lines ∷ []) h.1, (noted_line n s, at_last lines (noted_line n s) (length lines) refl, refl, same_text s.line t (sym was ∙ h.0))))
left_written n s lines (Some t) k k' o o' was gone more (inr h) = absurd (some_none s.line (sym was ∙ h.0))

-- the places after the seen ones, one line longer
pub rest_longer : (n m : ℕ) (s : Step) (seen rest lines : List NotedLine) → lines ≡ seen ++ rest → places_from n (length seen) (rest ++ noted_line m s ∷ []) ≡ places_from n (length seen) rest ++ (place_if n m (length lines) ++ [])
rest_longer n m s seen rest lines e =
    let len : length seen + length rest ≡ length lines = sym (ap length e ∙ length-append seen rest) in
    places_append n (length seen) rest (noted_line m s ∷ []) ∙ ap (λ k. places_from n (length seen) rest ++ (place_if n m k ++ [])) len

pub prefix_longer : (l : NotedLine) (seen rest lines : List NotedLine) → lines ≡ seen ++ rest → lines ++ l ∷ [] ≡ seen ++ (rest ++ l ∷ [])
prefix_longer l seen rest lines e = ap (λ x. x ++ l ∷ []) e ∙ append_assoc seen rest (l ∷ [])

-- a place that is owed to another number
owed_else : (n m at : ℕ) (os : List (ℕ × ℕ)) → m ≢ n → owed_to n (os ++ (m, at) ∷ []) ≡ owed_to n os
owed_else n m at os e = owed_append n os ((m, at) ∷ []) ∙ ap (λ t. owed_to n os ++ (t ++ [])) (place_other n m at e) ∙ append-nil (owed_to n os)

module _ {St : Type 0} where
  -- a line is written with the number m at the place at: what is owed to another number than the carried one
  pub owed_after_is : (n m at : ℕ) (c : Option (PassView St)) (os : List (ℕ × ℕ)) → IsNotCarried n c → owed_to n (owed_after m at c os) ≡ owed_to n os ++ (place_if n m at ++ [])
  owed_after_is n m at None os h = owed_append n os ((m, at) ∷ [])
  owed_after_is n m at (Some c) os h =
      ⊎_elim
      (λ (e : m ≡ c.number). ap (λ b. owed_to n (cond b os (os ++ (m, at) ∷ []))) (eq-eqb m c.number e) ∙ sym (ap (λ k. owed_to n os ++ (k ++ [])) (place_other n m at (λ z. h (sym z ∙ e))) ∙ append-nil (owed_to n os)))
      (λ (e : m ≢ c.number). ap (λ b. owed_to n (cond b os (os ++ (m, at) ∷ []))) (ne_eqb m c.number e) ∙ owed_append n os ((m, at) ∷ []))
      (same_or_not m c.number)

  pub all_owed_after : (xs : List (ℕ × ℕ)) (m at : ℕ) (c : Option (PassView St)) (os : List (ℕ × ℕ)) → IsIssued xs m → AllOwedIssued xs os → AllOwedIssued xs (owed_after m at c os)
  all_owed_after xs m at None os k h = all_owed_last xs os (m, at) h k
  all_owed_after xs m at (Some c) os k h = by_test (eqb m c.number)
    where
      by_test : (b : Bool) → AllOwedIssued xs (cond b os (os ++ (m, at) ∷ []))
      by_test true = h
      by_test false = all_owed_last xs os (m, at) h k

  pub not_carried_after : (n m at : ℕ) (c : Option (PassView St)) → IsNotCarried n c → IsNotCarried n (carried_after m at c)
  not_carried_after n m at None h = h
  not_carried_after n m at (Some c) h = h

  pub carried_write : (opening : St) (noted owed : List (ℕ × ℕ)) (kept_then : Option (List ℕ)) (lines : List NotedLine) (m : ℕ) (s : Step) (c : Option (PassView St)) → CarriedFits opening noted lines owed kept_then c
      → CarriedFits opening noted (lines ++ noted_line m s ∷ []) (owed_after m (length lines) c owed) kept_then (carried_after m (length lines) c)
  carried_write opening noted owed kept_then lines m s None h = tt
  carried_write opening noted owed kept_then lines m s (Some c) h =
      ⊎_elim
      (λ (e : m ≡ c.number). subst (λ b. IsCarried opening noted (lines ++ noted_line m s ∷ []) (cond b owed (owed ++ (m, length lines) ∷ [])) kept_then (record c { mine = cond b (c.mine ++ length lines ∷ []) c.mine })) (sym (eq-eqb m c.number e)) record {
        opening_is = h.opening_is;
        is_noted = h.is_noted;
        rest = h.rest ++ noted_line m s ∷ [];
        written = h.written ++ length lines ∷ [];
        prefix = prefix_longer (noted_line m s) c.seen h.rest lines h.prefix;
        mine_is = ap (λ t. t ++ length lines ∷ []) h.mine_is ∙ append_assoc (places c.number c.seen) h.written (length lines ∷ []);
        rest_is = rest_longer c.number m s c.seen h.rest lines h.prefix ∙ ap (λ t. t ++ (place_if c.number m (length lines) ++ [])) h.rest_is ∙ ap (λ t. (owed_to c.number owed ++ h.written) ++ (t ++ [])) (place_same c.number m (length lines) e) ∙ append_assoc (owed_to c.number owed) h.written (length lines ∷ []);
        left_fits = left_longer lines (noted_line m s ∷ []) c.number c.left kept_then (owed_to c.number owed) h.left_fits;
      })
      (λ (e : m ≢ c.number). subst (λ b. IsCarried opening noted (lines ++ noted_line m s ∷ []) (cond b owed (owed ++ (m, length lines) ∷ [])) kept_then (record c { mine = cond b (c.mine ++ length lines ∷ []) c.mine })) (sym (ne_eqb m c.number e)) record {
        opening_is = h.opening_is;
        is_noted = h.is_noted;
        rest = h.rest ++ noted_line m s ∷ [];
        written = h.written;
        prefix = prefix_longer (noted_line m s) c.seen h.rest lines h.prefix;
        mine_is = h.mine_is;
        rest_is = rest_longer c.number m s c.seen h.rest lines h.prefix ∙ ap (λ t. t ++ (place_if c.number m (length lines) ++ [])) h.rest_is ∙ ap (λ t. (owed_to c.number owed ++ h.written) ++ (t ++ [])) (place_other c.number m (length lines) e) ∙ append-nil (owed_to c.number owed ++ h.written) ∙ sym (ap (λ t. t ++ h.written) (owed_else c.number m (length lines) owed e));
        left_fits = left_longer lines (noted_line m s ∷ []) c.number c.left kept_then (owed_to c.number (owed ++ (m, length lines) ∷ [])) (left_move lines c.number c.left kept_then kept_then (owed_to c.number owed) (owed_to c.number (owed ++ (m, length lines) ∷ [])) refl (owed_else c.number m (length lines) owed e) h.left_fits);
      })
      (same_or_not m c.number)

  -- what a carried pass has after it is completed
  pub completed_is : (opening : St) (noted owed : List (ℕ × ℕ)) (kept_then : Option (List ℕ)) (lines : List NotedLine) (c : PassView St) → IsCarried opening noted lines owed kept_then c → completed c owed ≡ places c.number lines
  completed_is opening noted owed kept_then lines c h =
      let p = places c.number c.seen in
      let t : take (length p) c.mine ≡ p = ap (take (length p)) h.mine_is ∙ take-append_seam p h.written in
      let d : drop (length p) c.mine ≡ h.written = ap (drop (length p)) h.mine_is ∙ drop-append_seam p h.written in
      let l : places_from c.number (0 + length c.seen) h.rest ≡ owed_to c.number owed ++ h.written = subst (λ j. places_from c.number j h.rest ≡ owed_to c.number owed ++ h.written) (omega arith) h.rest_is in
      ap (λ x. x ++ (owed_to c.number owed ++ drop (length p) c.mine)) t ∙ ap (λ x. p ++ (owed_to c.number owed ++ x)) d ∙ ap (λ x. p ++ x) (sym l) ∙ sym (places_append c.number 0 c.seen h.rest) ∙ ap (places c.number) (sym h.prefix)

  -- if nothing is owed, the carried pass has what it carries
  pub completed_owed_nothing : (c : PassView St) (owed : List (ℕ × ℕ)) → owed_to c.number owed ≡ [] → completed c owed ≡ c.mine
  completed_owed_nothing c owed e = let k = length (places c.number c.seen) in ap (λ x. take k c.mine ++ (x ++ drop k c.mine)) e ∙ Rattle.std.proofs.lemmas.List.take-append-drop k c.mine

  not_both : (n m : ℕ) (c : Option (PassView St)) → m ≡ n → IsNotCarried n c → IsTheCarried m c → ⊥
  not_both n m None e a b = b
  not_both n m (Some c) e a b = a (sym e ∙ b)

  -- a line is written: what a pass left that is out
  pub left_write : (n m : ℕ) (s : Step) (lines : List NotedLine) (kept : List (ℕ × List ℕ)) (owed : List (ℕ × ℕ)) (c : Option (PassView St)) (x : Option (List ℕ)) → IsNotCarried n c → IsNext kept c m s.line → LeftFits lines (kept_for n kept) (owed_to n owed) n x
      → LeftFits (lines ++ noted_line m s ∷ []) (kept_for n (kept_without m kept)) (owed_to n (owed_after m (length lines) c owed)) n x
  left_write n m s lines kept owed c x other may h =
      let grown = owed_after_is n m (length lines) c owed other in
      ⊎_elim
      (λ (e : m ≡ n).
      let k : kept_for n kept ≡ Some s.line = ⊎_elim (λ (y : kept_for m kept ≡ Some s.line). subst (λ j. kept_for j kept ≡ Some s.line) e y) (λ (y : (kept_for m kept ≡ None) × IsTheCarried m c). absurd (not_both n m c e other y.1)) may in
      let o = grown ∙ ap (λ z. owed_to n owed ++ (z ++ [])) (place_same n m (length lines) e) in
      let gone : kept_for n (kept_without m kept) ≡ None = subst (λ j. kept_for n (kept_without j kept) ≡ None) (sym e) (kept_without_same n kept) in
      subst (λ j. LeftFits (lines ++ noted_line j s ∷ []) (kept_for n (kept_without m kept)) (owed_to n (owed_after m (length lines) c owed)) n x) (sym e) (left_written n s lines x (kept_for n kept) (kept_for n (kept_without m kept)) (owed_to n owed) (owed_to n (owed_after m (length lines) c owed)) k gone o h))
      (λ (e : m ≢ n).
      left_longer lines (noted_line m s ∷ []) n x (kept_for n (kept_without m kept)) (owed_to n (owed_after m (length lines) c owed))
      (left_move lines n x (kept_for n kept) (kept_for n (kept_without m kept)) (owed_to n owed) (owed_to n (owed_after m (length lines) c owed)) (kept_without_other n m kept (λ z. e (sym z))) (grown ∙ ap (λ z. owed_to n owed ++ (z ++ [])) (place_other n m (length lines) e) ∙ append-nil (owed_to n owed)) h))
      (same_or_not m n)
