-- What images open to, from what is kept and what the journal's calls leave.
use Rattle.std.proofs.Common.{Result, Ok, Err, OnOk, OnErr, ◌≡◌, ◌⊎◌, inl, inr, ⊎_elim, ℕ, ◌+◌, Bool, true, false, List, [], ◌∷◌, ◌++◌, Option, None, Some, length, take, drop, refl, sym, ◌∙◌, ap, subst, arith, append_assoc, length-append, take-append-drop}
use Rattle.std.proofs.lemmas.List.{take_at, drop_at}
use Rattle.db_outside.specs.Disk.{Begins, LeavesOnly, InAll}
use Rattle.db_outside.proofs.Moments.{started, joined, weakened}
use Rattle.db_outside.specs.Record.{ready, record_of}
use Rattle.gate_journal.specs.Gate.{IsShut, IsBehind, IsOpen, IsNoneOrWhole}
use Rattle.gate_journal.specs.Leaves.{IsFrontOf, AppendLeaves, RepairLeaves, LeavesRepaired}
use Rattle.gate_journal.proofs.Gates.{none_or_whole, ready_there, shut_after}
use Rattle.generations.specs.Ends.{with_record, Ends, MayEnd, EndsInOneOf, IsKept}

-- the same front has the same records
same_front : (at : ℕ) (o d c : List ℕ) → at ≡ length o → take at c ≡ take at d → Begins o d → Begins o c
same_front at o d c is same begins =
    let whole : take at c ≡ o = same ∙ ap (λ (l : List ℕ). take at l) begins.1 ∙ take_at o begins.0 at (sym is) in
    (drop at c, sym (take-append-drop at c) ∙ ap (λ (l : List ℕ). l ++ drop at c) whole)

-- an open record behind the others is one more
one_more : (at : ℕ) (a : List ℕ) (b c : List ℕ) → at ≡ length a → Begins a c → IsOpen at (ready b) c → Ends (with_record a b) c
unfolding ready
one_more at a b c is front open_there =
    let rest = open_there.0 in
    let here : drop at c ≡ front.0 = ap (λ (l : List ℕ). drop at l) front.1 ∙ drop_at a front.0 at (sym is) in
    let behind : front.0 ≡ 1 ∷ record_of b ++ 0 ∷ rest = sym here ∙ open_there.1 ∙ ap (λ (l : List ℕ). 1 ∷ l) (append_assoc (record_of b) (0 ∷ []) rest) in
    let next : length (with_record a b) ≡ at + length (ready b) = omega (arith, is, length-append a (1 ∷ record_of b), length-append (record_of b) (0 ∷ [])) in
    record {
      spelled = (0 ∷ rest, front.1 ∙ ap (λ (l : List ℕ). a ++ l) behind ∙ sym (append_assoc a (1 ∷ record_of b) (0 ∷ rest)));
      shut = shut_after at (length (with_record a b)) b c next open_there;
    }

pub next_place : (at : ℕ) (a : List ℕ) (b : List ℕ) → at ≡ length a → at + length (ready b) ≡ length (with_record a b)
unfolding ready
next_place at a b is = omega (arith, is, length-append a (1 ∷ record_of b), length-append (record_of b) (0 ∷ []))

none_or_one_more : (at : ℕ) (a : List ℕ) (b c : List ℕ) → at ≡ length a → Begins a c → IsNoneOrWhole at (ready b) c
    → Ends a c ⊎ Ends (with_record a b) c
none_or_one_more at a b c is front (inl shut) = inl (record { spelled = front; shut = subst (λ n. IsShut n c) is shut })
none_or_one_more at a b c is front (inr open_there) = inr (one_more at a b c is front open_there)

may_open : (a : List ℕ) (f : Option (List ℕ)) (b c : List ℕ) → f ≡ Some b → Ends a c ⊎ Ends (with_record a b) c → MayEnd a f c
may_open a f b c is (inl none) = inl none
may_open a f b c is (inr more) = inr (b, is, more)

module _ (at : ℕ) (image : List ℕ → Type 0) (a : List ℕ) (f : Option (List ℕ)) where
  by_clean : (clean : Bool) → IsKept at clean image a f → InAll image (MayEnd a f)
  by_clean true kept c now = inl (record { spelled = kept.begins c now; shut = subst (λ n. IsShut n c) kept.place ((kept.shut refl).1 c now) })
  by_clean false kept c now =
      let behind = kept.behind refl in
      may_open a f behind.0 c behind.1 (none_or_one_more at a behind.0 c kept.place (kept.begins c now)
      (none_or_whole at (ready behind.0) c (omega (arith, ready_there at behind.0 c (behind.2 c now))) (behind.2 c now)))

  -- while a gate is closed
  pub in_repair : (b c : List ℕ) → f ≡ Some b → IsKept at false image a f → RepairLeaves at (ready b) image c → MayEnd a f c
  in_repair b c is kept leaves =
      let d = leaves.gate.0 in
      may_open a f b c is (none_or_one_more at a b c kept.place (same_front at a d c kept.place leaves.gate.2.before (kept.begins d leaves.gate.1)) leaves.open_part)

  -- while a record is written
  pub in_append : (b c : List ℕ) → IsKept at true image a f → AppendLeaves at (ready b) image c → EndsInOneOf a f b c
  in_append b c kept leaves =
      let d = leaves.front.0 in
      ⊎_elim (λ none. inl (inl none)) (λ more. inr more)
      (none_or_one_more at a b c kept.place (same_front at a d c kept.place leaves.front.2 (kept.begins d leaves.front.1)) leaves.open_part)

  pub front_kept : (c : List ℕ) (clean : Bool) → IsKept at clean image a f → IsFrontOf at image c → Begins a c
  front_kept c clean kept was = same_front at a was.0 c kept.place was.2 (kept.begins was.0 was.1)

pub kept_opens : (at : ℕ) (clean : Bool) (image : List ℕ → Type 0) (a : List ℕ) (f : Option (List ℕ)) → IsKept at clean image a f → InAll image (MayEnd a f)
kept_opens at clean image a f kept = by_clean at image a f clean kept

-- behind an open record the journal goes on
pub longer : (at : ℕ) (old new : List ℕ → Type 0) (a : List ℕ) (f : Option (List ℕ)) (b : List ℕ) (next : ℕ) → IsKept at true old a f
    → InAll new (AppendLeaves at (ready b) old) → InAll new (IsOpen at (ready b)) → next ≡ at + length (ready b) → InAll new (IsShut next)
    → IsKept next true new (with_record a b) None
longer at old new a f b next kept leaves open_there is shut = record {
  place = is ∙ next_place at a b kept.place;
  begins = λ c now. (one_more at a b c kept.place (front_kept at old a f c true kept (leaves c now).front) (open_there c now)).spelled;
  shut = λ _. (refl, shut);
  behind = λ no. absurd (cc no);
}

-- after a failure before the gate's write, and after one from there on
pub failed_early : (at : ℕ) (old new : List ℕ → Type 0) (a : List ℕ) (f : Option (List ℕ)) (b : List ℕ) → IsKept at true old a f
    → InAll new (AppendLeaves at (ready b) old) → InAll new (IsShut at) → IsKept at true new a None
failed_early at old new a f b kept leaves shut = record {
  place = kept.place;
  begins = λ c now. front_kept at old a f c true kept (leaves c now).front;
  shut = λ _. (refl, shut);
  behind = λ no. absurd (cc no);
}

pub failed_late : (at : ℕ) (old new : List ℕ → Type 0) (a : List ℕ) (f : Option (List ℕ)) (b : List ℕ) → IsKept at true old a f
    → InAll new (AppendLeaves at (ready b) old) → InAll new (IsBehind at (ready b)) → IsKept at false new a (Some b)
failed_late at old new a f b kept leaves behind = record {
  place = kept.place;
  begins = λ c now. front_kept at old a f c true kept (leaves c now).front;
  shut = λ no. absurd (cc no);
  behind = λ _. (b, refl, behind);
}

-- after a failure the one or the other
pub failed_either : (at : ℕ) (old new : List ℕ → Type 0) (a : List ℕ) (f : Option (List ℕ)) (b : List ℕ) (clean : Bool) → IsKept at true old a f
    → InAll new (AppendLeaves at (ready b) old) → (clean ≡ true → InAll new (IsShut at)) → (clean ≡ false → InAll new (IsBehind at (ready b)))
    → (g : Option (List ℕ)) × ((g ≡ None) ⊎ (g ≡ Some b)) × IsKept at clean new a g
failed_either at old new a f b true kept leaves shut behind = (None, inl refl, failed_early at old new a f b kept leaves (shut refl))
failed_either at old new a f b false kept leaves shut behind = (Some b, inr refl, failed_late at old new a f b kept leaves (behind refl))

-- a repair that is done, and one that failed
pub after_repair : (at : ℕ) (old new : List ℕ → Type 0) (a : List ℕ) (f : Option (List ℕ)) (b : List ℕ) → IsKept at false old a f
    → InAll new (RepairLeaves at (ready b) old) → InAll new (IsShut at) → IsKept at true new a None
after_repair at old new a f b kept leaves shut = record {
  place = kept.place;
  begins = λ c now. front_kept at old a f c false kept ((leaves c now).gate.0, (leaves c now).gate.1, (leaves c now).gate.2.before);
  shut = λ _. (refl, shut);
  behind = λ no. absurd (cc no);
}

pub still_unclean : (at : ℕ) (old new : List ℕ → Type 0) (a : List ℕ) (f : Option (List ℕ)) (b : List ℕ) → IsKept at false old a f
    → InAll new (RepairLeaves at (ready b) old) → IsKept at false new a f
still_unclean at old new a f b kept leaves = record {
  place = kept.place;
  begins = λ c now. front_kept at old a f c false kept ((leaves c now).gate.0, (leaves c now).gate.1, (leaves c now).gate.2.before);
  shut = λ no. absurd (cc no);
  behind = λ is. let was = kept.behind is in (
    was.0,
    was.1,
    λ c now.
        let from_there = (leaves c now).gate in
        let stood = was.2 from_there.0 from_there.1 in (stood.0, from_there.2.after ∙ stood.1),
  );
}

pub same_kept : (at at_2 : ℕ) (clean clean_2 : Bool) (image : List ℕ → Type 0) (a : List ℕ) (f : Option (List ℕ)) → at ≡ at_2 → clean ≡ clean_2 → IsKept at clean image a f → IsKept at_2 clean_2 image a f
same_kept at at_2 clean clean_2 image a f q r kept = subst (λ n. IsKept n clean_2 image a f) q (subst (λ b. IsKept at b image a f) r kept)

pub on_err : {T E : Type 0} {P : Type 0} (r : Result T E) → P → OnErr r P
on_err (Ok x) p = tt
on_err (Err e) p = p

none_more : (a : List ℕ) (f : Option (List ℕ)) (c : List ℕ) → MayEnd a None c → MayEnd a f c
none_more a f c (inl here) = inl here
none_more a f c (inr more) = absurd (cc more.1)

pub none_of : (a : List ℕ) (f : Option (List ℕ)) (b c : List ℕ) → EndsInOneOf a None b c → EndsInOneOf a f b c
none_of a f b c (inl may) = inl (none_more a f c may)
none_of a f b c (inr new) = inr new

module _ {D : Type 0} (moment : D → ℕ) (since : D → ℕ → List ℕ → Type 0) (image : D → List ℕ → Type 0) (old new : D) (at : ℕ) (a : List ℕ) (f : Option (List ℕ)) where
  -- while nothing happens
  pub at_rest : (clean : Bool) → ((c : List ℕ) → since old (moment old) c → image old c) → IsKept at clean (image old) a f → LeavesOnly moment since old old (MayEnd a f)
  at_rest clean only kept = started moment since old (MayEnd a f) (λ c left. kept_opens at clean (image old) a f kept c (only c left))

  pub repairs : (clean : Bool) → clean ≡ false → IsKept at clean (image old) a f → LeavesOnly moment since old new (LeavesRepaired at (image old))
      → LeavesOnly moment since old new (MayEnd a f)
  repairs clean is kept any =
      let shut_not = subst (λ q. IsKept at q (image old) a f) is kept in
      let b = shut_not.behind refl in
      weakened moment since old new (LeavesRepaired at (image old)) (MayEnd a f) any (λ c leaves. in_repair at (image old) a f b.0 c b.1 shut_not (leaves b.0 b.2))

  pub repair_done : (clean : Bool) → clean ≡ false → IsKept at clean (image old) a f → LeavesOnly moment since old new (LeavesRepaired at (image old))
      → ((c : List ℕ) → image new c → since new (moment old) c) → InAll (image new) (IsShut at) → IsKept at true (image new) a None
  repair_done clean is kept any counts shut =
      let shut_not = subst (λ q. IsKept at q (image old) a f) is kept in
      let b = shut_not.behind refl in
      after_repair at (image old) (image new) a f b.0 shut_not (λ c now. any.each c (counts c now) b.0 b.2) shut

  pub repair_failed : (clean : Bool) → clean ≡ false → IsKept at clean (image old) a f → LeavesOnly moment since old new (LeavesRepaired at (image old))
      → ((c : List ℕ) → image new c → since new (moment old) c) → IsKept at false (image new) a f
  repair_failed clean is kept any counts =
      let shut_not = subst (λ q. IsKept at q (image old) a f) is kept in
      let b = shut_not.behind refl in
      still_unclean at (image old) (image new) a f b.0 shut_not (λ c now. any.each c (counts c now) b.0 b.2)

-- a repair and then an append
pub both : {D : Type 0} (moment : D → ℕ) (since : D → ℕ → List ℕ → Type 0) (image : D → List ℕ → Type 0) (old mid new : D) (at : ℕ) (a : List ℕ) (f : Option (List ℕ)) (b : List ℕ)
    → LeavesOnly moment since old mid (MayEnd a f) → IsKept at true (image mid) a None → LeavesOnly moment since mid new (AppendLeaves at (ready b) (image mid))
    → LeavesOnly moment since old new (EndsInOneOf a f b)
both moment since image old mid new at a f b first kept second = joined moment since old mid new (EndsInOneOf a f b) (AppendLeaves at (ready b) (image mid))
    (weakened moment since old mid (MayEnd a f) (EndsInOneOf a f b) first (λ c may. inl may)) second
    (λ c leaves. none_of a f b c (in_append at (image mid) a None b c kept leaves))

pub by_result : {T E : Type 0} {P Q R : Type 0} (r : Result T E) → OnOk r P → OnErr r Q → (P → R) → (Q → R) → R
by_result (Ok x) p q f h = f p
by_result (Err e) p q f h = h q
