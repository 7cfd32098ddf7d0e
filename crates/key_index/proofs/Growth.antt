-- The forks of an overlay after one more: what they lead to, and that they are in order.
use Rattle.std.proofs.Common.{◌≡◌, ℕ, zero, suc, ◌-◌, ◌<◌, ◌≤◌, ◌⊎◌, inl, inr, Bool, true, false, ◌&&◌, List, [], ◌∷◌, ◌++◌, length, get_or, set, eqb, refl, sym, ap, ◌∙◌, subst, arith}
use Rattle.std.proofs.lemmas.Bool.{false≢true, eqb-true, cases_eq, cases_lt}
use Rattle.std.proofs.lemmas.List.{length-set, get_or-set_same, get_or-set_other, get_or_past}
use Rattle.key_index.specs.declared.fork.Fork.{Fork}
use Rattle.key_index.specs.declared.fork.End.TheVariants.{At, Past, Lost}
use Rattle.key_index.specs.Forks.{new_fork, step, way_of, link_of, led, is_of, is_at, link_at, walk, trail, AreForks}
use Rattle.key_index.proofs.Walks.{stays, ends}
use Rattle.key_index.proofs.Trails.{some_past, free_at}

pub both_hold : (a b : Bool) → a && b ≡ true → (a ≡ true) × (b ≡ true)
both_hold true true e = (refl, refl)
both_hold true false e = absurd (false≢true e)
both_hold false b e = absurd (false≢true e)

leads_next : (now before p at : ℕ) (s side : ℕ) (to : ℕ) → (now ≡ before) ⊎ ((p ≡ at) × ((s ≡ side) × (now ≡ to))) → (now ≡ before) ⊎ ((suc p ≡ suc at) × ((s ≡ side) × (now ≡ to)))
leads_next now before p at s side to (inl e) = inl e
leads_next now before p at s side to (inr e) = inr (ap suc e.0, e.1)

leads_first : (now before first : ℕ) (s side : ℕ) (to : ℕ) → before ≡ first → (now ≡ before) ⊎ ((s ≡ side) × (now ≡ to)) → (now ≡ first) ⊎ ((zero ≡ zero) × ((s ≡ side) × (now ≡ to)))
leads_first now before first s side to is (inl e) = inl (e ∙ is)
leads_first now before first s side to is (inr e) = inr (refl, e)

module _ {X : Type 0} where
  -- a fork leads on to one that is added at the end
  abbrev pub grown : List (Fork X) → ℕ → Fork X → ℕ → ℕ → Fork X → List (Fork X)
  grown forks at old side to new = set forks at (led old side to) ++ new ∷ []

  pub length_pushed : (forks : List (Fork X)) (new : Fork X) → length (forks ++ new ∷ []) ≡ suc (length forks)
  length_pushed [] new = refl
  length_pushed (fork ∷ forks) new = ap suc (length_pushed forks new)

  pub length_grown : (forks : List (Fork X)) (at : ℕ) (old : Fork X) (side : ℕ) (to : ℕ) (new : Fork X) → length (grown forks at old side to new) ≡ suc (length forks)
  length_grown forks at old side to new = length_pushed (set forks at (led old side to)) new ∙ ap suc (length-set forks at (led old side to))

  is_led : (relation key : ℕ) (fork : Fork X) (side : ℕ) (to : ℕ) → is_of relation key (led fork side to) ≡ is_of relation key fork
  is_led relation key fork side to = refl

  no_side : (relation key : ℕ) (item : X) (side : ℕ) → link_of (new_fork relation key item) side ≡ 0
  no_side relation key item zero = refl
  no_side relation key item (suc zero) = refl
  no_side relation key item (suc (suc zero)) = refl
  no_side relation key item (suc (suc (suc zero))) = refl
  no_side relation key item (suc (suc (suc (suc side)))) = refl

  same_pushed : (forks : List (Fork X)) (new : Fork X) (relation key p : ℕ) → p < length forks → is_at (forks ++ new ∷ []) relation key p ≡ is_at forks relation key p
  unfolding is_at
  same_pushed [] new relation key p l = absurd (omega (arith, l))
  same_pushed (fork ∷ forks) new relation key zero l = refl
  same_pushed (fork ∷ forks) new relation key (suc p) l = same_pushed forks new relation key p (omega (arith, l))

  same_grown : (forks : List (Fork X)) (at : ℕ) (old : Fork X) (side : ℕ) (to : ℕ) (new : Fork X) (relation key p : ℕ) → old ≡ get_or forks at old → p < length forks
      → is_at (grown forks at old side to new) relation key p ≡ is_at forks relation key p
  unfolding is_at
  same_grown [] at old side to new relation key p is l = absurd (omega (arith, l))
  same_grown (fork ∷ forks) zero old side to new relation key zero is l = is_led relation key old side to ∙ ap (is_of relation key) is
  same_grown (fork ∷ forks) zero old side to new relation key (suc p) is l = same_pushed forks new relation key p (omega (arith, l))
  same_grown (fork ∷ forks) (suc at) old side to new relation key zero is l = refl
  same_grown (fork ∷ forks) (suc at) old side to new relation key (suc p) is l = same_grown forks at old side to new relation key p is (omega (arith, l))

  -- at the end is the new fork
  last_is : (forks : List (Fork X)) (new : Fork X) (relation key n : ℕ) → n ≡ length forks → is_at (forks ++ new ∷ []) relation key n ≡ is_of relation key new
  unfolding is_at
  last_is [] new relation key zero e = refl
  last_is [] new relation key (suc n) e = absurd (omega (arith, e))
  last_is (fork ∷ forks) new relation key zero e = absurd (omega (arith, e))
  last_is (fork ∷ forks) new relation key (suc n) e = last_is forks new relation key n (omega (arith, e))

  in_forks : (forks : List (Fork X)) (relation key p : ℕ) → is_at forks relation key p ≡ true → p < length forks
  unfolding is_at
  in_forks [] relation key p e = absurd (false≢true e)
  in_forks (fork ∷ forks) relation key zero e = omega arith
  in_forks (fork ∷ forks) relation key (suc p) e = let l = in_forks forks relation key p e in omega (arith, l)

  abbrev LeadsTo : List (Fork X) → List (Fork X) → ℕ → ℕ → ℕ → ℕ → ℕ → Type 0
  LeadsTo forks now at side to p s = (link_at now p s ≡ link_at forks p s) ⊎ ((p ≡ at) × ((s ≡ side) × (link_at now p s ≡ to)))

  link_pushed : (forks : List (Fork X)) (relation key : ℕ) (item : X) (p : ℕ) (s : ℕ) → link_at (forks ++ new_fork relation key item ∷ []) p s ≡ link_at forks p s
  unfolding link_at
  link_pushed [] relation key item zero s = no_side relation key item s
  link_pushed [] relation key item (suc p) s = refl
  link_pushed (fork ∷ forks) relation key item zero s = refl
  link_pushed (fork ∷ forks) relation key item (suc p) s = link_pushed forks relation key item p s

  side_led : (fork : Fork X) (side s : ℕ) (to : ℕ) → (link_of (led fork side to) s ≡ link_of fork s) ⊎ ((s ≡ side) × (link_of (led fork side to) s ≡ to))
  side_led fork side s to = by (cases_eq s side) (cases_lt side (length fork.links))
    where
      by : (s ≡ side) ⊎ (s ≡ side → ⊥) → (side < length fork.links) ⊎ (length fork.links ≤ side) → (link_of (led fork side to) s ≡ link_of fork s) ⊎ ((s ≡ side) × (link_of (led fork side to) s ≡ to))
      by (inl e) (inl lt) = inr (e, ap (λ (i : ℕ). get_or (set fork.links side to) i 0) e ∙ get_or-set_same fork.links side to 0 lt)
      by (inl e) (inr le) =
          let long = length-set fork.links side to in
          inl (get_or_past (set fork.links side to) s 0 (omega (arith, e, le, long)) ∙ sym (get_or_past fork.links s 0 (omega (arith, e, le))))
      by (inr m) x = inl (get_or-set_other fork.links side s to 0 (λ e. m e))

  -- only the fork that leads to the new one leads elsewhere than before
  leads_now : (forks : List (Fork X)) (at : ℕ) (old : Fork X) (side : ℕ) (to relation key : ℕ) (item : X) (p : ℕ) (s : ℕ) → old ≡ get_or forks at old
      → LeadsTo forks (grown forks at old side to (new_fork relation key item)) at side to p s
  unfolding link_at
  leads_now [] at old side to relation key item p s is = inl (link_pushed [] relation key item p s)
  leads_now (fork ∷ forks) zero old side to relation key item zero s is = leads_first (link_of (led old side to) s) (link_of old s) (link_of fork s) s side to (ap (λ (f : Fork X). link_of f s) is) (side_led old side s to)
  leads_now (fork ∷ forks) zero old side to relation key item (suc p) s is = inl (link_pushed forks relation key item p s)
  leads_now (fork ∷ forks) (suc at) old side to relation key item zero s is = inl refl
  leads_now (fork ∷ forks) (suc at) old side to relation key item (suc p) s is = leads_next _ _ p at s side to (leads_now forks at old side to relation key item p s is)

  side_to : (fork : Fork X) (side : ℕ) (to : ℕ) → side < length fork.links → link_of (led fork side to) side ≡ to
  side_to fork side to l = get_or-set_same fork.links side to 0 l

  leads_there : (forks : List (Fork X)) (at : ℕ) (old : Fork X) (side : ℕ) (to : ℕ) (new : Fork X) → side < length old.links → at < length forks → link_at (grown forks at old side to new) at side ≡ to
  unfolding link_at
  leads_there [] at old side to new w l = absurd (omega (arith, l))
  leads_there (fork ∷ forks) zero old side to new w l = side_to old side to w
  leads_there (fork ∷ forks) (suc at) old side to new w l = leads_there forks at old side to new w (omega (arith, l))

  alone_found : (relation key : ℕ) (item : X) (r k p : ℕ) → is_at (new_fork relation key item ∷ []) r k p ≡ true → trail (new_fork relation key item ∷ []) r k ≡ At p
  alone_found relation key item r k zero h =
      let to = link_at (new_fork relation key item ∷ []) 0 (way_of k) in
      ap (λ (b : Bool). step b to 0 (way_of k) Lost) h
  alone_found relation key item r k (suc p) h = let l = in_forks (new_fork relation key item ∷ []) r k (suc p) h in absurd (omega (arith, l))

  no_link : (relation key : ℕ) (item : X) (p : ℕ) (s : ℕ) → link_at (new_fork relation key item ∷ []) p s ≡ 0
  unfolding link_at
  no_link relation key item zero s = no_side relation key item s
  no_link relation key item (suc p) s = refl

  alone : (relation key : ℕ) (item : X) → AreForks (new_fork relation key item ∷ [])
  alone relation key item = record {
    later = λ p s h. let none = no_link relation key item p s in absurd (omega (arith, none, h));
    within = λ p s h. let none = no_link relation key item p s in absurd (omega (arith, none, h));
    found = alone_found relation key item;
  }

  -- the first fork is in order
  pub first_in_order : (forks : List (Fork X)) (relation key : ℕ) (item : X) → forks ≡ [] → AreForks (forks ++ new_fork relation key item ∷ [])
  first_in_order forks relation key item none = subst (λ (fs : List (Fork X)). AreForks (fs ++ new_fork relation key item ∷ [])) (sym none) (alone relation key item)

  module _ (forks : List (Fork X)) (at : ℕ) (old : Fork X) (side : ℕ) (to relation key : ℕ) (item : X)
      (are : AreForks forks) (ended : trail forks relation key ≡ Past at side) (is : old ≡ get_or forks at old) (last : to ≡ length forks) (wide : side < length old.links) where
    abbrev now : List (Fork X)
    now = grown forks at old side to (new_fork relation key item)

    abbrev some : 0 < length forks
    some = some_past forks relation key at side ended

    abbrev there : (link_at forks at side ≡ 0) × (at < length forks)
    there = free_at forks relation key at side are some ended

    kept_by : (p : ℕ) (s : ℕ) → LeadsTo forks now at side to p s → 0 < link_at forks p s → link_at now p s ≡ link_at forks p s
    kept_by p s (inl e) h = e
    kept_by p s (inr e) h =
        let none : link_at forks p s ≡ 0 = ap (λ (q : ℕ). link_at forks q s) e.0 ∙ ap (link_at forks at) e.1.0 ∙ there.0 in
        absurd (omega (arith, h, none))

    kept : (p : ℕ) (s : ℕ) → 0 < link_at forks p s → link_at now p s ≡ link_at forks p s
    kept p s h = kept_by p s (leads_now forks at old side to relation key item p s is) h

    later_by : (p : ℕ) (s : ℕ) → LeadsTo forks now at side to p s → 0 < link_at now p s → p < link_at now p s
    later_by p s (inl e) h = subst (λ (x : ℕ). 0 < x → p < x) (sym e) (are.later p s) h
    later_by p s (inr e) h = omega (arith, e.0, e.1.1, last, there.1)

    within_by : (p : ℕ) (s : ℕ) → LeadsTo forks now at side to p s → 0 < link_at now p s → link_at now p s < suc (length forks)
    within_by p s (inl e) h = let l = subst (λ (x : ℕ). 0 < x → x < length forks) (sym e) (are.within p s) h in omega (arith, l)
    within_by p s (inr e) h = omega (arith, e.1.1, last)

    stays_now : (r k p : ℕ) → is_at forks r k p ≡ true → walk (is_at now r k) (link_at now) (suc (length forks)) 0 k ≡ At p
    stays_now r k p h =
        stays (is_at forks r k) (link_at forks) (length forks) are.within (is_at now r k) (link_at now)
        (λ q l. same_grown forks at old side to (new_fork relation key item) r k q is l) kept (length forks) 0 k p some (are.found r k p h)

    new_here : is_at now relation key (length forks) ≡ is_of relation key (new_fork relation key item)
    new_here = last_is (set forks at (led old side to)) (new_fork relation key item) relation key (length forks) (sym (length-set forks at (led old side to)))

    ends_by : (n : ℕ) → length forks ≡ suc n → is_of relation key (new_fork relation key item) ≡ true → walk (is_at now relation key) (link_at now) (suc (length forks)) 0 key ≡ At (length forks)
    ends_by n e own =
        ends (is_at forks relation key) (link_at forks) (length forks) are.within (is_at now relation key) (link_at now)
        (λ q l. same_grown forks at old side to (new_fork relation key item) relation key q is l) kept (length forks) 0 key at n side some
        (leads_there forks at old side to (new_fork relation key item) wide there.1 ∙ last ∙ e)
        (ap (is_at now relation key) (sym e) ∙ new_here ∙ own) ended
        ∙ ap At (sym e)

    found_by : (r k p : ℕ) → (p < length forks) ⊎ (p ≡ length forks) → is_at now r k p ≡ true → walk (is_at now r k) (link_at now) (suc (length forks)) 0 k ≡ At p
    found_by r k p (inl l) h = stays_now r k p (sym (same_grown forks at old side to (new_fork relation key item) r k p is l) ∙ h)
    found_by r k p (inr e) h =
        let own : is_of r k (new_fork relation key item) ≡ true = sym (last_is (set forks at (led old side to)) (new_fork relation key item) r k p (e ∙ sym (length-set forks at (led old side to)))) ∙ h in
        let both = both_hold (eqb r relation) (eqb k key) own in
        let left : length forks ≡ suc (length forks - 1) = omega (arith, some) in
        let of_r = sym (eqb-true r relation both.0) in
        let of_k = sym (eqb-true k key both.1) in
        let self : is_of relation key (new_fork relation key item) ≡ true = subst (λ (y : ℕ). eqb relation relation && eqb y key ≡ true) (sym of_k) (subst (λ (x : ℕ). eqb x relation && eqb k key ≡ true) (sym of_r) own) in
        subst (λ (y : ℕ). walk (is_at now r y) (link_at now) (suc (length forks)) 0 y ≡ At p) of_k
        (subst (λ (x : ℕ). walk (is_at now x key) (link_at now) (suc (length forks)) 0 key ≡ At p) of_r
        (ends_by (length forks - 1) left self ∙ ap At (sym e)))

    where_in : (p n : ℕ) → p < suc n → (p < n) ⊎ (p ≡ n)
    where_in p zero l = inr (omega (arith, l))
    where_in zero (suc n) l = inl (omega arith)
    where_in (suc p) (suc n) l = step_in (where_in p n (omega (arith, l))) where
      step_in : (p < n) ⊎ (p ≡ n) → (suc p < suc n) ⊎ (suc p ≡ suc n)
      step_in (inl a) = inl (omega (arith, a))
      step_in (inr a) = inr (ap suc a)

    -- the forks are in order after a fork was added past the end of the key's trail
    pub in_order : AreForks now
    in_order =
        let more = length_grown forks at old side to (new_fork relation key item) in
        record {
          later = λ p s h. later_by p s (leads_now forks at old side to relation key item p s is) h;
          within = λ p s h. subst (λ (n : ℕ). link_at now p s < n) (sym more) (within_by p s (leads_now forks at old side to relation key item p s is) h);
          found = λ r k p h.
              ap (λ (n : ℕ). walk (is_at now r k) (link_at now) n 0 k) more
              ∙ found_by r k p (where_in p (length forks) (subst (λ (n : ℕ). p < n) more (in_forks now r k p h))) h;
        }
