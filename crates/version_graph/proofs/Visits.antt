-- A walk from the newest version down: what its marks say at each version.
use Rattle.std.proofs.Common.{◌≡◌, ⊎_elim, ℕ, suc, ◌+◌, ◌-◌, ◌<◌, ◌≤◌, Bool, true, false, ◌&&◌, List, length, get_or, replicate, refl, sym, ap, ◌∙◌, subst, arith}
use Rattle.std.specs.List.{Contains}
use Rattle.std.proofs.lemmas.Bool.{cases_lt, false≢true, and_from}
use Rattle.std.proofs.lemmas.List.{length-replicate}
use Rattle.version_graph.specs.declared.marks.Mark.{Mark}
use Rattle.version_graph.specs.Ancestors.{parents_of, Reaches, Itself, Through, AllEarlier, IsLastCommon, NoneFrom}
use Rattle.version_graph.specs.Marked.{unmarked, marked, all_marked}
use Rattle.version_graph.proofs.Reaching.{order_law, steps_law, by_parent}
use Rattle.version_graph.proofs.OneSide.{IsSide, at, length-marked, marked_kept, marked_new, marked_from, all_kept, all_new, all_from, none_at}

abbrev pub of_left : Mark → Bool
of_left m = m.left

abbrev pub of_right : Mark → Bool
of_right m = m.right

pub is_left : IsSide of_left
is_left = record { of_either = λ m n. refl; of_none = refl }

pub is_right : IsSide of_right
is_right = record { of_either = λ m n. refl; of_none = refl }

-- for one side, which comes from the version `from`: the versions from `version` on are done
pub record Sided (vs : List (List ℕ)) (from low version : ℕ) (s : Mark → Bool) (marks : List Mark) : Type 0 where
  pub sound : (i : ℕ) → at s marks i ≡ true → Reaches vs from (low + i)
  pub whole : (x : ℕ) → low ≤ x → x < version → Reaches vs from x → (i : ℕ) × (low + i < version) × (at s marks i ≡ true) × Reaches vs (low + i) x

-- what holds at each version of the walk
pub record Walk (vs : List (List ℕ)) (left right low version : ℕ) (marks : List Mark) : Type 0 where
  pub left_side : Sided vs left low version of_left marks
  pub right_side : Sided vs right low version of_right marks
  pub none : NoneFrom vs left right version

-- one visit
visit : (s : Mark → Bool) → IsSide s → (vs : List (List ℕ)) (from low v i : ℕ) (marks : List Mark) → AllEarlier vs → low + i ≡ v → i < length marks → Sided vs from low (suc v) s marks
    → Sided vs from low v s (all_marked low (get_or marks i unmarked) (parents_of vs v) marks)
visit s side vs from low v i marks earlier is lt old = record {
  sound = λ k h. ⊎_elim
      (λ (a : at s marks k ≡ true). old.sound k a)
      (λ (a : (at s marks i ≡ true) × Contains (parents_of vs v) (low + k)).
      steps_law vs from v (low + k) (subst (λ (x : ℕ). Reaches vs from x) is (old.sound i a.0)) (Through v (low + k) (low + k) a.1 (Itself (low + k))))
      (all_from s side low (get_or marks i unmarked) (parents_of vs v) marks k h);
  whole = λ x le below r.
      let k = old.whole x le (omega (arith, below)) r in
      ⊎_elim
      (λ (a : low + k.0 < v). (k.0, a, all_kept s side low (get_or marks i unmarked) (parents_of vs v) marks k.0 k.2, k.3))
      (λ (a : v ≤ low + k.0).
      let up = k.1 in
      let same : k.0 ≡ i = omega (arith, a, up, is) in
      let here : at s marks i ≡ true = subst (λ (j : ℕ). at s marks j ≡ true) same k.2 in
      let path : Reaches vs v x = subst (λ (j : ℕ). Reaches vs j x) (ap (λ (j : ℕ). low + j) same ∙ is) k.3 in
      let p = by_parent vs v x below path in
      let before : p.0 < v = earlier v p.0 p.1 in
      let above : x ≤ p.0 = order_law vs p.0 x earlier p.2 in
      let j : low + (p.0 - low) ≡ p.0 = omega (arith, above, le) in (
        p.0 - low,
        omega (arith, j, before),
        all_new s side low (get_or marks i unmarked) (parents_of vs v) marks (p.0 - low) (subst (Contains (parents_of vs v)) (sym j) p.1) (omega (arith, before, is, lt, j)) here,
        subst (λ (y : ℕ). Reaches vs y x) (sym j) p.2,
      ))
      (cases_lt (low + k.0) v);
}

-- a version that is reached has a mark when its turn comes
pub has_mark : (s : Mark → Bool) (vs : List (List ℕ)) (from low v i : ℕ) (marks : List Mark) → AllEarlier vs → low + i ≡ v → Sided vs from low (suc v) s marks → Reaches vs from v → at s marks i ≡ true
has_mark s vs from low v i marks earlier is old r =
    let k = old.whole v (omega (arith, is)) (omega arith) r in
    let up = k.1 in
    let down : v ≤ low + k.0 = order_law vs (low + k.0) v earlier k.3 in
    let same : k.0 ≡ i = omega (arith, up, down, is) in
    subst (λ (j : ℕ). at s marks j ≡ true) same k.2

pub walk_on : (vs : List (List ℕ)) (left right low v i : ℕ) (marks : List Mark) → AllEarlier vs → low + i ≡ v → i < length marks → Walk vs left right low (suc v) marks
    → (at of_left marks i && at of_right marks i) ≡ false → Walk vs left right low v (all_marked low (get_or marks i unmarked) (parents_of vs v) marks)
walk_on vs left right low v i marks earlier is lt old not_both = record {
  left_side = visit of_left is_left vs left low v i marks earlier is lt old.left_side;
  right_side = visit of_right is_right vs right low v i marks earlier is lt old.right_side;
  none = λ x le a b. ⊎_elim
      (λ (more : v < x). old.none x (omega (arith, more)) a b)
      (λ (less : x ≤ v).
      let same : x ≡ v = omega (arith, le, less) in
      false≢true (sym not_both ∙ and_from (at of_left marks i) (at of_right marks i)
      (has_mark of_left vs left low v i marks earlier is old.left_side (subst (Reaches vs left) same a))
      (has_mark of_right vs right low v i marks earlier is old.right_side (subst (Reaches vs right) same b))))
      (cases_lt v x);
}

-- a version with both marks is the last common ancestor
pub walk_ends : (vs : List (List ℕ)) (left right low v i : ℕ) (marks : List Mark) → low + i ≡ v → Walk vs left right low (suc v) marks
    → at of_left marks i ≡ true → at of_right marks i ≡ true → IsLastCommon vs left right v
walk_ends vs left right low v i marks is old a b = record {
  of_left = subst (Reaches vs left) is (old.left_side.sound i a);
  of_right = subst (Reaches vs right) is (old.right_side.sound i b);
  last = λ x l r. ⊎_elim (λ (more : v < x). absurd (old.none x (omega (arith, more)) l r)) (λ (less : x ≤ v). less) (cases_lt v x);
}

abbrev pub left_mark : Mark
left_mark = record { left = true; right = false }

abbrev pub right_mark : Mark
right_mark = record { left = false; right = true }

begin_left : (vs : List (List ℕ)) (left right low high n : ℕ) → AllEarlier vs → low ≤ left → left ≤ high → low + n ≡ suc high
    → Sided vs left low (suc high) of_left (marked low right_mark right (marked low left_mark left (replicate n unmarked)))
begin_left vs left right low high n earlier from up wide = record {
  sound = λ i h. ⊎_elim
      (λ (a : at of_left (marked low left_mark left (replicate n unmarked)) i ≡ true). ⊎_elim
      (λ (b : at of_left (replicate n unmarked) i ≡ true). absurd (false≢true (sym (none_at of_left is_left n i) ∙ b)))
      (λ (b : (true ≡ true) × (left ≡ low + i)). subst (Reaches vs left) b.1 (Itself left))
      (marked_from of_left is_left low left_mark left (replicate n unmarked) i a))
      (λ (a : (false ≡ true) × (right ≡ low + i)). absurd (false≢true a.0))
      (marked_from of_left is_left low right_mark right (marked low left_mark left (replicate n unmarked)) i h);
  whole = λ x le lt r.
      let i : low + (left - low) ≡ left = omega (arith, from) in (
        left - low,
        omega (arith, i, up),
        marked_kept of_left is_left low right_mark right (marked low left_mark left (replicate n unmarked)) (left - low)
            (marked_new of_left is_left low left_mark left (replicate n unmarked) (left - low) i (let m = length-replicate n unmarked in omega (arith, m, i, up, wide)) refl),
        subst (λ (y : ℕ). Reaches vs y x) (sym i) r,
      );
}

begin_right : (vs : List (List ℕ)) (left right low high n : ℕ) → AllEarlier vs → low ≤ right → right ≤ high → low + n ≡ suc high
    → Sided vs right low (suc high) of_right (marked low right_mark right (marked low left_mark left (replicate n unmarked)))
begin_right vs left right low high n earlier from up wide = record {
  sound = λ i h. ⊎_elim
      (λ (a : at of_right (marked low left_mark left (replicate n unmarked)) i ≡ true). ⊎_elim
      (λ (b : at of_right (replicate n unmarked) i ≡ true). absurd (false≢true (sym (none_at of_right is_right n i) ∙ b)))
      (λ (b : (false ≡ true) × (left ≡ low + i)). absurd (false≢true b.0))
      (marked_from of_right is_right low left_mark left (replicate n unmarked) i a))
      (λ (a : (true ≡ true) × (right ≡ low + i)). subst (Reaches vs right) a.1 (Itself right))
      (marked_from of_right is_right low right_mark right (marked low left_mark left (replicate n unmarked)) i h);
  whole = λ x le lt r.
      let i : low + (right - low) ≡ right = omega (arith, from) in (
        right - low,
        omega (arith, i, up),
        marked_new of_right is_right low right_mark right (marked low left_mark left (replicate n unmarked)) (right - low) i
            (let m = length-replicate n unmarked in let k = length-marked low left_mark left (replicate n unmarked) in omega (arith, m, k, i, up, wide)) refl,
        subst (λ (y : ℕ). Reaches vs y x) (sym i) r,
      );
}

pub walk_begins : (vs : List (List ℕ)) (left right low high n : ℕ) → AllEarlier vs → low ≤ left → left ≤ high → low ≤ right → right ≤ high → low + n ≡ suc high
    → Walk vs left right low (suc high) (marked low right_mark right (marked low left_mark left (replicate n unmarked)))
walk_begins vs left right low high n earlier from_l up_l from_r up_r wide = record {
  left_side = begin_left vs left right low high n earlier from_l up_l wide;
  right_side = begin_right vs left right low high n earlier from_r up_r wide;
  none = λ x le a b. let h = order_law vs left x earlier a in absurd (omega (arith, h, up_l, le));
}
