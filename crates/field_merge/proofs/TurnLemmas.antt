-- Whose part comes next.
use Rattle.std.proofs.Common.{◌≡◌, ℕ, ◌≤◌, ◌==◌, Bool, true, false, cond, ◌&&◌, List, length, Option, Some, None, refl, sym, ◌∙◌}
use Rattle.std.specs.Prelude.{IfNone, IfSome, is_some}
use Rattle.std.proofs.lemmas.Bool.{eqb-true, and_parts}
use Rattle.db_store.specs.declared.view.PartInfo.{PartInfo}
use Rattle.db_store.specs.Parts.{Part}
use Rattle.field_merge.specs.declared.turns.Turn.TheVariants.{All, Base, Left, Right, End}
use Rattle.field_merge.specs.declared.turns.Taken.{Taken}
use Rattle.field_merge.specs.Turns.{is_one, is_first, turn_of, IsInfo, IsNext, AreOne, AreTaken}

-- ---- by the tests, one after another

is_all : (p q s u : Bool) → cond p All (cond q Base (cond s Left (cond u Right End))) ≡ All → p ≡ true
is_all true q s u e = refl
is_all false true s u e = absurd cc
is_all false false true u e = absurd cc
is_all false false false true e = absurd cc
is_all false false false false e = absurd cc

not_base : (p s u : Bool) → cond p All (cond false Base (cond s Left (cond u Right End))) ≡ Base → ⊥
not_base true s u e = absurd cc
not_base false true u e = absurd cc
not_base false false true e = absurd cc
not_base false false false e = absurd cc

not_left : (p q u : Bool) → cond p All (cond q Base (cond false Left (cond u Right End))) ≡ Left → ⊥
not_left true q u e = absurd cc
not_left false true u e = absurd cc
not_left false false true e = absurd cc
not_left false false false e = absurd cc

not_right : (p q s : Bool) → cond p All (cond q Base (cond s Left (cond false Right End))) ≡ Right → ⊥
not_right true q s e = absurd cc
not_right false true s e = absurd cc
not_right false false true e = absurd cc
not_right false false false e = absurd cc

not_end : (p q s : Bool) → cond p All (cond q Base (cond s Left (cond true Right End))) ≡ End → ⊥
not_end true q s e = absurd cc
not_end false true s e = absurd cc
not_end false false true e = absurd cc
not_end false false false e = absurd cc

left_first : (p q u : Bool) → cond p All (cond q Base (cond true Left (cond u Right End))) ≡ End → ⊥
left_first true q u e = absurd cc
left_first false true u e = absurd cc
left_first false false u e = absurd cc

-- ---- what is told of two parts

one_id : (x y : PartInfo) → is_one (Some x) (Some y) ≡ true → x.id ≡ y.id
one_id x y e = eqb-true x.id y.id (and_parts (x.id == y.id) (x.slots == y.slots) e).0

one_size : (x y : PartInfo) → is_one (Some x) (Some y) ≡ true → x.slots ≡ y.slots
one_size x y e = eqb-true x.slots y.slots (and_parts (x.id == y.id) (x.slots == y.slots) e).1

next : (parts : List Part) (index : ℕ) (info : PartInfo) → IsInfo parts index info → IsNext parts index
next parts index info i = record { within = i.within; small = i.small }

module _ (bs ls rs : List Part) (t : Taken) where
  both : (x y z : PartInfo) → IsInfo bs t.base x → IsInfo ls t.left y → IsInfo rs t.right z → is_one (Some x) (Some y) ≡ true → is_one (Some y) (Some z) ≡ true → AreOne bs ls rs t
  both x y z i j k p q = record {
    in_base = next bs t.base x i;
    in_left = next ls t.left y j;
    in_right = next rs t.right z k;
    base_id = sym j.id ∙ sym (one_id x y p) ∙ i.id;
    right_id = sym j.id ∙ one_id y z q ∙ k.id;
    base_slots = sym j.slots ∙ sym (one_size x y p) ∙ i.slots;
    right_slots = sym j.slots ∙ one_size y z q ∙ k.slots;
  }

  all_by : (a b c : Option PartInfo) → IfSome a (IsInfo bs t.base) → IfSome b (IsInfo ls t.left) → IfSome c (IsInfo rs t.right) → (is_one a b && is_one b c) ≡ true → AreOne bs ls rs t
  all_by None b c i j k e = absurd cc
  all_by (Some x) None c i j k e = absurd cc
  all_by (Some x) (Some y) None i j k e = absurd (none_one (is_one (Some x) (Some y)) e)
    where
      none_one : (p : Bool) → (p && false) ≡ true → ⊥
      none_one true e = absurd cc
      none_one false e = absurd cc
  all_by (Some x) (Some y) (Some z) i j k e = let two = and_parts (is_one (Some x) (Some y)) (is_one (Some y) (Some z)) e in both x y z i j k two.0 two.1

  pub all_turn : (a b c : Option PartInfo) → IfSome a (IsInfo bs t.base) → IfSome b (IsInfo ls t.left) → IfSome c (IsInfo rs t.right) → turn_of a b c ≡ All → AreOne bs ls rs t
  all_turn a b c i j k e = all_by a b c i j k (is_all (is_one a b && is_one b c) (is_first a b && is_first a c) (is_first b c) (is_some c) e)

  pub base_turn : (a b c : Option PartInfo) → IfSome a (IsInfo bs t.base) → turn_of a b c ≡ Base → IsNext bs t.base
  base_turn None b c i e = absurd (not_base false (is_first b c) (is_some c) e)
  base_turn (Some x) b c i e = next bs t.base x i

  pub left_turn : (a b c : Option PartInfo) → IfSome b (IsInfo ls t.left) → turn_of a b c ≡ Left → IsNext ls t.left
  left_turn a None c j e = absurd (not_left (is_one a None && is_one None c) (is_first a None && is_first a c) (is_some c) e)
  left_turn a (Some y) c j e = next ls t.left y j

  pub right_turn : (a b c : Option PartInfo) → IfSome c (IsInfo rs t.right) → turn_of a b c ≡ Right → IsNext rs t.right
  right_turn a b None k e = absurd (not_right (is_one a b && is_one b None) (is_first a b && is_first a None) (is_first b None) e)
  right_turn a b (Some z) k e = next rs t.right z k

  pub end_turn : (a b c : Option PartInfo) → IfNone a (length bs ≤ t.base) → IfNone b (length ls ≤ t.left) → IfNone c (length rs ≤ t.right) → turn_of a b c ≡ End → AreTaken bs ls rs t
  end_turn a b (Some z) i j k e = absurd (not_end (is_one a b && is_one b (Some z)) (is_first a b && is_first a (Some z)) (is_first b (Some z)) e)
  end_turn a (Some y) None i j k e = absurd (left_first (is_one a (Some y) && is_one (Some y) None) (is_first a (Some y) && is_first a None) false e)
  end_turn (Some x) None None i j k e = absurd cc
  end_turn None None None i j k e = record { of_base = i; of_left = j; of_right = k }
