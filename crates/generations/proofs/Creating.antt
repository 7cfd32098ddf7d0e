-- The front of a new dataset's file.
use Rattle.std.proofs.Common.{◌≡◌, inl, inr, ℕ, ◌+◌, ◌<◌, ◌^◌, Bool, true, false, List, [], ◌∷◌, ◌++◌, length, drop, refl, sym, ◌∙◌, ap, subst, arith, Some, None}
use Rattle.db_value.specs.declared.schema.Relation.{Relation}
use Rattle.db_store.specs.State.{State}
use Rattle.db_outside.specs.Disk.{Begins, InAll}
use Rattle.gate_journal.specs.Gate.{IsShut, IsOpen}
use Rattle.gate_journal.specs.Leaves.{Differs}
use Rattle.new_image.specs.Image.{image_of}
use Rattle.new_image.specs.Schemas.{IsDeclared}
use Rattle.new_image.proofs.Declared.{declared_is}
use Rattle.generations.specs.declared.other_gate.OtherGate.TheVariants.{Low}
use Rattle.generations.specs.Asides.{IsFront, IsLow}
use Rattle.generations.specs.AsideLaws.{next_ends, low_empty}
use Rattle.generations.specs.Created.{IsEmptyBy, AreEmptyBy}
use Rattle.generations.specs.Fronts.{Keeps, KeepsFile}
use Rattle.generations.specs.NewState.{new_state}
use Rattle.generations.specs.Written.{behind_gate}
use Rattle.generations.proofs.NewLaid.{new_image_is}
use Rattle.generations.proofs.Writing.{front_long, front_is}

-- an opened gate in front of what was staged
pub gate_opened : (bytes back c d : List ℕ) → bytes ≡ 0 ∷ back → Begins bytes (drop 0 d) → Differs 0 d c → drop 0 c ≡ 1 ∷ drop (0 + 1) c → Begins (1 ∷ back) c
gate_opened bytes back c d is begins differs gate =
    let staged : d ≡ 0 ∷ (back ++ begins.0) = begins.1 ∙ ap (λ (l : List ℕ). l ++ begins.0) is in
    (begins.0, gate ∙ ap (λ (l : List ℕ). 1 ∷ l) (differs.after ∙ ap (λ (l : List ℕ). drop (0 + 1) l) staged))

-- a file that stands whole behind an open gate is kept
pub whole_file : (back : List ℕ) (g at : ℕ) (clean : Bool) (image : List ℕ → Type 0) (s : State) → IsFront (1 ∷ back) g s [] → at ≡ 1 + length back → clean ≡ true → InAll image (IsOpen 0 (back ++ 0 ∷ []))
    → KeepsFile g at clean image s [] None
whole_file back g at clean image s is place is_clean all = record {
  front = 1 ∷ back;
  is_front = is;
  kept = record {
    place = omega (arith, place);
    begins = λ c now. (next_ends back c (all c now)).spelled;
    shut = λ _. (refl, λ c now. subst (λ (n : ℕ). IsShut n c) (omega (arith, place)) (next_ends back c (all c now)).shut);
    behind = λ unclean. let bad : true ≡ false = sym is_clean ∙ unclean in absurd (cc bad);
  };
  fits = λ body none_there. let bad : None ≡ Some body = none_there in absurd (cc bad);
}

-- a new dataset keeps the root alone
pub new_keeps : (rs : List Relation) (at : ℕ) (clean : Bool) (image beside : List ℕ → Type 0) → IsDeclared rs → length (image_of rs) < 2 ^ 64 → at ≡ 57 + length (image_of rs) → clean ≡ true
    → InAll image (Begins (1 ∷ (behind_gate 1 (image_of rs) ++ 0 ∷ []))) → InAll beside (λ d. d ≡ []) → Keeps false 1 at clean Low image beside (new_state rs) [] None
new_keeps rs at clean image beside is few place is_clean all none =
    let back = behind_gate 1 (image_of rs) in
    let long : length (1 ∷ back) ≡ 57 + length (image_of rs) = front_long 1 (image_of rs) (omega arith) few in
    record {
      file = whole_file back 1 at clean image (new_state rs) (front_is 1 (image_of rs) (new_state rs) (omega arith) (omega arith) few (new_image_is rs (declared_is rs is))) (omega (arith, place, long)) is_clean all;
      gate_is = refl;
      other = λ d now. subst (λ (l : List ℕ). IsLow false 1 l) (sym (none d now)) (low_empty false 1);
    }

-- both files are empty, or one isn't
pub both_empty : (p q : Bool) (c d : List ℕ) → p ≡ true → IsEmptyBy p c → IsEmptyBy q d → AreEmptyBy q c d
both_empty true true c d is first second = (first, second)
both_empty true false c d is first second = inr second
both_empty false q c d is first second = absurd (cc is)

pub first_there : (p : Bool) (c d : List ℕ) → p ≡ false → IsEmptyBy p c → AreEmptyBy p c d
first_there true c d is first = absurd (cc is)
first_there false c d is first = inl first
