-- Views of one state agree.
use Rattle.std.proofs.Common.{◌≡◌, ℕ, List, ap, sym, ◌∙◌, Some}
use Rattle.db_value.specs.declared.schema.Relation.{Relation}
use Rattle.db_store.specs.State.{State, part_records}
use Rattle.db_store.specs.Parts.{Part, AreOf}
use Rattle.field_merge.specs.Shared.{AgreeAsLong, PartsAgree}

some_is : {X : Type 0} (a b : X) → Some a ≡ Some b → a ≡ b
some_is a b e = cc

of_state : (s : State) (some others : ℕ → List Part) (r : ℕ) → AreOf s some → AreOf s others → AgreeAsLong (some r) (others r)
of_state s some others r a b i j h k e n = some_is _ _ (sym (a r i h) ∙ ap (λ id. part_records s r id) e ∙ b r j k)

pub one_state : (s : State) (schema : List Relation) (bs ls rs : ℕ → List Part) → AreOf s bs → AreOf s ls → AreOf s rs → PartsAgree schema bs ls rs
one_state s schema bs ls rs b l r = λ k h. record { of_base = of_state s ls bs k l b; of_right = of_state s ls rs k l r }
