-- The views of a transaction are of the state.
use Rattle.std.proofs.Common.{ℕ, suc, Bool, List, [], ◌∷◌, Option}
use Rattle.std.specs.Prelude.{Result, Ok, Err, IfOk}
use Rattle.db_store.specs.State.{State}
use Rattle.db_store.specs.Parts.{Part, AreOf}
use Rattle.branch_tx.specs.Granted.{Granted, AreAllOf, back_at, views_of}
use Rattle.branch_tx.specs.Shown.{parts_by, ViewsOf, ViewsAgree}
use Rattle.branch_tx.proofs.ShownLemmas.{of_front, of_none, of_taken, one_state, view_of}

-- what is taken back leaves views of the state
pub back_of : (st : State) (g : Granted) (mark : Option (Bool × Bool) × (ℕ × Bool)) → AreAllOf st g → AreAllOf st (back_at g mark)
back_of st g mark of = of_taken st (suc mark.1.0) (views_of g) of

-- the views of a transaction on its branch's head are the one below
pub one_of : (st : State) (parts : ℕ → List Part) → AreOf st parts → ViewsOf st (parts_by parts ∷ [])
one_of st parts of = of_front st (parts_by parts) [] (view_of st parts of) (λ v. of_none st)

-- the view below agrees with two others of the state
pub three_agree : (st : State) (g : Granted) (base right : ℕ → List Part) → AreAllOf st g → AreOf st base → AreOf st right → ViewsAgree (g.below ∷ parts_by base ∷ parts_by right ∷ [])
three_agree st g base right of b r = one_state st (g.below ∷ parts_by base ∷ parts_by right ∷ []) (of_front st g.below (parts_by base ∷ parts_by right ∷ []) (of 0) (of_front st (parts_by base) (parts_by right ∷ []) (view_of st base b) (one_of st right r)))

-- what follows of a good result
pub if_ok : {A E : Type 0} (r : Result A E) (P Q : A → Type 0) → ((a : A) → P a → Q a) → IfOk r P → IfOk r Q
if_ok (Ok a) P Q f p = f a p
if_ok (Err e) P Q f p = tt
