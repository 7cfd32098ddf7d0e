-- What two files open to after calls of the one that counts.
use Rattle.std.proofs.Common.{◌≡◌, ◌⊎◌, inl, inr, ⊎_elim, ◌≤◌, ℕ, Bool, true, false, cond, List, Option, Some, sym, subst, arith}
use Rattle.db_value.specs.declared.entry.Entry.{Entry}
use Rattle.db_store.specs.State.{State}
use Rattle.db_outside.specs.Disk.{LeavesOnly, InAll}
use Rattle.db_outside.specs.declared.disk.Disk.{Ghosts}
use Rattle.entry_codec.specs.Logs.{Follows, Opening, GivesOneOf, IsNoLater}
use Rattle.generations.specs.Datasets.{moment_beside}
use Rattle.generations.specs.Ends.{EndsInOneOf}
use Rattle.generations.specs.Files.{reads_by}
use Rattle.generations.specs.FrontLaws.{one_of}
use Rattle.generations.specs.Fronts.{IsFront, IsBeside}
use Rattle.generations.specs.Given.{opening_of, Opens}
use Rattle.generations.specs.LogLaws.{gives_one}

module _ {D : Type 0} (f : D → ℕ) (old new aside_old aside_new : D) where
  -- a number of each disk that doesn't fall, such as its moment, is no earlier
  pub none_earlier : (second : Bool) → f old ≤ f new → f aside_old ≤ f aside_new
      → IsNoLater (f (cond second aside_old old), f (cond second old aside_old)) (f (cond second aside_new new), f (cond second new aside_new))
  none_earlier false le aside = (le, aside)
  none_earlier true le aside = (aside, le)

module _ {D : Type 0} (g : Ghosts D) (old new aside_old aside_new : D) where
  -- since the first call, by what calls of each leave
  pub any_of_both : (P Q : List ℕ → Type 0) (R : Opening → Type 0) → LeavesOnly g.moment g.since old new P → LeavesOnly g.moment g.since aside_old aside_new Q
      → (second : Bool) → ((c d : List ℕ) (o : Opening) → P c → Q d → opening_of (reads_by second c d) ≡ o → R o)
      → (o : Opening) → Opens (g.since (cond second aside_new new) (g.moment (cond second aside_old old))) (g.since (cond second new aside_new) (g.moment (cond second old aside_old))) o → R o
  any_of_both P Q R leaves aside false so o opens = so opens.0 opens.1 o (leaves.each opens.0 opens.2) (aside.each opens.1 opens.3) opens.4
  any_of_both P Q R leaves aside true so o opens = so opens.1 opens.0 o (leaves.each opens.1 opens.3) (aside.each opens.0 opens.2) opens.4

module _ {D : Type 0} (g : Ghosts D) (old new beside : D) where
  -- no moment is earlier
  pub no_earlier : (second : Bool) → g.moment old ≤ g.moment new → IsNoLater (g.moment (cond second beside old), g.moment (cond second old beside)) (g.moment (cond second beside new), g.moment (cond second new beside))
  no_earlier false le = (le, omega arith)
  no_earlier true le = (omega arith, le)

  module _ (n : ℕ) (P : List ℕ → Type 0) (R : Opening → Type 0) (leaves : LeavesOnly g.moment g.since old new P) where
    -- an image that has P, with a file beside it that doesn't count, opens so
    abbrev Gives : Bool → Type 0
    Gives second = (c d : List ℕ) (o : Opening) → P c → IsBeside second n d → opening_of (reads_by second c d) ≡ o → R o

    -- since the first call
    pub any_pair : (second : Bool) → Gives second → ((c : List ℕ) → g.since beside (g.moment beside) c → g.image beside c) → InAll (g.image beside) (IsBeside second n)
        → (o : Opening) → Opens (g.since (cond second beside new) (g.moment (cond second beside old))) (g.since (cond second new beside) (g.moment (cond second old beside))) o → R o
    any_pair false so only other o opens = so opens.0 opens.1 o (leaves.each opens.0 opens.2) (other opens.1 (only opens.1 opens.3)) opens.4
    any_pair true so only other o opens = so opens.1 opens.0 o (leaves.each opens.1 opens.3) (other opens.0 (only opens.0 opens.2)) opens.4

    -- since earlier moments
    pub adds_pair : (second : Bool) → Gives second → (t : ℕ × ℕ) → IsNoLater t (g.moment (cond second beside old), g.moment (cond second old beside)) → InAll (g.since beside (moment_beside second t)) (IsBeside second n)
        → (o : Opening) → Opens (g.since (cond second beside new) t.0) (g.since (cond second new beside) t.1) o
        → Opens (g.since (cond second beside old) t.0) (g.since (cond second old beside) t.1) o ⊎ R o
    adds_pair false so t le quiet o opens =
        ⊎_elim (λ was. inl (opens.0, opens.1, was, opens.3, opens.4)) (λ p. inr (so opens.0 opens.1 o p (quiet opens.1 opens.3) opens.4)) (leaves.before t.0 opens.0 le.0 opens.2)
    adds_pair true so t le quiet o opens =
        ⊎_elim (λ was. inl (opens.0, opens.1, opens.2, was, opens.4)) (λ p. inr (so opens.1 opens.0 o p (quiet opens.0 opens.2) opens.4)) (leaves.before t.1 opens.1 le.1 opens.3)

-- the same where the file beside is as it was
module _ {D : Type 0} (g : Ghosts D) (old new beside beside_2 : D) (same : beside_2 ≡ beside) where
  module _ (n : ℕ) (P : List ℕ → Type 0) (R : Opening → Type 0) (leaves : LeavesOnly g.moment g.since old new P) (second : Bool)
      (so : (c d : List ℕ) (o : Opening) → P c → IsBeside second n d → opening_of (reads_by second c d) ≡ o → R o) where
    pub any_pair_beside : ((c : List ℕ) → g.since beside (g.moment beside) c → g.image beside c) → InAll (g.image beside) (IsBeside second n)
        → (o : Opening) → Opens (g.since (cond second beside_2 new) (g.moment (cond second beside old))) (g.since (cond second new beside_2) (g.moment (cond second old beside))) o → R o
    any_pair_beside only other = subst (λ (x : D). (o : Opening) → Opens (g.since (cond second x new) (g.moment (cond second beside old))) (g.since (cond second new x) (g.moment (cond second old beside))) o → R o) (sym same)
        (any_pair g old new beside n P R leaves second so only other)

    pub adds_pair_beside : (t : ℕ × ℕ) → IsNoLater t (g.moment (cond second beside old), g.moment (cond second old beside)) → InAll (g.since beside (moment_beside second t)) (IsBeside second n)
        → (o : Opening) → Opens (g.since (cond second beside_2 new) t.0) (g.since (cond second new beside_2) t.1) o
        → Opens (g.since (cond second beside old) t.0) (g.since (cond second old beside) t.1) o ⊎ R o
    adds_pair_beside t le quiet = subst (λ (x : D). (o : Opening) → Opens (g.since (cond second x new) t.0) (g.since (cond second new x) t.1) o → Opens (g.since (cond second beside old) t.0) (g.since (cond second old beside) t.1) o ⊎ R o) (sym same)
        (adds_pair g old new beside n P R leaves second so t le quiet)

  pub stays_beside : (second : Bool) (n : ℕ) (t : ℕ × ℕ) → InAll (g.since beside (moment_beside second t)) (IsBeside second n) → InAll (g.since beside_2 (moment_beside second t)) (IsBeside second n)
  stays_beside second n t quiet = subst (λ (x : D). InAll (g.since x (moment_beside second t)) (IsBeside second n)) (sym same) quiet

-- the file that counts ends as after an append
pub one_batch : (second : Bool) (n : ℕ) (s : State) (es : List Entry) (front : List ℕ) (is : IsFront front n s es) (f : Option (List ℕ)) (batch : List ℕ) → ((body : List ℕ) → f ≡ Some body → Follows s body) → Follows s batch
    → (c d : List ℕ) (o : Opening) → EndsInOneOf front f batch c → IsBeside second n d → opening_of (reads_by second c d) ≡ o → GivesOneOf n s es f batch o
one_batch second n s es front is f batch fits follows c d o ends beside opens =
    gives_one second n s es c d o opens f batch (one_of second n s es front is f batch c d fits follows ends beside)
