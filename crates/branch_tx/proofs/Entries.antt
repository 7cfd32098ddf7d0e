-- What an entry leaves as it was, for a transaction that has needed some locks.
use Rattle.std.proofs.Common.{◌≡◌, true, ℕ, ◌<◌, List, length, Option, Some, None, ◌∙◌, subst, refl}
use Rattle.std.proofs.lemmas.List.Quantifiers.{position-Some}
use Rattle.db_value.specs.Text.{same}
use Rattle.db_value.specs.declared.version.VersionPlace.{VersionPlace}
use Rattle.db_value.specs.declared.entry.Change.{Change}
use Rattle.db_value.specs.declared.entry.Entry.{Entry}
use Rattle.db_value.specs.declared.entry.Entry.TheVariants.{Commit, Branch as NewBranch}
use Rattle.db_store.specs.Table.{with_changes}
use Rattle.db_store.specs.Dataset.{Branch, Dataset, branch_at, branch_named, no_branch, head_of, version_at, IsMade, grown, begun, apply}
use Rattle.db_store.specs.Growth.{branch_extends, branches_stay, made_stays}
use Rattle.db_store.specs.Fits.{fits}
use Rattle.db_store.specs.Order.{IsOrdered, common}
use Rattle.db_store.specs.Sound.{IsSound}
use Rattle.db_store.proofs.OrderMade.{common_stays}
use Rattle.db_store.proofs.SoundLemmas.{version_stays, position_same, position_kept, commit_count, commit_other, begun_other}
use Rattle.line_needs.specs.Needs.{catalogue, lock_of}
use Rattle.branch_tx.specs.Frame.{Spares}

-- t is s after an entry that spares the locks N
pub record Frame (N : ℕ → Type 0) (s t : Dataset) : Type 0 where
  pub schema : t.schema ≡ s.schema
  -- branches stay, and the catalogue's lock keeps others out
  pub named : (name : List ℕ) (b : ℕ) → branch_named s name ≡ Some b → branch_named t name ≡ Some b
  pub unnamed : N catalogue → (name : List ℕ) → branch_named s name ≡ None → branch_named t name ≡ None
  pub count : N catalogue → length t.branches ≡ length s.branches
  pub there : (b : ℕ) → b < length s.branches → b < length t.branches
  -- versions that are made stay
  pub made : (at : VersionPlace) → IsMade s at → IsMade t at
  pub version : (at : VersionPlace) → IsMade s at → version_at t at ≡ version_at s at
  -- a branch keeps its name and its first version, and all of it under its lock
  pub name : (b : ℕ) → b < length s.branches → (branch_at t b).name ≡ (branch_at s b).name
  pub base : (b : ℕ) → b < length s.branches → (branch_at t b).base ≡ (branch_at s b).base
  pub locked : (b : ℕ) → b < length s.branches → N (lock_of b) → branch_at t b ≡ branch_at s b
  -- and versions keep the common ancestor that was made last
  pub ancestor : (a c : VersionPlace) → IsMade s a → IsMade s c → common t a c ≡ common s a c

-- a branch with a name is there
pub named_there : (d : Dataset) (name : List ℕ) (b : ℕ) → branch_named d name ≡ Some b → b < length d.branches
named_there d name b e = (position-Some (λ (x : Branch). same x.name name) d.branches b no_branch e).0

frame_commit : (N : ℕ → Type 0) (s : Dataset) (c : ℕ) (second : Option VersionPlace) (changes : List Change) → IsSound s → IsOrdered s → fits s (Commit c second changes) ≡ true → (N (lock_of c) → ⊥) → Frame N s (apply s (Commit c second changes))
frame_commit N s c second changes sound ordered fit free = record {
  schema = refl;
  named = λ name b e. names name ∙ e;
  unnamed = λ h name e. names name ∙ e;
  count = λ h. commit_count s c second changes;
  there = branches_stay s (Commit c second changes);
  made = made_stays s (Commit c second changes);
  version = version_stays s (Commit c second changes);
  name = λ b l. (branch_extends s (Commit c second changes) b l).name;
  base = λ b l. (branch_extends s (Commit c second changes) b l).base;
  locked = λ b l h. commit_other s c second changes b (λ e. free (subst (λ (k : ℕ). N (lock_of k)) e h));
  ancestor = λ a d l m. common_stays s (Commit c second changes) a d sound ordered fit l m;
}
  where
    names : (name : List ℕ) → branch_named (apply s (Commit c second changes)) name ≡ branch_named s name
    names name = position_same (λ (x : Branch). same x.name name) s.branches c (grown (branch_at s c) (with_changes (head_of s c) changes) second) no_branch refl

frame_new : (N : ℕ → Type 0) (s : Dataset) (name : List ℕ) (origin : VersionPlace) → IsSound s → IsOrdered s → fits s (NewBranch name origin) ≡ true → (N catalogue → ⊥) → Frame N s (apply s (NewBranch name origin))
frame_new N s name origin sound ordered fit free = record {
  schema = refl;
  named = λ other b e. position_kept (λ (x : Branch). same x.name other) s.branches (begun s name origin) no_branch b e;
  unnamed = λ h other e. absurd (free h);
  count = λ h. absurd (free h);
  there = branches_stay s (NewBranch name origin);
  made = made_stays s (NewBranch name origin);
  version = version_stays s (NewBranch name origin);
  name = λ b l. (branch_extends s (NewBranch name origin) b l).name;
  base = λ b l. (branch_extends s (NewBranch name origin) b l).base;
  locked = λ b l h. begun_other s name origin b l;
  ancestor = λ a d l m. common_stays s (NewBranch name origin) a d sound ordered fit l m;
}

pub frame_entry : (N : ℕ → Type 0) (s : Dataset) (e : Entry) → IsSound s → IsOrdered s → fits s e ≡ true → Spares N e → Frame N s (apply s e)
frame_entry N s (Commit c second changes) sound ordered fit free = frame_commit N s c second changes sound ordered fit free
frame_entry N s (NewBranch name origin) sound ordered fit free = frame_new N s name origin sound ordered fit free
