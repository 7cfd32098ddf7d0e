-- The new branches of entries that are read have names.
use Rattle.std.proofs.Common.{◌≡◌, ◌+◌, ◌==◌, ◌&&◌, ℕ, zero, suc, nat_le, cond, Bool, true, false, List, [], ◌∷◌, length, take, drop, Option, Some, None, option_map, option_and_then, refl, subst}
use Rattle.std.proofs.lemmas.Bool.{and_parts}
use Rattle.db_value.specs.Text.{is_name}
use Rattle.db_value.specs.declared.entry.Entry.{Entry}
use Rattle.db_value.specs.declared.entry.Entry.TheVariants.{Commit, Branch}
use Rattle.db_store.specs.Fits.{ascends, makes_version}
use Rattle.db_store.specs.Body.{second_size}
use Rattle.entry_codec.specs.Spelling.{entry_size}
use Rattle.entry_codec.specs.Grammar.{u32_in, place_in, second_in, are_of_kind, commit_of, counted_in, commit_in, branch_in, entry_in, onto_entries, entries_from, entries_in}
use Rattle.db_image.specs.Imaged.{IsNamed}

-- so it is of all of them
abbrev pub AreNamed : List Entry → Type 0
AreNamed [] = Unit {0}
AreNamed (e ∷ es) = IsNamed e × AreNamed es

some_is : {T : Type 0} (x y : T) → Some x ≡ Some y → x ≡ y
some_is x y is = cc is

-- a test that held
pub tested : {T : Type 0} (q : Bool) (o : Option T) (y : T) → cond q o None ≡ Some y → (q ≡ true) × (o ≡ Some y)
tested true o y is = (refl, is)
tested false o y is = absurd (cc is)

mapped : {A B : Type 0} (f : A → B) (o : Option A) (y : B) → option_map f o ≡ Some y → (x : A) × (o ≡ Some x) × (f x ≡ y)
mapped f None y is = absurd (cc is)
mapped f (Some x) y is = (x, refl, some_is (f x) y is)

chained : {A B : Type 0} (f : A → Option B) (o : Option A) (y : B) → option_and_then f o ≡ Some y → (x : A) × (o ≡ Some x) × (f x ≡ Some y)
chained f None y is = absurd (cc is)
chained f (Some x) y is = (x, refl, is)

commit_named : (wide : Bool) (b : List ℕ) (e : Entry) → commit_in wide b ≡ Some e → IsNamed e
commit_named wide b e is =
    let branch = chained (λ branch. option_and_then (λ second. option_and_then (commit_of wide branch second) (counted_in wide (drop (4 + second_size second) b))) (second_in (drop 4 b))) (u32_in b) e is in
    let second = chained (λ second. option_and_then (commit_of wide branch.0 second) (counted_in wide (drop (4 + second_size second) b))) (second_in (drop 4 b)) e branch.2 in
    let changes = chained (commit_of wide branch.0 second.0) (counted_in wide (drop (4 + second_size second.0) b)) e second.2 in
    let made = tested (makes_version second.0 changes.0 && (ascends changes.0 && are_of_kind wide changes.0)) (Some (Commit branch.0 second.0 changes.0)) e changes.2 in
    subst IsNamed (some_is (Commit branch.0 second.0 changes.0) e made.1) tt

branch_named : (b : List ℕ) (e : Entry) → branch_in b ≡ Some e → IsNamed e
branch_named [] e is = absurd (cc is)
branch_named (n ∷ b) e is =
    let held = tested (nat_le n (length b) && is_name (take n b)) (option_map (Branch (take n b)) (place_in (drop n b))) e is in
    let made = mapped (Branch (take n b)) (place_in (drop n b)) e held.1 in
    subst IsNamed made.2 (and_parts (nat_le n (length b)) (is_name (take n b)) held.0).1

entry_named : (b : List ℕ) (e : Entry) → entry_in b ≡ Some e → IsNamed e
entry_named [] e is = absurd (cc is)
entry_named (tag ∷ b) e is = by (tag == 1) (tag == 3) (tag == 2) is
  where
    by : (p q r : Bool) → cond p (commit_in false b) (cond q (commit_in true b) (cond r (branch_in b) None)) ≡ Some e → IsNamed e
    by true q r read = commit_named false b e read
    by false true r read = commit_named true b e read
    by false false true read = branch_named b e read
    by false false false read = absurd (cc read)

from_named : (n : ℕ) (b : List ℕ) (es : List Entry) → entries_from n b ≡ Some es → AreNamed es
from_named n [] es is = subst AreNamed (some_is [] es is) tt
from_named zero (x ∷ b) es is = absurd (cc is)
from_named (suc n) (x ∷ b) es is =
    let first = chained (λ e. option_map (onto_entries e) (entries_from n (drop (entry_size e) (x ∷ b)))) (entry_in (x ∷ b)) es is in
    let more = mapped (onto_entries first.0) (entries_from n (drop (entry_size first.0) (x ∷ b))) es first.2 in
    subst AreNamed more.2 (entry_named (x ∷ b) first.0 first.1, from_named n (drop (entry_size first.0) (x ∷ b)) more.0 more.1)

pub entries_named : (b : List ℕ) (es : List Entry) → entries_in b ≡ Some es → AreNamed es
entries_named b es is = from_named (length b) b es is
