-- The numbers of branches by name, while a dataset grows.
use Rattle.std.proofs.Common.{◌≡◌, ℕ, ◌+◌, Bool, true, false, cond, List, [], ◌∷◌, ◌++◌, length, Option, Some, None, Ordering, Less, Equal, Greater, ap, sym, subst, ◌∙◌, refl, arith}
use Rattle.std.specs.Prelude.{position, is_some}
use Rattle.std.specs.List.{position_from}
use Rattle.std.specs.Ordering.{is_eq, eq_by_cmp}
use Rattle.std.specs.FinMap.{insert, get, len, len-insert, empty, get-empty, get-insert, nat_cmp-IsAntisymmetric, slice_cmp-IsAntisymmetric}
use Rattle.std.specs.Cmp.Lexicographic.{texts_ties}
use Rattle.std.proofs.lemmas.Cmp.{nat_list_cmp_total, eq_by_cmp_equiv}
use Rattle.std.proofs.lemmas.Iterator.Adapters.{position_from-zero}
use Rattle.db_value.specs.Text.{same}
use Rattle.db_value.specs.declared.schema.Relation.{Relation}
use Rattle.db_value.specs.declared.version.VersionPlace.{VersionPlace}
use Rattle.db_value.specs.declared.entry.Change.{Change}
use Rattle.db_value.specs.declared.entry.Entry.TheVariants.{Commit}
use Rattle.db_store.specs.Table.{with_changes}
use Rattle.db_store.specs.Dataset.{Branch, Dataset, branch_at, branch_named, no_branch, head_of, grown, apply, new_dataset, master_of}
use Rattle.db_store.proofs.SoundLemmas.{position_same}
use Rattle.store_catalogue.specs.ByName.{Numbers, AreNumbers, name_cmp}

-- the first place, or else another
abbrev or_else : Option ℕ → Option ℕ → Option ℕ
or_else None p = p
or_else (Some i) p = Some i

or_none : (o : Option ℕ) → or_else o None ≡ o
or_none None = refl
or_none (Some i) = refl

-- where the first stands that passes, with one more behind
position_from_more : {X : Type 0} (t : X → Bool) (i : ℕ) (xs : List X) (y : X) → position_from t i (xs ++ y ∷ []) ≡ or_else (position_from t i xs) (cond (t y) (Some (i + length xs)) None)
position_from_more t i [] y = ap (λ n. cond (t y) (Some n) None) (omega arith)
position_from_more t i (x ∷ xs) y =
    elim (t x) as (λ q. cond q (Some i) (position_from t (i + 1) (xs ++ y ∷ [])) ≡ or_else (cond q (Some i) (position_from t (i + 1) xs)) (cond (t y) (Some (i + length (x ∷ xs))) None)) [
      | true ↦ refl
      | false ↦ position_from_more t (i + 1) xs y ∙ ap (λ n. or_else (position_from t (i + 1) xs) (cond (t y) (Some n) None)) (omega arith)
    ]

position_more : {X : Type 0} (t : X → Bool) (xs : List X) (y : X) → position t (xs ++ y ∷ []) ≡ or_else (position t xs) (cond (t y) (Some (length xs)) None)
position_more t xs y =
    position_from-zero t (xs ++ y ∷ [])
    ∙ position_from_more t 0 xs y
    ∙ ap (λ n. or_else (position_from t 0 xs) (cond (t y) (Some n) None)) (omega arith)
    ∙ ap (λ o. or_else o (cond (t y) (Some (length xs)) None)) (sym (position_from-zero t xs))

equal_is : (r : Ordering) → is_eq r ≡ true → r ≡ Equal
equal_is Less e = absurd cc
equal_is Equal e = refl
equal_is Greater e = absurd cc

-- names that are spelled alike are one
name_is : (a b : List ℕ) → same a b ≡ true → a ≡ b
name_is a b e = slice_cmp-IsAntisymmetric nat_cmp-IsAntisymmetric a b (equal_is (name_cmp a b) (sym (texts_ties a b) ∙ e))

by_name : (q : Bool) (o : Option ℕ) (n : ℕ) → (q ≡ true → o ≡ None) → cond q (Some n) o ≡ or_else o (cond q (Some n) None)
by_name true o n none = rw (none refl) refl
by_name false o n none = sym (or_none o)

-- the numbers with the number of one branch more
pub numbers_more : (d : Dataset) (b : Branch) (numbers : Numbers) → branch_named d b.name ≡ None → AreNumbers numbers d → AreNumbers (insert numbers b.name (length d.branches)) (record d { branches = d.branches ++ b ∷ [] })
numbers_more d b numbers new are name =
    let same_name : eq_by_cmp name_cmp name b.name ≡ same b.name name = (eq_by_cmp_equiv nat_list_cmp_total).symm name b.name ∙ sym (texts_ties b.name name) in
    get-insert nat_list_cmp_total numbers b.name (length d.branches) name
    ∙ (λ i. cond (same_name i) (Some (length d.branches)) (are name i))
    ∙ by_name (same b.name name) (branch_named d name) (length d.branches) (λ e. ap (branch_named d) (sym (name_is b.name name e)) ∙ new)
    ∙ sym (position_more (λ (x : Branch). same x.name name) d.branches b)

-- and one number more
pub count_more : (numbers : Numbers) (name : List ℕ) (n : ℕ) → get numbers name ≡ None → len (insert numbers name n) ≡ len numbers + 1
count_more numbers name n new = len-insert nat_list_cmp_total numbers name n ∙ ap (λ (o : Option ℕ). cond (is_some o) (len numbers) (len numbers + 1)) new

-- a new dataset has one name
pub new_numbers : (schema : List Relation) (numbers : Numbers) (name : List ℕ) (n : ℕ) → numbers ≡ insert empty name n → name ≡ (master_of schema).name → n ≡ 0 → AreNumbers numbers (new_dataset schema)
new_numbers schema numbers name n is master first =
    let none : Dataset = record { schema = schema; branches = []; order = (new_dataset schema).order } in
    let one : AreNumbers (insert empty (master_of schema).name 0) (new_dataset schema) = numbers_more none (master_of schema) empty refl (get-empty name_cmp) in
    subst (λ (m : Numbers). AreNumbers m (new_dataset schema)) (sym (is ∙ (λ i. insert empty (master i) (first i)))) one

-- a commit leaves the numbers
pub numbers_commit : (d : Dataset) (c : ℕ) (second : Option VersionPlace) (changes : List Change) (numbers : Numbers) → AreNumbers numbers d → AreNumbers numbers (apply d (Commit c second changes))
numbers_commit d c second changes numbers are name =
    are name ∙ sym (position_same (λ (x : Branch). same x.name name) d.branches c (grown (branch_at d c) (with_changes (head_of d c) changes) second) no_branch refl)
