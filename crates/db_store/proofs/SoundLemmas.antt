-- What every dataset has that entries make of a new one.
use Rattle.std.proofs.Common.{◌≡◌, ◌≢◌, ℕ, zero, suc, ◌/◌, ◌%◌, ◌^◌, ◌<◌, ◌≤◌, ◌==◌, Bool, true, false, cond, List, [], ◌∷◌, ◌++◌, length, get_or, set, refl, arith, ap, sym, ◌∙◌, subst, Option, Some, None, inl, inr, ◌⊎◌}
use Rattle.std.specs.Prelude.{position, nat_lt, is_some}
use Rattle.std.specs.List.{position_or_len}
use Rattle.std.proofs.lemmas.Bool.{and_parts, ltb-true, lt-ltb, cases_eq, not-true}
use Rattle.std.proofs.lemmas.Option.{none-some}
use Rattle.std.proofs.lemmas.List.{length-append, length-set, length_push, get_or-set_same, get_or-set_other, get_or_append_left, get_or_push}
use Rattle.std.proofs.lemmas.List.Folds.{position_or_len-set}
use Rattle.std.proofs.lemmas.List.Sums.{position_or_len_is}
use Rattle.std.proofs.lemmas.List.Quantifiers.{position-Some}
use Rattle.std.proofs.lemmas.Cmp.{nat_list_eq_equiv}
use Rattle.db_value.proofs.LineLemmas.{position_none}
use Rattle.db_value.specs.Text.{same}
use Rattle.db_value.specs.declared.schema.Relation.{Relation}
use Rattle.db_value.specs.declared.record.Record.{Record}
use Rattle.db_value.specs.declared.version.VersionPlace.{VersionPlace}
use Rattle.db_value.specs.declared.entry.Change.{Change}
use Rattle.db_value.specs.declared.entry.Entry.{Entry}
use Rattle.db_value.specs.declared.entry.Entry.TheVariants.{Commit, Branch as NewBranch}
use Rattle.db_store.specs.Table.{with_changes, rows_of, relation_at}
use Rattle.db_store.specs.Dataset.{Version, Branch, Dataset, root, branch_at, branch_named, no_branch, head_of, no_version, version_at, table_at, is_made, IsMade, proper, next_place, grown, begun, apply, new_dataset}
use Rattle.db_store.specs.Fits.{fits, second_fits, most_branches, most_versions}
use Rattle.db_store.specs.Sound.{IsSound}
use Rattle.db_store.specs.Layout.{Layout}
use Rattle.db_store.specs.State.{State, dataset_of, grow, place_of_id, whole_records, records_by, layout_after}
use Rattle.db_store.proofs.SegmentLemmas.{records_stay}
use Rattle.db_store.specs.Parts.{Part, part_at, AreOf}
use Rattle.db_store.specs.Growth.{CommitFits, commit_parts, made_from, made_test, branch_extends, branches_stay, made_stays}

-- what holds of a new branch that fits
pub record BranchFits (d : Dataset) (name : List ℕ) (origin : VersionPlace) : Type 0 where
  pub new : branch_named d name ≡ None
  pub room : length d.branches < most_branches
  pub made : IsMade d origin

none_from : (o : Option ℕ) → is_some o ≡ false → o ≡ None
none_from None e = refl
none_from (Some n) e = absurd cc

pub branch_parts : (d : Dataset) (name : List ℕ) (origin : VersionPlace) → fits d (NewBranch name origin) ≡ true → BranchFits d name origin
branch_parts d name origin f =
    let m = and_parts _ _ f in let r = and_parts _ _ m.0 in
    record { new = none_from (branch_named d name) (not-true _ r.0); room = ltb-true _ _ r.1; made = made_from d origin m.1 }

-- a made version stays what it is
pub version_stays : (d : Dataset) (e : Entry) (at : VersionPlace) → IsMade d at → version_at (apply d e) at ≡ version_at d at
version_stays d e at m =
    let k = (branch_extends d e at.branch m.0).versions in
    ap (λ vs. get_or vs at.position no_version) k.1 ∙ get_or_append_left (branch_at d at.branch).versions k.0 no_version at.position m.1

pub proper_stays : (d : Dataset) (e : Entry) (at : VersionPlace) → at.branch < length d.branches → proper (apply d e) at ≡ proper d at
proper_stays d e at h = ap (λ p. cond (at.position == 0) p at) (branch_extends d e at.branch h).base

-- a made place stands for one
pub proper_made : (d : Dataset) (at : VersionPlace) → IsSound d → IsMade d at → IsMade d (proper d at)
proper_made d at s m = by (at.position == 0)
  where
    by : (b : Bool) → IsMade d (cond b (branch_at d at.branch).base at)
    by true = s.bases at.branch m.0
    by false = m

-- and that one is where it was made
pub proper_twice : (d : Dataset) (at : VersionPlace) → IsSound d → IsMade d at → proper d (proper d at) ≡ proper d at
proper_twice d at s m = by (at.position == 0) refl
  where
    by : (b : Bool) → (at.position == 0) ≡ b → proper d (cond b (branch_at d at.branch).base at) ≡ cond b (branch_at d at.branch).base at
    by true e = s.proper_bases at.branch m.0
    by false e = ap (λ b. cond b (branch_at d at.branch).base at) e

-- positions
pub position_same : {X : Type 0} (p : X → Bool) (xs : List X) (i : ℕ) (y d : X) → p y ≡ p (get_or xs i d) → position p (set xs i y) ≡ position p xs
position_same p xs i y d e = ap (λ n. cond (nat_lt n (length (set xs i y))) (Some n) None) (position_or_len-set p xs i y d e) ∙ ap (λ n. cond (nat_lt (position_or_len p xs) n) (Some (position_or_len p xs)) None) (length-set xs i y)

position_is : {X : Type 0} (p : X → Bool) (xs : List X) (i : ℕ) (d : X) → i < length xs → p (get_or xs i d) ≡ true → ((k : ℕ) → k < i → p (get_or xs k d) ≡ false) → position p xs ≡ Some i
position_is p xs i d h t f =
    ap (λ m. cond (nat_lt m (length xs)) (Some m) None) (position_or_len_is p xs i d (omega arith) f (λ _. t))
    ∙ ap (λ b. cond b (Some i) None) (lt-ltb i (length xs) h)

-- the first of a list is the first of a longer one
pub position_kept : {X : Type 0} (p : X → Bool) (xs : List X) (y d : X) (i : ℕ) → position p xs ≡ Some i → position p (xs ++ y ∷ []) ≡ Some i
position_kept p xs y d i e =
    let h = position-Some p xs i d e in
    position_is p (xs ++ y ∷ []) i d (let n = length_push xs y in omega (arith, n, h.0)) (ap p (get_or_append_left xs (y ∷ []) d i h.0) ∙ h.1)
    (λ k l. ap p (get_or_append_left xs (y ∷ []) d k (omega (arith, l, h.0))) ∙ h.2 k l)

-- behind a list without one it is the next
position_new : {X : Type 0} (p : X → Bool) (xs : List X) (y d : X) → position p xs ≡ None → p y ≡ true → position p (xs ++ y ∷ []) ≡ Some (length xs)
position_new p xs y d e t =
    position_is p (xs ++ y ∷ []) (length xs) d (let n = length_push xs y in omega (arith, n)) (ap p (get_or_push xs y d (length xs) refl) ∙ t)
    (λ k l. ap p (get_or_append_left xs (y ∷ []) d k l) ∙ position_none p xs d e k l)

-- the branches after a commit
pub commit_here : (d : Dataset) (b : ℕ) (second : Option VersionPlace) (changes : List Change) → b < length d.branches
    → branch_at (apply d (Commit b second changes)) b ≡ grown (branch_at d b) (with_changes (head_of d b) changes) second
commit_here d b second changes h = get_or-set_same d.branches b (grown (branch_at d b) (with_changes (head_of d b) changes) second) no_branch h

pub commit_other : (d : Dataset) (b : ℕ) (second : Option VersionPlace) (changes : List Change) (x : ℕ) → x ≢ b → branch_at (apply d (Commit b second changes)) x ≡ branch_at d x
commit_other d b second changes x n = get_or-set_other d.branches b x (grown (branch_at d b) (with_changes (head_of d b) changes) second) no_branch n

pub commit_count : (d : Dataset) (b : ℕ) (second : Option VersionPlace) (changes : List Change) → length (apply d (Commit b second changes)).branches ≡ length d.branches
commit_count d b second changes = length-set d.branches b (grown (branch_at d b) (with_changes (head_of d b) changes) second)

-- the version that a commit makes
pub commit_new : (d : Dataset) (b : ℕ) (second : Option VersionPlace) (changes : List Change) → b < length d.branches
    → version_at (apply d (Commit b second changes)) (next_place d b) ≡ record { table = with_changes (head_of d b) changes; second = second }
commit_new d b second changes h =
    ap (λ (x : Branch). get_or x.versions (length (branch_at d b).versions) no_version) (commit_here d b second changes h)
    ∙ get_or_push (branch_at d b).versions (record { table = with_changes (head_of d b) changes; second = second }) no_version (length (branch_at d b).versions) refl

-- after a commit a made place is one of before or the next one
pub commit_made : (d : Dataset) (b : ℕ) (second : Option VersionPlace) (changes : List Change) (at : VersionPlace) → b < length d.branches → IsMade (apply d (Commit b second changes)) at
    → IsMade d at ⊎ (at ≡ next_place d b)
commit_made d b second changes at h m = here (cases_eq at.branch b)
  where
    count : length (apply d (Commit b second changes)).branches ≡ length d.branches
    count = commit_count d b second changes

    last : at.branch ≡ b → (at.position ≡ length (branch_at d b).versions) ⊎ (at.position ≢ length (branch_at d b).versions) → IsMade d at ⊎ (at ≡ next_place d b)
    last e (inl q) = inr (λ i. record { branch = e i; position = q i })
    last e (inr q) =
        let n = ap (λ (x : Branch). length x.versions) (ap (branch_at (apply d (Commit b second changes))) e ∙ commit_here d b second changes h) in
        let l = length_push (branch_at d b).versions (record { table = with_changes (head_of d b) changes; second = second }) in
        let k : length (branch_at d at.branch).versions ≡ length (branch_at d b).versions = ap (λ x. length (branch_at d x).versions) e in
        inl (omega (arith, count, m.0), omega (arith, n, l, k, q, m.1))

    here : (at.branch ≡ b) ⊎ (at.branch ≢ b) → IsMade d at ⊎ (at ≡ next_place d b)
    here (inl e) = last e (cases_eq at.position (length (branch_at d b).versions))
    here (inr n) = inl (omega (arith, count, m.0), subst (λ (x : Branch). at.position < length x.versions) (commit_other d b second changes at.branch n) m.1)

-- the new branch
pub begun_here : (d : Dataset) (name : List ℕ) (origin : VersionPlace) → branch_at (apply d (NewBranch name origin)) (length d.branches) ≡ begun d name origin
begun_here d name origin = get_or_push d.branches (begun d name origin) no_branch (length d.branches) refl

pub begun_other : (d : Dataset) (name : List ℕ) (origin : VersionPlace) (x : ℕ) → x < length d.branches → branch_at (apply d (NewBranch name origin)) x ≡ branch_at d x
begun_other d name origin x h = get_or_append_left d.branches (begun d name origin ∷ []) no_branch x h

-- after a new branch a branch is one of before or the new one
pub begun_or : (d : Dataset) (name : List ℕ) (origin : VersionPlace) (x : ℕ) → x < length (apply d (NewBranch name origin)).branches → (x < length d.branches) ⊎ (x ≡ length d.branches)
begun_or d name origin x h = by (cases_eq x (length d.branches))
  where
    by : (x ≡ length d.branches) ⊎ (x ≢ length d.branches) → (x < length d.branches) ⊎ (x ≡ length d.branches)
    by (inl e) = inr e
    by (inr n) = let l = length_push d.branches (begun d name origin) in inl (omega (arith, l, h, n))

-- and a made place is one of before or the first of the new one
pub begun_made : (d : Dataset) (name : List ℕ) (origin : VersionPlace) (at : VersionPlace) → IsMade (apply d (NewBranch name origin)) at
    → IsMade d at ⊎ (at ≡ record { branch = length d.branches; position = 0 })
begun_made d name origin at m = by (begun_or d name origin at.branch m.0)
  where
    by : (at.branch < length d.branches) ⊎ (at.branch ≡ length d.branches) → IsMade d at ⊎ (at ≡ record { branch = length d.branches; position = 0 })
    by (inl h) = inl (h, subst (λ (x : Branch). at.position < length x.versions) (begun_other d name origin at.branch h) m.1)
    by (inr e) =
        let one : at.position < 1 = subst (λ (x : Branch). at.position < length x.versions) (ap (branch_at (apply d (NewBranch name origin))) e ∙ begun_here d name origin) m.1 in
        let zero : at.position ≡ 0 = omega (arith, one) in
        inr (λ i. record { branch = e i; position = zero i })

second_made : (d : Dataset) (o : Option VersionPlace) (p : VersionPlace) → second_fits d o ≡ true → o ≡ Some p → IsMade d p
second_made d o p f e = made_from d p (sym (ap (second_fits d) e) ∙ f)

same_self : (name : List ℕ) → same name name ≡ true
same_self name = nat_list_eq_equiv.refl name

name_stays : (d : Dataset) (e : Entry) (x : ℕ) (i : Option ℕ) → x < length d.branches → branch_named (apply d e) (branch_at d x).name ≡ i → branch_named (apply d e) (branch_at (apply d e) x).name ≡ i
name_stays d e x i h n = ap (branch_named (apply d e)) (branch_extends d e x h).name ∙ n

base_stays : (d : Dataset) (e : Entry) (x : ℕ) → x < length d.branches → IsMade d (branch_at d x).base → IsMade (apply d e) (branch_at (apply d e) x).base
base_stays d e x h m = subst (IsMade (apply d e)) (sym (branch_extends d e x h).base) (made_stays d e (branch_at d x).base m)

proper_base_stays : (d : Dataset) (e : Entry) (x : ℕ) → x < length d.branches → IsMade d (branch_at d x).base → proper d (branch_at d x).base ≡ (branch_at d x).base
    → proper (apply d e) (branch_at (apply d e) x).base ≡ (branch_at (apply d e) x).base
proper_base_stays d e x h m p =
    let base = (branch_extends d e x h).base in
    ap (proper (apply d e)) base ∙ proper_stays d e (branch_at d x).base m.0 ∙ p ∙ sym base

second_stays : (d : Dataset) (e : Entry) (at p : VersionPlace) → IsSound d → IsMade d at → (version_at (apply d e) at).second ≡ Some p → IsMade (apply d e) p
second_stays d e at p s m q = made_stays d e p (s.seconds at p m (sym (ap (λ (v : Version). v.second) (version_stays d e at m)) ∙ q))

sound_commit : (d : Dataset) (b : ℕ) (second : Option VersionPlace) (changes : List Change) → IsSound d → CommitFits d b second changes → IsSound (apply d (Commit b second changes))
sound_commit d b second changes s f =
    let e : Entry = Commit b second changes in
    let n = commit_count d b second changes in
    let old : (x : ℕ) → x < length (apply d e).branches → x < length d.branches = λ x h. omega (arith, n, h) in
    record {
      some = omega (arith, n, s.some);
      few_branches = omega (arith, n, s.few_branches);
      master = (branch_extends d e 0 s.some).name ∙ s.master;
      rooted = λ x h. let r = s.rooted x (old x h) in let k = (branch_extends d e x (old x h)).versions in let l = ap length k.1 ∙ length-append (branch_at d x).versions k.0 in omega (arith, r, l);
      few_versions = λ x h. few x (old x h) (cases_eq x b);
      named = λ x h. name_stays d e x (Some x) (old x h)
          (position_same (λ (y : Branch). same y.name (branch_at d x).name) d.branches b (grown (branch_at d b) (with_changes (head_of d b) changes) second) no_branch refl ∙ s.named x (old x h));
      bases = λ x h. base_stays d e x (old x h) (s.bases x (old x h));
      proper_bases = λ x h. proper_base_stays d e x (old x h) (s.bases x (old x h)) (s.proper_bases x (old x h));
      seconds = λ at p m q. seconds at p q (commit_made d b second changes at f.there m);
      ordered = λ i h. ordered i h (cases_eq i (length d.order));
    }
  where
    few : (x : ℕ) → x < length d.branches → (x ≡ b) ⊎ (x ≢ b) → length (branch_at (apply d (Commit b second changes)) x).versions ≤ most_versions
    few x h (inl q) =
        let c = ap (λ (y : Branch). length y.versions) (ap (branch_at (apply d (Commit b second changes))) q ∙ commit_here d b second changes f.there) in
        let l = length_push (branch_at d b).versions (record { table = with_changes (head_of d b) changes; second = second }) in
        omega (arith, c, l, f.room)
    few x h (inr q) = subst (λ (y : Branch). length y.versions ≤ most_versions) (sym (commit_other d b second changes x q)) (s.few_versions x h)

    seconds : (at p : VersionPlace) → (version_at (apply d (Commit b second changes)) at).second ≡ Some p → IsMade d at ⊎ (at ≡ next_place d b) → IsMade (apply d (Commit b second changes)) p
    seconds at p q (inl m) = second_stays d (Commit b second changes) at p s m q
    seconds at p q (inr here) =
        let is : (version_at (apply d (Commit b second changes)) at).second ≡ second = ap (λ (v : Version). v.second) (ap (version_at (apply d (Commit b second changes))) here ∙ commit_new d b second changes f.there) in
        made_stays d (Commit b second changes) p (second_made d second p f.second (sym is ∙ q))

    next_made : IsMade (apply d (Commit b second changes)) (next_place d b)
    next_made =
        let c = ap (λ (y : Branch). length y.versions) (commit_here d b second changes f.there) in
        let l = length_push (branch_at d b).versions (record { table = with_changes (head_of d b) changes; second = second }) in
        (branches_stay d (Commit b second changes) b f.there, omega (arith, c, l))

    ordered : (i : ℕ) → i < length (d.order ++ next_place d b ∷ []) → (i ≡ length d.order) ⊎ (i ≢ length d.order) → IsMade (apply d (Commit b second changes)) (get_or (d.order ++ next_place d b ∷ []) i root)
    ordered i h (inl q) = subst (IsMade (apply d (Commit b second changes))) (sym (get_or_push d.order (next_place d b) root i (sym q))) next_made
    ordered i h (inr q) =
        let l : i < length d.order = let n = length_push d.order (next_place d b) in omega (arith, n, h, q) in
        subst (IsMade (apply d (Commit b second changes))) (sym (get_or_append_left d.order (next_place d b ∷ []) root i l)) (made_stays d (Commit b second changes) _ (s.ordered i l))

sound_branch : (d : Dataset) (name : List ℕ) (origin : VersionPlace) → IsSound d → BranchFits d name origin → IsSound (apply d (NewBranch name origin))
sound_branch d name origin s f =
    let n = length_push d.branches (begun d name origin) in
    record {
      some = omega (arith, n, s.some);
      few_branches = omega (arith, n, f.room);
      master = (branch_extends d (NewBranch name origin) 0 s.some).name ∙ s.master;
      rooted = λ x h. rooted x (begun_or d name origin x h);
      few_versions = λ x h. few x (begun_or d name origin x h);
      named = λ x h. named x (begun_or d name origin x h);
      bases = λ x h. bases x (begun_or d name origin x h);
      proper_bases = λ x h. proper_bases x (begun_or d name origin x h);
      seconds = λ at p m q. seconds at p q (begun_made d name origin at m);
      ordered = λ i h. made_stays d (NewBranch name origin) _ (s.ordered i h);
    }
  where
    new : Dataset
    new = apply d (NewBranch name origin)

    rooted : (x : ℕ) → (x < length d.branches) ⊎ (x ≡ length d.branches) → 0 < length (branch_at new x).versions
    rooted x (inl h) = subst (λ (y : Branch). 0 < length y.versions) (sym (begun_other d name origin x h)) (s.rooted x h)
    rooted x (inr q) = subst (λ (y : Branch). 0 < length y.versions) (sym (ap (branch_at new) q ∙ begun_here d name origin)) (omega arith)

    few : (x : ℕ) → (x < length d.branches) ⊎ (x ≡ length d.branches) → length (branch_at new x).versions ≤ most_versions
    few x (inl h) = subst (λ (y : Branch). length y.versions ≤ most_versions) (sym (begun_other d name origin x h)) (s.few_versions x h)
    few x (inr q) = subst (λ (y : Branch). length y.versions ≤ most_versions) (sym (ap (branch_at new) q ∙ begun_here d name origin)) (omega arith)

    named : (x : ℕ) → (x < length d.branches) ⊎ (x ≡ length d.branches) → branch_named new (branch_at new x).name ≡ Some x
    named x (inl h) = name_stays d (NewBranch name origin) x (Some x) h (position_kept (λ (y : Branch). same y.name (branch_at d x).name) d.branches (begun d name origin) no_branch x (s.named x h))
    named x (inr q) =
        ap (λ (y : Branch). branch_named new y.name) (ap (branch_at new) q ∙ begun_here d name origin)
        ∙ position_new (λ (y : Branch). same y.name name) d.branches (begun d name origin) no_branch f.new (same_self name)
        ∙ ap Some (sym q)

    bases : (x : ℕ) → (x < length d.branches) ⊎ (x ≡ length d.branches) → IsMade new (branch_at new x).base
    bases x (inl h) = base_stays d (NewBranch name origin) x h (s.bases x h)
    bases x (inr q) = subst (λ (y : Branch). IsMade new y.base) (sym (ap (branch_at new) q ∙ begun_here d name origin)) (made_stays d (NewBranch name origin) (proper d origin) (proper_made d origin s f.made))

    proper_bases : (x : ℕ) → (x < length d.branches) ⊎ (x ≡ length d.branches) → proper new (branch_at new x).base ≡ (branch_at new x).base
    proper_bases x (inl h) = proper_base_stays d (NewBranch name origin) x h (s.bases x h) (s.proper_bases x h)
    proper_bases x (inr q) = subst (λ (y : Branch). proper new y.base ≡ y.base) (sym (ap (branch_at new) q ∙ begun_here d name origin))
        (proper_stays d (NewBranch name origin) (proper d origin) (proper_made d origin s f.made).0 ∙ proper_twice d origin s f.made)

    seconds : (at p : VersionPlace) → (version_at new at).second ≡ Some p → IsMade d at ⊎ (at ≡ record { branch = length d.branches; position = 0 }) → IsMade new p
    seconds at p q (inl m) = second_stays d (NewBranch name origin) at p s m q
    seconds at p q (inr here) =
        let is : (version_at new at).second ≡ None = ap (λ (v : Version). v.second) (ap (version_at new) here ∙ ap (λ (y : Branch). get_or y.versions 0 no_version) (begun_here d name origin)) in
        absurd (none-some p (sym is ∙ q))

-- an entry that fits keeps what holds of every dataset
pub sound_stays : (d : Dataset) (e : Entry) → IsSound d → fits d e ≡ true → IsSound (apply d e)
sound_stays d (Commit b second changes) s f = sound_commit d b second changes s (commit_parts d b second changes f)
sound_stays d (NewBranch name origin) s f = sound_branch d name origin s (branch_parts d name origin f)

-- a new dataset has one place
pub only_root : (schema : List Relation) (at : VersionPlace) → IsMade (new_dataset schema) at → at ≡ root
only_root schema at m =
    let b : at.branch ≡ 0 = omega (arith, m.0) in
    let n : at.position < 1 = subst (λ x. at.position < length (branch_at (new_dataset schema) x).versions) b m.1 in
    let p : at.position ≡ 0 = omega (arith, n) in
    λ i. record { branch = b i; position = p i }

-- and it is sound
pub new_sound : (schema : List Relation) → IsSound (new_dataset schema)
new_sound schema = record {
  some = omega arith;
  few_branches = omega arith;
  master = refl;
  rooted = rooted;
  few_versions = few;
  named = named;
  bases = bases;
  proper_bases = proper_bases;
  seconds = seconds;
  ordered = ordered;
}
  where
    rooted : (x : ℕ) → x < 1 → 0 < length (branch_at (new_dataset schema) x).versions
    rooted zero h = omega arith
    rooted (suc x) h = absurd (omega arith)

    few : (x : ℕ) → x < 1 → length (branch_at (new_dataset schema) x).versions ≤ most_versions
    few zero h = omega arith
    few (suc x) h = absurd (omega arith)

    named : (x : ℕ) → x < 1 → branch_named (new_dataset schema) (branch_at (new_dataset schema) x).name ≡ Some x
    named zero h = refl
    named (suc x) h = absurd (omega arith)

    bases : (x : ℕ) → x < 1 → IsMade (new_dataset schema) (branch_at (new_dataset schema) x).base
    bases zero h = (omega arith, omega arith)
    bases (suc x) h = absurd (omega arith)

    proper_bases : (x : ℕ) → x < 1 → proper (new_dataset schema) (branch_at (new_dataset schema) x).base ≡ (branch_at (new_dataset schema) x).base
    proper_bases zero h = refl
    proper_bases (suc x) h = absurd (omega arith)

    seconds : (at p : VersionPlace) → IsMade (new_dataset schema) at → (version_at (new_dataset schema) at).second ≡ Some p → IsMade (new_dataset schema) p
    seconds at p m q = absurd (none-some p (ap (λ a. (version_at (new_dataset schema) a).second) (sym (only_root schema at m)) ∙ q))

    ordered : (i : ℕ) → i < 1 → IsMade (new_dataset schema) (get_or (root ∷ []) i root)
    ordered zero h = (omega arith, omega arith)
    ordered (suc i) h = absurd (omega arith)

some_made : (b : Bool) (xs ys : List Record) → cond b (Some xs) None ≡ Some ys → b ≡ true
some_made true xs ys e = refl
some_made false xs ys e = absurd (none-some ys e)

whole_stays : (d : Dataset) (e : Entry) (r id : ℕ) (xs : List Record) → whole_records d r id ≡ Some xs → whole_records (apply d e) r id ≡ Some xs
whole_stays d e r id xs is =
    let at : VersionPlace = place_of_id id in
    let m : IsMade d at = made_from d at (some_made (is_made d at) _ _ is) in
    ap (λ b. cond b (Some (rows_of (relation_at (table_at (apply d e) at) r))) None) (made_test (apply d e) at (made_stays d e at m) ∙ sym (made_test d at m))
    ∙ ap (λ (v : Version). cond (is_made d at) (Some (rows_of (relation_at v.table r))) None) (version_stays d e at m)
    ∙ is

-- growth keeps the records of every id
id_stays : (d : Dataset) (o : Option Layout) (e : Entry) (r id : ℕ) (xs : List Record) → records_by d o r id ≡ Some xs → records_by (apply d e) (layout_after o e) r id ≡ Some xs
id_stays d None e r id xs is = whole_stays d e r id xs is
id_stays d (Some l) e r id xs is = records_stay l e r (id / 2 ^ 32) (id % 2 ^ 32) xs is

pub parts_stay : (s : State) (e : Entry) (parts : ℕ → List Part) → fits (dataset_of s) e ≡ true → AreOf s parts → AreOf (grow s e) parts
parts_stay s e parts f old r i h = id_stays s.dataset s.layout e r (part_at (parts r) i).id _ (old r i h)
