-- What is kept of the branches that are read.
use Rattle.std.proofs.Common.{◌≡◌, ◌≢◌, ◌⊎◌, inl, inr, ℕ, zero, suc, ◌+◌, ◌<◌, ◌≤◌, Bool, true, false, not, ◌&&◌, ◌||◌, List, [], ◌∷◌, ◌++◌, map, length, get_or, Ok, refl, sym, ap, subst, ◌∙◌, arith}
use Rattle.std.specs.Prelude.{codes, nat_eq, nat_lt, nat_le}
use Rattle.std.specs.List.{list_any, list_all}
use Rattle.std.specs.Int.{w32}
use Rattle.std.proofs.lemmas.Bool.{eqb-true, eq-eqb, cases_eq, ltb-true, leb-true}
use Rattle.std.proofs.lemmas.List.{length_push, get_or_push, get_or_append_left, map_push}
use Rattle.std.proofs.lemmas.List.Folds.{list_all-append}
use Rattle.std.proofs.lemmas.Slice.Eq.{slice_eq-Decides}
use Rattle.db_value.specs.Text.{same}
use Rattle.db_value.specs.declared.version.VersionPlace.{VersionPlace}
use Rattle.db_store.specs.Dataset.{root}
use Rattle.hybrid_store.specs.declared.parts.BranchPart.{BranchPart as BranchLaid}
use Rattle.hybrid_store.specs.Parts.{base_in, bases_from}
use Rattle.image_text.specs.declared.image.BranchPart.{BranchPart}
use Rattle.image_text.specs.Reading.{◌>>=◌, test, repeat, number_at, has_turn, is_named, is_earlier, is_position, next_branch, branches_at}
use Rattle.image_text.proofs.Loop.{bind_ok, ok_is}
use Rattle.image_text.proofs.Counted.{tested, both_true}
use Rattle.db_image.specs.Parts.{branch_part}
use Rattle.db_image.proofs.Steps.{repeat_keeps, AddsBranch, branch_adds}
use Rattle.db_image.proofs.Grown.{base_cases, IsProper}

-- what stands past the last branch
abbrev pub no_branch : BranchPart
no_branch = record { name = []; origin = root }

-- the name of a branch by its number
abbrev pub name_at : List BranchPart → ℕ → List ℕ
name_at s b = (get_or s b no_branch).name

-- what branches that are read keep, with the versions at their positions 0
pub record AreBranches (s : List BranchPart × List VersionPlace) : Type 0 where
  pub count : length s.1 ≡ length s.0
  pub bases : s.1 ≡ bases_from [] (map branch_part s.0)
  pub first : get_or s.1 0 root ≡ root
  pub proper : (b : ℕ) → IsProper (get_or s.1 b root)
  pub within : (b : ℕ) → 0 < length s.0 → (get_or s.1 b root).branch < length s.0
  pub from_origins : (q : VersionPlace → Bool) → q root ≡ true → list_all (λ (x : BranchPart). q x.origin) s.0 ≡ true → (b : ℕ) → q (get_or s.1 b root) ≡ true
  pub master : 0 < length s.0 → name_at s.0 0 ≡ codes "master"
  pub apart : (c b : ℕ) → c < b → b < length s.0 → same (name_at s.0 c) (name_at s.0 b) ≡ false

pub bases_push : (bases : List VersionPlace) (xs : List BranchLaid) (y : BranchLaid) → bases_from bases (xs ++ y ∷ []) ≡ bases_from bases xs ++ base_in (bases_from bases xs) y.origin ∷ []
bases_push bases [] y = refl
bases_push bases (x ∷ xs) y = bases_push (bases ++ base_in bases x.origin ∷ []) xs y

-- an element of a list with one more
push_cases : {X : Type 0} (P : X → Type 0) (s : List X) (y d : X) (b : ℕ) → (b < length s → P (get_or s b d)) → (b ≡ length s → P y) → (length s < b → P d) → P (get_or (s ++ y ∷ []) b d)
push_cases P [] y d zero old new past = new refl
push_cases P [] y d (suc b) old new past = past (omega arith)
push_cases P (x ∷ s) y d zero old new past = old (omega arith)
push_cases P (x ∷ s) y d (suc b) old new past = push_cases P s y d b (λ l. old (omega (arith, l))) (λ e. new (ap suc e)) (λ l. past (omega (arith, l)))

past_end : {X : Type 0} (s : List X) (d : X) (b : ℕ) → length s ≤ b → get_or s b d ≡ d
past_end [] d b le = refl
past_end (x ∷ s) d zero le = absurd (omega (arith, le))
past_end (x ∷ s) d (suc b) le = past_end s d b (omega (arith, le))

none_at : {X : Type 0} (p : X → Bool) (xs : List X) (c : ℕ) (d : X) → list_any p xs ≡ false → c < length xs → p (get_or xs c d) ≡ false
none_at p [] c d e l = absurd (omega (arith, l))
none_at p (x ∷ xs) zero d e l = front (p x) refl e
  where
    front : (q : Bool) → p x ≡ q → list_any p (x ∷ xs) ≡ false → p x ≡ false
    front true h f = absurd (let z : true ≡ false = sym (ap (λ r. r || list_any p xs) h) ∙ f in cc)
    front false h f = h
none_at p (x ∷ xs) (suc c) d e l = none_at p xs c d (back (p x) refl e) (omega (arith, l))
  where
    back : (q : Bool) → p x ≡ q → list_any p (x ∷ xs) ≡ false → list_any p xs ≡ false
    back true h f = absurd (let z : true ≡ false = sym (ap (λ r. r || list_any p xs) h) ∙ f in cc)
    back false h f = sym (ap (λ r. r || list_any p xs) h) ∙ f

not_true : (q : Bool) → not q ≡ true → q ≡ false
not_true true e = absurd cc
not_true false e = refl

-- a name that may come next differs from those before
turn_apart : (s : List BranchPart) (name : List ℕ) → has_turn s name ≡ true → (c : ℕ) → c < length s → same (name_at s c) name ≡ false
turn_apart [] name t c l = absurd (omega (arith, l))
turn_apart (x ∷ xs) name t c l = none_at (λ (b : BranchPart). same b.name name) (x ∷ xs) c no_branch (not_true (is_named (x ∷ xs) name) t) l

same_is : (x y : List ℕ) → same x y ≡ true → x ≡ y
same_is x y e = (slice_eq-Decides {E = nat_eq} (λ a b. (eqb-true a b, eq-eqb a b)) x y (same x y) refl).0 e

turn_master : (s : List BranchPart) (name : List ℕ) → has_turn s name ≡ true → length s ≡ 0 → name ≡ codes "master"
turn_master [] name t e = same_is name (codes "master") t
turn_master (x ∷ xs) name t e = absurd (omega (arith, e))

-- the origin is on an earlier branch, or is the root
earlier_is : (s : List BranchPart) (o p : ℕ) → is_earlier s o ≡ true → is_position s p ≡ true → (o < length s) ⊎ ((o ≡ 0) × (p ≡ 0) × (length s ≡ 0))
earlier_is [] o p e f = inr (eqb-true o 0 e, eqb-true p 0 f, refl)
earlier_is (x ∷ xs) o p e f = inl (ltb-true o (length (x ∷ xs)) e)

module _ (s t : List BranchPart × List VersionPlace) (are : AreBranches s) (a : AddsBranch s t) where
  abbrev x : BranchPart
  x = a.added

  abbrev base : VersionPlace
  base = base_in s.1 x.origin

  longer : length (s.0 ++ x ∷ []) ≡ length s.0 + 1
  longer = length_push s.0 x

  root_proper : IsProper root
  root_proper = inl refl

  base_proper : IsProper base
  base_proper = base_cases IsProper s.1 x.origin (λ z. are.proper x.origin.branch) (λ l. inr l)

  at_root : length s.0 ≡ 0 → base ≡ root
  at_root none = by (earlier_is s.0 x.origin.branch x.origin.position a.earlier a.position)
    where
      by : (x.origin.branch < length s.0) ⊎ ((x.origin.branch ≡ 0) × (x.origin.position ≡ 0) × (length s.0 ≡ 0)) → base ≡ root
      by (inl l) = absurd (omega (arith, l, none))
      by (inr e) = base_cases (λ v. v ≡ root) s.1 x.origin (λ z. ap (λ k. get_or s.1 k root) e.0 ∙ are.first) (λ l. absurd (let q = e.1 in omega (arith, l, q)))

  base_within : base.branch < length s.0 + 1
  base_within = by (earlier_is s.0 x.origin.branch x.origin.position a.earlier a.position)
    where
      by : (x.origin.branch < length s.0) ⊎ ((x.origin.branch ≡ 0) × (x.origin.position ≡ 0) × (length s.0 ≡ 0)) → base.branch < length s.0 + 1
      by (inl l) = base_cases (λ (v : VersionPlace). v.branch < length s.0 + 1) s.1 x.origin (λ z. let w = are.within x.origin.branch (omega (arith, l)) in omega (arith, w)) (λ k. omega (arith, l))
      by (inr e) = subst (λ (v : VersionPlace). v.branch < length s.0 + 1) (sym (at_root e.2)) (omega arith)

  first_stays : get_or (s.1 ++ base ∷ []) 0 root ≡ root
  first_stays = push_cases (λ v. v ≡ root) s.1 base root 0 (λ l. are.first) (λ e. at_root (let c = are.count in omega (arith, c, e))) (λ l. refl)

  base_from : (q : VersionPlace → Bool) → q root ≡ true → list_all (λ (y : BranchPart). q y.origin) (s.0 ++ x ∷ []) ≡ true → (b : ℕ) → q (get_or (s.1 ++ base ∷ []) b root) ≡ true
  base_from q r all b =
      let split = both_true (list_all (λ (y : BranchPart). q y.origin) s.0) (q x.origin && true) (sym (list_all-append (λ (y : BranchPart). q y.origin) s.0 (x ∷ [])) ∙ all) in
      let old = are.from_origins q r split.0 in
      push_cases (λ v. q v ≡ true) s.1 base root b (λ l. old b)
      (λ e. base_cases (λ v. q v ≡ true) s.1 x.origin (λ z. old x.origin.branch) (λ l. (both_true (q x.origin) true split.1).0))
      (λ l. r)

  names_apart : (c b : ℕ) → c < b → b < length (s.0 ++ x ∷ []) → (b ≡ length s.0) ⊎ (b ≢ length s.0) → same (name_at (s.0 ++ x ∷ []) c) (name_at (s.0 ++ x ∷ []) b) ≡ false
  names_apart c b l m (inl e) =
      let lc : c < length s.0 = omega (arith, l, e) in
      ap (λ (y : BranchPart). same y.name (name_at (s.0 ++ x ∷ []) b)) (get_or_append_left s.0 (x ∷ []) no_branch c lc)
      ∙ ap (λ (y : BranchPart). same (name_at s.0 c) y.name) (get_or_push s.0 x no_branch b (sym e))
      ∙ turn_apart s.0 x.name a.turn c lc
  names_apart c b l m (inr n) =
      let lb : b < length s.0 = let k = longer in omega (arith, k, m, n) in
      ap (λ (y : BranchPart). same y.name (name_at (s.0 ++ x ∷ []) b)) (get_or_append_left s.0 (x ∷ []) no_branch c (omega (arith, l, lb)))
      ∙ ap (λ (y : BranchPart). same (name_at s.0 c) y.name) (get_or_append_left s.0 (x ∷ []) no_branch b lb)
      ∙ are.apart c b l lb

  named_master : name_at (s.0 ++ x ∷ []) 0 ≡ codes "master"
  named_master = push_cases (λ (y : BranchPart). y.name ≡ codes "master") s.0 x no_branch 0 (λ l. are.master l) (λ e. turn_master s.0 x.name a.turn (sym e)) (λ l. absurd (omega (arith, l)))

  both : AreBranches (s.0 ++ x ∷ [], s.1 ++ base ∷ [])
  both = record {
    count = let k = longer in let m = length_push s.1 base in let c = are.count in omega (arith, k, m, c);
    bases =
        ap (λ l. l ++ base_in l x.origin ∷ []) are.bases
        ∙ sym (bases_push [] (map branch_part s.0) (branch_part x))
        ∙ ap (bases_from []) (sym (map_push branch_part s.0 x));
    first = first_stays;
    proper = λ b. push_cases IsProper s.1 base root b (λ l. are.proper b) (λ e. base_proper) (λ l. root_proper);
    within = λ b l. push_cases (λ (v : VersionPlace). v.branch < length (s.0 ++ x ∷ [])) s.1 base root b
        (λ m. let c = are.count in let w = are.within b (omega (arith, m, c)) in let k = longer in omega (arith, w, k))
        (λ e. let w = base_within in let k = longer in omega (arith, w, k))
        (λ m. l);
    from_origins = base_from;
    master = λ l. named_master;
    apart = λ c b l m. names_apart c b l m (cases_eq b (length s.0));
  }

  pub branch_kept : AreBranches t
  branch_kept = subst AreBranches (λ i. (sym a.branches i, sym a.bases i)) both

abbrev no_branches : List BranchPart × List VersionPlace
no_branches = ([], [])

none_yet : AreBranches no_branches
none_yet = record {
  count = refl;
  bases = refl;
  first = refl;
  proper = λ b. inl refl;
  within = λ b l. absurd (omega (arith, l));
  from_origins = λ q r all b. r;
  master = λ l. absurd (omega (arith, l));
  apart = λ c b l m. absurd (omega (arith, m));
}

adds_one : (s : List BranchPart × List VersionPlace) (b : List ℕ) (x : (List BranchPart × List VersionPlace) × List ℕ) → next_branch s b ≡ Ok x → length x.0.0 ≡ length s.0 + 1
adds_one s b x e = let a = branch_adds s b x e in ap length a.branches ∙ length_push s.0 a.added

adds_all : (k : ℕ) (s : List BranchPart × List VersionPlace) (b : List ℕ) (x : (List BranchPart × List VersionPlace) × List ℕ) → repeat next_branch k s b ≡ Ok x → length x.0.0 ≡ length s.0 + k
unfolding repeat
adds_all zero s b x e = subst (λ (y : (List BranchPart × List VersionPlace) × List ℕ). length y.0.0 ≡ length s.0 + 0) (ok_is (s, b) x e) (omega arith)
adds_all (suc k) s b x e =
    let a = bind_ok (next_branch s b) (λ y. repeat next_branch k y.0 y.1) x e in
    omega (arith, adds_one s b a.0 a.1, adds_all k a.0.0 a.0.1 x a.2)

-- one to 1,024 branches
pub branches_are : (b : List ℕ) (x : (List BranchPart × List VersionPlace) × List ℕ) → branches_at b ≡ Ok x → AreBranches x.0 × (0 < length x.0.0) × (length x.0.0 ≤ 1024)
unfolding branches_at
branches_are b x e =
    let n = bind_ok (number_at w32 b) (λ n. test (nat_lt 0 n.0 && nat_le n.0 1024) b >>= λ u. repeat next_branch n.0 no_branches n.1) x e in
    let u = bind_ok (test (nat_lt 0 n.0.0 && nat_le n.0.0 1024) b) (λ u. repeat next_branch n.0.0 no_branches n.0.1) x n.2 in
    let range = both_true (nat_lt 0 n.0.0) (nat_le n.0.0 1024) (tested _ b u.0 u.1) in
    let count : length x.0.0 ≡ n.0.0 = omega (arith, adds_all n.0.0 no_branches n.0.1 x u.2) in
    (repeat_keeps AreBranches next_branch (λ s c y are f. branch_kept s y.0 are (branch_adds s c y f)) n.0.0 no_branches n.0.1 x none_yet u.2, subst (λ k. 0 < k) (sym count) (ltb-true 0 n.0.0 range.0), subst (λ k. k ≤ 1024) (sym count) (leb-true n.0.0 1024 range.1))
