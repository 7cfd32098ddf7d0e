-- Growth keeps the rules of the branches and the versions of a layout's image.
use Rattle.std.proofs.Common.{◌≡◌, ◌≢◌, ◌⊎◌, inl, inr, ℕ, zero, suc, ◌+◌, ◌-◌, ◌<◌, ◌≤◌, ◌||◌, Bool, true, false, not, cond, List, [], ◌∷◌, ◌++◌, map, length, replicate, get_or, Option, Some, None, refl, sym, ap, subst, ◌∙◌, arith, append_assoc}
use Rattle.std.specs.Prelude.{set, nat_lt, nat_le, position, is_some}
use Rattle.std.specs.List.{range_with_len}
use Rattle.std.proofs.lemmas.Bool.{and_from, and_parts, eq-eqb, ne_eqb, cases_eq, ltb-true, lt-ltb, le-leb}
use Rattle.std.proofs.lemmas.List.{append-nil, length_push, length-set, length-map, length-replicate, get_or_append_left, get_or-set_same, get_or-set_other, map_push, replicate_more}
use Rattle.std.proofs.lemmas.List.FromFn.{get_or-map-range_with_len, length-map-range_with_len}
use Rattle.db_value.proofs.LineLemmas.{position_none}
use Rattle.db_value.specs.Text.{same, is_name}
use Rattle.db_value.specs.declared.version.VersionPlace.{VersionPlace}
use Rattle.db_value.specs.declared.entry.Change.{Change}
use Rattle.db_value.specs.declared.entry.Entry.{Entry}
use Rattle.db_value.specs.declared.entry.Entry.TheVariants.{Commit, Branch as NewBranch}
use Rattle.db_value.specs.declared.schema.Relation.{Relation}
use Rattle.db_store.specs.Dataset.{Branch, root, no_branch, branch_named, IsMade}
use Rattle.db_store.specs.Fits.{fits, second_fits}
use Rattle.db_store.specs.Growth.{commit_parts, made_from}
use Rattle.db_store.specs.Sound.{IsSound}
use Rattle.db_store.specs.Layout.{Layout, lane_at, branch_of, dataset_in, new_layout}
use Rattle.db_store.specs.LayoutGrowth.{after_commit, with_branch, is_last, grow_layout}
use Rattle.db_store.proofs.LayoutLaw.{branch_is, count_is, lanes_there, made_there}
use Rattle.hybrid_store.specs.declared.made.MadeVersion.{MadeVersion as VersionLaid}
use Rattle.hybrid_store.specs.declared.parts.BranchPart.{BranchPart as BranchLaid}
use Rattle.hybrid_store.specs.Readers.{made_version}
use Rattle.hybrid_store.specs.Parts.{bases_from}
use Rattle.hybrid_store.specs.Parts as laid
use Rattle.image_text.specs.declared.image.BranchPart.{BranchPart}
use Rattle.image_text.specs.declared.image.MadeVersion.{MadeVersion}
use Rattle.image_text.specs.Reading.{is_named, has_turn, is_earlier, is_position, last_of, is_there, is_begun}
use Rattle.db_image.specs.Parts.{branch_part, version_part}
use Rattle.db_image.specs.Images.{branch_image, branches_image, version_image, versions_image, image_of}
use Rattle.db_image.specs.Imaged.{made_branches, made_versions, AreInOrder, HasLines, IsNamed}
use Rattle.db_image.specs.Rules.{EachNext, after, IsPlace, branch_next, IsNextBranch, version_next, IsSecond, IsNextVersion, branches_seen, lasts_of}
use Rattle.db_image.proofs.BranchesRead.{bases_push}
use Rattle.db_image.proofs.LayoutBack.{map_twice}
use Rattle.db_image.proofs.OrderKept.{versions_next, same_branches, branches_next, same_versions, length_bases, part_of}

abbrev no_places : List VersionPlace
no_places = []

abbrev no_branches : List BranchPart
no_branches = []

abbrev no_versions : List MadeVersion
no_versions = []

-- ---- items, one after another

each_push : {S A : Type 0} (next : S → A → S) (P : S → A → Type 0) (s : S) (xs : List A) (x : A) → EachNext next P s xs → P (after next s xs) x → EachNext next P s (xs ++ x ∷ [])
each_push next P s [] x each p = (p, tt)
each_push next P s (y ∷ ys) x each p = (each.0, each_push next P (next s y) ys x each.1 p)

-- ---- what the branches and the versions make

branches_make : (parts : List BranchPart) (bases : List VersionPlace) (bs : List BranchPart) → after branch_next (parts, bases) bs ≡ (parts ++ bs, bases_from bases (map branch_part bs))
branches_make parts bases [] = λ i. (sym (append-nil parts) i, bases)
branches_make parts bases (b ∷ bs) =
    branches_make (branch_next (parts, bases) b).0 (branch_next (parts, bases) b).1 bs
    ∙ (λ i. (append_assoc parts (b ∷ []) bs i, bases_from (branch_next (parts, bases) b).1 (map branch_part bs)))

lasts_count : (lasts : List ℕ) (seen vs : List MadeVersion) → length (after version_next (lasts, seen) vs).0 ≡ length lasts
lasts_count lasts seen [] = refl
lasts_count lasts seen (v ∷ vs) = lasts_count (version_next (lasts, seen) v).0 (version_next (lasts, seen) v).1 vs ∙ length-set lasts v.branch (last_of lasts v.branch + 1)

-- how many of the versions are on a branch
abbrev count_on : ℕ → List MadeVersion → ℕ
count_on c vs = length (laid.versions_of c (map version_part vs))

lasts_are : (lasts : List ℕ) (seen vs : List MadeVersion) (c : ℕ) → c < length lasts → last_of (after version_next (lasts, seen) vs).0 c ≡ last_of lasts c + count_on c vs
lasts_are lasts seen [] c l = omega arith
lasts_are lasts seen (v ∷ vs) c l =
    lasts_are (version_next (lasts, seen) v).0 (version_next (lasts, seen) v).1 vs c (let n = length-set lasts v.branch (last_of lasts v.branch + 1) in omega (arith, n, l))
    ∙ at (cases_eq v.branch c)
  where
    at : (v.branch ≡ c) ⊎ (v.branch ≢ c) → last_of (set lasts v.branch (last_of lasts v.branch + 1)) c + count_on c vs ≡ last_of lasts c + count_on c (v ∷ vs)
    at (inl e) =
        let own : last_of (set lasts v.branch (last_of lasts v.branch + 1)) c ≡ last_of lasts c + 1 =
        subst (λ k. last_of (set lasts v.branch (last_of lasts v.branch + 1)) k ≡ last_of lasts k + 1) e (get_or-set_same lasts v.branch (last_of lasts v.branch + 1) 0 (omega (arith, e, l))) in
        let more : count_on c (v ∷ vs) ≡ suc (count_on c vs) = ap (λ q. length (cond q (version_part v ∷ laid.versions_of c (map version_part vs)) (laid.versions_of c (map version_part vs)))) (eq-eqb v.branch c e) in
        omega (arith, own, more)
    at (inr n) =
        let own : last_of (set lasts v.branch (last_of lasts v.branch + 1)) c ≡ last_of lasts c = get_or-set_other lasts v.branch c (last_of lasts v.branch + 1) 0 (λ e. n (sym e)) in
        let more : count_on c (v ∷ vs) ≡ count_on c vs = ap (λ q. length (cond q (version_part v ∷ laid.versions_of c (map version_part vs)) (laid.versions_of c (map version_part vs)))) (ne_eqb v.branch c n) in
        omega (arith, own, more)

zeros_at : (n c : ℕ) → last_of (replicate n 0) c ≡ 0
zeros_at zero c = refl
zeros_at (suc n) zero = refl
zeros_at (suc n) (suc c) = zeros_at n c

-- ---- the lists of a layout's image

branches_laid : (l : Layout) → map branch_part (branches_image l) ≡ made_branches l
branches_laid l = map_twice branch_part (λ b. branch_image (lane_at l b)) (range_with_len 0 (length l.lanes))

versions_laid : (l : Layout) → map version_part (versions_image l) ≡ made_versions l
versions_laid l = map_twice version_part (λ i. version_image (made_version l i)) (range_with_len 0 (length l.order - 1))

versions_read : (l : Layout) → versions_image l ≡ map version_image (made_versions l)
versions_read l = sym (map_twice version_image (made_version l) (range_with_len 0 (length l.order - 1)))

abbrev branch_read : BranchLaid → BranchPart
branch_read x = record { name = x.name; origin = x.origin }

branches_read : (l : Layout) → branches_image l ≡ map branch_read (made_branches l)
branches_read l = sym (map_twice branch_read (λ b. record { name = (lane_at l b).name; origin = (lane_at l b).origin }) (range_with_len 0 (length l.lanes)))

-- the versions at positions 0
abbrev bases_of : Layout → List VersionPlace
bases_of l = bases_from [] (made_branches l)

seen_is : (l : Layout) → branches_seen (image_of l) ≡ (branches_image l, bases_of l)
seen_is l = branches_make [] [] (branches_image l) ∙ (λ i. (branches_image l, bases_from [] (branches_laid l i)))

bases_count : (l : Layout) → length (bases_of l) ≡ length l.lanes
bases_count l = length_bases [] (made_branches l) ∙ (let n = length-map-range_with_len (λ b. part_of (lane_at l b)) 0 (length l.lanes) in omega (arith, n))

-- the last positions
abbrev pub lasts : Layout → List ℕ
lasts l = (after version_next (replicate (length (bases_of l)) 0, no_versions) (versions_image l)).0

pub lasts_same : (l : Layout) → lasts_of (image_of l) ≡ lasts l
lasts_same l = ap (λ (seen : List BranchPart × List VersionPlace). (after version_next (replicate (length seen.1) 0, no_versions) (versions_image l)).0) (seen_is l)

module _ (l : Layout) (are : AreInOrder l) (sound : IsSound (dataset_in l)) where
  pub count : length (lasts l) ≡ length l.lanes
  count = lasts_count (replicate (length (bases_of l)) 0) no_versions (versions_image l) ∙ length-replicate {A = ℕ} (length (bases_of l)) 0 ∙ bases_count l

  pub last_is : (c : ℕ) → c < length l.lanes → suc (last_of (lasts l) c) ≡ length (lane_at l c).seconds
  last_is c h =
      let n = bases_count l in
      let z = length-replicate {A = ℕ} (length (bases_of l)) 0 in
      let e = lasts_are (replicate (length (bases_of l)) 0) no_versions (versions_image l) c (omega (arith, n, z, h)) in
      let o = zeros_at (length (bases_of l)) c in
      let v = ap (λ xs. length (laid.versions_of c xs)) (versions_laid l) in
      let s = ap (λ (xs : List (Option VersionPlace)). length xs) (are.lanes c h).seconds in
      let m = length-map (laid.versions_of c (made_versions l)) (λ (w : VersionLaid). w.second) in
      omega (arith, e, o, v, s, m)

  -- a made place is there
  pub there : (at : VersionPlace) → IsMade (dataset_in l) at → at.position ≤ last_of (lasts l) at.branch
  there at m = let t = made_there l at m in let e = last_is at.branch t.0 in let p = t.1 in omega (arith, e, p)

  begun : (c : ℕ) → c < length l.lanes → is_begun (bases_of l) (lasts l) c ≡ true
  begun c h =
      let d : c < length (dataset_in l).branches = let n = length-map l.lanes (branch_of l.schema l.segments) in omega (arith, n, h) in
      let base : IsMade (dataset_in l) (get_or (bases_of l) c root) = subst (IsMade (dataset_in l)) (ap (λ (x : Branch). x.base) (branch_is l c h) ∙ (are.lanes c h).base) (sound.bases c d) in
      and_from (nat_lt c (length (lasts l))) (is_there (lasts l) (get_or (bases_of l) c root)) (lt-ltb c (length (lasts l)) (let n = count in omega (arith, n, h)))
      (le-leb (get_or (bases_of l) c root).position (last_of (lasts l) (get_or (bases_of l) c root).branch) (there (get_or (bases_of l) c root) base))

  pub lanes_few : length l.lanes ≤ 1024
  lanes_few = let n = length-map l.lanes (branch_of l.schema l.segments) in let f = sound.few_branches in omega (arith, n, f)

  place : (at : VersionPlace) → IsMade (dataset_in l) at → IsPlace at
  place at m =
      let t = made_there l at m in
      let b = t.0 in
      let p = m.1 in
      let few = sound.few_versions at.branch m.0 in
      record { branch = let f = lanes_few in omega (arith, f, b); position = omega (arith, p, few) }

  second_is : (second : Option VersionPlace) → second_fits (dataset_in l) second ≡ true → IsSecond (bases_of l) (lasts l) second
  second_is None e = tt
  second_is (Some at) e = let m = made_from (dataset_in l) at e in (place at m, begun at.branch (made_there l at m).0, there at m)

-- ---- a commit

commit_lines : (l : Layout) (b : ℕ) (second : Option VersionPlace) (changes : List Change) → AreInOrder l → IsSound (dataset_in l) → fits (dataset_in l) (Commit b second changes) ≡ true → HasLines l → HasLines (after_commit l b second changes)
commit_lines l b second changes are sound f has =
    let parts = commit_parts (dataset_in l) b second changes f in
    let h : b < length l.lanes = lanes_there l b parts.there in
    let m : Layout = after_commit l b second changes in
    let same : branches_image (after_commit l b second changes) ≡ branches_image l = branches_read (after_commit l b second changes) ∙ ap (map branch_read) (same_branches l b second changes are sound h) ∙ sym (branches_read l) in
    let v : MadeVersion = record { branch = b; second = second } in
    let next : versions_image (after_commit l b second changes) ≡ versions_image l ++ record { branch = b; second = second } ∷ [] =
    versions_read (after_commit l b second changes) ∙ ap (map version_image) (versions_next l b second changes are sound h)
    ∙ map_push version_image (made_versions l) (record { branch = b; second = second })
    ∙ ap (λ xs. xs ++ record { branch = b; second = second } ∷ []) (sym (versions_read l)) in
    let own : IsNextVersion (bases_of l) (lasts l, (after version_next (replicate (length (bases_of l)) 0, no_versions) (versions_image l)).1) (record { branch = b; second = second }) = record {
      branch = let n = lanes_few l are sound in omega (arith, n, h);
      begun = begun l are sound b h;
      few = let e = last_is l are sound b h in let c = count_is l b h in let r = parts.room in omega (arith, e, c, r);
      second = second_is l are sound second parts.second;
    } in
    record {
      branches = subst (EachNext branch_next IsNextBranch ([], [])) (sym same) has.branches;
      versions =
          subst (λ (seen : List BranchPart × List VersionPlace). EachNext version_next (IsNextVersion seen.1) (replicate (length seen.1) 0, []) (versions_image (after_commit l b second changes)))
          (sym (seen_is l) ∙ ap (after branch_next (no_branches, no_places)) (sym same))
          (subst (EachNext version_next (IsNextVersion (bases_of l)) (replicate (length (bases_of l)) 0, [])) (sym next)
          (each_push version_next (IsNextVersion (bases_of l)) (replicate (length (bases_of l)) 0, no_versions) (versions_image l) (record { branch = b; second = second })
          (subst (λ (seen : List BranchPart × List VersionPlace). EachNext version_next (IsNextVersion seen.1) (replicate (length seen.1) 0, []) (versions_image l)) (seen_is l) has.versions) own));
    }

-- ---- a new branch

-- one branch more, without versions
zero_more : (xs : List ℕ) (c : ℕ) → last_of (xs ++ 0 ∷ []) c ≡ last_of xs c
zero_more [] zero = refl
zero_more [] (suc c) = refl
zero_more (x ∷ xs) zero = refl
zero_more (x ∷ xs) (suc c) = zero_more xs c

set_more : (xs : List ℕ) (b x : ℕ) → b < length xs → set (xs ++ 0 ∷ []) b x ≡ set xs b x ++ 0 ∷ []
set_more [] b x l = absurd (omega (arith, l))
set_more (y ∷ ys) zero x l = refl
set_more (y ∷ ys) (suc b) x l = ap (λ zs. y ∷ zs) (set_more ys b x (omega (arith, l)))

replicate_push : (n : ℕ) → replicate {A = ℕ} (n + 1) 0 ≡ replicate n 0 ++ 0 ∷ []
replicate_push n = sym (replicate_more {X = ℕ} n 0)

begun_more : (bases : List VersionPlace) (ls : List ℕ) (x : VersionPlace) (b : ℕ) → length bases ≡ length ls → is_begun bases ls b ≡ true → (b < length ls) × (is_begun (bases ++ x ∷ []) (ls ++ 0 ∷ []) b ≡ true)
begun_more bases ls x b same e =
    let two = and_parts (nat_lt b (length ls)) (is_there ls (get_or bases b root)) e in
    let l = ltb-true b (length ls) two.0 in
    let base : get_or (bases ++ x ∷ []) b root ≡ get_or bases b root = get_or_append_left bases (x ∷ []) root b (omega (arith, same, l)) in (
      l,
      and_from (nat_lt b (length (ls ++ 0 ∷ []))) (is_there (ls ++ 0 ∷ []) (get_or (bases ++ x ∷ []) b root)) (lt-ltb b (length (ls ++ 0 ∷ [])) (let n = length_push ls 0 in omega (arith, n, l)))
          (ap (is_there (ls ++ 0 ∷ [])) base ∙ ap (λ k. nat_le (get_or bases b root).position k) (zero_more ls (get_or bases b root).branch) ∙ two.1),
    )

second_more : (bases : List VersionPlace) (ls : List ℕ) (x : VersionPlace) (second : Option VersionPlace) → length bases ≡ length ls → IsSecond bases ls second → IsSecond (bases ++ x ∷ []) (ls ++ 0 ∷ []) second
second_more bases ls x None same is = tt
second_more bases ls x (Some at) same is = (is.0, (begun_more bases ls x at.branch same is.1).1, let z = zero_more ls at.branch in let p = is.2 in omega (arith, z, p))

versions_more : (bases : List VersionPlace) (x : VersionPlace) (ls : List ℕ) (seen vs : List MadeVersion) → length bases ≡ length ls → EachNext version_next (IsNextVersion bases) (ls, seen) vs → EachNext version_next (IsNextVersion (bases ++ x ∷ [])) (ls ++ 0 ∷ [], seen) vs
versions_more bases x ls seen [] same each = tt
versions_more bases x ls seen (v ∷ vs) same each =
    let b = begun_more bases ls x v.branch same each.0.begun in
    let z = zero_more ls v.branch in
    let few = each.0.few in
    let state : set (ls ++ 0 ∷ []) v.branch (last_of (ls ++ 0 ∷ []) v.branch + 1) ≡ set ls v.branch (last_of ls v.branch + 1) ++ 0 ∷ [] = ap (λ k. set (ls ++ 0 ∷ []) v.branch (k + 1)) z ∙ set_more ls v.branch (last_of ls v.branch + 1) b.0 in (
      record { branch = each.0.branch; begun = b.1; few = omega (arith, z, few); second = second_more bases ls x v.second same each.0.second },
      subst (λ s. EachNext version_next (IsNextVersion (bases ++ x ∷ [])) (s, seen ++ v ∷ []) vs) (sym state)
          (versions_more bases x (set ls v.branch (last_of ls v.branch + 1)) (seen ++ v ∷ []) vs (same ∙ sym (length-set ls v.branch (last_of ls v.branch + 1))) each.1),
    )

-- no branch has a name
not_named : (p : Branch → Bool) (xs : List Branch) → is_some (position p xs) ≡ false → (k : ℕ) → k < length xs → p (get_or xs k no_branch) ≡ false
not_named p xs e k l = at (position p xs) refl e
  where
    at : (o : Option ℕ) → position p xs ≡ o → is_some o ≡ false → p (get_or xs k no_branch) ≡ false
    at None h g = position_none p xs no_branch h k l
    at (Some i) h g = absurd cc

none_any : (name : List ℕ) (xs : List BranchPart) → ((k : ℕ) (d : BranchPart) → k < length xs → same (get_or xs k d).name name ≡ false) → is_named xs name ≡ false
none_any name [] f = refl
none_any name (x ∷ xs) f = (λ i. f 0 x (omega arith) i || none_any name xs (λ k d l. f (suc k) d (omega (arith, l))) i)

turn_of : (seen : List BranchPart) (name : List ℕ) → 0 < length seen → is_named seen name ≡ false → has_turn seen name ≡ true
turn_of [] name l e = absurd (omega (arith, l))
turn_of (x ∷ xs) name l e = ap not e

earlier_of : (seen : List BranchPart) (o : ℕ) → o < length seen → is_earlier seen o ≡ true
earlier_of [] o l = absurd (omega (arith, l))
earlier_of (x ∷ xs) o l = lt-ltb o (length (x ∷ xs)) l

position_of : (seen : List BranchPart) (p : ℕ) → 0 < length seen → is_position seen p ≡ true
position_of [] p l = absurd (omega (arith, l))
position_of (x ∷ xs) p l = refl

not_some : (q : Bool) → not q ≡ true → q ≡ false
not_some true e = absurd cc
not_some false e = refl

branch_lines : (l : Layout) (q : Bool) (name : List ℕ) (origin : VersionPlace) → AreInOrder l → IsSound (dataset_in l) → is_name name ≡ true → fits (dataset_in l) (NewBranch name origin) ≡ true → HasLines l → HasLines (with_branch l q name origin)
branch_lines l q name origin are sound named f has =
    let two = and_parts _ _ f in
    let made = made_from (dataset_in l) origin two.1 in
    let t = made_there l origin made in
    let free : is_some (branch_named (dataset_in l) name) ≡ false = not_some (is_some (branch_named (dataset_in l) name)) (and_parts _ _ two.0).0 in
    let size : length (branches_image l) ≡ length l.lanes = length-map-range_with_len (λ b. branch_image (lane_at l b)) 0 (length l.lanes) in
    let some : 0 < length (branches_image l) = let b = t.0 in omega (arith, size, b) in
    let own : BranchPart = record { name = name; origin = origin } in
    let apart : is_named (branches_image l) name ≡ false =
    none_any name (branches_image l) (λ k d g.
    let k_there : k < length l.lanes = omega (arith, size, g) in
    ap (λ (x : BranchPart). same x.name name) (get_or-map-range_with_len (λ b. branch_image (lane_at l b)) 0 (length l.lanes) k k d k_there (omega arith))
    ∙ ap (λ (x : Branch). same x.name name) (sym (branch_is l k k_there))
    ∙ not_named (λ (x : Branch). same x.name name) (dataset_in l).branches free k (let n = length-map l.lanes (branch_of l.schema l.segments) in omega (arith, n, k_there))) in
    let next : branches_image (with_branch l q name origin) ≡ branches_image l ++ record { name = name; origin = origin } ∷ [] =
    branches_read (with_branch l q name origin) ∙ ap (map branch_read) (branches_next l q name origin are sound t.0)
    ∙ map_push branch_read (made_branches l) (record { name = name; origin = origin })
    ∙ ap (λ xs. xs ++ record { name = name; origin = origin } ∷ []) (sym (branches_read l)) in
    let keep : versions_image (with_branch l q name origin) ≡ versions_image l = versions_read (with_branch l q name origin) ∙ ap (map version_image) (same_versions l q name origin are sound t.0) ∙ sym (versions_read l) in
    let rules : IsNextBranch (branches_image l, bases_of l) (record { name = name; origin = origin }) = record {
      name = named;
      turn = turn_of (branches_image l) name some apart;
      origin = place l are sound origin made;
      earlier = earlier_of (branches_image l) origin.branch (let b = t.0 in omega (arith, size, b));
      position = position_of (branches_image l) origin.position some;
    } in
    let base : VersionPlace = laid.base_in (bases_of l) origin in
    let more : bases_of (with_branch l q name origin) ≡ bases_of l ++ laid.base_in (bases_of l) origin ∷ [] = ap (bases_from []) (branches_next l q name origin are sound t.0) ∙ bases_push [] (made_branches l) (record { name = name; origin = origin }) in
    let start : replicate (length (bases_of (with_branch l q name origin))) 0 ≡ replicate (length (bases_of l)) 0 ++ 0 ∷ [] =
    ap (λ xs. replicate (length xs) 0) more ∙ ap (λ n. replicate n 0) (length_push (bases_of l) (laid.base_in (bases_of l) origin)) ∙ replicate_push (length (bases_of l)) in
    record {
      branches = subst (EachNext branch_next IsNextBranch ([], [])) (sym next)
          (each_push branch_next IsNextBranch (no_branches, no_places) (branches_image l) (record { name = name; origin = origin }) has.branches (subst (λ s. IsNextBranch s (record { name = name; origin = origin })) (sym (seen_is l)) rules));
      versions =
          subst (λ (seen : List BranchPart × List VersionPlace). EachNext version_next (IsNextVersion seen.1) (replicate (length seen.1) 0, []) (versions_image (with_branch l q name origin))) (sym (seen_is (with_branch l q name origin)))
          (subst (EachNext version_next (IsNextVersion (bases_of (with_branch l q name origin))) (replicate (length (bases_of (with_branch l q name origin))) 0, [])) (sym keep)
          (subst (λ s. EachNext version_next (IsNextVersion (bases_of (with_branch l q name origin))) (s, no_versions) (versions_image l)) (sym start)
          (subst (λ bs. EachNext version_next (IsNextVersion bs) (replicate (length (bases_of l)) 0 ++ 0 ∷ [], no_versions) (versions_image l)) (sym more)
          (versions_more (bases_of l) (laid.base_in (bases_of l) origin) (replicate (length (bases_of l)) 0) no_versions (versions_image l) (sym (length-replicate {A = ℕ} (length (bases_of l)) 0))
          (subst (λ (seen : List BranchPart × List VersionPlace). EachNext version_next (IsNextVersion seen.1) (replicate (length seen.1) 0, []) (versions_image l)) (seen_is l) has.versions)))));
    }

-- ---- a new dataset, and an entry

pub new_lines : (schema : List Relation) → HasLines (new_layout schema)
unfolding is_name
new_lines schema = record {
  branches = (record { name = refl; turn = refl; origin = record { branch = omega arith; position = omega arith }; earlier = refl; position = refl }, tt);
  versions = tt;
}

pub lines_stay : (l : Layout) (e : Entry) → IsSound (dataset_in l) → fits (dataset_in l) e ≡ true → IsNamed e → AreInOrder l → HasLines l → HasLines (grow_layout l e)
lines_stay l (Commit b second changes) sound f named are has = commit_lines l b second changes are sound f has
lines_stay l (NewBranch name origin) sound f named are has = branch_lines l (is_last l origin) name origin are sound named f has
