-- The dataset that an image stands for is sound, and its versions are in order.
use Rattle.std.proofs.Common.{◌≡◌, inl, inr, ℕ, zero, suc, ◌<◌, ◌==◌, Bool, true, false, cond, List, [], ◌∷◌, ◌++◌, length, get_or, Option, Some, None, refl, sym, ap, subst, ◌∙◌, arith}
use Rattle.std.specs.Prelude.{nat_lt, position}
use Rattle.std.specs.List.{All}
use Rattle.std.proofs.lemmas.Bool.{ne_eqb, lt-ltb, le-leb, leb-true}
use Rattle.std.proofs.lemmas.List.{length-map, get_or-map}
use Rattle.std.proofs.lemmas.List.FromFn.{get_or-map-range_with_len, length-map-range_with_len}
use Rattle.std.proofs.lemmas.List.Elements.{All-cons}
use Rattle.std.proofs.lemmas.List.Sums.{position_or_len_is}
use Rattle.std.proofs.lemmas.Cmp.{nat_list_eq_equiv}
use Rattle.db_value.specs.Text.{same}
use Rattle.db_value.specs.declared.version.VersionPlace.{VersionPlace}
use Rattle.db_store.specs.Table.{Table}
use Rattle.db_store.specs.Dataset.{no_branch as no_branch_there, Dataset, Branch, root, no_version, branch_at, branch_named, version_at, proper, proper_if, before, IsMade}
use Rattle.db_store.specs.Sound.{IsSound}
use Rattle.db_store.specs.Order.{number_in, numbers_if, Stands, parent_numbers, IsOrdered}
use Rattle.db_store.specs.Layout.{Layout, Lane, no_lane, lane_at, versions_from, table_in, branch_of, dataset_in}
use Rattle.db_store.proofs.LayoutLaw.{branch_is, count_is}
use Rattle.hybrid_store.specs.declared.parts.LayoutParts.{LayoutParts}
use Rattle.hybrid_store.specs.Parts.{base_in, seconds_of, order_of, lane_laid, no_branch_part, layout_of_parts}
use Rattle.image_text.specs.declared.image.Image.{Image}
use Rattle.image_text.specs.Reading.{last_of, is_there}
use Rattle.db_image.specs.Parts.{parts_of, branch_part}
use Rattle.db_image.proofs.Grown.{IsProper, IsThere, HasBegun, IsGrown, IsBehind, stands_base}
use Rattle.db_image.proofs.BranchesRead.{no_branch, name_at}
use Rattle.db_image.proofs.VersionsRead.{laid_versions}
use Rattle.db_image.proofs.Read.{IsImage}

same_self : (name : List ℕ) → same name name ≡ true
same_self name = nat_list_eq_equiv.refl name

position_is : {X : Type 0} (p : X → Bool) (xs : List X) (i : ℕ) (d : X) → i < length xs → p (get_or xs i d) ≡ true → ((k : ℕ) → k < i → p (get_or xs k d) ≡ false) → position p xs ≡ Some i
position_is p xs i d h t f =
    ap (λ m. cond (nat_lt m (length xs)) (Some m) None) (position_or_len_is p xs i d (omega arith) f (λ _. t))
    ∙ ap (λ q. cond q (Some i) None) (lt-ltb i (length xs) h)

second_in : (table : ℕ → Table) (n i : ℕ) (ss : List (Option VersionPlace)) → (get_or (versions_from table n ss) i no_version).second ≡ get_or ss i None
second_in table n i [] = refl
second_in table n zero (s ∷ ss) = refl
second_in table n (suc i) (s ∷ ss) = second_in table (suc n) i ss

-- past the last branch there is no position but 0
lasts_there : (lasts : List ℕ) (b : ℕ) → 0 < last_of lasts b → b < length lasts
lasts_there [] b s = absurd (omega (arith, s))
lasts_there (x ∷ xs) zero s = omega arith
lasts_there (x ∷ xs) (suc b) s = let l = lasts_there xs b s in omega (arith, l)

module _ (i : Image) (bases : List VersionPlace) (lasts : List ℕ) (is : IsImage i bases lasts) where
  abbrev p : LayoutParts
  p = parts_of i

  abbrev l : Layout
  l = layout_of_parts p

  abbrev d : Dataset
  d = dataset_in l

  abbrev n : ℕ
  n = length i.branches

  abbrev last : ℕ → ℕ
  last = last_of lasts

  abbrev seconds : ℕ → List (Option VersionPlace)
  seconds = λ b. seconds_of b (laid_versions i.versions)

  grown : IsGrown bases last seconds (order_of (laid_versions i.versions))
  grown = is.parts.versions.grown

  pub same_branches : length p.branches ≡ n
  same_branches = length-map i.branches branch_part

  pub lanes_are : length l.lanes ≡ n
  lanes_are = length-map-range_with_len (lane_laid p) 0 (length p.branches) ∙ same_branches

  pub branches_are : length d.branches ≡ n
  branches_are = length-map l.lanes (branch_of l.schema l.segments) ∙ lanes_are

  pub lasts_are : length lasts ≡ n
  lasts_are = is.parts.versions.count ∙ is.parts.branches.count

  pub lane_is : (b : ℕ) → b < n → lane_at l b ≡ lane_laid p b
  lane_is b h = get_or-map-range_with_len (lane_laid p) 0 (length p.branches) b b no_lane (let e = same_branches in omega (arith, h, e)) (omega arith)

  branch_laid : (b : ℕ) → b < n → branch_at d b ≡ branch_of l.schema l.segments (lane_laid p b)
  branch_laid b h = branch_is l b (let e = lanes_are in omega (arith, h, e)) ∙ ap (branch_of l.schema l.segments) (lane_is b h)

  base_is : (b : ℕ) → b < n → (branch_at d b).base ≡ get_or bases b root
  base_is b h = ap (λ (x : Branch). x.base) (branch_laid b h) ∙ ap (λ bs. get_or bs b root) (sym is.parts.branches.bases)

  name_is : (b : ℕ) → b < n → (branch_at d b).name ≡ name_at i.branches b
  name_is b h = ap (λ (x : Branch). x.name) (branch_laid b h) ∙ ap (λ x. x.name) (get_or-map branch_part i.branches b no_branch no_branch_part h)

  pub counted : (b : ℕ) → b < n → length (lane_at l b).seconds ≡ suc (last b)
  counted b h = ap (λ (x : Lane). length x.seconds) (lane_is b h) ∙ grown.count b

  versions_counted : (b : ℕ) → b < n → length (branch_at d b).versions ≡ suc (last b)
  versions_counted b h = count_is l b (let e = lanes_are in omega (arith, h, e)) ∙ counted b h

  pub made : (at : VersionPlace) → at.branch < n → IsThere last at → IsMade d at
  made at b t = (let e = branches_are in omega (arith, b, e), let c = versions_counted at.branch b in omega (arith, t, c))

  pub of_made : (at : VersionPlace) → IsMade d at → (at.branch < n) × IsThere last at
  of_made at m =
      let b : at.branch < n = let e = branches_are in let h = m.0 in omega (arith, e, h) in
      (b, let c = versions_counted at.branch b in let h = m.1 in omega (arith, h, c))

  begun : (b : ℕ) → HasBegun bases last b
  begun b = leb-true (get_or bases b root).position (last (get_or bases b root).branch) (is.parts.branches.from_origins (is_there lasts) (le-leb 0 (last 0) (omega arith)) is.made b)

  proper_is : (at : VersionPlace) → at.branch < n → proper d at ≡ base_in bases at
  proper_is at h = ap (λ x. cond (at.position == 0) x at) (base_is at.branch h)

  later_proper : (at : VersionPlace) → 0 < at.position → proper d at ≡ at
  later_proper at s = ap (λ q. cond q (branch_at d at.branch).base at) (ne_eqb at.position 0 (λ e. omega (arith, e, s)))

  root_is : proper d root ≡ root
  root_is = proper_is root is.parts.some ∙ is.parts.branches.first

  base_proper : (b : ℕ) → b < n → proper d (get_or bases b root) ≡ get_or bases b root
  base_proper b h = by (is.parts.branches.proper b)
    where
      by : IsProper (get_or bases b root) → proper d (get_or bases b root) ≡ get_or bases b root
      by (inl e) = ap (proper d) e ∙ root_is ∙ sym e
      by (inr s) = later_proper (get_or bases b root) s

  second_is : (at : VersionPlace) → at.branch < n → (version_at d at).second ≡ get_or (seconds at.branch) at.position None
  second_is at h =
      ap (λ (x : Branch). (get_or x.versions at.position no_version).second) (branch_laid at.branch h)
      ∙ second_in (table_in l.schema l.segments (lane_laid p at.branch)) 0 at.position (seconds at.branch)

  order_made : (k : ℕ) → k < length l.order → IsMade d (get_or l.order k root)
  order_made zero h = subst (IsMade d) (sym grown.first) (made root is.parts.some (omega arith))
  order_made (suc k) h =
      let t = grown.there (suc k) h in
      let s = grown.later (suc k) (omega arith) h in
      let b = lasts_there lasts (get_or l.order (suc k) root).branch (omega (arith, s, t)) in
      made (get_or l.order (suc k) root) (let e = lasts_are in omega (arith, b, e)) t

  named : (b : ℕ) → b < n → branch_named d (branch_at d b).name ≡ Some b
  named b h =
      position_is (λ (x : Branch). same x.name (branch_at d b).name) d.branches b no_branch_there (let e = branches_are in omega (arith, h, e)) (same_self (branch_at d b).name)
      (λ c lt.
      let lc : c < n = omega (arith, lt, h) in
      ap (λ x. same x (branch_at d b).name) (name_is c lc) ∙ ap (λ x. same (name_at i.branches c) x) (name_is b h) ∙ is.parts.branches.apart c b lt h)

  pub sound : IsSound d
  sound = record {
    some = let e = branches_are in let s = is.parts.some in omega (arith, e, s);
    few_branches = let e = branches_are in let f = is.parts.few in omega (arith, e, f);
    master = name_is 0 is.parts.some ∙ is.parts.branches.master is.parts.some;
    rooted = λ b h. let c = versions_counted b (let e = branches_are in omega (arith, h, e)) in omega (arith, c);
    few_versions = λ b h. let c = versions_counted b (let e = branches_are in omega (arith, h, e)) in let f = is.parts.versions.few b in omega (arith, c, f);
    named = λ b h. named b (let e = branches_are in omega (arith, h, e));
    bases = λ b h. let k : b < n = let e = branches_are in omega (arith, h, e) in subst (IsMade d) (sym (base_is b k)) (made (get_or bases b root) (is.parts.branches.within b is.parts.some) (begun b));
    proper_bases = λ b h. let k : b < n = let e = branches_are in omega (arith, h, e) in subst (λ v. proper d v ≡ v) (sym (base_is b k)) (base_proper b k);
    seconds = λ at q m e.
        let t = of_made at m in
        let f : get_or (seconds at.branch) at.position None ≡ Some q = sym (second_is at t.0) ∙ e in
        let lb = is.parts.versions.branches at.branch at.position q f in
        let c = is.parts.branches.count in
        made q (omega (arith, lb, c)) (grown.made at.branch at.position q f).1;
    ordered = order_made;
  }

  second_numbers : (k : ℕ) (s : Option VersionPlace) → ((q : VersionPlace) → s ≡ Some q → (q.branch < n) × (number_in l.order (base_in bases q) < k)) → All (λ m. m < k) (numbers_if l.order (proper_if d s))
  second_numbers k None h = λ j x lt. absurd (omega (arith, lt))
  second_numbers k (Some q) h = one (number_in l.order (proper d q)) (subst (λ v. number_in l.order v < k) (sym (proper_is q (h q refl).0)) (h q refl).1)
    where
      one : (m : ℕ) → m < k → All (λ m. m < k) (m ∷ [])
      one m lt zero x z = lt
      one m lt (suc j) x z = absurd (omega (arith, z))

  behind : (k : ℕ) (at : VersionPlace) → at ≡ get_or l.order k root → 0 < k → k < length l.order → All (λ m. m < k) (parent_numbers d at)
  behind k at e s h =
      let g = subst (λ v. IsBehind bases seconds l.order k v) (sym e) (grown.parents k s h) in
      let later : 0 < at.position = subst (λ (v : VersionPlace). 0 < v.position) (sym e) (grown.later k s h) in
      let m = of_made at (subst (IsMade d) (sym e) (order_made k h)) in
      let not_first : (at.position == 0) ≡ false = ne_eqb at.position 0 (λ z. omega (arith, z, later)) in
      let first : number_in l.order (proper d (before at)) < k = subst (λ v. number_in l.order v < k) (sym (proper_is (before at) m.0)) g.first in
      let second : All (λ m. m < k) (numbers_if l.order (proper_if d (version_at d at).second)) =
      second_numbers k (version_at d at).second (λ q f.
      let w : get_or (seconds at.branch) at.position None ≡ Some q = sym (second_is at m.0) ∙ f in
      let lb = is.parts.versions.branches at.branch at.position q w in
      let c = is.parts.branches.count in
      (omega (arith, lb, c), g.second q w)) in
      subst (λ q. All (λ m. m < k) (numbers_if l.order (cond q None (Some (proper d (before at)))) ++ numbers_if l.order (cond q None (proper_if d (version_at d at).second)))) (sym not_first)
      (All-cons (λ m. m < k) (number_in l.order (proper d (before at))) (numbers_if l.order (proper_if d (version_at d at).second)) first second)

  root_behind : (at : VersionPlace) → at ≡ root → All (λ m. m < 0) (parent_numbers d at)
  root_behind at e = subst (λ v. All (λ m. m < 0) (parent_numbers d v)) (sym e) (λ j x lt. absurd (omega (arith, lt)))

  earlier : (k : ℕ) → k < length l.order → All (λ m. m < k) (parent_numbers d (get_or l.order k root))
  earlier zero h = root_behind (get_or l.order 0 root) grown.first
  earlier (suc k) h = behind (suc k) (get_or l.order (suc k) root) refl (omega arith) h

  pub ordered : IsOrdered d
  ordered = record {
    some = grown.some;
    first = grown.first;
    later = grown.later;
    root_proper = root_is;
    once = grown.once;
    stands = λ at m. let t = of_made at m in subst (Stands l.order) (sym (proper_is at t.0)) (stands_base bases last seconds l.order is.parts.branches.proper grown at (begun at.branch) t.1);
    earlier = earlier;
  }
