-- Growth keeps that the versions of a layout stand in the order made, each at the next position of its branch.
use Rattle.std.proofs.Common.{◌≡◌, ◌≢◌, ◌⊎◌, inl, inr, ℕ, zero, suc, ◌+◌, ◌-◌, ◌<◌, ◌≤◌, ◌==◌, true, cond, Bool, List, [], ◌∷◌, ◌++◌, map, length, get_or, Option, None, refl, sym, ap, subst, ◌∙◌, arith}
use Rattle.std.specs.Prelude.{set}
use Rattle.std.specs.List.{range_with_len}
use Rattle.std.proofs.lemmas.Bool.{ne_eqb, cases_eq, cases_lt, and_parts}
use Rattle.std.proofs.lemmas.List.{length_push, length-set, length-map, get_or_push, get_or_append_left, get_or-set_same, get_or-set_other, map_push}
use Rattle.std.proofs.lemmas.List.FromFn.{map-range_with_len_more, get_or-map-range_with_len, length-map-range_with_len}
use Rattle.db_value.specs.declared.version.VersionPlace.{VersionPlace}
use Rattle.db_value.specs.declared.entry.Change.{Change}
use Rattle.db_value.specs.declared.entry.Entry.{Entry}
use Rattle.db_value.specs.declared.entry.Entry.TheVariants.{Commit, Branch as NewBranch}
use Rattle.db_value.specs.declared.schema.Relation.{Relation}
use Rattle.db_store.specs.Dataset.{root}
use Rattle.db_store.specs.Fits.{fits}
use Rattle.db_store.specs.Growth.{commit_parts, made_from}
use Rattle.db_store.specs.Sound.{IsSound}
use Rattle.db_store.specs.Layout.{Lane, Layout, no_lane, lane_at, dataset_in, new_layout}
use Rattle.db_store.specs.LayoutGrowth.{segments_after, lane_after, after_commit, lane_with, lane_begun, with_branch, is_last, grow_layout}
use Rattle.db_store.proofs.LayoutLaw.{lanes_there, made_there}
use Rattle.hybrid_store.specs.declared.made.MadeVersion.{MadeVersion}
use Rattle.hybrid_store.specs.declared.parts.BranchPart.{BranchPart}
use Rattle.hybrid_store.specs.Readers.{made_version}
use Rattle.hybrid_store.specs.Parts.{versions_of, order_of, seconds_of, base_in, bases_from}
use Rattle.db_image.specs.Imaged.{made_branches, made_versions, IsNumbered, AreInOrder}
use Rattle.db_image.proofs.BranchesRead.{bases_push}
use Rattle.db_image.proofs.VersionsRead.{places_push, own_versions, other_versions}
use Rattle.db_image.proofs.LayoutBack.{maps_agree}

abbrev nothing : Option VersionPlace
nothing = None

-- a branch by name and origin
abbrev pub part_of : Lane → BranchPart
part_of lane = record { name = lane.name; origin = lane.origin }

some_made : (l : Layout) → AreInOrder l → 0 < length l.order
some_made l are = let e = ap (λ (o : List VersionPlace). length o) are.order in omega (arith, e)

-- the place of each version in the order made is a position of a lane
pub place_there : (l : Layout) → IsSound (dataset_in l) → (i : ℕ) → i < length l.order → ((get_or l.order i root).branch < length l.lanes) × ((get_or l.order i root).position < length (lane_at l (get_or l.order i root).branch).seconds)
place_there l sound i h = made_there l (get_or l.order i root) (sound.ordered i h)

-- ---- a new dataset

pub new_in_order : (schema : List Relation) → AreInOrder (new_layout schema)
new_in_order schema = record {
  order = refl;
  lanes = λ b h. first b h;
}
  where
    first : (b : ℕ) → b < 1 → IsNumbered (new_layout schema) b (lane_at (new_layout schema) b)
    first zero h = record { base = refl; seconds = refl }
    first (suc b) h = absurd (omega (arith, h))

-- ---- a commit

module _ (l : Layout) (b : ℕ) (second : Option VersionPlace) (changes : List Change) (are : AreInOrder l) (sound : IsSound (dataset_in l)) (h : b < length l.lanes) where
  abbrev m : Layout
  m = after_commit l b second changes

  abbrev vs : List MadeVersion
  vs = made_versions l

  abbrev v : MadeVersion
  v = record { branch = b; second = second }

  abbrev place : VersionPlace
  place = record { branch = b; position = length (lane_at l b).seconds }

  pub count : length m.lanes ≡ length l.lanes
  count = length-set l.lanes b (lane_after l (segments_after l b changes) (lane_at l b) second changes)

  pub own_lane : lane_at m b ≡ lane_after l (segments_after l b changes) (lane_at l b) second changes
  own_lane = get_or-set_same l.lanes b (lane_after l (segments_after l b changes) (lane_at l b) second changes) no_lane h

  pub other_lane : (c : ℕ) → c ≢ b → lane_at m c ≡ lane_at l c
  other_lane c n = get_or-set_other l.lanes b c (lane_after l (segments_after l b changes) (lane_at l b) second changes) no_lane n

  pub own_seconds : (lane_at m b).seconds ≡ (lane_at l b).seconds ++ second ∷ []
  own_seconds = ap (λ (x : Lane). x.seconds) own_lane

  pub same_part : (c : ℕ) → part_of (lane_at m c) ≡ part_of (lane_at l c)
  same_part c = at (cases_eq c b)
    where
      at : (c ≡ b) ⊎ (c ≢ b) → part_of (lane_at m c) ≡ part_of (lane_at l c)
      at (inl e) = subst (λ k. part_of (lane_at m k) ≡ part_of (lane_at l k)) (sym e) (ap part_of own_lane)
      at (inr n) = ap part_of (other_lane c n)

  same_base : (c : ℕ) → (lane_at m c).base ≡ (lane_at l c).base
  same_base c = at (cases_eq c b)
    where
      at : (c ≡ b) ⊎ (c ≢ b) → (lane_at m c).base ≡ (lane_at l c).base
      at (inl e) = subst (λ k. (lane_at m k).base ≡ (lane_at l k).base) (sym e) (ap (λ (x : Lane). x.base) own_lane)
      at (inr n) = ap (λ (x : Lane). x.base) (other_lane c n)

  pub same_branches : made_branches m ≡ made_branches l
  same_branches = ap (λ n. map (λ c. part_of (lane_at m c)) (range_with_len 0 n)) count ∙ maps_agree (λ c. part_of (lane_at m c)) (λ c. part_of (lane_at l c)) (length l.lanes) 0 (λ c g k. same_part c)

  same_second : (c k : ℕ) → k < length (lane_at l c).seconds → get_or (lane_at m c).seconds k nothing ≡ get_or (lane_at l c).seconds k nothing
  same_second c k g = at (cases_eq c b)
    where
      at : (c ≡ b) ⊎ (c ≢ b) → get_or (lane_at m c).seconds k nothing ≡ get_or (lane_at l c).seconds k nothing
      at (inl e) =
          ap (λ d. get_or (lane_at m d).seconds k nothing) e
          ∙ ap (λ xs. get_or xs k nothing) own_seconds
          ∙ get_or_append_left (lane_at l b).seconds (second ∷ []) nothing k (subst (λ d. k < length (lane_at l d).seconds) e g)
          ∙ ap (λ d. get_or (lane_at l d).seconds k nothing) (sym e)
      at (inr n) = ap (λ (x : Lane). get_or x.seconds k nothing) (other_lane c n)

  older : (i : ℕ) → i + 1 < length l.order → made_version m i ≡ made_version l i
  older i g =
      let e : get_or m.order (i + 1) root ≡ get_or l.order (i + 1) root = get_or_append_left l.order (place ∷ []) root (i + 1) g in
      let t = place_there l sound (i + 1) g in
      λ j. record {
        branch = (e j).branch;
        second = (ap (λ (at : VersionPlace). get_or (lane_at m at.branch).seconds at.position nothing) e ∙ same_second (get_or l.order (i + 1) root).branch (get_or l.order (i + 1) root).position t.1) j;
      }

  newest : (i : ℕ) → i + 1 ≡ length l.order → made_version m i ≡ v
  newest i e =
      let p : get_or m.order (i + 1) root ≡ place = get_or_push l.order place root (i + 1) (sym e) in
      λ j. record {
        branch = (p j).branch;
        second =
            (ap (λ (at : VersionPlace). get_or (lane_at m at.branch).seconds at.position nothing) p
            ∙ ap (λ xs. get_or xs (length (lane_at l b).seconds) nothing) own_seconds
            ∙ get_or_push (lane_at l b).seconds second nothing (length (lane_at l b).seconds) refl)
            j;
      }

  pub versions_next : made_versions m ≡ vs ++ v ∷ []
  versions_next =
      let some = some_made l are in
      let n : length m.order - 1 ≡ (length l.order - 1) + 1 = let k = length_push l.order place in omega (arith, k, some) in
      ap (λ k. map (made_version m) (range_with_len 0 k)) n
      ∙ map-range_with_len_more (made_version m) 0 (length l.order - 1) (length l.order - 1) (omega arith)
      ∙ (λ j. maps_agree (made_version m) (made_version l) (length l.order - 1) 0 (λ i g k. older i (omega (arith, k))) j ++ newest (length l.order - 1) (omega (arith, some)) j ∷ [])

  position_is : length (lane_at l b).seconds ≡ suc (length (versions_of b vs))
  position_is = ap (λ (xs : List (Option VersionPlace)). length xs) (are.lanes b h).seconds ∙ ap suc (length-map (versions_of b vs) (λ (w : MadeVersion). w.second))

  order_next : m.order ≡ order_of (made_versions m)
  order_next =
      (λ j. are.order j ++ record { branch = b; position = position_is j } ∷ [])
      ∙ ap (λ xs. root ∷ xs) (sym (places_push [] vs v))
      ∙ ap order_of (sym versions_next)

  seconds_next : (c : ℕ) → c < length l.lanes → (lane_at m c).seconds ≡ seconds_of c (made_versions m)
  seconds_next c g = at (cases_eq c b) ∙ ap (seconds_of c) (sym versions_next)
    where
      own : (lane_at m b).seconds ≡ seconds_of b (vs ++ v ∷ [])
      own =
          own_seconds
          ∙ ap (λ xs. xs ++ second ∷ []) (are.lanes b h).seconds
          ∙ ap (λ xs. nothing ∷ xs) (sym (map_push (λ (w : MadeVersion). w.second) (versions_of b vs) v))
          ∙ ap (λ xs. nothing ∷ map (λ (w : MadeVersion). w.second) xs) (sym (own_versions b vs v refl))

      at : (c ≡ b) ⊎ (c ≢ b) → (lane_at m c).seconds ≡ seconds_of c (vs ++ v ∷ [])
      at (inl e) = subst (λ k. (lane_at m k).seconds ≡ seconds_of k (vs ++ v ∷ [])) (sym e) own
      at (inr n) =
          ap (λ (x : Lane). x.seconds) (other_lane c n)
          ∙ (are.lanes c g).seconds
          ∙ ap (λ xs. nothing ∷ map (λ (w : MadeVersion). w.second) xs) (sym (other_versions c vs v (λ e. n (sym e))))

  pub commit_in_order : AreInOrder m
  commit_in_order = record {
    order = order_next;
    lanes = λ c g.
        let k : c < length l.lanes = let n = count in omega (arith, n, g) in
        record {
          base = same_base c ∙ (are.lanes c k).base ∙ ap (λ xs. get_or (bases_from [] xs) c root) (sym same_branches);
          seconds = seconds_next c k;
        };
  }

-- ---- a new branch

pub length_bases : (bases : List VersionPlace) (xs : List BranchPart) → length (bases_from bases xs) ≡ length bases + length xs
length_bases bases [] = omega arith
length_bases bases (x ∷ xs) = let r = length_bases (bases ++ base_in bases x.origin ∷ []) xs in let n = length_push bases (base_in bases x.origin) in omega (arith, r, n)

none_of : (n : ℕ) (xs : List MadeVersion) → ((i : ℕ) (d : MadeVersion) → i < length xs → (get_or xs i d).branch < n) → versions_of n xs ≡ []
none_of n [] f = refl
none_of n (x ∷ xs) f =
    ap (λ q. cond q (x ∷ versions_of n xs) (versions_of n xs)) (ne_eqb x.branch n (λ e. let l = f 0 x (omega arith) in omega (arith, e, l)))
    ∙ none_of n xs (λ i d l. f (suc i) d (omega (arith, l)))

module _ (l : Layout) (q : Bool) (name : List ℕ) (origin : VersionPlace) (are : AreInOrder l) (sound : IsSound (dataset_in l)) (h : origin.branch < length l.lanes) where
  abbrev wide : Layout
  wide = with_branch l q name origin

  abbrev source : Lane
  source = lane_with l q (lane_at l origin.branch) origin.position

  abbrev added : Lane
  added = lane_begun l q name origin

  abbrev old : List Lane
  old = set l.lanes origin.branch source

  old_count : length old ≡ length l.lanes
  old_count = length-set l.lanes origin.branch source

  pub wide_count : length wide.lanes ≡ length l.lanes + 1
  wide_count = length_push old added ∙ ap (λ n. n + 1) old_count

  pub new_lane : lane_at wide (length l.lanes) ≡ added
  new_lane = get_or_push old added no_lane (length l.lanes) old_count

  first_lanes : (c : ℕ) → c < length l.lanes → lane_at wide c ≡ get_or old c no_lane
  first_lanes c g = get_or_append_left old (added ∷ []) no_lane c (let n = old_count in omega (arith, n, g))

  pub source_lane : (c : ℕ) → c < length l.lanes → c ≡ origin.branch → lane_at wide c ≡ source
  source_lane c g e = first_lanes c g ∙ ap (λ k. get_or old k no_lane) e ∙ get_or-set_same l.lanes origin.branch source no_lane h

  pub older_lane : (c : ℕ) → c < length l.lanes → c ≢ origin.branch → lane_at wide c ≡ lane_at l c
  older_lane c g n = first_lanes c g ∙ get_or-set_other l.lanes origin.branch c source no_lane n

  pub same : {X : Type 0} (f : Lane → X) → f source ≡ f (lane_at l origin.branch) → (c : ℕ) → c < length l.lanes → f (lane_at wide c) ≡ f (lane_at l c)
  same f e c g = ap f (get_or_append_left old (added ∷ []) no_lane c (let n = old_count in omega (arith, n, g))) ∙ at (cases_eq c origin.branch)
    where
      at : (c ≡ origin.branch) ⊎ (c ≢ origin.branch) → f (get_or old c no_lane) ≡ f (lane_at l c)
      at (inl k) = subst (λ d. f (get_or old d no_lane) ≡ f (lane_at l d)) (sym k) (ap f (get_or-set_same l.lanes origin.branch source no_lane h) ∙ e)
      at (inr n) = ap f (get_or-set_other l.lanes origin.branch c source no_lane n)

  pub same_seconds : (c : ℕ) → c < length l.lanes → (lane_at wide c).seconds ≡ (lane_at l c).seconds
  same_seconds = same (λ (x : Lane). x.seconds) refl

  pub branches_next : made_branches wide ≡ made_branches l ++ record { name = name; origin = origin } ∷ []
  branches_next =
      ap (λ n. map (λ c. part_of (lane_at wide c)) (range_with_len 0 n)) wide_count
      ∙ map-range_with_len_more (λ c. part_of (lane_at wide c)) 0 (length l.lanes) (length l.lanes) (omega arith)
      ∙ (λ j. maps_agree (λ c. part_of (lane_at wide c)) (λ c. part_of (lane_at l c)) (length l.lanes) 0 (λ c g k. same part_of refl c (omega (arith, k))) j ++ part_of (new_lane j) ∷ [])

  pub same_versions : made_versions wide ≡ made_versions l
  same_versions = maps_agree (made_version wide) (made_version l) (length l.order - 1) 0 (λ i g k.
      let t = place_there l sound (i + 1) (omega (arith, k)) in
      λ j. record {
        branch = (get_or l.order (i + 1) root).branch;
        second = get_or (same_seconds (get_or l.order (i + 1) root).branch t.0 j) (get_or l.order (i + 1) root).position nothing;
      })

  bases_next : bases_from [] (made_branches wide) ≡ bases_from [] (made_branches l) ++ base_in (bases_from [] (made_branches l)) origin ∷ []
  bases_next = ap (bases_from []) branches_next ∙ bases_push [] (made_branches l) (record { name = name; origin = origin })

  bases_count : length (bases_from [] (made_branches l)) ≡ length l.lanes
  bases_count = length_bases [] (made_branches l) ∙ (let n = length-map-range_with_len (λ c. part_of (lane_at l c)) 0 (length l.lanes) in omega (arith, n))

  old_base : (c : ℕ) → c < length l.lanes → (lane_at wide c).base ≡ get_or (bases_from [] (made_branches wide)) c root
  old_base c g =
      same (λ (x : Lane). x.base) refl c g
      ∙ (are.lanes c g).base
      ∙ sym (ap (λ xs. get_or xs c root) bases_next ∙ get_or_append_left (bases_from [] (made_branches l)) (base_in (bases_from [] (made_branches l)) origin ∷ []) root c (let n = bases_count in omega (arith, n, g)))

  new_base : added.base ≡ get_or (bases_from [] (made_branches wide)) (length l.lanes) root
  new_base =
      ap (λ at. cond (origin.position == 0) at origin) (are.lanes origin.branch h).base
      ∙ sym (ap (λ xs. get_or xs (length l.lanes) root) bases_next ∙ get_or_push (bases_from [] (made_branches l)) (base_in (bases_from [] (made_branches l)) origin) root (length l.lanes) bases_count)

  versions_below : (i : ℕ) (d : MadeVersion) → i < length (made_versions l) → (get_or (made_versions l) i d).branch < length l.lanes
  versions_below i d g =
      let n = length-map-range_with_len (made_version l) 0 (length l.order - 1) in
      let k : i < length l.order - 1 = omega (arith, n, g) in
      subst (λ (w : MadeVersion). w.branch < length l.lanes) (sym (get_or-map-range_with_len (made_version l) 0 (length l.order - 1) i i d k (omega arith)))
      (place_there l sound (i + 1) (omega (arith, k))).0

  no_seconds : added.seconds ≡ seconds_of (length l.lanes) (made_versions wide)
  no_seconds = ap (λ xs. nothing ∷ map (λ (w : MadeVersion). w.second) xs) (sym (none_of (length l.lanes) (made_versions l) versions_below)) ∙ ap (seconds_of (length l.lanes)) (sym same_versions)

  numbered : (c : ℕ) → c < length wide.lanes → (c < length l.lanes) ⊎ (length l.lanes ≤ c) → IsNumbered wide c (lane_at wide c)
  numbered c g (inl k) = record {
    base = old_base c k;
    seconds = same_seconds c k ∙ (are.lanes c k).seconds ∙ ap (seconds_of c) (sym same_versions);
  }
  numbered c g (inr k) =
      let e : c ≡ length l.lanes = let n = wide_count in omega (arith, n, g, k) in
      subst (λ d. IsNumbered wide d (lane_at wide d)) (sym e) (record {
        base = ap (λ (x : Lane). x.base) new_lane ∙ new_base;
        seconds = ap (λ (x : Lane). x.seconds) new_lane ∙ no_seconds;
      })

  pub branch_in_order : AreInOrder wide
  branch_in_order = record {
    order = are.order ∙ ap order_of (sym same_versions);
    lanes = λ c g. numbered c g (cases_lt c (length l.lanes));
  }

-- ---- an entry

pub stays_in_order : (l : Layout) (e : Entry) → IsSound (dataset_in l) → fits (dataset_in l) e ≡ true → AreInOrder l → AreInOrder (grow_layout l e)
stays_in_order l (Commit b second changes) sound f are = commit_in_order l b second changes are sound (lanes_there l b (commit_parts (dataset_in l) b second changes f).there)
stays_in_order l (NewBranch name origin) sound f are = branch_in_order l (is_last l origin) name origin are sound (made_there l origin (made_from (dataset_in l) origin (and_parts _ _ f).1)).0
