-- The versions of a layout of parts stand in the order made, each at the next position of its branch.
use Rattle.std.proofs.Common.{◌≡◌, ℕ, zero, suc, ◌+◌, ◌-◌, ◌<◌, ◌==◌, Bool, true, false, cond, List, [], ◌∷◌, ◌++◌, map, take, length, get_or, Option, None, refl, sym, ap, ◌∙◌, arith, append_assoc}
use Rattle.std.specs.List.{range_with_len}
use Rattle.std.proofs.Math.ListN.{get_or-map}
use Rattle.std.proofs.lemmas.Bool.{eq-eqb}
use Rattle.std.proofs.lemmas.List.{append-nil}
use Rattle.std.proofs.lemmas.List.FromFn.{get_or-map-range_with_len, length-map-range_with_len}
use Rattle.db_value.specs.declared.version.VersionPlace.{VersionPlace}
use Rattle.db_store.specs.Dataset.{root}
use Rattle.db_store.specs.Sound.{IsSound}
use Rattle.db_store.specs.Layout.{Lane, Layout, no_lane, lane_at, dataset_in}
use Rattle.hybrid_store.specs.declared.made.MadeVersion.{MadeVersion}
use Rattle.hybrid_store.specs.declared.parts.LayoutParts.{LayoutParts}
use Rattle.hybrid_store.specs.Assembled.{no_made}
use Rattle.hybrid_store.specs.Readers.{made_version}
use Rattle.hybrid_store.specs.Parts.{versions_of, places_from, order_of, seconds_of, bases_from, no_branch_part, lane_laid, layout_of_parts}
use Rattle.db_image.specs.Imaged.{made_branches, made_versions, AreInOrder}
use Rattle.db_image.proofs.LayoutBack.{maps_agree, numbered}
use Rattle.db_image.proofs.OrderKept.{place_there, part_of}

abbrev nothing : Option VersionPlace
nothing = None

length_places : (front vs : List MadeVersion) → length (places_from front vs) ≡ length vs
length_places front [] = refl
length_places front (v ∷ vs) = ap suc (length_places (front ++ v ∷ []) vs)

-- the place of a version
abbrev place_in : List MadeVersion → MadeVersion → VersionPlace
place_in before v = record { branch = v.branch; position = suc (length (versions_of v.branch before)) }

place_at : (front vs : List MadeVersion) (k : ℕ) → k < length vs → get_or (places_from front vs) k root ≡ place_in (front ++ take k vs) (get_or vs k no_made)
place_at front [] k h = absurd (omega (arith, h))
place_at front (v ∷ vs) zero h = ap (λ xs. place_in xs v) (sym (append-nil front))
place_at front (v ∷ vs) (suc k) h = place_at (front ++ v ∷ []) vs k (omega (arith, h)) ∙ ap (λ xs. place_in xs (get_or vs k no_made)) (append_assoc front (v ∷ []) (take k vs))

-- a version stands among those of its branch behind as many as stand before it
own_at : (b : ℕ) (vs : List MadeVersion) (k : ℕ) → k < length vs → (get_or vs k no_made).branch ≡ b → get_or (versions_of b vs) (length (versions_of b (take k vs))) no_made ≡ get_or vs k no_made
own_at b [] k h e = absurd (omega (arith, h))
own_at b (v ∷ vs) zero h e = ap (λ q. get_or (cond q (v ∷ versions_of b vs) (versions_of b vs)) 0 no_made) (eq-eqb v.branch b e)
own_at b (v ∷ vs) (suc k) h e = at (v.branch == b) (own_at b vs k (omega (arith, h)) e)
  where
    at : (q : Bool) → get_or (versions_of b vs) (length (versions_of b (take k vs))) no_made ≡ get_or vs k no_made
        → get_or (cond q (v ∷ versions_of b vs) (versions_of b vs)) (length (cond q (v ∷ versions_of b (take k vs)) (versions_of b (take k vs)))) no_made ≡ get_or vs k no_made
    at true later = later
    at false later = later

module _ (p : LayoutParts) (sound : IsSound (dataset_in (layout_of_parts p))) where
  abbrev l : Layout
  l = layout_of_parts p

  abbrev n : ℕ
  n = length p.branches

  abbrev vs : List MadeVersion
  vs = p.versions

  count : length l.lanes ≡ n
  count = length-map-range_with_len (lane_laid p) 0 n

  lane_is : (b : ℕ) → b < n → lane_at l b ≡ lane_laid p b
  lane_is b h = get_or-map-range_with_len (lane_laid p) 0 n b b no_lane h (omega arith)

  pub branches_are : made_branches l ≡ p.branches
  branches_are =
      ap (λ k. map (λ b. part_of (lane_at l b)) (range_with_len 0 k)) count
      ∙ maps_agree (λ b. part_of (lane_at l b)) (λ b. get_or p.branches b no_branch_part) n 0 (λ b g h. ap part_of (lane_is b (omega (arith, h))))
      ∙ numbered p.branches no_branch_part

  order_count : length l.order ≡ suc (length vs)
  order_count = ap suc (length_places [] vs)

  at_place : (k : ℕ) → k < length vs → get_or l.order (k + 1) root ≡ place_in (take k vs) (get_or vs k no_made)
  at_place k h = let one : k + 1 ≡ suc k = omega arith in ap (λ i. get_or l.order i root) one ∙ place_at [] vs k h

  below : (k : ℕ) → k < length vs → (get_or vs k no_made).branch < n
  below k h =
      let e = order_count in
      let c = count in
      let b = ap (λ (at : VersionPlace). at.branch) (at_place k h) in
      let t = (place_there l sound (k + 1) (omega (arith, e, h))).0 in
      omega (arith, c, b, t)

  version_is : (k : ℕ) → k < length vs → made_version l k ≡ get_or vs k no_made
  version_is k h = λ j. record { branch = (at_place k h j).branch; second = second_is j }
    where
      second_is : get_or (lane_at l (get_or l.order (k + 1) root).branch).seconds (get_or l.order (k + 1) root).position nothing ≡ (get_or vs k no_made).second
      second_is =
          ap (λ (at : VersionPlace). get_or (lane_at l at.branch).seconds at.position nothing) (at_place k h)
          ∙ ap (λ (x : Lane). get_or x.seconds (suc (length (versions_of (get_or vs k no_made).branch (take k vs)))) nothing) (lane_is (get_or vs k no_made).branch (below k h))
          ∙ get_or-map (λ (w : MadeVersion). w.second) (versions_of (get_or vs k no_made).branch vs) (length (versions_of (get_or vs k no_made).branch (take k vs))) no_made
          ∙ ap (λ (w : MadeVersion). w.second) (own_at (get_or vs k no_made).branch vs k h refl)

  pub versions_are : made_versions l ≡ vs
  versions_are =
      let e : length l.order - 1 ≡ length vs = let o = order_count in omega (arith, o) in
      ap (λ k. map (made_version l) (range_with_len 0 k)) e
      ∙ maps_agree (made_version l) (λ k. get_or vs k no_made) (length vs) 0 (λ k g h. version_is k (omega (arith, h)))
      ∙ numbered vs no_made

  pub parts_in_order : AreInOrder l
  parts_in_order = record {
    order = ap order_of (sym versions_are);
    lanes = λ b g.
        let h : b < n = let c = count in omega (arith, c, g) in
        record {
          base = ap (λ (x : Lane). x.base) (lane_is b h) ∙ ap (λ xs. get_or (bases_from [] xs) b root) (sym branches_are);
          seconds = ap (λ (x : Lane). x.seconds) (lane_is b h) ∙ ap (seconds_of b) (sym versions_are);
        };
  }
