-- A store of parts: what its functions ask, by the rules that parts keep.
use Rattle.std.proofs.Common.{◌≡◌, ◌≢◌, ◌⊎◌, inl, inr, ℕ, zero, suc, ◌+◌, ◌-◌, ◌^◌, ◌<◌, ◌≤◌, ◌==◌, Bool, false, cond, List, [], ◌∷◌, ◌++◌, length, map, get_or, Option, Some, None, refl, arith, ap, sym, ◌∙◌, subst, ext_get_or}
use Rattle.std.specs.Prelude.{All, position}
use Rattle.std.specs.List.{range_with_len, position_from}
use Rattle.std.proofs.lemmas.Bool.{cases_eq, ne_eqb}
use Rattle.std.proofs.lemmas.List.{length-map, get_or-map}
use Rattle.std.proofs.lemmas.List.FromFn.{get_or-map-range_with_len, length-map-range_with_len}
use Rattle.std.proofs.lemmas.Iterator.Adapters.{position_from-zero}
use Rattle.db_value.specs.Text.{same}
use Rattle.db_value.specs.declared.schema.Relation.{Relation}
use Rattle.db_value.specs.declared.version.VersionPlace.{VersionPlace}
use Rattle.db_store.specs.Dataset.{Branch, Dataset, no_branch, root, before, branch_at, branch_named, version_at, proper, proper_if, first_parent, second_parent}
use Rattle.db_store.specs.Order.{numbers_if, parent_numbers, lineage, IsOrdered}
use Rattle.db_store.specs.Sound.{IsSound}
use Rattle.db_store.specs.Layout.{Lane, no_lane, branch_of, table_in, dataset_in}
use Rattle.db_store.proofs.SegmentLemmas.{length_by}
use Rattle.bit_rows.specs.Kept.{KeptLane, no_kept}
use Rattle.bit_rows.specs.Segments.{KeptList}
use Rattle.hybrid_store.specs.declared.made.MadeVersion.{MadeVersion}
use Rattle.hybrid_store.specs.declared.parts.LayoutParts.{LayoutParts}
use Rattle.hybrid_store.specs.Lanes.{lane_of, kept_layout}
use Rattle.hybrid_store.specs.Stored.{kept_dataset}
use Rattle.hybrid_store.specs.Parts.{parts_of, places_from, seconds_of, bases_from, no_branch_part, lane_laid, layout_of_parts, AreSound}
use Rattle.hybrid_store.specs.Assembled.{rows_of_parts, begun_bare, bare, bare_of, no_made, AreWith, AreSeenBy, IsSeenLane}
use Rattle.hybrid_store.specs.PartLines.{named_only, named_of, AreNamed, proper_in, proper_if_in, second_in, parents_in, IsPlaceIn, CanLine, AreLined}
use Rattle.hybrid_store.proofs.StoredLemmas.{versions_count, kept_count, kept_name, kept_base, kept_second}
use Rattle.hybrid_store.proofs.ViewLemmas.{made_kept}

-- ---- names

from_map : {X Y : Type 0} (f : X → Y) (t : Y → Bool) (i : ℕ) (xs : List X) → position_from t i (map f xs) ≡ position_from (λ x. t (f x)) i xs
from_map f t i [] = refl
from_map f t i (x ∷ xs) = ap (λ (o : Option ℕ). cond (t (f x)) (Some i) o) (from_map f t (i + 1) xs)

position_map : {X Y : Type 0} (f : X → Y) (t : Y → Bool) (xs : List X) → position t (map f xs) ≡ position (λ x. t (f x)) xs
position_map f t xs = position_from-zero t (map f xs) ∙ from_map f t 0 xs ∙ sym (position_from-zero (λ x. t (f x)) xs)

pub names_same : (schema : List Relation) (lanes : List KeptLane) (order : List VersionPlace) (lists : List KeptList) (name : List ℕ) → branch_named (named_of lanes) name ≡ branch_named (kept_dataset schema lanes order lists) name
names_same schema lanes order lists name =
    position_map named_only (λ (b : Branch). same b.name name) lanes
    ∙ sym (position_map (lane_of schema) (λ (x : Lane). same x.name name) lanes)
    ∙ sym (position_map (branch_of schema (kept_layout schema lanes order lists).segments) (λ (b : Branch). same b.name name) (map (lane_of schema) lanes))

-- ---- the order made

places_count : (bs vs : List MadeVersion) → length (places_from bs vs) ≡ length vs
places_count bs [] = refl
places_count bs (v ∷ vs) = ap suc (places_count (bs ++ v ∷ []) vs)

place_branch : (bs vs : List MadeVersion) (i : ℕ) → i < length vs → (get_or (places_from bs vs) i root).branch ≡ (get_or vs i no_made).branch
place_branch bs [] i h = absurd (omega (arith, h))
place_branch bs (v ∷ vs) zero h = refl
place_branch bs (v ∷ vs) (suc i) h = place_branch (bs ++ v ∷ []) vs i (omega (arith, h))

-- ---- what the parts keep, before anything is made of them

module _ (p : LayoutParts) (sound : AreSound p) where
  abbrev d : Dataset
  d = dataset_in (layout_of_parts p)

  branches_count : length (dataset_in (layout_of_parts p)).branches ≡ length p.branches
  branches_count = length-map (layout_of_parts p).lanes (branch_of p.schema (layout_of_parts p).segments) ∙ length-map-range_with_len (lane_laid p) 0 (length p.branches)

  pub few_parts : length p.branches ≤ 1024
  few_parts = let n = branches_count in let f = sound.sound.few_branches in omega (arith, n, f)

  pub few_segments : (r : ℕ) → r < length p.schema → length (parts_of r p.segments) < 2048
  few_segments r h = let f = sound.few r h in let w = few_parts in omega (arith, f, w)

  pub made_there : (i : ℕ) → i < length p.versions → (get_or p.versions i no_made).branch < length p.branches
  made_there i h =
      let n = places_count [] p.versions in
      let c = branches_count in
      let made = (sound.sound.ordered (suc i) (omega (arith, n, h))).0 in
      let e = place_branch [] p.versions i h in
      omega (arith, made, e, c)

  pub few_seconds : (b : ℕ) → b < length p.branches → length (seconds_of b p.versions) ≤ 65536
  few_seconds b h =
      let c = branches_count in
      let m = length-map-range_with_len (lane_laid p) 0 (length p.branches) in
      let lane : get_or (layout_of_parts p).lanes b no_lane ≡ lane_laid p b = get_or-map-range_with_len (lane_laid p) 0 (length p.branches) b b no_lane h (omega arith) in
      let is : branch_at d b ≡ branch_of p.schema (layout_of_parts p).segments (lane_laid p b) =
      get_or-map (branch_of p.schema (layout_of_parts p).segments) (layout_of_parts p).lanes b no_lane no_branch (omega (arith, m, h)) ∙ ap (branch_of p.schema (layout_of_parts p).segments) lane in
      let v = ap (λ (x : Branch). length x.versions) is in
      let w = versions_count (table_in p.schema (layout_of_parts p).segments (lane_laid p b)) 0 (seconds_of b p.versions) in
      let f = sound.sound.few_versions b (omega (arith, c, h)) in
      omega (arith, v, w, f)

-- ---- the branches

pub bare_told : (p : LayoutParts) (begun lanes : List KeptLane) (b : ℕ) → get_or begun b no_kept ≡ begun_bare (get_or p.branches b no_branch_part) (get_or (bases_from [] p.branches) b root) (map (λ r. rows_of_parts p.segments b r) (range_with_len 0 (length p.schema)))
    → AreWith begun p.versions lanes → b < length begun → get_or lanes b no_kept ≡ bare_of p b
bare_told p begun lanes b is was h = was.each b h ∙ ap (λ (k : KeptLane). record k { seconds = seconds_of b p.versions }) is

pub seen_told : (p : LayoutParts) (lists : List KeptList) (told k : KeptLane) (b : ℕ) → told ≡ bare_of p b → IsSeenLane lists told k → (bare k ≡ bare_of p b) × AreSeenBy lists (length k.seconds - 1) k.rows (length p.schema) k.head
seen_told p lists told k b e is = (is.same ∙ e, subst (λ n. AreSeenBy lists (length k.seconds - 1) k.rows n k.head) wide (subst (λ (x : KeptLane). AreSeenBy lists (length x.seconds - 1) x.rows (length x.rows) k.head) (sym is.same) is.seen))
  where
    wide : length k.rows ≡ length p.schema
    wide = ap (λ (x : KeptLane). length x.rows) (is.same ∙ e) ∙ length_by p.schema (λ r. rows_of_parts p.segments b r)

-- ---- the versions by number

module _ (schema : List Relation) (lanes : List KeptLane) (order : List VersionPlace) (lists : List KeptList) (sound : IsSound (kept_dataset schema lanes order lists)) (ordered : IsOrdered (kept_dataset schema lanes order lists)) where
  abbrev kept : Dataset
  kept = kept_dataset schema lanes order lists

  place : (i : ℕ) → i < length order → IsPlaceIn lanes (get_or order i root)
  place i h = made_kept schema lanes order lists (get_or order i root) (sound.ordered i h)

  proper_same : (at : VersionPlace) → at.branch < length lanes → proper (kept_dataset schema lanes order lists) at ≡ proper_in lanes at
  proper_same at h = ap (λ (v : VersionPlace). cond (at.position == 0) v at) (sym (kept_base schema lanes order lists at.branch h))

  second_made : (i : ℕ) (at : VersionPlace) → i < length order → second_in lanes (get_or order i root) ≡ Some at → at.branch < length lanes
  second_made i at h e =
      let here = place i h in
      (made_kept schema lanes order lists at (sound.seconds (get_or order i root) at (sound.ordered i h) (sym (kept_second schema lanes order lists (get_or order i root) here.0 here.1) ∙ e))).0

  second_same : (o : Option VersionPlace) → ((at : VersionPlace) → o ≡ Some at → at.branch < length lanes) → proper_if (kept_dataset schema lanes order lists) o ≡ proper_if_in lanes o
  second_same None f = refl
  second_same (Some at) f = ap Some (proper_same at (f at refl))

  parents_same : (i : ℕ) → 0 < i → i < length order → parent_numbers (kept_dataset schema lanes order lists) (get_or order i root) ≡ parents_in lanes order (get_or order i root)
  parents_same i g h =
      let at : VersionPlace = get_or order i root in
      let here = place i h in
      let later = ordered.later i g h in
      let no : (at.position == 0) ≡ false = ne_eqb at.position 0 (λ e. absurd (omega (arith, later, e))) in
      let first : first_parent kept at ≡ Some (proper_in lanes (before at)) = ap (λ b. cond b None (Some (proper kept (before at)))) no ∙ ap Some (proper_same (before at) here.0) in
      let second : second_parent kept at ≡ proper_if_in lanes (second_in lanes at) =
      ap (λ b. cond b None (proper_if kept (version_at kept at).second)) no
      ∙ ap (proper_if kept) (sym (kept_second schema lanes order lists at here.0 here.1))
      ∙ second_same (second_in lanes at) (λ to e. second_made i to h e) in
      (λ j. numbers_if order (first j) ++ numbers_if order (second j))

  pub can_line : length order < 2 ^ 32 → CanLine lanes order
  can_line few = record {
    some = ordered.some;
    few = few;
    once = ordered.once;
    there = λ i g h. place i h;
    later = ordered.later;
    seconds = λ i at g h e. second_made i at h e;
    earlier = λ i g h. subst (λ (ns : List ℕ). All (λ n. n < i) ns) (parents_same i g h) (ordered.earlier i h);
  }

  pub is_lined : (versions : List (List ℕ)) → AreLined lanes order (length order) versions → versions ≡ lineage (kept_dataset schema lanes order lists)
  is_lined versions are =
      let n = length-map order (parent_numbers kept) in
      let c = are.count in
      ext_get_or [] versions (map (parent_numbers kept) order) (c ∙ sym n) (λ i h.
      let lt : i < length order = omega (arith, c, h) in by i lt (cases_eq i 0) ∙ sym (get_or-map (parent_numbers kept) order i root [] lt))
    where
      by : (i : ℕ) → i < length order → (i ≡ 0) ⊎ (i ≢ 0) → get_or versions i [] ≡ parent_numbers (kept_dataset schema lanes order lists) (get_or order i root)
      by i lt (inl e) = ap (λ k. get_or versions k []) e ∙ are.first ∙ ap (parent_numbers (kept_dataset schema lanes order lists)) (sym ordered.first) ∙ ap (λ k. parent_numbers (kept_dataset schema lanes order lists) (get_or order k root)) (sym e)
      by i lt (inr n) = let g : 0 < i = omega (arith, n) in are.each i g lt ∙ sym (parents_same i g lt)

  pub are_named : AreNamed lanes
  are_named b h =
      let c = kept_count schema lanes order lists in
      names_same schema lanes order lists (get_or lanes b no_kept).name ∙ ap (branch_named kept) (kept_name schema lanes order lists b h) ∙ sound.named b (omega (arith, c, h))
