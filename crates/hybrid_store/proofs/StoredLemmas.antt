-- The branches of the dataset of what a store keeps.
use Rattle.std.proofs.Common.{◌≡◌, ℕ, zero, suc, ◌<◌, List, [], ◌∷◌, length, map, get_or, Option, None, refl, arith, ap, sym, ◌∙◌}
use Rattle.std.proofs.lemmas.List.{length-map, get_or-map}
use Rattle.db_value.specs.declared.schema.Relation.{Relation}
use Rattle.db_value.specs.declared.version.VersionPlace.{VersionPlace}
use Rattle.db_store.specs.Table.{Table}
use Rattle.db_store.specs.Dataset.{Branch, no_branch, branch_at, no_version, version_at}
use Rattle.db_store.specs.Layout.{no_lane, branch_of, versions_from, table_in}
use Rattle.bit_rows.specs.Kept.{KeptLane, no_kept}
use Rattle.hybrid_store.specs.Lanes.{lane_of, kept_layout}
use Rattle.bit_rows.specs.Segments.{KeptList}
use Rattle.hybrid_store.specs.Stored.{kept_dataset}

pub versions_count : (table : ℕ → Table) (n : ℕ) (ss : List (Option VersionPlace)) → length (versions_from table n ss) ≡ length ss
versions_count table n [] = refl
versions_count table n (s ∷ ss) = ap suc (versions_count table (suc n) ss)

second_from : (table : ℕ → Table) (n : ℕ) (ss : List (Option VersionPlace)) (i : ℕ) → i < length ss → (get_or (versions_from table n ss) i no_version).second ≡ get_or ss i None
second_from table n [] i h = absurd (omega (arith, h))
second_from table n (s ∷ ss) zero h = refl
second_from table n (s ∷ ss) (suc i) h = second_from table (suc n) ss i (omega (arith, h))

module _ (schema : List Relation) (lanes : List KeptLane) (order : List VersionPlace) (segments : List KeptList) where
  pub kept_count : length (kept_dataset schema lanes order segments).branches ≡ length lanes
  kept_count = length-map (map (lane_of schema) lanes) (branch_of schema (kept_layout schema lanes order segments).segments) ∙ length-map lanes (lane_of schema)

  pub kept_branch : (b : ℕ) → b < length lanes → branch_at (kept_dataset schema lanes order segments) b ≡ branch_of schema (kept_layout schema lanes order segments).segments (lane_of schema (get_or lanes b no_kept))
  kept_branch b h =
      get_or-map (branch_of schema (kept_layout schema lanes order segments).segments) (map (lane_of schema) lanes) b no_lane no_branch (let n = length-map lanes (lane_of schema) in omega (arith, n, h))
      ∙ ap (branch_of schema (kept_layout schema lanes order segments).segments) (get_or-map (lane_of schema) lanes b no_kept no_lane h)

  pub kept_name : (b : ℕ) → b < length lanes → (get_or lanes b no_kept).name ≡ (branch_at (kept_dataset schema lanes order segments) b).name
  kept_name b h = sym (ap (λ (x : Branch). x.name) (kept_branch b h))

  pub kept_base : (b : ℕ) → b < length lanes → (get_or lanes b no_kept).base ≡ (branch_at (kept_dataset schema lanes order segments) b).base
  kept_base b h = sym (ap (λ (x : Branch). x.base) (kept_branch b h))

  pub kept_versions : (b : ℕ) → b < length lanes → length (get_or lanes b no_kept).seconds ≡ length (branch_at (kept_dataset schema lanes order segments) b).versions
  kept_versions b h =
      let k : KeptLane = get_or lanes b no_kept in
      sym (ap (λ (x : Branch). length x.versions) (kept_branch b h) ∙ versions_count (table_in schema (kept_layout schema lanes order segments).segments (lane_of schema k)) 0 k.seconds)

  pub kept_second : (at : VersionPlace) → at.branch < length lanes → at.position < length (get_or lanes at.branch no_kept).seconds
      → get_or (get_or lanes at.branch no_kept).seconds at.position None ≡ (version_at (kept_dataset schema lanes order segments) at).second
  kept_second at h g =
      let k : KeptLane = get_or lanes at.branch no_kept in
      sym (second_from (table_in schema (kept_layout schema lanes order segments).segments (lane_of schema k)) 0 k.seconds at.position g)
      ∙ sym (ap (λ (x : Branch). (get_or x.versions at.position no_version).second) (kept_branch at.branch h))
