-- All that holds of a store that is made of parts.
use Rattle.std.proofs.Common.{◌≡◌, ℕ, ◌-◌, ◌^◌, ◌<◌, ◌≤◌, List, [], length, map, get_or, arith, ap, sym, ◌∙◌, subst}
use Rattle.std.specs.List.{range_with_len, All}
use Rattle.std.proofs.lemmas.List.{get_or_default}
use Rattle.db_value.specs.declared.version.VersionPlace.{VersionPlace}
use Rattle.db_store.specs.Dataset.{root}
use Rattle.db_store.specs.Order.{lineage, IsOrdered}
use Rattle.db_store.specs.Sound.{IsSound}
use Rattle.db_store.specs.Counted.{IsCounted}
use Rattle.db_store.specs.Layout.{Layout, dataset_in}
use Rattle.db_store.specs.LaidOut.{IsLaid}
use Rattle.bit_rows.specs.Kept.{KeptLane, no_kept}
use Rattle.bit_rows.specs.Segments.{KeptList}
use Rattle.store_catalogue.specs.ByName.{Numbers, AreNumbers}
use Rattle.hybrid_store.specs.declared.made.MadeVersion.{MadeVersion}
use Rattle.hybrid_store.specs.declared.parts.BranchPart.{BranchPart}
use Rattle.hybrid_store.specs.declared.parts.SegmentPart.{SegmentPart}
use Rattle.hybrid_store.specs.declared.parts.LayoutParts.{LayoutParts}
use Rattle.hybrid_store.specs.Lanes.{kept_layout}
use Rattle.hybrid_store.specs.Stored.{kept_dataset, HasRoom, IsStored}
use Rattle.hybrid_store.specs.Parts.{bases_from, no_branch_part, order_of, layout_of_parts, AreSound}
use Rattle.hybrid_store.specs.Assembled.{rows_of_parts, begun_bare, bare, bare_of, AreLists, AreWith, AreSeenBy, CanSeeLane, IsSeenLane}
use Rattle.hybrid_store.specs.PartLines.{named_of, AreNamed, CanLine, AreLined}
use Rattle.hybrid_store.proofs.PartLayout.{layout_told}
use Rattle.hybrid_store.proofs.PartStored.{can_see, is_stored}
use Rattle.hybrid_store.proofs.PartStore.{names_same, bare_told, seen_told, can_line, is_lined, are_named}

-- branches as the parts tell, without what their last versions have
pub record Told (p : LayoutParts) (lanes : List KeptLane) : Type 0 where
  pub count : length lanes ≡ length p.branches
  pub told : (b : ℕ) → b < length p.branches → get_or lanes b no_kept ≡ bare_of p b

pub told_made : (p : LayoutParts) (w : ℕ) (bs : List BranchPart) (ss : List SegmentPart) (vs : List MadeVersion) → w ≡ length p.schema → bs ≡ p.branches → ss ≡ p.segments → vs ≡ p.versions
    → (begun lanes : List KeptLane) → length begun ≡ length bs
    → ((b : ℕ) → b < length bs → get_or begun b no_kept ≡ begun_bare (get_or bs b no_branch_part) (get_or (bases_from [] bs) b root) (map (λ r. rows_of_parts ss b r) (range_with_len 0 w)))
    → AreWith begun vs lanes → Told p lanes
told_made p w bs ss vs wi bi si vi begun lanes n each was =
    let m = ap (λ (xs : List BranchPart). length xs) bi in
    let c = was.count in
    record {
      count = omega (arith, n, m, c);
      told = λ b h. bare_told p begun lanes b
          (each b (omega (arith, h, m)) ∙ (λ j. begun_bare (get_or (bi j) b no_branch_part) (get_or (bases_from [] (bi j)) b root) (map (λ r. rows_of_parts (si j) b r) (range_with_len 0 (wi j)))))
          (subst (λ (xs : List MadeVersion). AreWith begun xs lanes) vi was) (omega (arith, h, m, n));
    }

-- and with it
pub record Made (p : LayoutParts) (lanes : List KeptLane) (order : List VersionPlace) (lists : List KeptList) : Type 0 where
  pub count : length lanes ≡ length p.branches
  pub told : (b : ℕ) → b < length p.branches → bare (get_or lanes b no_kept) ≡ bare_of p b
  pub heads : (b : ℕ) → b < length p.branches → AreSeenBy lists (length (get_or lanes b no_kept).seconds - 1) (get_or lanes b no_kept).rows (length p.schema) (get_or lanes b no_kept).head
  pub room : (b : ℕ) → b < length p.branches → length (get_or lanes b no_kept).seconds ≤ (get_or lanes b no_kept).room
  pub versions : order ≡ order_of p.versions
  pub segments : AreLists (length p.schema) p.segments lists

pub all_made : (p : LayoutParts) (w : ℕ) (vs : List MadeVersion) (slice lists : List KeptList) (order : List VersionPlace) → w ≡ length p.schema → vs ≡ p.versions → slice ≡ lists
    → (old lanes : List KeptLane) → Told p old → order ≡ order_of vs → AreLists w p.segments lists → length lanes ≡ length old
    → ((b : ℕ) → b < length old → IsSeenLane slice (get_or old b no_kept) (get_or lanes b no_kept)) → Made p lanes order lists
all_made p w vs slice lists order wi vi li old lanes was o are n each =
    let c = was.count in
    let seen : (b : ℕ) → b < length p.branches → IsSeenLane lists (get_or old b no_kept) (get_or lanes b no_kept) = λ b h. subst (λ (ls : List KeptList). IsSeenLane ls (get_or old b no_kept) (get_or lanes b no_kept)) li (each b (omega (arith, h, c))) in
    record {
      count = n ∙ c;
      told = λ b h. (seen_told p lists (get_or old b no_kept) (get_or lanes b no_kept) b (was.told b h) (seen b h)).0;
      heads = λ b h. (seen_told p lists (get_or old b no_kept) (get_or lanes b no_kept) b (was.told b h) (seen b h)).1;
      room = λ b h. (seen b h).room;
      versions = o ∙ ap order_of vi;
      segments = subst (λ k. AreLists k p.segments lists) wi are;
    }

-- what is asked to see the last versions
pub told_seen : (p : LayoutParts) (w : ℕ) (slice lists : List KeptList) → AreSound p → w ≡ length p.schema → slice ≡ lists → (lanes : List KeptLane) → Told p lanes → AreLists w p.segments lists → (b : ℕ) → b < length lanes → CanSeeLane slice (get_or lanes b no_kept)
told_seen p w slice lists sound wi li lanes was are b h =
    subst (λ (ls : List KeptList). CanSeeLane ls (get_or lanes b no_kept)) (sym li)
    (can_see p sound lanes lists was.count (λ x l. ap bare (was.told x l)) (subst (λ k. AreLists k p.segments lists) wi are) b h)

module _ (p : LayoutParts) (sound : AreSound p) (lanes : List KeptLane) (order : List VersionPlace) (lists : List KeptList) (made : Made p lanes order lists) where
  pub made_layout : kept_layout p.schema lanes order lists ≡ layout_of_parts p
  made_layout = ap (λ (vs : List VersionPlace). kept_layout p.schema lanes vs lists) made.versions ∙ layout_told p lanes lists made.count made.told made.segments

  pub made_laid : IsLaid (kept_layout p.schema lanes order lists)
  made_laid = subst IsLaid (sym made_layout) sound.laid

  pub made_sound : IsSound (kept_dataset p.schema lanes order lists)
  made_sound = subst (λ (l : Layout). IsSound (dataset_in l)) (sym made_layout) sound.sound

  pub made_counted : IsCounted (kept_dataset p.schema lanes order lists)
  made_counted = subst (λ (l : Layout). IsCounted (dataset_in l)) (sym made_layout) sound.counted

  pub made_ordered : IsOrdered (kept_dataset p.schema lanes order lists)
  made_ordered = subst (λ (l : Layout). IsOrdered (dataset_in l)) (sym made_layout) sound.ordered

  pub made_stored : IsStored p.schema lanes lists
  made_stored = let c = made.count in is_stored p sound lanes lists c made.told made.segments (λ b h. made.heads b (omega (arith, h, c)))

  pub made_named : AreNamed lanes
  made_named = are_named p.schema lanes order lists made_sound made_ordered

  pub made_line : length order < 2 ^ 32 → CanLine lanes order
  made_line few = can_line p.schema lanes order lists made_sound made_ordered few

  pub made_lined : (versions : List (List ℕ)) → AreLined lanes order (length order) versions → versions ≡ lineage (kept_dataset p.schema lanes order lists)
  made_lined versions are = is_lined p.schema lanes order lists made_sound made_ordered versions are

  pub made_numbers : (numbers : Numbers) → AreNumbers numbers (named_of lanes) → AreNumbers numbers (kept_dataset p.schema lanes order lists)
  made_numbers numbers are name = are name ∙ names_same p.schema lanes order lists name

  pub made_rooms : All (HasRoom 0) lanes
  made_rooms b d h =
      let c = made.count in
      let r = made.room b (omega (arith, h, c)) in
      subst (HasRoom 0) (get_or_default lanes b no_kept d h) (omega (arith, r))
