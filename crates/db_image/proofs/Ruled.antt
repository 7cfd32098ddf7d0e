-- The image of a layout keeps all rules of images.
use Rattle.std.proofs.Common.{◌≡◌, ◌-◌, ◌^◌, ◌<◌, true, ◌&&◌, List, length, arith}
use Rattle.std.specs.Prelude.{nat_lt, nat_le}
use Rattle.std.specs.List.{list_all}
use Rattle.std.proofs.lemmas.Bool.{and_parts, ltb-true}
use Rattle.std.proofs.lemmas.List.{length-map}
use Rattle.std.proofs.lemmas.List.FromFn.{length-map-range_with_len}
use Rattle.db_value.specs.Relations.{has_columns, is_counted}
use Rattle.db_value.specs.declared.schema.Relation.{Relation}
use Rattle.db_store.specs.Sound.{IsSound}
use Rattle.db_store.specs.Counted.{IsCounted}
use Rattle.db_store.specs.LaidOut.{IsLaid}
use Rattle.db_store.specs.Layout.{Layout, lane_at, branch_of, dataset_in}
use Rattle.db_store.proofs.SegmentLemmas.{length_by}
use Rattle.hybrid_store.specs.Readers.{made_version}
use Rattle.db_image.specs.Images.{branch_image, version_image, segments_image, image_of}
use Rattle.db_image.specs.Imaged.{AreWithin, AllNumbersFit, IsImaged}
use Rattle.db_image.specs.Rules.{IsRuled}
use Rattle.db_image.proofs.FewColumns.{few_relations}
use Rattle.db_image.proofs.RuledRows.{all_ruled}
use Rattle.db_image.proofs.RuledWhole.{whole_ruled}

some_relations : (rs : List Relation) → is_counted rs ≡ true → 0 < length rs
some_relations rs e = ltb-true 0 (length rs) (and_parts (nat_lt 0 (length rs)) (nat_le (length rs) 8) (and_parts (nat_lt 0 (length rs) && nat_le (length rs) 8) (list_all has_columns rs) e).0).0

pub ruled : (l : Layout) → IsLaid l → IsSound (dataset_in l) → IsCounted (dataset_in l) → AreWithin l → length l.order < 2 ^ 32 → AllNumbersFit l → IsImaged l → IsRuled (image_of l)
ruled l laid sound counted within few numbers is =
    let n = length-map-range_with_len (λ b. branch_image (lane_at l b)) 0 (length l.lanes) in
    let lanes = length-map l.lanes (branch_of l.schema l.segments) in
    let some = sound.some in
    let most = sound.few_branches in
    record {
      some_relations = some_relations l.schema counted.relations;
      few_relations = few_relations l.schema counted.relations;
      relations = is.relations;
      some_branches = omega (arith, n, lanes, some);
      few_branches = omega (arith, n, lanes, most);
      branches = is.lines.branches;
      few_versions = let m = length-map-range_with_len (λ i. version_image (made_version l i)) 0 (length l.order - 1) in omega (arith, m, few);
      versions = is.lines.versions;
      same_count = length_by l.schema (segments_image l);
      segments = all_ruled l laid sound within is.ordered is.segments numbers;
      whole = whole_ruled l laid sound counted within is.ordered is.segments numbers is.origins;
    }
