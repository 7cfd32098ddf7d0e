use Rattle.std.proofs.Common.{◌≡◌, ℕ, ◌<◌, [], map, get_or}
use Rattle.std.specs.List.{All, range_with_len}
use Rattle.db_value.specs.Relations.{widths_at}
use Rattle.hybrid_store.specs.Store.{layout_of}
use Rattle.image_text.specs.Spelling.{FitsSegments}
use Rattle.db_image.specs.Imaged.{AllAreRanged}
use Rattle.db_image.specs.Images.{segments_image}
use Rattle.db_image.proofs.image_segments.all_segments.Given as goal

abbrev pub invariant-loop-relation : goal.invariant-loop-relation
invariant-loop-relation l = record {
  value : l.made.items ≡ map (segments_image (layout_of l.store)) (range_with_len 0 l.relation);
  fits : (r : ℕ) → r < l.relation → FitsSegments (widths_at (layout_of l.store).schema r) (get_or l.made.items r []);
  ranged : All AllAreRanged l.made.items;
}
