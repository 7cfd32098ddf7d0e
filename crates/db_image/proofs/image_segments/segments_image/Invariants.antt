use Rattle.std.proofs.Common.{◌≡◌, map}
use Rattle.std.specs.List.{All, range_with_len}
use Rattle.db_value.specs.Relations.{widths_at}
use Rattle.hybrid_store.specs.Store.{layout_of}
use Rattle.image_text.specs.Spelling.{FitsSegment}
use Rattle.db_image.specs.Imaged.{AreRanged}
use Rattle.db_image.specs.Images.{segment_image}
use Rattle.db_image.proofs.image_segments.segments_image.Given as goal

abbrev pub invariant-loop-index : goal.invariant-loop-index
invariant-loop-index l = record {
  value : l.made.items ≡ map (segment_image (layout_of l.store) l.relation) (range_with_len 0 l.index);
  fits : All (FitsSegment (widths_at (layout_of l.store).schema l.relation)) l.made.items;
  ranged : All AreRanged l.made.items;
}
