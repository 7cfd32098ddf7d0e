use Rattle.std.proofs.Common.{◌≡◌, ◌≤◌, length}
use Rattle.std.specs.List.{All, flat_map, range_with_len}
use Rattle.hybrid_store.specs.Store.{layout_of}
use Rattle.image_text.specs.Spelling.{FitsRow}
use Rattle.db_image.specs.Images.{row_image}
use Rattle.db_image.proofs.image_segments.rows_image.Given as goal

abbrev pub invariant-loop-branch : goal.invariant-loop-branch
invariant-loop-branch l = record {
  rows : l.rows.items ≡ flat_map (row_image (layout_of l.store) l.relation l.segment) (range_with_len 0 l.branch);
  fits : All FitsRow l.rows.items;
  few : length l.rows.items ≤ l.branch;
}
