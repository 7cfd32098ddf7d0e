use Rattle.std.proofs.Common.{◌≡◌, ◌≤◌, map, length}
use Rattle.std.specs.List.{All, range_with_len}
use Rattle.db_store.specs.Layout.{lane_at}
use Rattle.hybrid_store.specs.Store.{layout_of}
use Rattle.image_text.specs.declared.image.BranchPart.{BranchPart}
use Rattle.db_image.specs.Images.{branch_image}
use Rattle.db_image.proofs.image_versions.branches_image.Given as goal

abbrev pub invariant-loop-branch : goal.invariant-loop-branch
invariant-loop-branch l = record {
  value : l.made.items ≡ map (λ b. branch_image (lane_at (layout_of l.store) b)) (range_with_len 0 l.branch);
  short : All (λ (b : BranchPart). length b.name ≤ 32) l.made.items;
}
