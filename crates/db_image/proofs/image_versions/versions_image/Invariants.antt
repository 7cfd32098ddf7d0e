use Rattle.std.proofs.Common.{◌≡◌, map}
use Rattle.std.specs.List.{range_with_len}
use Rattle.hybrid_store.specs.Store.{layout_of}
use Rattle.hybrid_store.specs.Readers.{made_version}
use Rattle.db_image.specs.Images.{version_image}
use Rattle.db_image.proofs.image_versions.versions_image.Given as goal

abbrev pub invariant-loop-index : goal.invariant-loop-index
invariant-loop-index l = l.made.items ≡ map (λ i. version_image (made_version (layout_of l.store) i)) (range_with_len 0 l.index)
