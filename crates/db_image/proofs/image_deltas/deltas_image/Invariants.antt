use Rattle.std.proofs.Common.{◌≡◌, ◌<◌, ◌^◌, map, take, length}
use Rattle.std.specs.List.{All}
use Rattle.hybrid_view.specs.Deltas.{slots_of}
use Rattle.db_image.specs.Images.{delta_image}
use Rattle.db_image.proofs.image_deltas.deltas_image.Given as goal

abbrev pub invariant-loop-index : goal.invariant-loop-index
invariant-loop-index l = record {
  value : l.made.items ≡ map delta_image (map slots_of (take l.index l.history));
  few : All (λ d. length d.words < 2 ^ 32) l.made.items;
}
