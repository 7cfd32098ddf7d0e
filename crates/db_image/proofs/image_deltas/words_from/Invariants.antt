use Rattle.std.proofs.Common.{◌≡◌, ◌≤◌, ◌-◌, map}
use Rattle.std.specs.List.{range_with_len}
use Rattle.hybrid_view.specs.Deltas.{slots_of}
use Rattle.db_image.specs.Images.{word_in}
use Rattle.db_image.proofs.image_deltas.words_from.Given as goal

abbrev pub invariant-loop-at : goal.invariant-loop-at
invariant-loop-at l = record {
  words : l.words.items ≡ map (word_in (slots_of l.bits)) (range_with_len l.first (l.at - l.first));
  within : l.at - l.first ≤ l.end - l.first;
}
