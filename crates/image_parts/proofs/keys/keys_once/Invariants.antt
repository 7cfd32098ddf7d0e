use Rattle.std.proofs.Common.{◌≡◌, ◌-◌, ℕ, length}
use Rattle.std.specs.List.{list_all, range_with_len}
use Rattle.image_text.specs.Reading.{last_of}
use Rattle.image_parts.specs.Whole.{is_keyed, keys_once}
use Rattle.image_parts.proofs.keys.keys_once.Given as goal

abbrev pub invariant-branches : goal.invariant-branches
invariant-branches l = list_all (λ (b : ℕ). is_keyed l.segments (last_of l.lasts b) b) (range_with_len l.i (length l.lasts - l.i)) ≡ keys_once l.lasts l.segments
