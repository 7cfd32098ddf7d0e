use Rattle.std.proofs.Common.{◌≡◌, ◌<◌, ℕ, length, get_or}
use Rattle.image_parts.proofs.keys.places_of.Given as goal

abbrev pub invariant-keys : goal.invariant-keys
invariant-keys l = record {
  len : length l.places.items ≡ l.i;
  at : (k : ℕ) → k < l.i → get_or l.places.items k (0, 0) ≡ (get_or l.fn.keys k 0, k);
}
