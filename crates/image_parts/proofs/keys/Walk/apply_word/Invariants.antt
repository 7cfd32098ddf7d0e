use Rattle.std.proofs.Common.{◌≡◌, ◌<◌, ◌≤◌, ◌-◌, true}
use Rattle.image_parts.specs.Walk.{Agrees, Flips}
use Rattle.image_parts.specs.Whole.{word_bit}
use Rattle.image_parts.proofs.Flips.{first_bits}
use Rattle.image_parts.proofs.keys.Walk.apply_word.Given as goal

abbrev pub invariant-bits : goal.invariant-bits
invariant-bits l = record {
  agrees : Agrees l.numbers l.self;
  flips : Flips l.base l.size (first_bits l.at l.word l.k) l.fn.self.bits.items l.self.bits.items;
  within : l.k ≤ 64;
  found : l.k < 64 → word_bit l.word l.k ≡ true;
}

abbrev pub decreases-bits : goal.decreases-bits
decreases-bits l = 64 - l.k
