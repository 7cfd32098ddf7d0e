use Rattle.std.proofs.Common.{◌≡◌, ◌-◌, suc, ℕ}
use Rattle.std.specs.List.{list_all, range_with_len}
use Rattle.image_parts.specs.Whole.{keys_at, is_table, is_keyed}
use Rattle.image_parts.specs.Walk.{Agrees, Shows}
use Rattle.image_parts.proofs.keys.is_keyed.Given as goal

abbrev pub invariant-positions : goal.invariant-positions
invariant-positions l = Agrees l.numbers l.walk × Shows l.branch l.segments l.n l.walk.bits.items
    × (list_all (λ (n : ℕ). is_table (keys_at l.branch n l.segments)) (range_with_len l.n (suc l.last - l.n)) ≡ is_keyed l.segments l.last l.branch)
