use Rattle.std.proofs.Common.{◌≡◌, ◌≤◌, ◌<◌, ◌-◌, length}
use Rattle.std.specs.List.{All}
use Rattle.plain_bits.specs.Truth.{bit_of}
use Rattle.db_store.specs.Layout.{slots_where}
use Rattle.bit_rows.specs.Short.{end_of}
use Rattle.bit_rows.proofs.rows.places_of.Given as goal

abbrev pub invariant-places : goal.invariant-places
invariant-places l = record {
  within : l.end ≤ length l.bits;
  same : l.places.items ≡ slots_where (bit_of l.bits) l.end;
  end : l.end ≡ end_of l.places.items;
  all : All (λ place. place < l.end) l.places.items;
}

abbrev pub decreases-places : goal.decreases-places
decreases-places l = length l.bits - l.end
