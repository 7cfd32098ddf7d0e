use Rattle.std.proofs.Common.{◌<◌, ◌≤◌, length}
use Rattle.db_store.specs.Order.{number_in}
use Rattle.store_catalogue.proofs.numbers.number_in.Given as goal

-- it stands below
abbrev pub invariant-below : goal.invariant-below
invariant-below l = record {
  stands : number_in l.order l.at < l.number;
  within : l.number ≤ length l.order;
}

abbrev pub decreases-below : goal.decreases-below
decreases-below l = l.number
