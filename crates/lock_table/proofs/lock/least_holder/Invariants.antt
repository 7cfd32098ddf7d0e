use Rattle.std.proofs.Common.{◌≡◌, ◌≤◌, ◌∷◌, [], drop, length, map}
use Rattle.lock_table.specs.Rows.{holder}
use Rattle.lock_table.specs.Kept.{row_of}
use Rattle.lock_table.proofs.lock.least_holder.Given as goal

abbrev pub invariant-loop-i : goal.invariant-loop-i
invariant-loop-i l =
    (l.least ≡ holder l.session (l.need ∷ []) (map (row_of l.need.lock) (drop l.i l.grants))) × (l.i ≤ length l.grants)

abbrev pub decreases-loop-i : goal.decreases-loop-i
decreases-loop-i l = l.i
