use Rattle.std.proofs.Common.{◌≡◌, ◌∷◌, [], drop, map}
use Rattle.lock_table.specs.Rows.{holds}
use Rattle.lock_table.specs.Kept.{row_of}
use Rattle.lock_table.proofs.lock.has_conflict.Given as goal

abbrev pub invariant-loop-grant : goal.invariant-loop-grant
invariant-loop-grant l = holds l.session (l.need ∷ []) (map (row_of l.need.lock) l.fn.grants) ≡ holds l.session (l.need ∷ []) (map (row_of l.need.lock) (drop l.grant-index l.fn.grants))
