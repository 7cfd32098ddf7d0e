use Rattle.std.proofs.Common.{◌≡◌, ◌<◌, ◌≤◌, ◌*◌, ℕ, [], length, get_or}
use Rattle.lock_table.specs.Kept.{LockGrants}
use Rattle.lock_table.specs.declared.blocks.TheConstants.{BLOCK}
use Rattle.lock_table.proofs.blocks.is_idle.Given as goal

abbrev pub invariant-loop-at : goal.invariant-loop-at
invariant-loop-at l = (i : ℕ) (d : LockGrants) → l.block * BLOCK ≤ i → i < l.at → i < length l.locks → (get_or l.locks i d).grants ≡ []
