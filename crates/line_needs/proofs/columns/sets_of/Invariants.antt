use Rattle.std.proofs.Common.{◌≡◌, ◌≤◌, ◌++◌, drop, length}
use Rattle.line_needs.specs.Columns.{sets_at}
use Rattle.line_needs.proofs.columns.sets_of.Given as goal

-- the new values so far, no more than were read, with those of the other columns are all
abbrev pub invariant-loop-place : goal.invariant-loop-place
invariant-loop-place l = (sets_at l.numbers l.values ≡ l.all ++ sets_at (drop l.place l.numbers) (drop l.place l.values)) × (length l.all ≤ l.place)
