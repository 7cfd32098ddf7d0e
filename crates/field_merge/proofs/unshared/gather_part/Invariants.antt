use Rattle.std.proofs.Common.{◌≡◌, ◌++◌, take}
use Rattle.db_store.specs.Parts.{part_at, live_rows}
use Rattle.field_merge.proofs.unshared.gather_part.Given as goal

-- the live records of the slots so far
abbrev pub invariant-loop-slot : goal.invariant-loop-slot
invariant-loop-slot g l = l.rows ≡ l.initial.rows ++ live_rows (take l.slot (part_at (g.V.View.parts_of l.view l.relation) l.index).slots)
