use Rattle.std.proofs.Common.{take}
use Rattle.db_store.specs.Parts.{part_at, live_rows}
use Rattle.field_merge.specs.Shared.{Takes}
use Rattle.field_merge.proofs.unshared.gather_shared.Given as goal

-- what the slots so far have
abbrev pub invariant-loop-slot : goal.invariant-loop-slot
invariant-loop-slot g l =
    Takes (live_rows (take l.slot (part_at (g.B.View.parts_of l.base l.relation) l.at.base).slots))
    (live_rows (take l.slot (part_at (g.L.View.parts_of l.left l.relation) l.at.left).slots))
    (live_rows (take l.slot (part_at (g.R.View.parts_of l.right l.relation) l.at.right).slots)) l.initial.sides l.sides
