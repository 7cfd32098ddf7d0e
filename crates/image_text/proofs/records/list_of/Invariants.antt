use Rattle.std.proofs.Common.{◌≡◌, take}
use Rattle.image_text.proofs.records.list_of.Given as goal

abbrev pub invariant-loop-slot : goal.invariant-loop-slot
invariant-loop-slot g l = l.rows ≡ take l.slot l.segment.records
