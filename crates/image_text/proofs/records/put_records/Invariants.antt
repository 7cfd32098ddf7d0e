use Rattle.std.proofs.Common.{◌≡◌, ◌++◌, take}
use Rattle.image_text.proofs.records.put_records.Given as goal

abbrev pub invariant-loop-slot : goal.invariant-loop-slot
invariant-loop-slot g l = l.all ≡ record l.fn.longer { records = l.fn.longer.records ++ take l.slot l.page.records }
