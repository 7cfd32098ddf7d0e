use Rattle.std.proofs.Common.{◌≡◌, ◌-◌, drop, length}
use Rattle.db_value.specs.Widths.{meets}
use Rattle.db_value.specs.Spelling.{fields_in, values_in}
use Rattle.db_value.proofs.widths.packed_meet.Given as goal

-- the columns that are left decide
abbrev pub invariant-loop-at : goal.invariant-loop-at
invariant-loop-at l = meets (drop l.at l.widths) (values_in (length l.widths - l.at) l.rest) ≡ meets l.widths (fields_in l.packed)
