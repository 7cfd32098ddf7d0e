use Rattle.std.proofs.Common.{◌≡◌, ◌++◌, take}
use Rattle.std.specs.List.{AllByRecursion}
use Rattle.db_value.specs.Value.{IsValue}
use Rattle.entry_codec.specs.Wide.{wide_bytes}
use Rattle.entry_codec.proofs.wide_write.push_wide.Given as goal

-- the fields so far were added
abbrev pub invariant-loop-at : goal.invariant-loop-at
invariant-loop-at l = record {
  bytes : l.out.items ≡ l.initial.out.items ++ wide_bytes (take l.at l.widths) (take l.at l.fields);
  are : AllByRecursion IsValue (take l.at l.fields);
}
