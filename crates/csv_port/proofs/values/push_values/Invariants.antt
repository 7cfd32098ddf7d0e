use Rattle.std.proofs.Common.{◌≡◌, ◌++◌, ◌+◌, length}
use Rattle.std.specs.List.{flat_map}
use Rattle.csv_port.specs.Written.{next_text}
use Rattle.csv_port.proofs.values.push_values.Given as goal

-- what is written, and the values that are left, are all values
abbrev pub invariant-loop : goal.invariant-loop
invariant-loop l = record {
  text : l.out.items ++ flat_map next_text l.walk ≡ l.initial.out.items ++ flat_map next_text l.fields;
  left : length l.walk + l.counter ≡ length l.fields;
}
