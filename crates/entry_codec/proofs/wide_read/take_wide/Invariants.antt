use Rattle.std.proofs.Common.{◌≡◌, ◌++◌, true, length, drop}
use Rattle.entry_codec.specs.Wide.{wide_in, are_wide}
use Rattle.entry_codec.proofs.wide_read.take_wide.Given as goal

-- the fields so far, and those that are left, are all
abbrev pub invariant-loop-at : goal.invariant-loop-at
invariant-loop-at l = record {
  many : length l.into ≡ l.at;
  wide : are_wide (drop l.at l.widths) l.rest ≡ true;
  same : l.into ++ wide_in (drop l.at l.widths) l.rest ≡ wide_in l.widths l.bytes;
}
