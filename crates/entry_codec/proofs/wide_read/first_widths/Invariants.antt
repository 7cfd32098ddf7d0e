use Rattle.std.proofs.Common.{◌≡◌, ◌≤◌, ◌-◌, length, take, drop, option_map}
use Rattle.db_store.specs.Body.{wide_size}
use Rattle.entry_codec.specs.Wide.{widths_in, ahead}
use Rattle.entry_codec.proofs.wide_read.first_widths.Given as goal

-- the widths so far, and those that are left
abbrev pub invariant-loop-i : goal.invariant-loop-i
invariant-loop-i l = record {
  long : length l.widths ≡ 15;
  within : l.at ≤ length l.bytes;
  size : l.at ≡ wide_size (take l.i l.widths);
  same : widths_in l.count l.bytes ≡ option_map (ahead (take l.i l.widths)) (widths_in (l.count - l.i) (drop l.at l.bytes));
}
