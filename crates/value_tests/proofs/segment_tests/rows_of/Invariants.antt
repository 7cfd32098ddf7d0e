use Rattle.std.proofs.Common.{◌≡◌, length}
use Rattle.segment.specs.Pages.{AreWide}
use Rattle.value_tests.proofs.segment_tests.rows_of.Given as goal

abbrev pub invariant-loop-place : goal.invariant-loop-place
invariant-loop-place l = record {
  count : length l.rows ≡ l.place;
  wide : AreWide l.widths l.rows;
}
