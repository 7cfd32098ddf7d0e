use Rattle.std.proofs.Common.{◌≡◌, length}
use Rattle.segment.specs.Pages.{AreWide}
use Rattle.benches.proofs.pages.rows_of.Given as goal

abbrev pub invariant-loop-key : goal.invariant-loop-key
invariant-loop-key l = record {
  count : length l.rows ≡ l.key;
  wide : AreWide l.widths l.rows;
}
