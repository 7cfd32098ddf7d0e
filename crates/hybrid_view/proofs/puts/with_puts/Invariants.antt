use Rattle.std.proofs.Common.{◌≡◌, ◌++◌, drop}
use Rattle.segment.specs.Pages.{AreWide}
use Rattle.db_store.specs.LayoutGrowth.{puts}
use Rattle.hybrid_view.proofs.puts.with_puts.Given as goal

abbrev pub invariant-loop-at : goal.invariant-loop-at
invariant-loop-at l = record {
  widths : l.longer.widths ≡ l.segment.widths;
  records : l.longer.records ++ puts (drop l.at l.changes) l.relation ≡ l.segment.records ++ puts l.changes l.relation;
  wide : AreWide l.segment.widths (puts (drop l.at l.changes) l.relation);
}
