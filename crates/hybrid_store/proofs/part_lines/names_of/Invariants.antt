use Rattle.std.proofs.Common.{◌≡◌, ◌≤◌, take}
use Rattle.std.specs.FinMap.{len}
use Rattle.db_store.specs.Fits.{most_branches}
use Rattle.store_catalogue.specs.ByName.{AreNumbers}
use Rattle.hybrid_store.specs.PartLines.{named_of}
use Rattle.hybrid_store.proofs.part_lines.names_of.Given as goal

abbrev pub invariant-loop-index : goal.invariant-loop-index
invariant-loop-index l = record {
  numbers : AreNumbers l.names.numbers (named_of (take l.index l.lanes));
  count : len l.names.numbers ≡ l.index;
  room : most_branches ≤ l.names.room;
}
