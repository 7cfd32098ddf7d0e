use Rattle.std.proofs.Common.{◌≡◌, drop}
use Rattle.db_store.specs.RowWidths.{most_from}
use Rattle.db_store.proofs.row_widths.most_in.Given as goal

-- the most so far, with the relations that are left, gives the most of all
abbrev pub invariant-loop-widths : goal.invariant-loop-widths
invariant-loop-widths l = most_from l.most (drop l.widths-index l.all) ≡ most_from 10 l.all
