use Rattle.std.proofs.Common.{◌≡◌, map, drop}
use Rattle.bit_rows.specs.Rows.{laid_row}
use Rattle.hybrid_store.specs.Readers.{place_from}
use Rattle.hybrid_store.proofs.readers.place_in.Given as goal

abbrev pub invariant-loop-index : goal.invariant-loop-index
invariant-loop-index l = place_from l.index (map laid_row (drop l.index l.rows)) l.segment ≡ place_from 0 (map laid_row l.rows) l.segment
