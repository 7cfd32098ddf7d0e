use Rattle.std.proofs.Common.{arith}
use Rattle.db_store.specs.Parts.{part_at}
use Rattle.field_merge.proofs.SplitLemmas.{rows_more}
use Rattle.field_merge.proofs.unshared.gather_part.Goals as goal

pub loop-slot-preserved : goal.loop-slot-preserved
loop-slot-preserved g c =
    rows_more c.args.rows.now c.loop-slot.rows c.gather_row.new.rows (part_at (g.V.View.parts_of c.args.view.now c.args.relation) c.args.index).slots c.loop-slot.slot
    (omega (arith, c.loop-slot-test.true, c.part-info.ensures.slots)) c.loop-slot.invariant c.in_ok-gather_row.ensures
