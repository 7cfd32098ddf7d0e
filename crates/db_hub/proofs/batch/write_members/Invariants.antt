use Rattle.std.proofs.Common.{◌≡◌, ◌+◌, length, drop}
use Rattle.db_hub.specs.Left.{written_for, MayWriteAll}
use Rattle.db_hub.proofs.batch.write_members.Given as goal

-- the lines from here on may be written, and make what all of them make
abbrev pub invariant-loop-i : goal.invariant-loop-i
invariant-loop-i g l = record {
  table : l.pen.note ≡ l.fn.note.note;
  may : MayWriteAll (drop l.i l.fn.numbers) (drop (l.fn.from + l.i) l.fn.steps) l.pen;
  at : length l.pen.lines ≡ l.fn.from + l.i;
  rest : written_for (drop l.i l.fn.numbers) (drop (l.fn.from + l.i) l.fn.steps) l.pen ≡ written_for l.fn.numbers (drop l.fn.from l.fn.steps) l.fn.pen;
}
