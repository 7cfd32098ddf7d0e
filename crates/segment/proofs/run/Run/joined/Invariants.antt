use Rattle.std.proofs.Common.{◌++◌, ℕ, List, drop, map}
use Rattle.std.specs.Arc.{arc_value}
use Rattle.db_value.specs.declared.record.Record.{Record}
use Rattle.segment.specs.declared.run.Run.{Run}
use Rattle.segment.specs.Keys.{AreOf, AreRuns}
use Rattle.segment.proofs.run.Run.joined.Given as goal

abbrev pub invariant-loop-run : goal.invariant-loop-run
invariant-loop-run l =
    (records : List Record) (to : ℕ) (older : List Run)
    → AreOf records l.from to l.fn.slots.items
    → AreRuns records (map arc_value l.runs ++ older) l.from
    → AreOf records l.start to l.slots.items × AreRuns records (drop l.run-index (map arc_value l.runs) ++ older) l.start
