use Rattle.std.proofs.Common.{◌≤◌, ℕ, List, drop, length, map}
use Rattle.std.specs.Arc.{arc_value}
use Rattle.db_value.specs.declared.record.Record.{Record}
use Rattle.segment.specs.Keys.{AreRuns, LacksKey, runs_of}
use Rattle.segment.proofs.keys.KeySlots.last_in_runs.Given as goal

-- the runs that are left have all slots up to one, and none from there on up to the bound has the key
abbrev pub invariant-loop-run : goal.invariant-loop-run
invariant-loop-run l =
    (records : List Record) → l.bound ≤ length records → AreRuns records (runs_of l.self) l.self.from → LacksKey records l.key l.self.from l.bound
    → (to : ℕ) × (AreRuns records (drop l.run-index (map arc_value l.run-items)) to × LacksKey records l.key to l.bound)
