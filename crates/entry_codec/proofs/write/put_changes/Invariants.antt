use Rattle.std.proofs.Common.{◌≡◌, ◌++◌, drop}
use Rattle.entry_codec.specs.Spelling.{changes_bytes}
use Rattle.entry_codec.specs.Laws.{AreRanged}
use Rattle.entry_codec.proofs.write.put_changes.Given as goal

-- what was written and what is left, and that all have their range if what is left has
abbrev pub invariant-loop-at : goal.invariant-loop-at
invariant-loop-at l = record {
  bytes : l.out.items ++ changes_bytes l.wide (drop l.at l.changes) ≡ l.initial.out.items ++ changes_bytes l.wide l.changes;
  ranged : AreRanged (drop l.at l.changes) → AreRanged l.changes;
}
