use Rattle.std.proofs.Common.{◌≡◌, drop}
use Rattle.db_store.specs.Body.{any_text}
use Rattle.entry_codec.proofs.write.any_text.Given as goal

-- what is asked of all changes is left to those that are left
abbrev pub invariant-loop-at : goal.invariant-loop-at
invariant-loop-at l = any_text (drop l.at l.changes) ≡ any_text l.changes
