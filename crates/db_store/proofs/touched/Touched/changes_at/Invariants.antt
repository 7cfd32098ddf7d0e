use Rattle.std.proofs.Common.{◌≡◌, ◌++◌, map, take}
use Rattle.db_store.proofs.ChangeLemmas.{listed_at}
use Rattle.db_store.proofs.touched.Touched.changes_at.Given as goal

-- the changes so far
abbrev pub invariant-loop-key : goal.invariant-loop-key
invariant-loop-key l = l.all ≡ l.initial.all ++ map (listed_at l.widths l.relation l.self.keys) (take l.key-index l.places)
