use Rattle.std.proofs.Common.{take}
use Rattle.db_store.specs.Places.{AreListed}
use Rattle.db_store.proofs.touched.Touched.listed_at.Given as goal

-- so far the places of the keys before this one
abbrev pub invariant-loop-place : goal.invariant-loop-place
invariant-loop-place l = AreListed l.relation (take l.place l.self.keys) l.places.items
