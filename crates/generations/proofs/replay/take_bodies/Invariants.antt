use Rattle.std.proofs.Common.{drop}
use Rattle.generations.proofs.Walks.{Goes}
use Rattle.generations.proofs.replay.take_bodies.Given as goal

-- the entries so far, and the bodies that are left
abbrev pub invariant-loop-body : goal.invariant-loop-body
invariant-loop-body g l = Goes (g.St.Store.state l.initial.store) l.fn.from l.bodies (g.St.Store.state l.store) l.at (drop l.body-index l.bodies) l.count
