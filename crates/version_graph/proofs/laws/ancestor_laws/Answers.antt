use Rattle.version_graph.proofs.Reaching.{steps_law, order_law, growth_law, new_law}
use Rattle.version_graph.proofs.Passes.{last_law, stays_law}
use Rattle.version_graph.proofs.laws.ancestor_laws.Goals as goal

pub returns-clause-steps : goal.returns-clause-steps
returns-clause-steps c = steps_law

pub returns-clause-order : goal.returns-clause-order
returns-clause-order c = order_law

pub returns-clause-growth : goal.returns-clause-growth
returns-clause-growth c = growth_law

pub returns-clause-new : goal.returns-clause-new
returns-clause-new c = new_law

pub returns-clause-last : goal.returns-clause-last
returns-clause-last c = last_law

pub returns-clause-stays : goal.returns-clause-stays
returns-clause-stays c = stays_law
