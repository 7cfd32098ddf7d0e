use Rattle.decibel_main.proofs.TryLemmas.{front_by_schema}
use Rattle.decibel_main.proofs.in_memory.try_input.Goals as goal

pub returns-in-Err-Fault-clause-front : goal.returns-in-Err-Fault-clause-front
returns-in-Err-Fault-clause-front g c = front_by_schema c.args.input.now c.in-Ok.found.0 c.in-Ok.found.1 _ _ c.in-Ok.ensures.exact.1 c.run_new.ensures.front
