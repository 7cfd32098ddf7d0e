use Rattle.commit_history.proofs.delta.Delta.of_places.Goals as goal

pub invariant_of-result : goal.invariant_of-result
invariant_of-result c = c.in_ok-words.ensures.within c.args.len c.requires
