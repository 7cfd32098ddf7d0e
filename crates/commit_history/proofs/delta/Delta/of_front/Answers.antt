use Rattle.commit_history.proofs.Places.{stands_front}
use Rattle.commit_history.proofs.delta.Delta.of_front.Goals as goal

pub returns : goal.returns
returns c = stands_front c.in_ok-words.words.items c.args.bits.now c.args.len c.requires.within c.in_ok-words.ensures.bits
