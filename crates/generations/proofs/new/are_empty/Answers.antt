use Rattle.std.proofs.Common.{◌∙◌}
use Rattle.generations.proofs.Creating.{both_empty, first_there}
use Rattle.generations.proofs.new.are_empty.Goals as goal

pub returns-then-first-clause-told : goal.returns-then-first-clause-told
returns-then-first-clause-told g c s d told_s told_d =
    both_empty c.in_ok-first.first c.in_ok-second.second s d c.if-first.true (c.in_ok-first.ensures.told s (c.sync_both.ensures.reads.first.seen_stays ∙ told_s))
    (c.in_ok-second.ensures.told d (c.sync_both.ensures.reads.second.seen_stays ∙ told_d))

pub returns-else-first-clause-told : goal.returns-else-first-clause-told
returns-else-first-clause-told g c s d told_s told_d =
    first_there c.in_ok-first.first s d c.if-first.false (c.in_ok-first.ensures.told s (c.sync_both.ensures.reads.first.seen_stays ∙ told_s))
