use Rattle.multi_scan.proofs.Rising.{climbs}
use Rattle.multi_scan.proofs.scans.sort.Goals as goal

pub returns-clause-sorted : goal.returns-clause-sorted
returns-clause-sorted c = climbs _ c.sort_unstable.ensures.sorted
