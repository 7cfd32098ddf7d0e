use Rattle.std.proofs.Common.{◌≡◌, ◌<◌, length}
use Rattle.key_index.specs.Forks.{trail, walk, is_at, link_at}
use Rattle.key_index.proofs.fork.end_of.Given as goal

abbrev pub invariant-loop-fuel : goal.invariant-loop-fuel
invariant-loop-fuel g l = record {
  within : 0 < l.fuel → l.at < length l.forks;
  same : trail l.forks l.relation l.key ≡ walk (is_at l.forks l.relation l.key) (link_at l.forks) l.fuel l.at l.rest;
}

abbrev pub decreases-loop-fuel : goal.decreases-loop-fuel
decreases-loop-fuel g l = l.fuel
