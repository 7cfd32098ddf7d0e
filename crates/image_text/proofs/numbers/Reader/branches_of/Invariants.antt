use Rattle.std.proofs.Common.{◌≡◌, ◌-◌, []}
use Rattle.image_text.specs.Reading.{repeat, next_branch}
use Rattle.image_text.proofs.numbers.Reader.branches_of.Given as goal

abbrev pub invariant-loop : goal.invariant-loop
invariant-loop l = repeat next_branch (l.count - l.counter) (l.branches.items, l.bases.items) l.self.rest.now ≡ repeat next_branch l.count ([], []) l.fn.self.rest.now
