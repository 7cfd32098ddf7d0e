use Rattle.std.proofs.Common.{[]}
use Rattle.image_text.specs.Reading.{repeat, next_branch}
use Rattle.image_text.proofs.Loop.{is_done}
use Rattle.image_text.proofs.numbers.Reader.branches_of.Goals as goal

pub returns : goal.returns
returns c = is_done next_branch c.args.count c.loop.counter (c.loop.branches.items, c.loop.bases.items) c.loop.self.rest.now (repeat next_branch c.args.count ([], []) c.args.self.now.rest.now) c.loop-test.false c.loop.invariant
