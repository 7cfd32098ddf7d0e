use Rattle.std.proofs.Common.{length, []}
use Rattle.std.specs.Prelude.{replicate}
use Rattle.image_text.specs.Reading.{repeat, next_version}
use Rattle.image_text.proofs.Loop.{is_done}
use Rattle.image_text.proofs.numbers.Reader.versions_of.Goals as goal

pub returns : goal.returns
returns c = is_done (next_version c.args.bases.now) c.args.count c.loop.counter (c.loop.lasts.items, c.loop.versions.items) c.loop.self.rest.now (repeat (next_version c.args.bases.now) c.args.count (replicate (length c.args.bases.now) 0, []) c.args.self.now.rest.now) c.loop-test.false c.loop.invariant
