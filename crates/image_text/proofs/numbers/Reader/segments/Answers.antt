use Rattle.std.proofs.Common.{length, []}
use Rattle.image_text.specs.Reading.{repeat, next_segments}
use Rattle.image_text.proofs.Loop.{is_done}
use Rattle.image_text.proofs.numbers.Reader.segments.Goals as goal

pub returns : goal.returns
returns c = is_done (next_segments c.args.relations.now c.args.lasts.now) (length c.args.relations.now) c.loop.counter c.loop.segments.items c.loop.self.rest.now (repeat (next_segments c.args.relations.now c.args.lasts.now) (length c.args.relations.now) [] c.args.self.now.rest.now) c.loop-test.false c.loop.invariant.0
