use Rattle.std.proofs.Common.{◌≡◌, ◌-◌, length, []}
use Rattle.image_text.specs.Reading.{repeat, next_segments}
use Rattle.image_text.proofs.numbers.Reader.segments.Given as goal

abbrev pub invariant-loop : goal.invariant-loop
invariant-loop l = (repeat (next_segments l.relations l.lasts) (l.count - l.counter) l.segments.items l.self.rest.now ≡ repeat (next_segments l.relations l.lasts) l.count [] l.fn.self.rest.now) × (length l.segments.items ≡ l.counter)
