use Rattle.std.proofs.Common.{◌≡◌, ◌-◌, []}
use Rattle.image_text.specs.Reading.{repeat, next_segment}
use Rattle.image_text.proofs.numbers.Reader.segments_of.Given as goal

abbrev pub invariant-loop : goal.invariant-loop
invariant-loop l = repeat (next_segment l.widths l.lasts) (l.count - l.counter) l.segments.items l.self.rest.now ≡ repeat (next_segment l.widths l.lasts) l.count [] l.fn.self.rest.now
