use Rattle.std.proofs.Common.{◌≡◌, ◌-◌, []}
use Rattle.image_text.specs.Reading.{repeat, next_column}
use Rattle.image_text.proofs.numbers.Reader.columns.Given as goal

abbrev pub invariant-loop : goal.invariant-loop
invariant-loop l = repeat (next_column l.format) (l.count - l.counter) l.columns.items l.self.rest.now ≡ repeat (next_column l.format) l.count [] l.fn.self.rest.now
