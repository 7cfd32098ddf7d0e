use Rattle.std.proofs.Common.{◌≡◌, ◌-◌, []}
use Rattle.image_text.specs.Reading.{repeat, next_row}
use Rattle.image_text.proofs.numbers.Reader.rows.Given as goal

abbrev pub invariant-loop : goal.invariant-loop
invariant-loop l = repeat (next_row l.lasts l.size) (l.count - l.counter) l.rows.items l.self.rest.now ≡ repeat (next_row l.lasts l.size) l.count [] l.fn.self.rest.now
