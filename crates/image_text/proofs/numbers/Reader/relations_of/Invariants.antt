use Rattle.std.proofs.Common.{◌≡◌, ◌-◌, []}
use Rattle.image_text.specs.Reading.{repeat, next_relation}
use Rattle.image_text.proofs.numbers.Reader.relations_of.Given as goal

abbrev pub invariant-loop : goal.invariant-loop
invariant-loop l = repeat (next_relation l.format) (l.count - l.counter) l.relations.items l.self.rest.now ≡ repeat (next_relation l.format) l.count [] l.fn.self.rest.now
