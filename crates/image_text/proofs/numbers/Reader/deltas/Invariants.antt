use Rattle.std.proofs.Common.{◌≡◌, ◌-◌}
use Rattle.image_text.specs.Reading.{repeat, next_delta}
use Rattle.image_text.proofs.numbers.Reader.deltas.Given as goal

abbrev pub invariant-loop : goal.invariant-loop
invariant-loop l = repeat (next_delta l.size) (l.count - l.counter) l.deltas.items l.self.rest.now ≡ repeat (next_delta l.size) l.count l.fn.deltas.items l.fn.self.rest.now
