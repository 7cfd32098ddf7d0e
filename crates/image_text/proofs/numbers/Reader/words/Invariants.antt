use Rattle.std.proofs.Common.{◌≡◌, ◌-◌, []}
use Rattle.image_text.specs.Reading.{repeat, next_word}
use Rattle.image_text.proofs.numbers.Reader.words.Given as goal

abbrev pub invariant-loop : goal.invariant-loop
invariant-loop l = repeat next_word (l.count - l.counter) l.words.items l.self.rest.now ≡ repeat next_word l.count [] l.fn.self.rest.now
