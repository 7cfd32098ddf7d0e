use Rattle.std.proofs.Common.{[]}
use Rattle.std.proofs.lemmas.Result.{err_from_is_err_and}
use Rattle.image_text.specs.Reading.{repeat, next_word}
use Rattle.image_text.proofs.Loop.{ends}
use Rattle.image_text.proofs.numbers.Reader.words.Goals as goal

pub returns-in_err-next_word : goal.returns-in_err-next_word
returns-in_err-next_word c =
    let p = err_from_is_err_and c.from_residual.result c.from_residual.ensures.1 in
    rw (p.1, p.2) (ends c.in_err-next_word.field-0.0 next_word c.args.count c.loop.counter c.loop.words.items c.loop.self.rest.now (repeat next_word c.args.count [] c.args.self.now.rest.now) c.loop-test.true c.in_err-next_word.ensures c.loop.invariant)
