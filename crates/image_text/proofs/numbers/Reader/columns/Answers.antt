use Rattle.std.proofs.Common.{[]}
use Rattle.std.proofs.lemmas.Result.{err_from_is_err_and}
use Rattle.image_text.specs.Reading.{repeat, next_column}
use Rattle.image_text.proofs.Loop.{ends}
use Rattle.image_text.proofs.numbers.Reader.columns.Goals as goal

pub returns-in_err-next_column : goal.returns-in_err-next_column
returns-in_err-next_column c =
    let p = err_from_is_err_and c.from_residual.result c.from_residual.ensures.1 in
    rw (p.1, p.2) (ends c.in_err-next_column.field-0.0 (next_column c.args.format) c.args.count c.loop.counter c.loop.columns.items c.loop.self.rest.now (repeat (next_column c.args.format) c.args.count [] c.args.self.now.rest.now) c.loop-test.true c.in_err-next_column.ensures c.loop.invariant)
