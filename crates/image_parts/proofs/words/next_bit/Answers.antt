use Rattle.std.proofs.Common.{arith}
use Rattle.image_parts.proofs.Bits.{within_ahead}
use Rattle.image_parts.proofs.words.next_bit.Goals as goal

pub returns-clause-within : goal.returns-clause-within
returns-clause-within c = omega (arith, within_ahead c.args.word c.args.from c.ranges.word.fits c.if-ahead-eq0.false)
