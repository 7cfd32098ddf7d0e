use Rattle.std.proofs.Common.{◌≡◌, arith}
use Rattle.image_text.proofs.WholeLaw.{parts_are}
use Rattle.image_parts.proofs.decoding.decode.Goals as goal

pub returns-in-Ok-true-clause-spelled : goal.returns-in-Ok-true-clause-spelled
returns-in-Ok-true-clause-spelled c = parts_are c.args.format c.args.bytes.now (c.in-Ok.found.0, c.in-Ok.found.1.items) (λ i. omega (arith, c.type_inv.bytes i)) c.in-Ok.ensures
