use Rattle.std.proofs.Common.{◌∙◌, arith}
use Rattle.generations.proofs.Told.{header_told}
use Rattle.generations.proofs.header.header_of.Goals as goal

pub returns-clause-told : goal.returns-clause-told
returns-clause-told g c s told =
    let len = c.in-Ok.ensures.told s told in
    header_told c.header_in.result c.in_ok-bytes.bytes s c.in-Ok.len (c.in_ok-bytes.ensures.told s (c.length_of.ensures.reads.seen_stays ∙ told)) len (omega (arith, len, c.if-len-lt-HEADER.false)) c.header_in.ensures.says
