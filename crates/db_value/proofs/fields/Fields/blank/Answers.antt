use Rattle.std.proofs.Common.{ap, length, arith}
use Rattle.db_value.proofs.Spelled.{blank_held}
use Rattle.db_value.proofs.fields.Fields.blank.Goals as goal

pub invariant_of-result : goal.invariant_of-result
invariant_of-result c =
    let h = blank_held c.blank_bytes-bytes.result c.blank_bytes-bytes.ensures in
    let one = ap length h.1 in
    (h.0, omega (arith, one))
