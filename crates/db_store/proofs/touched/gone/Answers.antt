use Rattle.std.proofs.Common.{◌∙◌, arith, ap, length, List, pos, []}
use Rattle.std.proofs.lemmas.List.{length-append}
use Rattle.db_value.specs.Value.{Value}
use Rattle.db_value.specs.Spelling.{fields_bytes, number_bytes}
use Rattle.db_value.proofs.Spelled.{length_number}
use Rattle.db_store.proofs.touched.gone.Goals as goal

pub returns-clause-small : goal.returns-clause-small
returns-clause-small c =
    let n = length_number (pos 0) in
    let a = length-append (number_bytes (pos 0)) [] in
    omega (arith, n, a, ap (λ (fields : List Value). length (fields_bytes fields)) c.one.ensures)
