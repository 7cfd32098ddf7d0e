use Rattle.std.proofs.Common.{◌≡◌, Bool, List, IfOk, subst}
use Rattle.bit_rows.proofs.ShortLemmas.{short_front}
use Rattle.bit_rows.proofs.rows.whole_delta.Goals as goal

pub returns : goal.returns
returns c =
    subst (λ (short : List Bool). IfOk c.of_front.result (λ delta. delta ≡ short))
    (short_front c.args.bits.now c.end_in-end.result c.end_in-end.ensures.within c.end_in-end.ensures.clear c.end_in-end.ensures.last)
    c.of_front.ensures
