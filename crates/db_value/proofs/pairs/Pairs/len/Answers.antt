use Rattle.std.proofs.Common.{ap, sym, ◌∙◌, length, List}
use Rattle.db_value.specs.declared.record.Record.{Record}
use Rattle.db_value.specs.declared.pairs.Pair.{Pair}
use Rattle.db_value.proofs.PairLemmas.{many_pairs}
use Rattle.db_value.proofs.pairs.Pairs.len.Goals as goal

pub returns : goal.returns
returns c =
    c.len.ensures ∙ ap (λ (rs : List Record). length rs) c.deref.ensures ∙ sym (many_pairs _ _ c.self.invariant)
    ∙ ap (λ (ps : List Pair). length ps) c.self.view_is
