use Rattle.std.proofs.Common.{arith, ap, sym, ◌∙◌, length, List}
use Rattle.std.specs.Prelude.{slice_get}
use Rattle.db_value.specs.Pairs.{pair_here}
use Rattle.db_value.specs.declared.record.Record.{Record}
use Rattle.db_value.specs.declared.pairs.Pair.{Pair}
use Rattle.db_value.proofs.PairLemmas.{many_pairs, pair_is}
use Rattle.db_value.proofs.pairs.Pairs.read.Goals as goal

pub read-requires : goal.read-requires
read-requires c =
    let n = ap (λ (rs : List Record). length rs) c.deref.ensures in
    let m = many_pairs _ _ c.self.invariant in
    let v = ap (λ (ps : List Pair). length ps) c.self.view_is in
    let h = c.requires in
    omega (arith, n, m, v, h)

pub returns : goal.returns
returns c =
    let left = ap (λ (rs : List Record). slice_get rs c.args.index) (sym c.deref.ensures) ∙ c.read.ensures in
    let right = ap (λ (rs : List Record). slice_get rs c.args.index) (sym c.deref-2.ensures) ∙ c.read-2.ensures in
    pair_is _ _ c.args.index c.read.new.into c.read-2.new.into c.self.invariant left right
    ∙ ap (λ (ps : List Pair). pair_here ps c.args.index) c.self.view_is
