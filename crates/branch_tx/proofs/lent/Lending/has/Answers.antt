use Rattle.std.proofs.Common.{◌∙◌, ap}
use Rattle.std.specs.Prelude.{is_some}
use Rattle.std.specs.BTreeMap.{get}
use Rattle.branch_tx.specs.declared.key.NameKey.{NameKey}
use Rattle.branch_tx.specs.declared.lent.Lent.{Lent}
use Rattle.branch_tx.specs.Granted.{lent_table}
use Rattle.branch_tx.specs.Lending.{Views, key_cmp}
use Rattle.branch_tx.proofs.LentLemmas.{there_at}
use Rattle.branch_tx.proofs.lent.Lending.has.Goals as goal

pub returns : goal.returns
returns g c =
    let name = λ (l : Lent g.row.V.Denot). l.name in
    let table = λ (l : Lent g.row.V.Denot). g.V.View.table l.view in
    c.contains_key.ensures
    ∙ ap (λ (k : NameKey). is_some (get key_cmp c.self.inside.places k)) c.of.ensures
    ∙ ap is_some (c.self.invariant c.args.name.now)
    ∙ there_at name table c.self.inside.lent.items c.args.name.now
    ∙ ap (λ (vs : Views). is_some (lent_table vs.0 c.args.name.now)) c.self.view_is
