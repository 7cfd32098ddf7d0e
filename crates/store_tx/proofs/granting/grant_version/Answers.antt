use Rattle.std.proofs.Common.{◌∙◌, sym}
use Rattle.db_store.specs.State.{dataset_of}
use Rattle.store_tx.proofs.Lends.{current_need}
use Rattle.store_tx.proofs.granting.grant_version.Goals as goal

pub returns-then-is_current-clause-keeps : goal.returns-then-is_current-clause-keeps
returns-then-is_current-clause-keeps g c = λ rows s k n.
    let d = dataset_of (g.St.Store.state c.args.store.now) in
    let b = c.args.branch in
    c.in_ok-grant_head.ensures.keeps rows s k (current_need d rows s b c.args.tx.now c.args.version.now k.name ((g.met.St.Store.sound c.args.store.now).named b c.requires.kept.there) (sym c.is_current.ensures ∙ c.if-is_current.true) n)
