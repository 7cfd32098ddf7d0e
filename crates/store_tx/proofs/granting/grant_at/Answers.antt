use Rattle.std.proofs.Common.{inl, refl, subst, Option}
use Rattle.db_value.specs.declared.version.VersionName.{VersionName}
use Rattle.db_store.specs.State.{dataset_of}
use Rattle.line_needs.specs.Needs.{shared, lock_of, source_needs}
use Rattle.store_tx.specs.Keeps.{AllGranted}
use Rattle.store_tx.proofs.granting.grant_at.Goals as goal

pub returns-in_ok-grant_head-in-None-clause-keeps : goal.returns-in_ok-grant_head-in-None-clause-keeps
returns-in_ok-grant_head-in-None-clause-keeps g c = λ rows s k n.
    let d = dataset_of (g.St.Store.state c.args.store.now) in
    let b = c.args.branch in
    c.in_ok-grant_head-in-None.ensures.keeps rows s k (subst (λ (o : Option VersionName). AllGranted rows s (source_needs d b o)) c.in-None.is n (shared (lock_of b)) (inl refl))

pub returns-in_ok-lacking-in-Some-clause-keeps : goal.returns-in_ok-lacking-in-Some-clause-keeps
returns-in_ok-lacking-in-Some-clause-keeps g c = λ rows s k n.
    let d = dataset_of (g.St.Store.state c.args.store.now) in
    c.in_ok-lacking-in-Some.ensures.keeps rows s k (subst (λ (o : Option VersionName). AllGranted rows s (source_needs d c.args.branch o)) c.in-Some.is n)
