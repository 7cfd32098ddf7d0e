use Rattle.std.proofs.Common.{List, inl, refl, sym, subst}
use Rattle.db_value.specs.declared.version.VersionName.{VersionName}
use Rattle.stmt_text.specs.declared.stmt.ScanOver.{ScanOver}
use Rattle.db_store.specs.State.{dataset_of}
use Rattle.line_needs.specs.Needs.{shared, lock_of, names_needs, scan_needs}
use Rattle.store_tx.specs.Keeps.{AllGranted}
use Rattle.store_tx.proofs.granting.grant_over.Goals as goal

pub returns-in_ok-grant_head-in-Current-clause-keeps : goal.returns-in_ok-grant_head-in-Current-clause-keeps
returns-in_ok-grant_head-in-Current-clause-keeps g c = λ rows s k n.
    let d = dataset_of (g.St.Store.state c.args.store.now) in
    let b = c.args.branch in
    c.in_ok-grant_head-in-Current.ensures.keeps rows s k (subst (λ (o : ScanOver). AllGranted rows s (scan_needs d b o)) c.in-Current.is n (shared (lock_of b)) (inl refl))

pub returns-in_ok-lacking-in-Named-clause-keeps : goal.returns-in_ok-lacking-in-Named-clause-keeps
returns-in_ok-lacking-in-Named-clause-keeps g c = λ rows s k n.
    let d = dataset_of (g.St.Store.state c.args.store.now) in
    let needed : AllGranted rows s (names_needs d c.in-Named.names) = subst (λ (o : ScanOver). AllGranted rows s (scan_needs d c.args.branch o)) c.in-Named.is n in
    c.in_ok-lacking-in-Named.ensures.keeps rows s k (subst (λ (ns : List VersionName). AllGranted rows s (names_needs d ns)) (sym c.as_slice.ensures) needed)

pub returns-in_ok-lacking-in-Heads-clause-keeps : goal.returns-in_ok-lacking-in-Heads-clause-keeps
returns-in_ok-lacking-in-Heads-clause-keeps g c = λ rows s k n.
    let d = dataset_of (g.St.Store.state c.args.store.now) in
    c.in_ok-lacking-in-Heads.ensures.keeps rows s k (subst (λ (o : ScanOver). AllGranted rows s (scan_needs d c.args.branch o)) c.in-Heads.is n)
