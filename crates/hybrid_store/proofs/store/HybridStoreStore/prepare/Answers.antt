use Rattle.std.proofs.Common.{◌≡◌, ◌∙◌, true, map, sym, subst}
use Rattle.std.specs.Arc.{arc_value}
use Rattle.db_value.specs.declared.entry.Entry.{Entry}
use Rattle.db_value.specs.declared.entry.Entry.TheVariants.{Commit}
use Rattle.db_store.specs.Fits.{fits}
use Rattle.hybrid_store.specs.Store.{dataset_in, state_of}
use Rattle.hybrid_store.specs.Ready.{IsReady}
use Rattle.hybrid_store.proofs.ReadyParts.{commit_is}
use Rattle.hybrid_store.proofs.store.HybridStoreStore.prepare.Goals as goal

pub prepare_commit-requires : goal.prepare_commit-requires
prepare_commit-requires c =
    let is : Commit c.branch_of.result c.second_of.result c.changes_of.result.now ≡ c.args.entry.now = (λ i. Commit (c.branch_of.ensures i) (c.second_of.ensures i) (c.changes_of.ensures i)) ∙ commit_is c.args.entry.now c.requires.commit in
    subst (λ (e : Entry). fits (dataset_in c.args.self.now) e ≡ true) (sym is) c.requires.fits

pub returns-clause-ready : goal.returns-clause-ready
returns-clause-ready c =
    let is : Commit c.branch_of.result c.second_of.result c.changes_of.result.now ≡ c.args.entry.now = (λ i. Commit (c.branch_of.ensures i) (c.second_of.ensures i) (c.changes_of.ensures i)) ∙ commit_is c.args.entry.now c.requires.commit in
    let p = c.in_ok-prepared.prepared in
    subst (λ (e : Entry). IsReady p.branch p.second p.deltas.items (arc_value p.head.table) (map arc_value p.records.items) (state_of c.args.self.now) e) is c.in_ok-prepared.ensures
