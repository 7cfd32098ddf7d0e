use Rattle.std.proofs.Common.{◌∙◌, ap, sym}
use Rattle.db_store.specs.State.{dataset_of}
use Rattle.store_tx.proofs.OwnLines.{quiet_commit, quiet_log, quiet_graph, quiet_segments, quiet_on, branch_stored, branch_stays, own_stay, acts, no_begin, asks_nothing, asks_image, call_is, work_asks}
use Rattle.store_tx.specs.Stored.{call_if, is_checkpoint}
use Rattle.store_tx.proofs.Telling.{other_told}
use Rattle.store_tx.proofs.outside.own.Goals as goal

pub returns-in-Commit-clause-call : goal.returns-in-Commit-clause-call
returns-in-Commit-clause-call g c = c.plain.ensures.call ∙ asks_nothing c.args.stmt.now _ (ap is_checkpoint c.in-Commit.is) (quiet_commit (dataset_of (g.St.Store.state c.args.store.now)) c.args.current c.args.stmt.now c.in-Commit.is)

pub returns-in-On-clause-call : goal.returns-in-On-clause-call
returns-in-On-clause-call g c = c.move_to.ensures.call ∙ asks_nothing c.args.stmt.now _ (ap is_checkpoint c.in-On.is) (quiet_on (dataset_of (g.St.Store.state c.args.store.now)) c.args.current c.args.stmt.now c.in-On.branch c.in-On.is)

pub returns-in_ok-told-in-LogOf-clause-call : goal.returns-in_ok-told-in-LogOf-clause-call
returns-in_ok-told-in-LogOf-clause-call g c = c.plain-in-LogOf.ensures.call ∙ asks_nothing c.args.stmt.now _ (ap is_checkpoint c.in-LogOf.is) (quiet_log (dataset_of (g.St.Store.state c.args.store.now)) c.args.current c.args.stmt.now c.in-LogOf.branch c.in-LogOf.is)

pub returns-in_ok-told-in-Graph-clause-call : goal.returns-in_ok-told-in-Graph-clause-call
returns-in_ok-told-in-Graph-clause-call g c = c.plain-in-Graph.ensures.call ∙ asks_nothing c.args.stmt.now _ (ap is_checkpoint c.in-Graph.is) (quiet_graph (dataset_of (g.St.Store.state c.args.store.now)) c.args.current c.args.stmt.now c.in-Graph.is)

pub returns-in_ok-lines-in-Segments-clause-call : goal.returns-in_ok-lines-in-Segments-clause-call
returns-in_ok-lines-in-Segments-clause-call g c = c.plain-in-Segments.ensures.call ∙ asks_nothing c.args.stmt.now _ (ap is_checkpoint c.in-Segments.is) (quiet_segments (dataset_of (g.St.Store.state c.args.store.now)) c.args.current c.args.stmt.now c.in-Segments.is)

pub returns-in-Checkpoint-clause-call : goal.returns-in-Checkpoint-clause-call
returns-in-Checkpoint-clause-call g c = c.saved.ensures.call ∙ asks_image (dataset_of (g.St.Store.state c.args.store.now)) c.args.current c.args.stmt.now c.in-Checkpoint.is

pub returns-in-Branch-clause-call : goal.returns-in-Branch-clause-call
returns-in-Branch-clause-call g c = c.branch_of.ensures.call ∙ ap call_if (branch_stored (dataset_of (g.St.Store.state c.args.store.now)) c.args.current c.args.stmt.now c.in-Branch.name c.in-Branch.origin c.in-Branch.is) ∙ sym (call_is c.args.stmt.now _ (ap is_checkpoint c.in-Branch.is))

pub returns-in-Branch-clause-moved : goal.returns-in-Branch-clause-moved
returns-in-Branch-clause-moved g c = c.branch_of.ensures.stays ∙ branch_stays (dataset_of (g.St.Store.state c.args.store.now)) c.args.current c.args.stmt.now c.in-Branch.name c.in-Branch.origin c.in-Branch.is

pub alone-requires-clause-works : goal.alone-requires-clause-works
alone-requires-clause-works g c = acts c.args.stmt.now (no_begin c.args.stmt.now c.requires.ends) c.in_default.not-Commit c.in_default.not-Abort c.in_default.not-On c.in_default.not-LogOf c.in_default.not-Branch c.in_default.not-Graph c.in_default.not-Segments c.in_default.not-Checkpoint

pub returns-in_ok-plan-in_default : goal.returns-in_ok-plan-in_default
returns-in_ok-plan-in_default g c =
    let e = c.in_ok-plan-in_default.ensures in
    let works = acts c.args.stmt.now (no_begin c.args.stmt.now c.requires.ends) c.in_default.not-Commit c.in_default.not-Abort c.in_default.not-On c.in_default.not-LogOf c.in_default.not-Branch c.in_default.not-Graph c.in_default.not-Segments c.in_default.not-Checkpoint in
    record {
      told = e.told ∙ sym (other_told (g.St.Store.state c.args.store.now) c.args.stmt.now _ c.in_default.not-Segments);
      call = e.call ∙ sym (call_is c.args.stmt.now _ (work_asks c.args.stmt.now works));
      named = λ _. e.named;
      short = e.short;
      moved = e.stays ∙ own_stay (dataset_of (g.St.Store.state c.args.store.now)) c.args.current c.args.stmt.now works;
    }
