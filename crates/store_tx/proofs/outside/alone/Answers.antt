use Rattle.std.proofs.Common.{◌∙◌, ap, sym, subst, List, [], true}
use Rattle.db_store.specs.Body.{IsShortIf}
use Rattle.db_store.specs.Overlay.{Overlay}
use Rattle.db_store.specs.State.{dataset_of}
use Rattle.branch_tx.specs.Act.{Tx}
use Rattle.branch_tx.specs.Granted.{tx_in, has_done}
use Rattle.line_needs.specs.Needs.{needs}
use Rattle.store_tx.specs.Keeps.{tagged}
use Rattle.store_tx.specs.Statements.{act_over}
use Rattle.store_tx.specs.declared.stored.LogCall.{LogCall}
use Rattle.store_tx.specs.Stored.{IsNamedIf, call_if, entry_called}
use Rattle.store_tx.proofs.Tagged.{tagged_new}
use Rattle.store_tx.proofs.OwnLines.{own_known, own_told, own_stored, own_answered, own_none, done_is, not_done}
use Rattle.store_tx.proofs.outside.alone.Goals as goal

pub act_or_merge-requires : goal.act_or_merge-requires
act_or_merge-requires g c =
    let d = dataset_of (g.St.Store.state c.args.store.now) in
    let ns = needs d c.args.branch true (has_done c.in_ok-tx.tx) c.args.stmt.now in
    record {
      may = record {
        works = c.requires.works;
        may = record {
          needs = record { kept = record { there = c.requires.branch; rows = tagged 0 ns []; session = 0; keeps = c.in_ok-tx.ensures.keeps (tagged 0 ns []) 0; shown = c.in_ok-tx.ensures.shown }; granted = tagged_new 0 ns [] };
          clean = λ e. ap (λ (t : Tx (List Overlay)). t.work) c.in_ok-tx.ensures.tx;
        };
      };
      known = own_known d.schema c.args.stmt.now c.args.known.now _ (tx_in c.in_ok-tx.tx) c.requires.works c.in_ok-tx.ensures.tx c.requires.known;
    }

pub returns : goal.returns
returns g c =
    let d = dataset_of (g.St.Store.state c.args.store.now) in
    let b = c.args.branch in
    let x = c.args.stmt.now in
    let reply = c.in_ok-told.ensures.reply ∙ ap (λ (t : Tx (List Overlay)). (act_over d b t x).reply) c.in_ok-tx.ensures.tx in
    let other = not_done c.in_ok-told.told (sym c.is_done.ensures ∙ c.if-is_done.false) in
    record {
      told = c.plain.ensures.told ∙ own_answered d b x c.in_ok-told.told c.requires.works reply other;
      call = c.plain.ensures.call ∙ ap call_if (own_none d b x c.in_ok-told.told c.requires.works reply other);
      named = subst (λ (call : LogCall). IsNamedIf (entry_called call)) (sym c.plain.ensures.call) tt;
      short = subst (λ (call : LogCall). IsShortIf (entry_called call)) (sym c.plain.ensures.call) tt;
      stays = c.plain.ensures.moved;
    }

pub returns-then-is_done-clause-told : goal.returns-then-is_done-clause-told
returns-then-is_done-clause-told g c =
    let s = c.args.store.now in
    let d = dataset_of (g.St.Store.state s) in
    let b = c.args.branch in
    let x = c.args.stmt.now in
    let now = c.in_ok-told.ensures.tx.tx ∙ ap (λ (t : Tx (List Overlay)). (act_over d b t x).tx) c.in_ok-tx.ensures.tx in
    let reply = c.in_ok-told.ensures.reply ∙ ap (λ (t : Tx (List Overlay)). (act_over d b t x).reply) c.in_ok-tx.ensures.tx in
    c.in_ok-committed.ensures.told ∙ own_told d b x (tx_in c.act_or_merge.new.tx) c.in_ok-told.told (g.met.St.Store.counted s) c.requires.works now reply (done_is c.in_ok-told.told (sym c.is_done.ensures ∙ c.if-is_done.true))

pub returns-then-is_done-clause-call : goal.returns-then-is_done-clause-call
returns-then-is_done-clause-call g c =
    let d = dataset_of (g.St.Store.state c.args.store.now) in
    let b = c.args.branch in
    let x = c.args.stmt.now in
    let now = c.in_ok-told.ensures.tx.tx ∙ ap (λ (t : Tx (List Overlay)). (act_over d b t x).tx) c.in_ok-tx.ensures.tx in
    c.in_ok-committed.ensures.call ∙ ap call_if (own_stored d b x (tx_in c.act_or_merge.new.tx) c.requires.works now)

pub commit-requires-clause-schema : goal.commit-requires-clause-schema
commit-requires-clause-schema g c =
    let d = dataset_of (g.St.Store.state c.args.store.now) in
    let ns = needs d c.args.branch true (has_done c.in_ok-tx.tx) c.args.stmt.now in
    (c.in_ok-told.ensures.tx.keeps (tagged 0 ns []) 0 (c.in_ok-tx.ensures.keeps (tagged 0 ns []) 0) (tagged_new 0 ns [])).schema
