use Rattle.std.proofs.Common.{◌≡◌, ◌∙◌, [], ◌∷◌, ◌++◌, ap, sym, subst, true}
use Rattle.db_store.specs.Table.{Table}
use Rattle.db_store.specs.Dataset.{table_at}
use Rattle.db_store.specs.State.{dataset_of}
use Rattle.branch_tx.specs.Granted.{Granted, views_of, AreAllOf}
use Rattle.branch_tx.specs.Shown.{Shown, parts_by}
use Rattle.branch_tx.proofs.ShownLemmas.{one_state, of_more, view_of}
use Rattle.branch_tx.specs.Covers.{has_version}
use Rattle.store_tx.specs.Keeps.{Keeps, IsMore}
use Rattle.store_tx.proofs.Lends.{other_source}
use Rattle.store_tx.proofs.KeepsLemmas.{with_lent, lent_keeps, lent_has, more_lent}
use Rattle.store_tx.proofs.granting.lend.Goals as goal

pub returns-in_ok-lend-in-Ok-clause-keeps : goal.returns-in_ok-lend-in-Ok-clause-keeps
returns-in_ok-lend-in-Ok-clause-keeps g c = λ rows s k n.
    let d = dataset_of (g.St.Store.state c.args.store.now) in
    let b = c.args.branch in
    let v = c.args.version.now in
    let tx : Granted = c.args.tx.now in
    let t : Table = table_at d c.in-Ok.at in
    let shows : Shown = parts_by (g.St.View.View.parts_of c.in_ok-view-in-Ok.view) in
    let other = other_source d b tx v c.in-Ok.at t k.name c.requires.other c.in-Ok.ensures.found in
    subst (Keeps d rows s b) (ap (λ (u : Table). with_lent tx v u shows) (sym c.in_ok-view-in-Ok.ensures.table) ∙ sym c.in_ok-lend-in-Ok.ensures.ok) (lent_keeps d rows s b tx v t shows k other n)

pub returns-in_ok-lend-in-Ok-clause-granted : goal.returns-in_ok-lend-in-Ok-clause-granted
returns-in_ok-lend-in-Ok-clause-granted g c = λ e.
    let d = dataset_of (g.St.Store.state c.args.store.now) in
    let v = c.args.version.now in
    let tx : Granted = c.args.tx.now in
    let t : Table = table_at d c.in-Ok.at in
    let shows : Shown = parts_by (g.St.View.View.parts_of c.in_ok-view-in-Ok.view) in
    subst (λ (h : Granted). has_version h v ≡ true) (ap (λ (u : Table). with_lent tx v u shows) (sym c.in_ok-view-in-Ok.ensures.table) ∙ sym c.in_ok-lend-in-Ok.ensures.ok) (lent_has tx v t shows c.requires.other)

pub lend-requires-clause-agree : goal.lend-requires-clause-agree
lend-requires-clause-agree g c =
    let st = g.St.Store.state c.args.store.now in
    let tx : Granted = c.args.tx.now in
    let shows : Shown = parts_by (g.St.View.View.parts_of c.in_ok-view-in-Ok.view) in
    one_state st (views_of tx ++ shows ∷ []) (of_more st (views_of tx) shows c.requires.kept.shown (view_of st (g.St.View.View.parts_of c.in_ok-view-in-Ok.view) c.in_ok-view-in-Ok.ensures.parts))

pub returns-in_ok-lend-in-Ok-clause-more : goal.returns-in_ok-lend-in-Ok-clause-more
returns-in_ok-lend-in-Ok-clause-more g c =
    let st = g.St.Store.state c.args.store.now in
    let tx : Granted = c.args.tx.now in
    let shows : Shown = parts_by (g.St.View.View.parts_of c.in_ok-view-in-Ok.view) in
    record {
      more = subst (IsMore tx) (sym c.in_ok-lend-in-Ok.ensures.ok) (more_lent tx c.args.version.now (g.St.View.View.table c.in_ok-view-in-Ok.view) shows);
      shown = subst (AreAllOf st) (sym c.in_ok-lend-in-Ok.ensures.ok) (of_more st (views_of tx) shows c.requires.kept.shown (view_of st (g.St.View.View.parts_of c.in_ok-view-in-Ok.view) c.in_ok-view-in-Ok.ensures.parts));
    }
