use Rattle.std.proofs.Common.{◌≡◌, ◌∷◌, [], Some, ap}
use Rattle.stmt_text.specs.declared.stmt.Stmt.TheVariants.{Join, Minus}
use Rattle.db_store.specs.State.{dataset_of}
use Rattle.line_needs.specs.Needs.{exclusive, lock_of, stmt_needs}
use Rattle.branch_tx.specs.Granted.{Granted, tx_in}
use Rattle.store_tx.specs.Statements.{lacking_of}
use Rattle.store_tx.proofs.KeepsLemmas.{first_need, needed, refused_as, join_lacking, minus_lacking}
use Rattle.store_tx.proofs.granting.grant.Goals as goal

pub returns-in_ok-grant_head-in-Insert-clause-keeps : goal.returns-in_ok-grant_head-in-Insert-clause-keeps
returns-in_ok-grant_head-in-Insert-clause-keeps g c = λ rows s k n.
    let d = dataset_of (g.St.Store.state c.args.store.now) in
    let b = c.args.branch in
    c.in_ok-grant_head-in-Insert.ensures.keeps rows s k (first_need d rows s b c.args.tx.now c.args.stmt.now (exclusive (lock_of b)) k c.requires.uncovered (ap (stmt_needs d b) c.in-Insert.is) n)

pub returns-in_ok-grant_head-in-Update-clause-keeps : goal.returns-in_ok-grant_head-in-Update-clause-keeps
returns-in_ok-grant_head-in-Update-clause-keeps g c = λ rows s k n.
    let d = dataset_of (g.St.Store.state c.args.store.now) in
    let b = c.args.branch in
    c.in_ok-grant_head-in-Update.ensures.keeps rows s k (first_need d rows s b c.args.tx.now c.args.stmt.now (exclusive (lock_of b)) k c.requires.uncovered (ap (stmt_needs d b) c.in-Update.is) n)

pub returns-in_ok-grant_head-in-Delete-clause-keeps : goal.returns-in_ok-grant_head-in-Delete-clause-keeps
returns-in_ok-grant_head-in-Delete-clause-keeps g c = λ rows s k n.
    let d = dataset_of (g.St.Store.state c.args.store.now) in
    let b = c.args.branch in
    c.in_ok-grant_head-in-Delete.ensures.keeps rows s k (first_need d rows s b c.args.tx.now c.args.stmt.now (exclusive (lock_of b)) k c.requires.uncovered (ap (stmt_needs d b) c.in-Delete.is) n)

pub returns-in_ok-lacking-in-Get-clause-keeps : goal.returns-in_ok-lacking-in-Get-clause-keeps
returns-in_ok-lacking-in-Get-clause-keeps g c = λ rows s k n.
    let d = dataset_of (g.St.Store.state c.args.store.now) in
    c.in_ok-lacking-in-Get.ensures.keeps rows s k (needed d rows s c.args.branch c.args.tx.now c.args.stmt.now _ k c.requires.uncovered c.in-Get.is n)

pub returns-in_ok-lacking-in-Scan-clause-keeps : goal.returns-in_ok-lacking-in-Scan-clause-keeps
returns-in_ok-lacking-in-Scan-clause-keeps g c = λ rows s k n.
    let d = dataset_of (g.St.Store.state c.args.store.now) in
    c.in_ok-lacking-in-Scan.ensures.keeps rows s k (needed d rows s c.args.branch c.args.tx.now c.args.stmt.now _ k c.requires.uncovered c.in-Scan.is n)

pub grant_over-requires : goal.grant_over-requires
grant_over-requires g c =
    let d = dataset_of (g.St.Store.state c.args.store.now) in
    let k = c.requires.may.needs in
    record { needs = record { kept = k.kept; granted = needed d k.kept.rows k.kept.session c.args.branch c.args.tx.now c.args.stmt.now _ k.kept.keeps c.requires.uncovered c.in-Scan.is k.granted } }

pub grant_two-requires : goal.grant_two-requires
grant_two-requires g c =
    let d = dataset_of (g.St.Store.state c.args.store.now) in
    let k = c.requires.may.needs in
    record { needs = record { kept = k.kept; granted = needed d k.kept.rows k.kept.session c.args.branch c.args.tx.now c.args.stmt.now _ k.kept.keeps c.requires.uncovered c.in-Join.is k.granted } }

pub returns-in_ok-lacking-in-Join-clause-keeps : goal.returns-in_ok-lacking-in-Join-clause-keeps
returns-in_ok-lacking-in-Join-clause-keeps g c = λ rows s k n.
    let d = dataset_of (g.St.Store.state c.args.store.now) in
    c.in_ok-lacking-in-Join.ensures.keeps rows s k (needed d rows s c.args.branch c.args.tx.now c.args.stmt.now _ k c.requires.uncovered c.in-Join.is n)

pub returns-in_ok-lacking-in-Join-clause-lacks : goal.returns-in_ok-lacking-in-Join-clause-lacks
returns-in_ok-lacking-in-Join-clause-lacks g c =
    let d = dataset_of (g.St.Store.state c.args.store.now) in
    let b = c.args.branch in
    let tx : Granted = c.args.tx.now in
    let j = c.in-Join in
    refused_as d b tx c.args.stmt.now (Join j.left j.right j.first j.second j.terms) (λ why. lacking_of d b (j.first ∷ j.second ∷ []) ≡ Some why) c.in_ok-lacking-in-Join.lacking c.requires.may.needs.kept.keeps.schema c.requires.uncovered j.is
    (λ why early l. join_lacking d b (tx_in tx) j.left j.right j.first j.second j.terms why early l) c.in_ok-lacking-in-Join.ensures.lacks

pub grant_two-requires-in-Minus : goal.grant_two-requires-in-Minus
grant_two-requires-in-Minus g c =
    let d = dataset_of (g.St.Store.state c.args.store.now) in
    let k = c.requires.may.needs in
    record { needs = record { kept = k.kept; granted = needed d k.kept.rows k.kept.session c.args.branch c.args.tx.now c.args.stmt.now _ k.kept.keeps c.requires.uncovered c.in-Minus.is k.granted } }

pub returns-in_ok-lacking-in-Minus-clause-keeps : goal.returns-in_ok-lacking-in-Minus-clause-keeps
returns-in_ok-lacking-in-Minus-clause-keeps g c = λ rows s k n.
    let d = dataset_of (g.St.Store.state c.args.store.now) in
    c.in_ok-lacking-in-Minus.ensures.keeps rows s k (needed d rows s c.args.branch c.args.tx.now c.args.stmt.now _ k c.requires.uncovered c.in-Minus.is n)

pub returns-in_ok-lacking-in-Minus-clause-lacks : goal.returns-in_ok-lacking-in-Minus-clause-lacks
returns-in_ok-lacking-in-Minus-clause-lacks g c =
    let d = dataset_of (g.St.Store.state c.args.store.now) in
    let b = c.args.branch in
    let tx : Granted = c.args.tx.now in
    let m = c.in-Minus in
    refused_as d b tx c.args.stmt.now (Minus m.relation m.first m.second) (λ why. lacking_of d b (m.first ∷ m.second ∷ []) ≡ Some why) c.in_ok-lacking-in-Minus.lacking c.requires.may.needs.kept.keeps.schema c.requires.uncovered m.is
    (λ why early l. minus_lacking d b (tx_in tx) m.relation m.first m.second why early l) c.in_ok-lacking-in-Minus.ensures.lacks
