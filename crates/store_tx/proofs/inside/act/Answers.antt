use Rattle.std.proofs.Common.{◌∙◌, ap, sym, subst, List}
use Rattle.db_store.specs.Overlay.{Overlay}
use Rattle.db_store.specs.State.{dataset_of}
use Rattle.branch_tx.specs.Act.{Outcome, Tx}
use Rattle.branch_tx.specs.Granted.{Granted, tx_in}
use Rattle.store_tx.specs.Keeps.{Keeps}
use Rattle.store_tx.specs.Statements.{act_over}
use Rattle.store_tx.proofs.KeepsLemmas.{covered_acts, known_more, left_is, left_keeps, more_none, more_tx}
use Rattle.store_tx.proofs.inside.act.Goals as goal

pub covers-requires : goal.covers-requires
covers-requires g c =
    let d = dataset_of (g.St.Store.state c.args.store.now) in
    let tx : Granted = c.args.tx.now in
    record { known = known_more d tx tx c.args.stmt.now c.args.known.now c.requires.known c.requires.may.needs.kept.keeps.schema (more_none tx) }

pub act-requires : goal.act-requires
act-requires g c =
    let d = dataset_of (g.St.Store.state c.args.store.now) in
    let tx : Granted = c.args.tx.now in
    record { known = known_more d tx tx c.args.stmt.now c.args.known.now c.requires.known c.requires.may.needs.kept.keeps.schema (more_none tx) }

pub act-requires-in-None : goal.act-requires-in-None
act-requires-in-None g c =
    let d = dataset_of (g.St.Store.state c.args.store.now) in
    record { known = known_more d c.args.tx.now c.grant.new.tx c.args.stmt.now c.args.known.now c.requires.known c.requires.may.needs.kept.keeps.schema c.in_ok-why.ensures.more.more }

pub returns-then-covers-clause-reply : goal.returns-then-covers-clause-reply
returns-then-covers-clause-reply g c =
    let store = c.args.store.now in
    let d = dataset_of (g.St.Store.state store) in
    let k = c.requires.may.needs in
    c.in_ok-reply.ensures.reply ∙ ap (λ (o : Outcome (List Overlay)). o.reply) (covered_acts d k.kept.rows k.kept.session c.args.branch c.args.tx.now k.kept.keeps (g.met.St.Store.sound store) k.kept.there c.args.stmt.now c.requires.may.acts (sym c.covers.ensures ∙ c.if-covers.true))

pub returns-then-covers-clause-tx : goal.returns-then-covers-clause-tx
returns-then-covers-clause-tx g c =
    let store = c.args.store.now in
    let d = dataset_of (g.St.Store.state store) in
    let k = c.requires.may.needs in
    record {
      tx = ap tx_in c.in_ok-reply.ensures.left ∙ left_is c.args.tx.now c.args.stmt.now
          ∙ ap (λ (o : Outcome (List Overlay)). o.tx) (covered_acts d k.kept.rows k.kept.session c.args.branch c.args.tx.now k.kept.keeps (g.met.St.Store.sound store) k.kept.there c.args.stmt.now c.requires.may.acts (sym c.covers.ensures ∙ c.if-covers.true));
      keeps = λ rows s k n.
          let d = dataset_of (g.St.Store.state c.args.store.now) in
          subst (Keeps d rows s c.args.branch) (sym c.in_ok-reply.ensures.left) (left_keeps d rows s c.args.branch c.args.tx.now c.args.stmt.now c.requires.may.acts (sym c.covers.ensures ∙ c.if-covers.true) k);
    }

pub returns-in_ok-reply-in-None-clause-reply : goal.returns-in_ok-reply-in-None-clause-reply
returns-in_ok-reply-in-None-clause-reply g c =
    let store = c.args.store.now in
    let d = dataset_of (g.St.Store.state store) in
    let b = c.args.branch in
    let x = c.args.stmt.now in
    let k = c.requires.may.needs in
    let more = c.in_ok-why.ensures.more.more in
    c.in_ok-reply-in-None.ensures.reply
    ∙ ap (λ (o : Outcome (List Overlay)). o.reply) (covered_acts d k.kept.rows k.kept.session b c.grant.new.tx (c.in_ok-why.ensures.keeps k.kept.rows k.kept.session k.kept.keeps k.granted) (g.met.St.Store.sound store) k.kept.there x c.requires.may.acts (c.in_ok-why.ensures.covered c.in-None.is))
    ∙ ap (λ (t : Tx (List Overlay)). (act_over d b t x).reply) (more_tx c.args.tx.now c.grant.new.tx more)

pub returns-in_ok-reply-in-None-clause-tx : goal.returns-in_ok-reply-in-None-clause-tx
returns-in_ok-reply-in-None-clause-tx g c =
    let store = c.args.store.now in
    let d = dataset_of (g.St.Store.state store) in
    let b = c.args.branch in
    let x = c.args.stmt.now in
    let k = c.requires.may.needs in
    let more = c.in_ok-why.ensures.more.more in
    record {
      tx = ap tx_in c.in_ok-reply-in-None.ensures.left ∙ left_is c.grant.new.tx x
          ∙ ap (λ (o : Outcome (List Overlay)). o.tx) (covered_acts d k.kept.rows k.kept.session b c.grant.new.tx (c.in_ok-why.ensures.keeps k.kept.rows k.kept.session k.kept.keeps k.granted) (g.met.St.Store.sound store) k.kept.there x c.requires.may.acts (c.in_ok-why.ensures.covered c.in-None.is))
          ∙ ap (λ (t : Tx (List Overlay)). (act_over d b t x).tx) (more_tx c.args.tx.now c.grant.new.tx more);
      keeps = λ rows s k n.
          let d = dataset_of (g.St.Store.state c.args.store.now) in
          subst (Keeps d rows s c.args.branch) (sym c.in_ok-reply-in-None.ensures.left) (left_keeps d rows s c.args.branch c.grant.new.tx c.args.stmt.now c.requires.may.acts (c.in_ok-why.ensures.covered c.in-None.is) (c.in_ok-why.ensures.keeps rows s k n));
    }
