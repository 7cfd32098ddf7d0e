use Rattle.std.proofs.Common.{◌≡◌, rules, ◌∙◌, ap, sym, inl, refl, subst, List}
use Rattle.db_value.specs.declared.schema.Relation.{Relation}
use Rattle.db_value.specs.declared.version.VersionPlace.{VersionPlace}
use Rattle.db_store.specs.Table.{Table}
use Rattle.db_store.specs.Counted.{IsTable}
use Rattle.db_store.specs.Overlay.{Overlay}
use Rattle.db_store.specs.Dataset.{head_place, table_at, IsMade}
use Rattle.db_store.specs.State.{dataset_of}
use Rattle.branch_tx.specs.Act.{Outcome}
use Rattle.branch_tx.specs.Granted.{tx_in, merged}
use Rattle.line_needs.specs.Needs.{lock_of, exclusive}
use Rattle.store_tx.specs.Keeps.{Keeps}
use Rattle.store_tx.proofs.Merges.{merged_is, merged_keeps, held_table, head_merged}
use Rattle.store_tx.proofs.Shows.{three_agree}
use Rattle.store_tx.proofs.inside.merge_head.Goals as goal

pub merge-requires : goal.merge-requires
merge-requires g c =
    let store = c.args.store.now in
    let d = dataset_of (g.St.Store.state store) in
    let b = c.args.branch in
    let k = c.requires.may.needs.kept in
    let own = c.requires.may.needs.granted (exclusive (lock_of c.args.branch)) (inl refl) in
    let same = c.in_ok-grant_head.ensures.more.more.schema ∙ k.keeps.schema in
    let is_table = λ (at : VersionPlace) (t : Table) (e : t ≡ table_at d at) (m : IsMade d at). subst (λ (x : List Relation). IsTable x t) (sym same) (subst (IsTable d.schema) (sym e) ((g.met.St.Store.counted store).tables at m)) in
    record {
      may = record {
        untouched = c.in_ok-grant_head.ensures.more.more.overlays ∙ c.requires.may.untouched;
        first = search rules;
        of_left = held_table d k.rows k.session b c.args.tx.now c.grant_head.new.tx (c.in_ok-grant_head.ensures.keeps k.rows k.session k.keeps own) c.in_ok-grant_head.ensures.held c.in_ok-grant_head.ensures.more.more
            ((g.met.St.Store.counted store).tables (head_place d b) (subst (λ p. IsMade d p) c.head_place.ensures.place c.head_place.ensures.made));
        of_base = is_table c.in_ok-at.at (g.St.View.View.table c.in_ok-base.base) c.in_ok-base.ensures.table c.in_ok-at.ensures.made;
        of_right = is_table c.head_place-from.result (g.St.View.View.table c.in_ok-right.right) c.in_ok-right.ensures.table c.head_place-from.ensures.made;
        agree = three_agree (g.St.Store.state store) c.grant_head.new.tx (g.St.View.View.parts_of c.in_ok-base.base) (g.St.View.View.parts_of c.in_ok-right.right) c.in_ok-grant_head.ensures.more.shown c.in_ok-base.ensures.parts c.in_ok-right.ensures.parts;
      };
    }

pub returns-clause-reply : goal.returns-clause-reply
returns-clause-reply g c =
    let d = dataset_of (g.St.Store.state c.args.store.now) in
    let b = c.args.branch in
    let k = c.requires.may.needs.kept in
    let own = c.requires.may.needs.granted (exclusive (lock_of c.args.branch)) (inl refl) in
    let same = head_merged d k.rows k.session b c.args.tx.now c.grant_head.new.tx (c.in_ok-grant_head.ensures.keeps k.rows k.session k.keeps own) c.in_ok-grant_head.ensures.held c.in_ok-grant_head.ensures.more.more
    c.args.other c.head_place-from.result c.head_place.result c.in_ok-at.at c.args.prefer (g.St.View.View.table c.in_ok-base.base) (g.St.View.View.table c.in_ok-right.right)
    c.head_place-from.ensures.place c.head_place.ensures.place c.in_ok-at.ensures.common c.in_ok-base.ensures.table c.in_ok-right.ensures.table in
    c.in_ok-reply.ensures.reply ∙ ap (λ (o : Outcome (List Overlay)). o.reply) same

pub returns-clause-tx : goal.returns-clause-tx
returns-clause-tx g c =
    let d = dataset_of (g.St.Store.state c.args.store.now) in
    let b = c.args.branch in
    let k = c.requires.may.needs.kept in
    let own = c.requires.may.needs.granted (exclusive (lock_of c.args.branch)) (inl refl) in
    let same = head_merged d k.rows k.session b c.args.tx.now c.grant_head.new.tx (c.in_ok-grant_head.ensures.keeps k.rows k.session k.keeps own) c.in_ok-grant_head.ensures.held c.in_ok-grant_head.ensures.more.more
    c.args.other c.head_place-from.result c.head_place.result c.in_ok-at.at c.args.prefer (g.St.View.View.table c.in_ok-base.base) (g.St.View.View.table c.in_ok-right.right)
    c.head_place-from.ensures.place c.head_place.ensures.place c.in_ok-at.ensures.common c.in_ok-base.ensures.table c.in_ok-right.ensures.table in
    record {
      tx = ap tx_in c.in_ok-reply.ensures.left
          ∙ merged_is c.grant_head.new.tx c.head_place-from.result c.args.prefer (g.St.View.View.table c.in_ok-base.base) (g.St.View.View.table c.in_ok-right.right)
          ∙ ap (λ (o : Outcome (List Overlay)). o.tx) same;
      keeps = λ rows s k n.
          subst (Keeps d rows s b) (sym c.in_ok-reply.ensures.left) (merged_keeps d rows s b c.grant_head.new.tx (merged c.grant_head.new.tx c.head_place-from.result c.args.prefer (g.St.View.View.table c.in_ok-base.base) (g.St.View.View.table c.in_ok-right.right)) (c.in_ok-grant_head.ensures.alone refl) (c.in_ok-grant_head.ensures.keeps rows s k (n (exclusive (lock_of b)) (inl refl))));
    }
