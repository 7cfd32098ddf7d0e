use Rattle.std.proofs.Common.{rules, ◌∙◌, sym}
use Rattle.db_store.specs.State.{dataset_of}
use Rattle.branch_tx.specs.Granted.{has_done}
use Rattle.line_needs.specs.Needs.{lock_of, exclusive}
use Rattle.store_tx.proofs.Merges.{merge_needed, only}
use Rattle.store_tx.proofs.inside.merge.Goals as goal

pub merge_head-requires : goal.merge_head-requires
merge_head-requires g c =
    let d = dataset_of (g.St.Store.state c.args.store.now) in
    let k = c.requires.may.needs in
    record {
      may = record {
        there = search rules;
        needs = record {
          kept = k.kept;
          granted = only k.kept.rows k.kept.session (exclusive (lock_of c.args.branch))
              (merge_needed d k.kept.rows k.kept.session c.args.branch (has_done c.args.tx.now) c.args.name.now c.args.prefer c.in_Some-store.other (sym c.has_done.ensures ∙ c.if-has_done.false) (sym c.branch-store.ensures ∙ c.in_Some-store.is) k.granted);
        };
        first = sym c.has_done.ensures ∙ c.if-has_done.false;
        untouched = c.requires.may.clean (sym c.has_done.ensures ∙ c.if-has_done.false);
      };
    }

pub returns-in_ok-reply-in_Some-store-clause-tx : goal.returns-in_ok-reply-in_Some-store-clause-tx
returns-in_ok-reply-in_Some-store-clause-tx g c =
    let d = dataset_of (g.St.Store.state c.args.store.now) in
    let b = c.args.branch in
    record {
      tx = search rules;
      keeps = λ rows s k n. c.in_ok-reply-in_Some-store.ensures.tx.keeps rows s k (only rows s (exclusive (lock_of b))
          (merge_needed d rows s b (has_done c.args.tx.now) c.args.name.now c.args.prefer c.in_Some-store.other (sym c.has_done.ensures ∙ c.if-has_done.false) (sym c.branch-store.ensures ∙ c.in_Some-store.is) n));
    }
