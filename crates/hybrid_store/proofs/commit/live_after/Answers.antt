use Rattle.std.proofs.Common.{List, Option, ℕ, subst}
use Rattle.db_value.specs.declared.record.Record.{Record}
use Rattle.key_index.specs.Places.{with_changes}
use Rattle.hybrid_view.specs.RowPlaces.{spots, AllNext}
use Rattle.hybrid_store.proofs.commit.live_after.Goals as goal

pub after_many-requires-clause-lived : goal.after_many-requires-clause-lived
after_many-requires-clause-lived c =
    λ qs next. (
      with_changes c.args.old.now.places (spots c.args.head.0 c.args.head.1 c.args.changes.now c.args.relation),
      c.requires.lived qs
          (subst (λ (rows : List Record). AllNext c.args.touched.now.places.items c.args.head.0 rows c.args.old.now.pieces qs) c.of-rows.ensures
          (subst (λ (os : List (Option (ℕ × ℕ))). AllNext os c.args.head.0 c.of-rows.result c.args.old.now.pieces qs) c.deref.ensures.value next)),
    )
