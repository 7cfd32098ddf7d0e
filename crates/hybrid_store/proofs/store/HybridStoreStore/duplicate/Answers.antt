use Rattle.std.proofs.Common.{◌≡◌, ◌≤◌, ◌∙◌, ap, sym, subst, arith, List, map, length}
use Rattle.db_value.specs.Schema.{most_relations}
use Rattle.db_value.specs.declared.schema.Relation.{Relation}
use Rattle.db_value.specs.declared.version.VersionPlace.{VersionPlace}
use Rattle.std.specs.FinMap.{len}
use Rattle.store_catalogue.specs.ByName.{Numbers, AreNumbers}
use Rattle.db_store.specs.Layout.{dataset_in as layout_dataset}
use Rattle.db_store.specs.LaidOut.{IsLaid}
use Rattle.db_store.specs.Sound.{IsSound}
use Rattle.db_store.specs.Counted.{IsCounted}
use Rattle.db_store.specs.Order.{lineage, IsOrdered}
use Rattle.db_store.specs.State.{laid}
use Rattle.bit_rows.specs.Kept.{KeptLane}
use Rattle.hybrid_store.specs.Lanes.{kept_layout}
use Rattle.bit_rows.specs.Segments.{KeptList, all_of}
use Rattle.hybrid_store.specs.Stored.{kept_dataset, IsStored, roomless}
use Rattle.hybrid_store.specs.Store.{layout_of, dataset_in}
use Rattle.hybrid_store.proofs.SameLemmas.{same_count, layout_same, stored_same}
use Rattle.hybrid_store.proofs.store.HybridStoreStore.duplicate.Goals as goal

pub invariant_of-result : goal.invariant_of-result
invariant_of-result c =
    let s = c.args.self.now in
    let lanes : List KeptLane = c.in_ok-lanes.lanes.items in
    let lists : List KeptList = c.in_ok-segments.segments.items in
    let places : List VersionPlace = c.in_ok-order.order.items in
    let same : map roomless lanes ≡ map roomless s.lanes.items = c.in_ok-lanes.ensures.same ∙ ap (map roomless) c.deref.ensures.value in
    let alls : map all_of lists ≡ map all_of s.segments.items = c.in_ok-segments.ensures.same ∙ ap (map all_of) c.deref-2.ensures.value in
    let order : places ≡ s.order.items = c.in_ok-order.ensures.items ∙ c.deref-3.ensures.value in
    let schema : c.in_ok-schema.schema ≡ s.schema = c.in_ok-schema.ensures in
    let laid_is : kept_layout c.in_ok-schema.schema lanes places lists ≡ layout_of s = (λ i. kept_layout (schema i) lanes (order i) lists) ∙ layout_same s.schema s.lanes.items lanes s.order.items s.segments.items lists same alls s.stored.wide in
    let is : kept_dataset c.in_ok-schema.schema lanes places lists ≡ dataset_in s = ap layout_dataset laid_is in
    record {
      laid = subst IsLaid (sym laid_is) s.laid;
      stored = subst (λ (rs : List Relation). IsStored rs lanes lists) (sym schema) (stored_same s.schema s.lanes.items lanes s.order.items s.segments.items lists same alls c.in_ok-segments.ensures.rooms s.stored);
      sound = subst IsSound (sym is) s.sound;
      counted = subst IsCounted (sym is) s.counted;
      few_relations = subst (λ (rs : List Relation). length rs ≤ most_relations) (sym schema) s.few_relations;
      branch_room = c.in_ok-lanes.ensures.room;
      named = subst (AreNumbers c.in_ok-names.names.numbers) (sym is) (subst (λ (m : Numbers). AreNumbers m (dataset_in s)) (sym c.in_ok-names.ensures.numbers) s.named);
      names_count = omega (arith, ap len c.in_ok-names.ensures.numbers, s.names_count, same_count s.schema s.lanes.items lanes s.order.items s.segments.items lists same alls);
      names_room = c.in_ok-names.ensures.room;
      rooms = c.in_ok-lanes.ensures.rooms;
      order_room = omega arith;
      ordered = subst IsOrdered (sym is) s.ordered;
      lined = (λ i. (c.in_ok-graph.ensures i).versions) ∙ s.lined ∙ sym (ap lineage is);
      graph_room = omega arith;
      numbered = omega (arith, s.numbered, ap length order);
    }

pub returns-clause-state : goal.returns-clause-state
returns-clause-state c =
    let s = c.args.self.now in
    let lanes : List KeptLane = c.in_ok-lanes.lanes.items in
    let lists : List KeptList = c.in_ok-segments.segments.items in
    let places : List VersionPlace = c.in_ok-order.order.items in
    let same : map roomless lanes ≡ map roomless s.lanes.items = c.in_ok-lanes.ensures.same ∙ ap (map roomless) c.deref.ensures.value in
    let alls : map all_of lists ≡ map all_of s.segments.items = c.in_ok-segments.ensures.same ∙ ap (map all_of) c.deref-2.ensures.value in
    let order : places ≡ s.order.items = c.in_ok-order.ensures.items ∙ c.deref-3.ensures.value in
    let laid_is : kept_layout c.in_ok-schema.schema lanes places lists ≡ layout_of s = (λ i. kept_layout (c.in_ok-schema.ensures i) lanes (order i) lists) ∙ layout_same s.schema s.lanes.items lanes s.order.items s.segments.items lists same alls s.stored.wide in
    ap laid laid_is
