use Rattle.std.proofs.Common.{◌≡◌, ◌+◌, ◌∙◌, ap, sym, subst, arith, length, List, map}
use Rattle.std.specs.List.{AllZip}
use Rattle.std.specs.Vec.{with_items}
use Rattle.std.proofs.lemmas.List.{with_items_is}
use Rattle.std.proofs.lemmas.List.Elements.{All-same, length_all_zip}
use Rattle.db_store.specs.Sound.{IsSound}
use Rattle.db_store.specs.Counted.{IsCounted}
use Rattle.db_store.specs.Order.{lineage, IsOrdered}
use Rattle.db_store.specs.Layout.{dataset_in as layout_dataset}
use Rattle.db_store.specs.LaidOut.{IsLaid}
use Rattle.db_store.specs.State.{laid}
use Rattle.store_catalogue.specs.ByName.{AreNumbers}
use Rattle.bit_rows.specs.Kept.{KeptLane}
use Rattle.hybrid_store.specs.Lanes.{lane_of, kept_layout}
use Rattle.hybrid_store.specs.Stored.{kept_dataset, HasRoom, Widens, IsStored}
use Rattle.hybrid_store.specs.Store.{layout_of, dataset_in}
use Rattle.hybrid_store.proofs.WidenLemmas.{zip_lanes, zip_rooms, zip_stored}
use Rattle.hybrid_store.proofs.store.HybridStore.raise.Goals as goal

pub invariant_of-self-in-Err-1 : goal.invariant_of-self-in-Err-1
invariant_of-self-in-Err-1 c =
    let s = c.args.self.now in
    let old = s.lanes in
    let new = c.reserve_all.new.lanes in
    let zip : AllZip Widens old.items new = subst (λ (ks : List KeptLane). AllZip Widens ks new) c.deref_mut.ensures.value c.reserve_all.ensures.widened in
    let same : (with_items old new).items ≡ new = with_items_is old new (sym (old.ok.0 ∙ length_all_zip Widens old.items new zip)) in
    let lanes : map (lane_of s.schema) (with_items old new).items ≡ map (lane_of s.schema) old.items = ap (map (lane_of s.schema)) same ∙ zip_lanes s.schema old.items new zip in
    let order = c.in_ok-reserve.ensures.items in
    let laid_is : kept_layout s.schema (with_items old new).items c.reserve.new.self.items s.segments.items ≡ layout_of s = λ i. record { schema = s.schema; lanes = lanes i; order = order i; segments = (layout_of s).segments } in
    let is : kept_dataset s.schema (with_items old new).items c.reserve.new.self.items s.segments.items ≡ dataset_in s = ap layout_dataset laid_is in
    record {
      laid = subst IsLaid (sym laid_is) s.laid;
      stored = subst (λ (ks : List KeptLane). IsStored s.schema ks s.segments.items) (sym same) (zip_stored s.schema old.items new s.segments.items zip s.stored);
      sound = subst IsSound (sym is) s.sound;
      counted = subst IsCounted (sym is) s.counted;
      few_relations = s.few_relations;
      branch_room = s.branch_room;
      named = subst (AreNumbers s.names.numbers) (sym is) s.named;
      names_count = omega (arith, s.names_count, ap length same, length_all_zip Widens old.items new zip);
      names_room = s.names_room;
      rooms = All-same (HasRoom s.spare) _ _ same (zip_rooms s.spare old.items new zip s.rooms);
      order_room = omega (arith, s.order_room, c.in_ok-reserve.ensures.len, c.in_ok-reserve.ensures.capacity);
      ordered = subst IsOrdered (sym is) s.ordered;
      lined = c.reserve_versions.ensures.versions ∙ s.lined ∙ sym (ap lineage is);
      graph_room = omega (arith, s.graph_room, c.reserve_versions.ensures.kept);
      numbered = omega (arith, s.numbered, ap length order);
    }

pub returns-in-Err-clause-state : goal.returns-in-Err-clause-state
returns-in-Err-clause-state c =
    let s = c.args.self.now in
    let old = s.lanes in
    let new = c.reserve_all.new.lanes in
    let zip : AllZip Widens old.items new = subst (λ (ks : List KeptLane). AllZip Widens ks new) c.deref_mut.ensures.value c.reserve_all.ensures.widened in
    let same : (with_items old new).items ≡ new = with_items_is old new (sym (old.ok.0 ∙ length_all_zip Widens old.items new zip)) in
    let lanes : map (lane_of s.schema) (with_items old new).items ≡ map (lane_of s.schema) old.items = ap (map (lane_of s.schema)) same ∙ zip_lanes s.schema old.items new zip in
    let order = c.in_ok-reserve.ensures.items in
    let laid_is : kept_layout s.schema (with_items old new).items c.reserve.new.self.items s.segments.items ≡ layout_of s = λ i. record { schema = s.schema; lanes = lanes i; order = order i; segments = (layout_of s).segments } in
    let is : kept_dataset s.schema (with_items old new).items c.reserve.new.self.items s.segments.items ≡ dataset_in s = ap layout_dataset laid_is in
    ap laid laid_is

pub invariant_of-self-2 : goal.invariant_of-self-2
invariant_of-self-2 c =
    let s = c.args.self.now in
    let old = s.lanes in
    let new = c.reserve_all.new.lanes in
    let zip : AllZip Widens old.items new = subst (λ (ks : List KeptLane). AllZip Widens ks new) c.deref_mut.ensures.value c.reserve_all.ensures.widened in
    let same : (with_items old new).items ≡ new = with_items_is old new (sym (old.ok.0 ∙ length_all_zip Widens old.items new zip)) in
    let lanes : map (lane_of s.schema) (with_items old new).items ≡ map (lane_of s.schema) old.items = ap (map (lane_of s.schema)) same ∙ zip_lanes s.schema old.items new zip in
    let order = c.in_ok-reserve.ensures.items in
    let laid_is : kept_layout s.schema (with_items old new).items c.reserve.new.self.items s.segments.items ≡ layout_of s = λ i. record { schema = s.schema; lanes = lanes i; order = order i; segments = (layout_of s).segments } in
    let is : kept_dataset s.schema (with_items old new).items c.reserve.new.self.items s.segments.items ≡ dataset_in s = ap layout_dataset laid_is in
    record {
      laid = subst IsLaid (sym laid_is) s.laid;
      stored = subst (λ (ks : List KeptLane). IsStored s.schema ks s.segments.items) (sym same) (zip_stored s.schema old.items new s.segments.items zip s.stored);
      sound = subst IsSound (sym is) s.sound;
      counted = subst IsCounted (sym is) s.counted;
      few_relations = s.few_relations;
      branch_room = s.branch_room;
      named = subst (AreNumbers s.names.numbers) (sym is) s.named;
      names_count = omega (arith, s.names_count, ap length same, length_all_zip Widens old.items new zip);
      names_room = s.names_room;
      rooms = All-same (HasRoom (s.spare + 1)) _ _ same c.in-Ok.ensures.room;
      order_room = omega (arith, c.in_ok-reserve.ensures.len, c.in_ok-reserve.ensures.ok);
      ordered = subst IsOrdered (sym is) s.ordered;
      lined = c.reserve_versions.ensures.versions ∙ s.lined ∙ sym (ap lineage is);
      graph_room = c.in_ok-reserve_versions.ensures.ok;
      numbered = omega (arith, ap length order, c.if-len-spare-ge-MOST_NUMBERS.false, c.len.ensures);
    }

pub returns-clause-state : goal.returns-clause-state
returns-clause-state c =
    let s = c.args.self.now in
    let old = s.lanes in
    let new = c.reserve_all.new.lanes in
    let zip : AllZip Widens old.items new = subst (λ (ks : List KeptLane). AllZip Widens ks new) c.deref_mut.ensures.value c.reserve_all.ensures.widened in
    let same : (with_items old new).items ≡ new = with_items_is old new (sym (old.ok.0 ∙ length_all_zip Widens old.items new zip)) in
    let lanes : map (lane_of s.schema) (with_items old new).items ≡ map (lane_of s.schema) old.items = ap (map (lane_of s.schema)) same ∙ zip_lanes s.schema old.items new zip in
    let order = c.in_ok-reserve.ensures.items in
    let laid_is : kept_layout s.schema (with_items old new).items c.reserve.new.self.items s.segments.items ≡ layout_of s = λ i. record { schema = s.schema; lanes = lanes i; order = order i; segments = (layout_of s).segments } in
    let is : kept_dataset s.schema (with_items old new).items c.reserve.new.self.items s.segments.items ≡ dataset_in s = ap layout_dataset laid_is in
    ap laid laid_is
