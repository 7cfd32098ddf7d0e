use Rattle.std.proofs.Common.{◌∙◌, List, length, get_or, ap, sym, subst, arith}
use Rattle.db_value.specs.declared.version.VersionPlace.{VersionPlace}
use Rattle.db_store.specs.State.{laid}
use Rattle.db_store.proofs.StateLemmas.{few_relations}
use Rattle.bit_rows.specs.Kept.{KeptLane}
use Rattle.store_catalogue.specs.ByName.{AreNumbers}
use Rattle.hybrid_store.specs.declared.made.MadeVersion.{MadeVersion}
use Rattle.hybrid_store.specs.declared.parts.BranchPart.{BranchPart}
use Rattle.hybrid_store.specs.declared.parts.SegmentPart.{SegmentPart}
use Rattle.hybrid_store.specs.Parts.{parts_of, seconds_of}
use Rattle.hybrid_store.specs.Assembled.{no_made}
use Rattle.hybrid_store.specs.PartLines.{named_of, AreNamed, CanLine, AreLined}
use Rattle.hybrid_store.proofs.PartStore.{few_parts, few_segments, made_there, few_seconds}
use Rattle.hybrid_store.proofs.PartMade.{Told, told_made, Made, all_made, told_seen, made_layout, made_laid, made_sound, made_counted, made_ordered, made_stored, made_named, made_line, made_lined, made_numbers, made_rooms}
use Rattle.hybrid_store.proofs.store.HybridStore.assemble.Goals as goal

pub bare_lanes-requires-clause-branches : goal.bare_lanes-requires-clause-branches
bare_lanes-requires-clause-branches c =
    let n = ap (λ (xs : List BranchPart). length xs) c.as_slice.ensures in
    let f = few_parts c.args.parts c.requires in
    omega (arith, n, f)

pub bare_lanes-requires-clause-segments : goal.bare_lanes-requires-clause-segments
bare_lanes-requires-clause-segments c = λ r h.
    let w = c.width_of-width.ensures in
    let n = ap (λ (xs : List SegmentPart). length (parts_of r xs)) c.as_slice-2.ensures in
    let f = few_segments c.args.parts c.requires r (omega (arith, h, w)) in
    omega (arith, n, f)

pub put_versions-requires-clause-there : goal.put_versions-requires-clause-there
put_versions-requires-clause-there c = λ i h.
    let e = ap (λ (xs : List MadeVersion). (get_or xs i no_made).branch) c.as_slice-3.ensures in
    let n = ap (λ (xs : List MadeVersion). length xs) c.as_slice-3.ensures in
    let b = ap (λ (xs : List BranchPart). length xs) c.as_slice.ensures in
    let k = c.in_ok-bare.ensures.count in
    let there = made_there c.args.parts c.requires i (omega (arith, h, n)) in
    omega (arith, e, b, k, there)

pub put_versions-requires-clause-few : goal.put_versions-requires-clause-few
put_versions-requires-clause-few c = λ b h.
    let n = ap (λ (xs : List BranchPart). length xs) c.as_slice.ensures in
    let k = c.in_ok-bare.ensures.count in
    let e = ap (λ (xs : List MadeVersion). length (seconds_of b xs)) c.as_slice-3.ensures in
    let f = few_seconds c.args.parts c.requires b (omega (arith, h, n, k)) in
    omega (arith, e, f)

pub lists_of-requires-clause-few : goal.lists_of-requires-clause-few
lists_of-requires-clause-few c = λ r h. few_segments c.args.parts c.requires r (let w = c.width_of-width.ensures in omega (arith, h, w))

pub seen_lanes-requires : goal.seen_lanes-requires
seen_lanes-requires c =
    let p = c.args.parts in
    let told : Told p c.put_versions.new.lanes.items = told_made p c.width_of-width.result c.as_slice.result.now c.as_slice-2.result.now c.as_slice-3.result.now c.width_of-width.ensures c.as_slice.ensures c.as_slice-2.ensures c.as_slice-3.ensures c.in_ok-bare.bare.items c.put_versions.new.lanes.items c.in_ok-bare.ensures.count c.in_ok-bare.ensures.each c.in_ok-order.ensures.lanes in
    told_seen p c.width_of-width.result c.deref.result.now c.in_ok-lists.lists.items c.requires c.width_of-width.ensures c.deref.ensures.value c.put_versions.new.lanes.items told c.in_ok-lists.ensures

pub names_of-requires-clause-few : goal.names_of-requires-clause-few
names_of-requires-clause-few c =
    let p = c.args.parts in
    let told : Told p c.put_versions.new.lanes.items = told_made p c.width_of-width.result c.as_slice.result.now c.as_slice-2.result.now c.as_slice-3.result.now c.width_of-width.ensures c.as_slice.ensures c.as_slice-2.ensures c.as_slice-3.ensures c.in_ok-bare.bare.items c.put_versions.new.lanes.items c.in_ok-bare.ensures.count c.in_ok-bare.ensures.each c.in_ok-order.ensures.lanes in
    let n = ap (λ (xs : List KeptLane). length xs) c.deref-2.ensures.value in
    let k = c.in_ok-lanes.ensures.count in
    let t = told.count in
    let f = few_parts p c.requires in
    omega (arith, n, k, t, f)

pub names_of-requires-clause-apart : goal.names_of-requires-clause-apart
names_of-requires-clause-apart c =
    let p = c.args.parts in
    let told : Told p c.put_versions.new.lanes.items = told_made p c.width_of-width.result c.as_slice.result.now c.as_slice-2.result.now c.as_slice-3.result.now c.width_of-width.ensures c.as_slice.ensures c.as_slice-2.ensures c.as_slice-3.ensures c.in_ok-bare.bare.items c.put_versions.new.lanes.items c.in_ok-bare.ensures.count c.in_ok-bare.ensures.each c.in_ok-order.ensures.lanes in
    let made : Made p c.in_ok-lanes.lanes.items c.in_ok-order.order.items c.in_ok-lists.lists.items = all_made p c.width_of-width.result c.as_slice-3.result.now c.deref.result.now c.in_ok-lists.lists.items c.in_ok-order.order.items c.width_of-width.ensures c.as_slice-3.ensures c.deref.ensures.value c.put_versions.new.lanes.items c.in_ok-lanes.lanes.items told c.in_ok-order.ensures.order c.in_ok-lists.ensures c.in_ok-lanes.ensures.count c.in_ok-lanes.ensures.each in
    subst AreNamed (sym c.deref-2.ensures.value) (made_named p c.requires c.in_ok-lanes.lanes.items c.in_ok-order.order.items c.in_ok-lists.lists.items made)

pub graph_of-requires : goal.graph_of-requires
graph_of-requires c =
    let p = c.args.parts in
    let told : Told p c.put_versions.new.lanes.items = told_made p c.width_of-width.result c.as_slice.result.now c.as_slice-2.result.now c.as_slice-3.result.now c.width_of-width.ensures c.as_slice.ensures c.as_slice-2.ensures c.as_slice-3.ensures c.in_ok-bare.bare.items c.put_versions.new.lanes.items c.in_ok-bare.ensures.count c.in_ok-bare.ensures.each c.in_ok-order.ensures.lanes in
    let made : Made p c.in_ok-lanes.lanes.items c.in_ok-order.order.items c.in_ok-lists.lists.items = all_made p c.width_of-width.result c.as_slice-3.result.now c.deref.result.now c.in_ok-lists.lists.items c.in_ok-order.order.items c.width_of-width.ensures c.as_slice-3.ensures c.deref.ensures.value c.put_versions.new.lanes.items c.in_ok-lanes.lanes.items told c.in_ok-order.ensures.order c.in_ok-lists.ensures c.in_ok-lanes.ensures.count c.in_ok-lanes.ensures.each in
    subst (λ (ks : List KeptLane). CanLine ks c.deref-4.result.now) (sym c.deref-3.ensures.value)
    (subst (CanLine c.in_ok-lanes.lanes.items) (sym c.deref-4.ensures.value) (made_line p c.requires c.in_ok-lanes.lanes.items c.in_ok-order.order.items c.in_ok-lists.lists.items made (omega (arith, c.if-len-ge-MOST_NUMBERS.false, c.len.ensures))))

pub invariant_of-result : goal.invariant_of-result
invariant_of-result c =
    let p = c.args.parts in
    let told : Told p c.put_versions.new.lanes.items = told_made p c.width_of-width.result c.as_slice.result.now c.as_slice-2.result.now c.as_slice-3.result.now c.width_of-width.ensures c.as_slice.ensures c.as_slice-2.ensures c.as_slice-3.ensures c.in_ok-bare.bare.items c.put_versions.new.lanes.items c.in_ok-bare.ensures.count c.in_ok-bare.ensures.each c.in_ok-order.ensures.lanes in
    let made : Made p c.in_ok-lanes.lanes.items c.in_ok-order.order.items c.in_ok-lists.lists.items = all_made p c.width_of-width.result c.as_slice-3.result.now c.deref.result.now c.in_ok-lists.lists.items c.in_ok-order.order.items c.width_of-width.ensures c.as_slice-3.ensures c.deref.ensures.value c.put_versions.new.lanes.items c.in_ok-lanes.lanes.items told c.in_ok-order.ensures.order c.in_ok-lists.ensures c.in_ok-lanes.ensures.count c.in_ok-lanes.ensures.each in
    let few = few_parts p c.requires in
    let named = c.in_ok-names.ensures.count ∙ ap (λ (xs : List KeptLane). length xs) c.deref-2.ensures.value in
    record {
      laid = made_laid p c.requires c.in_ok-lanes.lanes.items c.in_ok-order.order.items c.in_ok-lists.lists.items made;
      stored = made_stored p c.requires c.in_ok-lanes.lanes.items c.in_ok-order.order.items c.in_ok-lists.lists.items made;
      sound = made_sound p c.requires c.in_ok-lanes.lanes.items c.in_ok-order.order.items c.in_ok-lists.lists.items made;
      counted = made_counted p c.requires c.in_ok-lanes.lanes.items c.in_ok-order.order.items c.in_ok-lists.lists.items made;
      few_relations = few_relations p.schema c.requires.counted.relations;
      branch_room = c.in_ok-lanes.ensures.room;
      named = made_numbers p c.requires c.in_ok-lanes.lanes.items c.in_ok-order.order.items c.in_ok-lists.lists.items made c.in_ok-names.names.numbers (subst (λ (ks : List KeptLane). AreNumbers c.in_ok-names.names.numbers (named_of ks)) c.deref-2.ensures.value c.in_ok-names.ensures.numbers);
      names_count = named;
      names_room = c.in_ok-names.ensures.room;
      rooms = made_rooms p c.requires c.in_ok-lanes.lanes.items c.in_ok-order.order.items c.in_ok-lists.lists.items made;
      order_room = omega (arith, c.in_ok-order.order.ok);
      ordered = made_ordered p c.requires c.in_ok-lanes.lanes.items c.in_ok-order.order.items c.in_ok-lists.lists.items made;
      lined = made_lined p c.requires c.in_ok-lanes.lanes.items c.in_ok-order.order.items c.in_ok-lists.lists.items made c.in_ok-graph.graph.versions (subst (λ (ks : List KeptLane). AreLined ks c.in_ok-order.order.items (length c.in_ok-order.order.items) c.in_ok-graph.graph.versions) c.deref-3.ensures.value
          (subst (λ (vs : List VersionPlace). AreLined c.deref-3.result.now vs (length vs) c.in_ok-graph.graph.versions) c.deref-4.ensures.value c.in_ok-graph.ensures));
      graph_room = omega arith;
      numbered = omega (arith, c.if-len-ge-MOST_NUMBERS.false, c.len.ensures);
    }

pub returns-clause-state : goal.returns-clause-state
returns-clause-state c =
    let p = c.args.parts in
    let told : Told p c.put_versions.new.lanes.items = told_made p c.width_of-width.result c.as_slice.result.now c.as_slice-2.result.now c.as_slice-3.result.now c.width_of-width.ensures c.as_slice.ensures c.as_slice-2.ensures c.as_slice-3.ensures c.in_ok-bare.bare.items c.put_versions.new.lanes.items c.in_ok-bare.ensures.count c.in_ok-bare.ensures.each c.in_ok-order.ensures.lanes in
    let made : Made p c.in_ok-lanes.lanes.items c.in_ok-order.order.items c.in_ok-lists.lists.items = all_made p c.width_of-width.result c.as_slice-3.result.now c.deref.result.now c.in_ok-lists.lists.items c.in_ok-order.order.items c.width_of-width.ensures c.as_slice-3.ensures c.deref.ensures.value c.put_versions.new.lanes.items c.in_ok-lanes.lanes.items told c.in_ok-order.ensures.order c.in_ok-lists.ensures c.in_ok-lanes.ensures.count c.in_ok-lanes.ensures.each in
    ap laid (made_layout p c.requires c.in_ok-lanes.lanes.items c.in_ok-order.order.items c.in_ok-lists.lists.items made)
