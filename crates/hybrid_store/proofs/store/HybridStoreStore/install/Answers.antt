use Rattle.std.proofs.Common.{◌≡◌, ℕ, ◌<◌, ◌-◌, ◌++◌, ◌∷◌, [], ◌∙◌, ap, sym, subst, arith, List, length, map, set, get_or}
use Rattle.std.specs.Arc.{arc_value}
use Rattle.std.proofs.lemmas.List.{get_or_default, length-map, length_push, length-set}
use Rattle.std.proofs.lemmas.List.Elements.{All-set, All-weaker}
use Rattle.db_value.specs.declared.version.VersionPlace.{VersionPlace}
use Rattle.record_page.specs.Page.{Rows}
use Rattle.commit_history.specs.Runs.{Next}
use Rattle.db_store.specs.Dataset.{Dataset, proper, head_place, apply}
use Rattle.db_store.specs.Sound.{IsSound}
use Rattle.db_store.specs.Counted.{IsCounted}
use Rattle.db_store.specs.LaidOut.{IsLaid}
use Rattle.db_store.specs.LayoutGrowth.{grow_layout}
use Rattle.db_store.specs.Order.{number_in, number_of, lineage, IsOrdered}
use Rattle.db_store.specs.State.{laid}
use Rattle.db_store.proofs.OrderMade.{ordered_stays}
use Rattle.db_store.proofs.SoundLemmas.{sound_stays}
use Rattle.db_store.proofs.CountedLemmas.{counted_stays}
use Rattle.db_store.proofs.LaidLemmas.{laid_stays}
use Rattle.hybrid_view.specs.Live.{Lived}
use Rattle.store_catalogue.specs.ByName.{AreNumbers}
use Rattle.bit_rows.specs.Rows.{kept_row_at, next_at, pushed_row}
use Rattle.bit_rows.specs.Kept.{KeptLane, no_kept, kept_rows, nexts_at, AreReady}
use Rattle.hybrid_store.specs.Lanes.{kept_layout}
use Rattle.bit_rows.specs.Segments.{KeptList, list_at}
use Rattle.hybrid_store.specs.Stored.{HasHead, kept_dataset, HasRoom}
use Rattle.hybrid_store.specs.Store.{layout_of, dataset_in}
use Rattle.hybrid_store.proofs.AddedLemmas.{parts, ready_there, ready_second, last_place, last_made, numbers_added, lineage_added, layout_added, state_added, dataset_added, stored_added, room_after, less_room}
use Rattle.hybrid_store.proofs.GrownLemmas.{rows_head, ready_count, ready_counts, ready_each}
use Rattle.hybrid_store.proofs.store.HybridStoreStore.install.Goals as goal

pub lane-requires : goal.lane-requires
lane-requires c =
    let s = c.args.self.now in
    let p = c.args.prepared in
    let b = p.branch in
    let nexts : List (List Next) = p.deltas.items in
    let head : List Lived = arc_value p.head.table in
    let owns : List Rows = map arc_value p.records.items in
    let e = c.requires.ready.0 in
    let r = c.requires.ready.1 in
    let there : b < length s.lanes.items = ready_there s.schema s.lanes.items s.order.items s.segments.items b p.second nexts head owns s.stored s.laid s.sound e r in
    there

pub number-first-requires : goal.number-first-requires
number-first-requires c =
    let s = c.args.self.now in
    let p = c.args.prepared in
    let b = p.branch in
    let nexts : List (List Next) = p.deltas.items in
    let head : List Lived = arc_value p.head.table in
    let owns : List Rows = map arc_value p.records.items in
    let e = c.requires.ready.0 in
    let r = c.requires.ready.1 in
    let there : b < length s.lanes.items = ready_there s.schema s.lanes.items s.order.items s.segments.items b p.second nexts head owns s.stored s.laid s.sound e r in
    last_made s.schema s.lanes.items s.order.items s.segments.items b p.second nexts head owns s.stored s.laid s.sound e r c.count-position.result (c.count-position.ensures ∙ ap (λ (k : KeptLane). length k.seconds) c.lane.ensures.lane)

pub number_if-other-requires : goal.number_if-other-requires
number_if-other-requires c =
    let s = c.args.self.now in
    let p = c.args.prepared in
    let b = p.branch in
    let nexts : List (List Next) = p.deltas.items in
    let head : List Lived = arc_value p.head.table in
    let owns : List Rows = map arc_value p.records.items in
    let e = c.requires.ready.0 in
    let r = c.requires.ready.1 in
    let there : b < length s.lanes.items = ready_there s.schema s.lanes.items s.order.items s.segments.items b p.second nexts head owns s.stored s.laid s.sound e r in
    ready_second s.schema s.lanes.items s.order.items s.segments.items b p.second nexts head owns s.stored s.laid s.sound e r

pub put_records-requires-clause-count : goal.put_records-requires-clause-count
put_records-requires-clause-count c =
    let s = c.args.self.now in
    let p = c.args.prepared in
    let b = p.branch in
    let nexts : List (List Next) = p.deltas.items in
    let head : List Lived = arc_value p.head.table in
    let owns : List Rows = map arc_value p.records.items in
    let e = c.requires.ready.0 in
    let r = c.requires.ready.1 in
    let there : b < length s.lanes.items = ready_there s.schema s.lanes.items s.order.items s.segments.items b p.second nexts head owns s.stored s.laid s.sound e r in
    sym (length-map p.records.items arc_value) ∙ (parts s.schema s.lanes.items s.order.items s.segments.items b p.second nexts head owns s.stored s.laid s.sound e r).made.counted ∙ sym s.stored.wide

pub put_records-requires-clause-rows : goal.put_records-requires-clause-rows
put_records-requires-clause-rows c =
    let s = c.args.self.now in
    let p = c.args.prepared in
    let b = p.branch in
    let nexts : List (List Next) = p.deltas.items in
    let head : List Lived = arc_value p.head.table in
    let owns : List Rows = map arc_value p.records.items in
    let e = c.requires.ready.0 in
    let r = c.requires.ready.1 in
    let there : b < length s.lanes.items = ready_there s.schema s.lanes.items s.order.items s.segments.items b p.second nexts head owns s.stored s.laid s.sound e r in
    let lane_now : c.index.result.now ≡ get_or s.lanes.items b no_kept = c.index.ensures ∙ get_or_default s.lanes.items b c.index.result.now no_kept there in
    ap (λ (k : KeptLane). length k.rows) lane_now ∙ (s.stored.each b there).rows ∙ sym s.stored.wide

pub put_records-requires-clause-heads : goal.put_records-requires-clause-heads
put_records-requires-clause-heads c =
    let s = c.args.self.now in
    let p = c.args.prepared in
    let b = p.branch in
    let nexts : List (List Next) = p.deltas.items in
    let head : List Lived = arc_value p.head.table in
    let owns : List Rows = map arc_value p.records.items in
    let e = c.requires.ready.0 in
    let r = c.requires.ready.1 in
    let there : b < length s.lanes.items = ready_there s.schema s.lanes.items s.order.items s.segments.items b p.second nexts head owns s.stored s.laid s.sound e r in
    let lane_now : c.index.result.now ≡ get_or s.lanes.items b no_kept = c.index.ensures ∙ get_or_default s.lanes.items b c.index.result.now no_kept there in
    let w = s.stored.wide in
    subst (λ (k : KeptLane). (q : ℕ) → q < length s.segments.items → HasHead b (list_at s.segments.items q) (kept_rows k q)) (sym lane_now) (λ q h. rows_head s.schema s.lanes.items s.order.items s.segments.items b p.second (parts s.schema s.lanes.items s.order.items s.segments.items b p.second nexts head owns s.stored s.laid s.sound e r).changes nexts head owns there s.stored s.laid (parts s.schema s.lanes.items s.order.items s.segments.items b p.second nexts head owns s.stored s.laid s.sound e r).made q (omega (arith, h, w)))

pub push-requires-clause-room : goal.push-requires-clause-room
push-requires-clause-room c =
    let s = c.args.self.now in
    let p = c.args.prepared in
    let b = p.branch in
    let nexts : List (List Next) = p.deltas.items in
    let head : List Lived = arc_value p.head.table in
    let owns : List Rows = map arc_value p.records.items in
    let e = c.requires.ready.0 in
    let r = c.requires.ready.1 in
    let there : b < length s.lanes.items = ready_there s.schema s.lanes.items s.order.items s.segments.items b p.second nexts head owns s.stored s.laid s.sound e r in
    let room : HasRoom s.spare c.index_mut.result.now = subst (HasRoom s.spare) (sym c.index_mut.ensures.value) (s.rooms b c.index_mut.result.now there) in
    omega (arith, room, c.requires.spare)

pub push-requires-clause-ready : goal.push-requires-clause-ready
push-requires-clause-ready c =
    let s = c.args.self.now in
    let p = c.args.prepared in
    let b = p.branch in
    let nexts : List (List Next) = p.deltas.items in
    let head : List Lived = arc_value p.head.table in
    let owns : List Rows = map arc_value p.records.items in
    let e = c.requires.ready.0 in
    let r = c.requires.ready.1 in
    let there : b < length s.lanes.items = ready_there s.schema s.lanes.items s.order.items s.segments.items b p.second nexts head owns s.stored s.laid s.sound e r in
    let old : c.index_mut.result.now ≡ get_or s.lanes.items b no_kept = c.index_mut.ensures.value ∙ get_or_default s.lanes.items b c.index_mut.result.now no_kept there in
    let cs = (parts s.schema s.lanes.items s.order.items s.segments.items b p.second nexts head owns s.stored s.laid s.sound e r).changes in
    let made = (parts s.schema s.lanes.items s.order.items s.segments.items b p.second nexts head owns s.stored s.laid s.sound e r).made in
    subst (λ (k : KeptLane). AreReady k.rows nexts) (sym old) (record {
      count = ready_count s.schema s.lanes.items s.order.items s.segments.items b p.second cs nexts head owns there s.stored s.laid made;
      counts = ready_counts s.schema s.lanes.items s.order.items s.segments.items b p.second cs nexts head owns there s.stored s.laid made;
      ready = ready_each s.schema s.lanes.items s.order.items s.segments.items b p.second cs nexts head owns there s.stored s.laid made;
    })

pub invariant_of-self : goal.invariant_of-self
invariant_of-self c =
    let s = c.args.self.now in
    let p = c.args.prepared in
    let b = p.branch in
    let nexts : List (List Next) = p.deltas.items in
    let head : List Lived = arc_value p.head.table in
    let owns : List Rows = map arc_value p.records.items in
    let e = c.requires.ready.0 in
    let r = c.requires.ready.1 in
    let there : b < length s.lanes.items = ready_there s.schema s.lanes.items s.order.items s.segments.items b p.second nexts head owns s.stored s.laid s.sound e r in
    let lane_now : c.index.result.now ≡ get_or s.lanes.items b no_kept = c.index.ensures ∙ get_or_default s.lanes.items b c.index.result.now no_kept there in
    let old : c.index_mut.result.now ≡ get_or s.lanes.items b no_kept = c.index_mut.ensures.value ∙ get_or_default s.lanes.items b c.index_mut.result.now no_kept there in
    let new : KeptLane = c.push.new.self in
    let news : List KeptList = c.put_records.new.segments.items in
    let new_is : new ≡ record (get_or s.lanes.items b no_kept) { seconds = (get_or s.lanes.items b no_kept).seconds ++ p.second ∷ []; rows = new.rows; head = head } =
    c.push.ensures.lane ∙ ap (λ (k : KeptLane). record k { seconds = k.seconds ++ p.second ∷ []; rows = new.rows; head = head }) old in
    let wide = c.push.ensures.pushed.count ∙ ap (λ (k : KeptLane). length k.rows) old in
    let counts = subst (λ (k : KeptLane). (q : ℕ) → q < length k.rows → length (kept_rows new q) ≡ length (kept_rows k q)) old c.push.ensures.pushed.counts in
    let each = subst (λ (k : KeptLane). (q i : ℕ) → q < length k.rows → i < length (kept_rows k q) → kept_row_at (kept_rows new q) i ≡ pushed_row (kept_row_at (kept_rows k q) i) (next_at (nexts_at nexts q) i)) old c.push.ensures.pushed.each in
    let put = c.put_records.ensures.each in
    let place : c.count-position.result ≡ length (get_or s.lanes.items b no_kept).seconds = c.count-position.ensures ∙ ap (λ (k : KeptLane). length k.seconds) c.lane.ensures.lane in
    let order : c.push_reserved.new.self.items ≡ s.order.items ++ record { branch = b; position = length (get_or s.lanes.items b no_kept).seconds } ∷ [] =
    c.push_reserved.ensures.items ∙ ap (λ n. s.order.items ++ record { branch = b; position = n } ∷ []) place in
    let d : Dataset = dataset_in s in
    let is : kept_dataset s.schema (set s.lanes.items b new) c.push_reserved.new.self.items news ≡ apply d e =
    ap (λ (vs : List VersionPlace). kept_dataset s.schema (set s.lanes.items b new) vs news) order ∙ dataset_added s.schema s.lanes.items s.order.items s.segments.items b p.second nexts head owns s.stored s.laid s.sound e r new news new_is wide counts each c.put_records.ensures.count put in
    let laid_is : kept_layout s.schema (set s.lanes.items b new) c.push_reserved.new.self.items news ≡ grow_layout (layout_of s) e =
    ap (λ (vs : List VersionPlace). kept_layout s.schema (set s.lanes.items b new) vs news) order ∙ layout_added s.schema s.lanes.items s.order.items s.segments.items b p.second nexts head owns s.stored s.laid s.sound e r new news new_is wide counts each c.put_records.ensures.count put in
    let first : c.number-first.result ≡ number_in d.order (proper d (head_place d b)) = c.number-first.ensures.number ∙ ap (λ (x : VersionPlace). number_of d x) (last_place s.schema s.lanes.items s.order.items s.segments.items b p.second nexts head owns s.stored s.laid s.sound e r c.count-position.result place) in
    record {
      laid = subst IsLaid (sym laid_is) (laid_stays (layout_of s) e s.laid r.0);
      stored = stored_added s.schema s.lanes.items s.order.items s.segments.items b p.second nexts head owns s.stored s.laid s.sound e r new news new_is wide counts each c.put_records.ensures.count put;
      sound = subst IsSound (sym is) (sound_stays d e s.sound r.0);
      counted = subst IsCounted (sym is) (counted_stays d e s.counted s.sound r.0);
      few_relations = s.few_relations;
      branch_room = s.branch_room;
      named = subst (AreNumbers s.names.numbers) (sym is) (numbers_added s.schema s.lanes.items s.order.items s.segments.items b p.second nexts head owns s.stored s.laid s.sound e r s.names.numbers s.named);
      names_count = s.names_count ∙ sym (length-set s.lanes.items b new);
      names_room = s.names_room;
      rooms = All-set (HasRoom (s.spare - 1)) s.lanes.items b new
          (room_after s.spare c.index_mut.result.now new p.second head c.requires.spare (subst (HasRoom s.spare) (sym c.index_mut.ensures.value) (s.rooms b c.index_mut.result.now there)) c.push.ensures.lane)
          (All-weaker (HasRoom s.spare) (HasRoom (s.spare - 1)) (λ k h. less_room (s.spare - 1) s.spare k (omega arith) h) s.lanes.items s.rooms);
      order_room = omega (arith, s.order_room, c.requires.spare, c.push_reserved.ensures.len, c.push_reserved.ensures.capacity);
      ordered = subst IsOrdered (sym is) (ordered_stays d e s.sound s.ordered r.0);
      lined = c.add_version.ensures.versions
          ∙ (λ i. s.lined i ++ (first i ∷ c.number_if-other.ensures.number i) ∷ [])
          ∙ sym (ap lineage is ∙ lineage_added s.schema s.lanes.items s.order.items s.segments.items b p.second nexts head owns s.stored s.laid s.sound e r s.ordered);
      graph_room = omega (arith, s.graph_room, c.requires.spare, c.add_version.ensures.spare);
      numbered = omega (arith, s.numbered, c.requires.spare, ap length order, length_push s.order.items (record { branch = b; position = length (get_or s.lanes.items b no_kept).seconds }));
    }

pub returns-clause-grown : goal.returns-clause-grown
returns-clause-grown c =
    let s = c.args.self.now in
    let p = c.args.prepared in
    let b = p.branch in
    let nexts : List (List Next) = p.deltas.items in
    let head : List Lived = arc_value p.head.table in
    let owns : List Rows = map arc_value p.records.items in
    let e = c.requires.ready.0 in
    let r = c.requires.ready.1 in
    let there : b < length s.lanes.items = ready_there s.schema s.lanes.items s.order.items s.segments.items b p.second nexts head owns s.stored s.laid s.sound e r in
    let lane_now : c.index.result.now ≡ get_or s.lanes.items b no_kept = c.index.ensures ∙ get_or_default s.lanes.items b c.index.result.now no_kept there in
    let old : c.index_mut.result.now ≡ get_or s.lanes.items b no_kept = c.index_mut.ensures.value ∙ get_or_default s.lanes.items b c.index_mut.result.now no_kept there in
    let new : KeptLane = c.push.new.self in
    let news : List KeptList = c.put_records.new.segments.items in
    let new_is : new ≡ record (get_or s.lanes.items b no_kept) { seconds = (get_or s.lanes.items b no_kept).seconds ++ p.second ∷ []; rows = new.rows; head = head } =
    c.push.ensures.lane ∙ ap (λ (k : KeptLane). record k { seconds = k.seconds ++ p.second ∷ []; rows = new.rows; head = head }) old in
    let wide = c.push.ensures.pushed.count ∙ ap (λ (k : KeptLane). length k.rows) old in
    let counts = subst (λ (k : KeptLane). (q : ℕ) → q < length k.rows → length (kept_rows new q) ≡ length (kept_rows k q)) old c.push.ensures.pushed.counts in
    let each = subst (λ (k : KeptLane). (q i : ℕ) → q < length k.rows → i < length (kept_rows k q) → kept_row_at (kept_rows new q) i ≡ pushed_row (kept_row_at (kept_rows k q) i) (next_at (nexts_at nexts q) i)) old c.push.ensures.pushed.each in
    let put = c.put_records.ensures.each in
    let place : c.count-position.result ≡ length (get_or s.lanes.items b no_kept).seconds = c.count-position.ensures ∙ ap (λ (k : KeptLane). length k.seconds) c.lane.ensures.lane in
    let order : c.push_reserved.new.self.items ≡ s.order.items ++ record { branch = b; position = length (get_or s.lanes.items b no_kept).seconds } ∷ [] =
    c.push_reserved.ensures.items ∙ ap (λ n. s.order.items ++ record { branch = b; position = n } ∷ []) place in
    λ f q. ap (λ (vs : List VersionPlace). laid (kept_layout s.schema (set s.lanes.items b new) vs news)) order ∙ state_added s.schema s.lanes.items s.order.items s.segments.items b p.second nexts head owns s.stored s.laid s.sound f q new news new_is wide counts each c.put_records.ensures.count put
