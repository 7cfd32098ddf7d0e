use Rattle.std.proofs.Common.{◌≡◌, ◌<◌, ◌≤◌, ℕ, ◌++◌, ◌∷◌, [], ◌∙◌, ap, sym, subst, arith, length, map, List, refl, Some, None}
use Rattle.std.specs.Prelude.{codes}
use Rattle.std.specs.Arc.{arc_value}
use Rattle.std.specs.FinMap.{insert, get, len, empty, get-empty, len-empty}
use Rattle.std.proofs.lemmas.List.Elements.{All-same, All-push, All-nil}
use Rattle.db_value.specs.Relations.{widths_at}
use Rattle.db_value.specs.declared.schema.Relation.{Relation}
use Rattle.db_value.specs.declared.version.VersionPlace.{VersionPlace}
use Rattle.record_page.specs.Page.{Rows}
use Rattle.db_store.specs.Dataset.{new_dataset, root}
use Rattle.db_store.specs.Fits.{most_branches}
use Rattle.db_store.specs.Layout.{dataset_in as layout_dataset, new_layout}
use Rattle.db_store.specs.LaidOut.{IsLaid}
use Rattle.db_store.specs.Sound.{IsSound}
use Rattle.db_store.specs.State.{laid}
use Rattle.db_store.specs.Counted.{IsCounted}
use Rattle.db_store.specs.Order.{lineage, IsOrdered}
use Rattle.db_store.proofs.OrderMade.{new_ordered}
use Rattle.db_store.proofs.SoundLemmas.{new_sound}
use Rattle.db_store.proofs.CountedLemmas.{new_is_counted}
use Rattle.db_store.proofs.StateLemmas.{few_relations}
use Rattle.db_store.proofs.NewLayout.{new_laid}
use Rattle.store_catalogue.specs.ByName.{Numbers, KeptNames, AreNumbers, name_cmp}
use Rattle.store_catalogue.proofs.BranchLemmas.{new_numbers, count_more}
use Rattle.hybrid_view.specs.Live.{lived_at}
use Rattle.bit_rows.specs.Kept.{KeptLane, kept_rows, first_row}
use Rattle.hybrid_store.specs.Lanes.{kept_layout}
use Rattle.bit_rows.specs.Segments.{list_at}
use Rattle.hybrid_store.specs.New.{own_at, first_lived}
use Rattle.hybrid_store.specs.Stored.{kept_dataset, HasRoom, IsStored}
use Rattle.hybrid_store.proofs.NewLemmas.{new_is, new_stored}
use Rattle.hybrid_store.proofs.store.HybridStore.new.Goals as goal

pub invariant_of-result : goal.invariant_of-result
invariant_of-result c =
    let schema : List Relation = c.args.schema in
    let m : KeptLane = c.in_ok-master.master in
    let segs = c.in_ok-segments.segments.items in
    let order = c.push-2.new.self.items in
    let rel : c.relations.result.now ≡ schema = c.relations.ensures.value in
    let rl = ap (λ (rs : List Relation). length rs) rel in
    let hc = c.in_ok-heads.ensures.count in
    let wide : length c.in_ok-heads.heads.items ≡ length schema = hc ∙ rl in
    let own : (r : ℕ) → r < length schema → own_at (map arc_value c.in_ok-heads.heads.items) r ≡ record { widths = widths_at schema r; records = [] } =
    λ r h. c.in_ok-heads.ensures.each r (omega (arith, h, rl)) ∙ ap (λ (rs : List Relation). record { widths = widths_at rs r; records = [] }) rel in
    let d1 = c.deref.ensures.value in
    let d2 = c.deref-2.ensures.value in
    let l1 : length c.deref.result.now ≡ length schema = ap length d1 ∙ wide in
    let l2 : length c.deref-2.result.now ≡ length schema = ap length d2 ∙ wide in
    let own1 : (r : ℕ) → r < length schema → own_at (map arc_value c.deref.result.now) r ≡ record { widths = widths_at schema r; records = [] } =
    λ r h. ap (λ (ys : List Rows). own_at ys r) (ap (map arc_value) d1) ∙ own r h in
    let own2 : (r : ℕ) → r < length schema → own_at (map arc_value c.deref-2.result.now) r ≡ record { widths = widths_at schema r; records = [] } =
    λ r h. ap (λ (ys : List Rows). own_at ys r) (ap (map arc_value) d2) ∙ own r h in
    let lane : m ≡ record { name = codes "master"; origin = root; base = root; seconds = None ∷ []; rows = m.rows; head = m.head; room = m.room } =
    c.in_ok-master.ensures.lane ∙ ap (λ (n : List ℕ). record { name = n; origin = root; base = root; seconds = None ∷ []; rows = m.rows; head = m.head; room = m.room }) c.in-Some.ensures.value in
    let rows : (r : ℕ) → r < length schema → kept_rows m r ≡ first_row ∷ [] = λ r h. c.in_ok-master.ensures.first.rows r (omega (arith, h, l2)) in
    let lived : (r : ℕ) → r < length schema → lived_at m.head r ≡ first_lived (record { widths = widths_at schema r; records = [] }) =
    λ r h. c.in_ok-master.ensures.first.lived r (omega (arith, h, l2)) ∙ ap first_lived (own2 r h) in
    let lists : (r : ℕ) → r < length schema → list_at segs r ≡ record { head = Some 0; rows = record { widths = widths_at schema r; records = [] } } ∷ [] =
    λ r h. c.in_ok-segments.ensures.all r (omega (arith, h, l1)) ∙ ap (λ (x : Rows). record { head = Some 0; rows = x } ∷ []) (own1 r h) in
    let items : c.push.new.self.items ≡ m ∷ [] = c.in_ok-push.ensures.items ∙ ap (λ (ks : List KeptLane). ks ++ m ∷ []) c.in_ok-lanes.ensures.items in
    let made : order ≡ root ∷ [] = c.in_ok-push-2.ensures.items ∙ ap (λ (vs : List VersionPlace). vs ++ root ∷ []) c.new-order.ensures.items in
    let is : kept_layout schema c.push.new.self.items order segs ≡ new_layout schema = ap (λ (ks : List KeptLane). kept_layout schema ks order segs) items ∙ new_is schema m order segs lane rows lists made in
    let d : kept_dataset schema c.push.new.self.items order segs ≡ new_dataset schema = ap layout_dataset is ∙ (new_laid schema).1 in
    let numbers : c.add.new.self.numbers ≡ insert empty c.in-Some.name 0 = ap (λ (n : KeptNames). n.numbers) c.add.ensures ∙ ap (λ (m : Numbers). insert m c.in-Some.name 0) c.in_ok-names.ensures.numbers in
    record {
      laid = subst IsLaid (sym is) (new_laid schema).0;
      stored = subst (λ (ks : List KeptLane). IsStored schema ks segs) (sym items)
          (new_stored schema m order segs lane rows lists (c.in_ok-segments.ensures.count ∙ l1) (λ r h. c.in_ok-segments.ensures.room r (omega (arith, h, l1)))
          (c.in_ok-master.ensures.first.count ∙ l2) (c.in_ok-master.ensures.first.wide ∙ l2) lived);
      sound = subst IsSound (sym d) (new_sound schema);
      counted = subst IsCounted (sym d) (new_is_counted schema c.relations.ensures.counted);
      few_relations = few_relations schema c.relations.ensures.counted;
      branch_room = omega (arith, c.in_ok-lanes.ensures.capacity, c.in_ok-push.ensures.capacity);
      named = subst (AreNumbers c.add.new.self.numbers) (sym d) (new_numbers schema c.add.new.self.numbers c.in-Some.name 0 numbers c.in-Some.ensures.value refl);
      names_count = omega (arith, ap len numbers, count_more empty c.in-Some.name 0 (get-empty name_cmp c.in-Some.name), len-empty name_cmp ℕ, ap length items);
      names_room = subst (λ n. most_branches ≤ n) (sym (ap (λ (n : KeptNames). n.room) c.add.ensures)) c.in_ok-names.ensures.room;
      rooms = All-same (HasRoom 0) _ _ items (All-push (HasRoom 0) [] m (All-nil (HasRoom 0)) (let q = ap (λ (k : KeptLane). length k.seconds) lane in omega (arith, q, c.in_ok-master.ensures.room)));
      order_room = omega arith;
      ordered = subst IsOrdered (sym d) (new_ordered schema);
      lined = c.in_ok-graph.ensures.versions ∙ sym (ap lineage d);
      graph_room = omega arith;
      numbered = omega (arith, ap length made);
    }

pub add-requires-clause-room : goal.add-requires-clause-room
add-requires-clause-room c = omega (arith, ap len c.in_ok-names.ensures.numbers, len-empty name_cmp ℕ, c.in_ok-names.ensures.room)

pub add-requires-clause-new : goal.add-requires-clause-new
add-requires-clause-new c = ap (λ (m : Numbers). get m c.in-Some.name) c.in_ok-names.ensures.numbers ∙ get-empty name_cmp c.in-Some.name

pub returns-clause-state : goal.returns-clause-state
returns-clause-state c =
    let schema : List Relation = c.args.schema in
    let m : KeptLane = c.in_ok-master.master in
    let segs = c.in_ok-segments.segments.items in
    let order = c.push-2.new.self.items in
    let rel : c.relations.result.now ≡ schema = c.relations.ensures.value in
    let rl = ap (λ (rs : List Relation). length rs) rel in
    let hc = c.in_ok-heads.ensures.count in
    let wide : length c.in_ok-heads.heads.items ≡ length schema = hc ∙ rl in
    let own : (r : ℕ) → r < length schema → own_at (map arc_value c.in_ok-heads.heads.items) r ≡ record { widths = widths_at schema r; records = [] } =
    λ r h. c.in_ok-heads.ensures.each r (omega (arith, h, rl)) ∙ ap (λ (rs : List Relation). record { widths = widths_at rs r; records = [] }) rel in
    let d1 = c.deref.ensures.value in
    let d2 = c.deref-2.ensures.value in
    let l1 : length c.deref.result.now ≡ length schema = ap length d1 ∙ wide in
    let l2 : length c.deref-2.result.now ≡ length schema = ap length d2 ∙ wide in
    let own1 : (r : ℕ) → r < length schema → own_at (map arc_value c.deref.result.now) r ≡ record { widths = widths_at schema r; records = [] } =
    λ r h. ap (λ (ys : List Rows). own_at ys r) (ap (map arc_value) d1) ∙ own r h in
    let own2 : (r : ℕ) → r < length schema → own_at (map arc_value c.deref-2.result.now) r ≡ record { widths = widths_at schema r; records = [] } =
    λ r h. ap (λ (ys : List Rows). own_at ys r) (ap (map arc_value) d2) ∙ own r h in
    let lane : m ≡ record { name = codes "master"; origin = root; base = root; seconds = None ∷ []; rows = m.rows; head = m.head; room = m.room } =
    c.in_ok-master.ensures.lane ∙ ap (λ (n : List ℕ). record { name = n; origin = root; base = root; seconds = None ∷ []; rows = m.rows; head = m.head; room = m.room }) c.in-Some.ensures.value in
    let rows : (r : ℕ) → r < length schema → kept_rows m r ≡ first_row ∷ [] = λ r h. c.in_ok-master.ensures.first.rows r (omega (arith, h, l2)) in
    let lived : (r : ℕ) → r < length schema → lived_at m.head r ≡ first_lived (record { widths = widths_at schema r; records = [] }) =
    λ r h. c.in_ok-master.ensures.first.lived r (omega (arith, h, l2)) ∙ ap first_lived (own2 r h) in
    let lists : (r : ℕ) → r < length schema → list_at segs r ≡ record { head = Some 0; rows = record { widths = widths_at schema r; records = [] } } ∷ [] =
    λ r h. c.in_ok-segments.ensures.all r (omega (arith, h, l1)) ∙ ap (λ (x : Rows). record { head = Some 0; rows = x } ∷ []) (own1 r h) in
    let items : c.push.new.self.items ≡ m ∷ [] = c.in_ok-push.ensures.items ∙ ap (λ (ks : List KeptLane). ks ++ m ∷ []) c.in_ok-lanes.ensures.items in
    let made : order ≡ root ∷ [] = c.in_ok-push-2.ensures.items ∙ ap (λ (vs : List VersionPlace). vs ++ root ∷ []) c.new-order.ensures.items in
    let is : kept_layout schema c.push.new.self.items order segs ≡ new_layout schema = ap (λ (ks : List KeptLane). kept_layout schema ks order segs) items ∙ new_is schema m order segs lane rows lists made in
    ap laid is
