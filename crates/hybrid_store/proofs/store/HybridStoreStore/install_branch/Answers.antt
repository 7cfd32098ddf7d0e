use Rattle.std.proofs.Common.{◌≡◌, ◌<◌, ◌≤◌, ℕ, [], ◌∙◌, ap, sym, subst, arith, List, Option, length, map, get_or}
use Rattle.std.specs.Arc.{arc_value}
use Rattle.std.specs.FinMap.{insert, len}
use Rattle.std.proofs.lemmas.List.{length-map, length_push}
use Rattle.std.proofs.lemmas.List.Elements.{All-same, All-push}
use Rattle.record_page.specs.Page.{Rows}
use Rattle.db_store.specs.Dataset.{Dataset, apply, branch_named}
use Rattle.db_store.specs.Fits.{most_branches}
use Rattle.db_store.specs.Sound.{IsSound}
use Rattle.db_store.specs.Counted.{IsCounted}
use Rattle.db_store.specs.LaidOut.{IsLaid}
use Rattle.db_store.specs.LayoutGrowth.{grow_layout}
use Rattle.db_store.specs.Order.{lineage, IsOrdered}
use Rattle.db_store.specs.State.{laid}
use Rattle.db_store.proofs.OrderMade.{ordered_stays}
use Rattle.db_store.proofs.SoundLemmas.{sound_stays}
use Rattle.db_store.proofs.CountedLemmas.{counted_stays}
use Rattle.db_store.proofs.LaidLemmas.{laid_stays}
use Rattle.store_catalogue.specs.ByName.{Numbers, KeptNames, AreNumbers}
use Rattle.store_catalogue.proofs.BranchLemmas.{count_more}
use Rattle.bit_rows.specs.Kept.{KeptLane}
use Rattle.hybrid_store.specs.Lanes.{kept_layout}
use Rattle.bit_rows.specs.Segments.{KeptList, no_list, with_head}
use Rattle.hybrid_store.specs.Ready.{no_own}
use Rattle.hybrid_store.specs.ReadyBranch.{Turn, TurnsIf}
use Rattle.hybrid_store.specs.Stored.{kept_dataset, HasRoom, IsStored}
use Rattle.hybrid_store.specs.Store.{layout_of, dataset_in}
use Rattle.hybrid_store.proofs.AddedBranch.{parts, lanes_few, from_there, takes, name_new, heads_count, heads_room, news_count, branch_is_stored, branch_layout_is, branch_state, branch_dataset, branch_numbers, branch_lineage, rooms_after}
use Rattle.hybrid_store.proofs.store.HybridStoreStore.install_branch.Goals as goal

pub turn_if-requires-clause-there : goal.turn_if-requires-clause-there
turn_if-requires-clause-there c =
    let s = c.args.self.now in
    let p = c.args.prepared in
    let b = p.origin in
    let k : KeptLane = p.lane in
    let owns : List Rows = map arc_value p.heads.items in
    let turned : Option Turn = p.turned in
    let e = c.requires.0 in
    let r = c.requires.1 in
    from_there s.schema s.lanes.items s.order.items s.segments.items b k owns turned s.stored s.laid s.sound s.few_relations e r

pub turn_if-requires-clause-can : goal.turn_if-requires-clause-can
turn_if-requires-clause-can c =
    let s = c.args.self.now in
    let p = c.args.prepared in
    let b = p.origin in
    let k : KeptLane = p.lane in
    let owns : List Rows = map arc_value p.heads.items in
    let turned : Option Turn = p.turned in
    let e = c.requires.0 in
    let r = c.requires.1 in
    takes s.schema s.lanes.items s.order.items s.segments.items b k owns turned s.stored s.laid s.sound s.few_relations e r

pub add_heads-requires-clause-count : goal.add_heads-requires-clause-count
add_heads-requires-clause-count c =
    let s = c.args.self.now in
    let p = c.args.prepared in
    let b = p.origin in
    let k : KeptLane = p.lane in
    let owns : List Rows = map arc_value p.heads.items in
    let turned : Option Turn = p.turned in
    let e = c.requires.0 in
    let r = c.requires.1 in
    sym (length-map p.heads.items arc_value) ∙ heads_count s.schema s.lanes.items s.order.items s.segments.items b k owns turned s.stored s.laid s.sound s.few_relations e r c.turn_if.new.lanes.items c.turn_if.new.segments.items [] c.turn_if.ensures.turned

pub add_heads-requires-clause-room : goal.add_heads-requires-clause-room
add_heads-requires-clause-room c =
    let s = c.args.self.now in
    let p = c.args.prepared in
    let b = p.origin in
    let k : KeptLane = p.lane in
    let owns : List Rows = map arc_value p.heads.items in
    let turned : Option Turn = p.turned in
    let e = c.requires.0 in
    let r = c.requires.1 in
    heads_room s.schema s.lanes.items s.order.items s.segments.items b k owns turned s.stored s.laid s.sound s.few_relations e r c.turn_if.new.lanes.items c.turn_if.new.segments.items [] c.turn_if.ensures.turned

pub add-requires-clause-room : goal.add-requires-clause-room
add-requires-clause-room c =
    let s = c.args.self.now in
    let p = c.args.prepared in
    let b = p.origin in
    let k : KeptLane = p.lane in
    let owns : List Rows = map arc_value p.heads.items in
    let turned : Option Turn = p.turned in
    let e = c.requires.0 in
    let r = c.requires.1 in
    omega (arith, s.names_count, s.names_room, lanes_few s.schema s.lanes.items s.order.items s.segments.items b k owns turned s.stored s.laid s.sound s.few_relations e r)

pub add-requires-clause-new : goal.add-requires-clause-new
add-requires-clause-new c =
    let s = c.args.self.now in
    let p = c.args.prepared in
    let b = p.origin in
    let k : KeptLane = p.lane in
    let owns : List Rows = map arc_value p.heads.items in
    let turned : Option Turn = p.turned in
    let e = c.requires.0 in
    let r = c.requires.1 in
    s.named c.name.result ∙ ap (branch_named (dataset_in s)) c.name.ensures ∙ name_new s.schema s.lanes.items s.order.items s.segments.items b k owns turned s.stored s.laid s.sound s.few_relations e r

pub push_reserved-requires : goal.push_reserved-requires
push_reserved-requires c =
    let s = c.args.self.now in
    let p = c.args.prepared in
    let b = p.origin in
    let k : KeptLane = p.lane in
    let owns : List Rows = map arc_value p.heads.items in
    let turned : Option Turn = p.turned in
    let e = c.requires.0 in
    let r = c.requires.1 in
    let news : List KeptLane = c.turn_if.new.lanes.items in
    let lists : List KeptList = c.turn_if.new.segments.items in
    let lasts : List KeptList = c.add_heads.new.segments.items in
    let turns : TurnsIf b turned s.lanes.items s.segments.items news lists = c.turn_if.ensures.turned in
    let number : c.len-number.result ≡ length s.lanes.items = omega (arith, c.len-number.ensures, s.lanes.ok.0) in
    let put : (q : ℕ) → q < length lists → get_or lasts q no_list ≡ with_head (get_or lists q no_list) (length s.lanes.items) (get_or owns q no_own) =
    λ q h. c.add_heads.ensures.each q h ∙ ap (λ n. with_head (get_or lists q no_list) n (get_or owns q no_own)) number in
    let n = news_count s.schema s.lanes.items s.order.items s.segments.items b k owns turned s.stored s.laid s.sound s.few_relations e r news lists lasts turns in
    omega (arith, n, lanes_few s.schema s.lanes.items s.order.items s.segments.items b k owns turned s.stored s.laid s.sound s.few_relations e r, s.branch_room, c.turn_if.new.lanes.ok.0)

pub invariant_of-self : goal.invariant_of-self
invariant_of-self c =
    let s = c.args.self.now in
    let p = c.args.prepared in
    let b = p.origin in
    let k : KeptLane = p.lane in
    let owns : List Rows = map arc_value p.heads.items in
    let turned : Option Turn = p.turned in
    let e = c.requires.0 in
    let r = c.requires.1 in
    let news : List KeptLane = c.turn_if.new.lanes.items in
    let lists : List KeptList = c.turn_if.new.segments.items in
    let lasts : List KeptList = c.add_heads.new.segments.items in
    let turns : TurnsIf b turned s.lanes.items s.segments.items news lists = c.turn_if.ensures.turned in
    let number : c.len-number.result ≡ length s.lanes.items = omega (arith, c.len-number.ensures, s.lanes.ok.0) in
    let put : (q : ℕ) → q < length lists → get_or lasts q no_list ≡ with_head (get_or lists q no_list) (length s.lanes.items) (get_or owns q no_own) =
    λ q h. c.add_heads.ensures.each q h ∙ ap (λ n. with_head (get_or lists q no_list) n (get_or owns q no_own)) number in
    let d : Dataset = dataset_in s in
    let items = c.push_reserved.ensures.items in
    let is : kept_dataset s.schema c.push_reserved.new.self.items s.order.items lasts ≡ apply d e =
    ap (λ (ks : List KeptLane). kept_dataset s.schema ks s.order.items lasts) items ∙ branch_dataset s.schema s.lanes.items s.order.items s.segments.items b k owns turned s.stored s.laid s.sound s.few_relations e r news lists lasts turns c.add_heads.ensures.count put in
    let laid_is : kept_layout s.schema c.push_reserved.new.self.items s.order.items lasts ≡ grow_layout (layout_of s) e =
    ap (λ (ks : List KeptLane). kept_layout s.schema ks s.order.items lasts) items ∙ branch_layout_is s.schema s.lanes.items s.order.items s.segments.items b k owns turned s.stored s.laid s.sound s.few_relations e r news lists lasts turns c.add_heads.ensures.count put in
    let numbers : c.add.new.self.numbers ≡ insert s.names.numbers k.name (length s.lanes.items) = ap (λ (n : KeptNames). n.numbers) c.add.ensures ∙ (λ i. insert s.names.numbers (c.name.ensures i) (number i)) in
    record {
      laid = subst IsLaid (sym laid_is) (laid_stays (layout_of s) e s.laid r.0);
      stored = subst (λ (ks : List KeptLane). IsStored s.schema ks lasts) (sym items) (branch_is_stored s.schema s.lanes.items s.order.items s.segments.items b k owns turned s.stored s.laid s.sound s.few_relations e r news lists lasts turns c.add_heads.ensures.count put);
      sound = subst IsSound (sym is) (sound_stays d e s.sound r.0);
      counted = subst IsCounted (sym is) (counted_stays d e s.counted s.sound r.0);
      few_relations = s.few_relations;
      branch_room = omega (arith, s.branch_room, c.turn_if.ensures.capacity, c.push_reserved.ensures.capacity);
      named = subst (AreNumbers c.add.new.self.numbers) (sym is) (subst (λ (m : Numbers). AreNumbers m (apply d e)) (sym numbers) (branch_numbers s.schema s.lanes.items s.order.items s.segments.items b k owns turned s.stored s.laid s.sound s.few_relations e r s.names.numbers s.named));
      names_count = omega (arith, ap len numbers, count_more s.names.numbers k.name (length s.lanes.items) (s.named k.name ∙ name_new s.schema s.lanes.items s.order.items s.segments.items b k owns turned s.stored s.laid s.sound s.few_relations e r), s.names_count, ap length items, length_push news k, news_count s.schema s.lanes.items s.order.items s.segments.items b k owns turned s.stored s.laid s.sound s.few_relations e r news lists lasts turns);
      names_room = subst (λ n. most_branches ≤ n) (sym (ap (λ (n : KeptNames). n.room) c.add.ensures)) s.names_room;
      rooms = All-same (HasRoom 0) _ _ items (All-push (HasRoom 0) news k (rooms_after s.schema s.lanes.items s.order.items s.segments.items b k owns turned s.stored s.laid s.sound s.few_relations e r news lists lasts turns s.spare s.rooms) (let q = ap (λ (x : KeptLane). length x.seconds) (parts s.schema s.lanes.items s.order.items s.segments.items b k owns turned s.stored s.laid s.sound s.few_relations e r).begun.lane in let w = (parts s.schema s.lanes.items s.order.items s.segments.items b k owns turned s.stored s.laid s.sound s.few_relations e r).begun.room in omega (arith, q, w)));
      order_room = omega (arith, s.order_room);
      ordered = subst IsOrdered (sym is) (ordered_stays d e s.sound s.ordered r.0);
      lined = s.lined ∙ sym (ap lineage is ∙ branch_lineage s.schema s.lanes.items s.order.items s.segments.items b k owns turned s.stored s.laid s.sound s.few_relations e r s.ordered);
      graph_room = omega arith;
      numbered = omega (arith, s.numbered);
    }

pub returns-clause-grown : goal.returns-clause-grown
returns-clause-grown c =
    let s = c.args.self.now in
    let p = c.args.prepared in
    let b = p.origin in
    let k : KeptLane = p.lane in
    let owns : List Rows = map arc_value p.heads.items in
    let turned : Option Turn = p.turned in
    let e = c.requires.0 in
    let r = c.requires.1 in
    let news : List KeptLane = c.turn_if.new.lanes.items in
    let lists : List KeptList = c.turn_if.new.segments.items in
    let lasts : List KeptList = c.add_heads.new.segments.items in
    let turns : TurnsIf b turned s.lanes.items s.segments.items news lists = c.turn_if.ensures.turned in
    let number : c.len-number.result ≡ length s.lanes.items = omega (arith, c.len-number.ensures, s.lanes.ok.0) in
    let put : (q : ℕ) → q < length lists → get_or lasts q no_list ≡ with_head (get_or lists q no_list) (length s.lanes.items) (get_or owns q no_own) =
    λ q h. c.add_heads.ensures.each q h ∙ ap (λ n. with_head (get_or lists q no_list) n (get_or owns q no_own)) number in
    λ f q. ap (λ (ks : List KeptLane). laid (kept_layout s.schema ks s.order.items lasts)) c.push_reserved.ensures.items
    ∙ branch_state s.schema s.lanes.items s.order.items s.segments.items b k owns turned s.stored s.laid s.sound s.few_relations f q news lists lasts turns c.add_heads.ensures.count put
