use Rattle.std.proofs.Common.{◌≡◌, ◌∙◌, ◌<◌, ◌≤◌, ◌++◌, ◌∷◌, [], ℕ, List, length, map, get_or, arith, ap, sym, subst}
use Rattle.std.specs.Arc.{arc_value}
use Rattle.std.proofs.lemmas.List.{get_or_default, length-map, map-append}
use Rattle.record_page.specs.Page.{Rows}
use Rattle.bit_rows.specs.Rows.{KeptRow}
use Rattle.bit_rows.specs.Segments.{KeptList, no_list, list_at, with_records}
use Rattle.hybrid_store.specs.Ready.{no_own}
use Rattle.hybrid_store.specs.Stored.{head_in, head_number, HasHead}
use Rattle.bit_rows.specs.Kept.{kept_rows}
use Rattle.hybrid_store.specs.Lanes.{segment_of}
use Rattle.hybrid_store.proofs.OwnLemmas.{has_at}
use Rattle.bit_rows.proofs.PushLemmas.{push_below, push_there, push_next, push_within, push_count, push_left, push_same, push_done}
use Rattle.hybrid_store.proofs.install.put_records.Goals as goal

pub rows-requires : goal.rows-requires
rows-requires c =
    let lists : List KeptList = c.loop-own.segments.items in
    let olds : List KeptList = c.args.segments.now.items in
    let xs : List Rows = map arc_value c.loop-own.records.items in
    let ys : List Rows = map arc_value c.pop.new.self.items in
    let all : List Rows = map arc_value c.args.records.items in
    let next : Rows = arc_value c.in-Some.own in
    let m : ℕ = c.len-relation.result in
    let v = c.loop-own.invariant in
    let lm = length-map c.pop.new.self.items arc_value in
    let lx = length-map c.loop-own.records.items arc_value in
    let within : length xs ≤ length olds = omega (arith, v.within, lx) in
    let left : (i : ℕ) → i < length xs → get_or xs i no_own ≡ get_or all i no_own = λ i h. v.left i (omega (arith, h, lx)) in
    let same : (i : ℕ) → i < length xs → get_or lists i no_list ≡ get_or olds i no_list = λ i h. v.same i (omega (arith, h, lx)) in
    let at : m ≡ length ys = omega (arith, c.len-relation.ensures, c.pop.new.self.ok.0, lm) in
    let split : xs ≡ ys ++ next ∷ [] = ap (map arc_value) c.in-Some.ensures.items ∙ map-append arc_value c.pop.new.self.items (c.in-Some.own ∷ []) in
    let there = push_there no_list no_own lists olds xs ys all next m at split v.count within left same in
    omega (arith, there, v.count, c.requires.rows)

pub head_of_rows-head-requires : goal.head_of_rows-head-requires
head_of_rows-head-requires c =
    let lists : List KeptList = c.loop-own.segments.items in
    let olds : List KeptList = c.args.segments.now.items in
    let xs : List Rows = map arc_value c.loop-own.records.items in
    let ys : List Rows = map arc_value c.pop.new.self.items in
    let all : List Rows = map arc_value c.args.records.items in
    let next : Rows = arc_value c.in-Some.own in
    let m : ℕ = c.len-relation.result in
    let v = c.loop-own.invariant in
    let lm = length-map c.pop.new.self.items arc_value in
    let lx = length-map c.loop-own.records.items arc_value in
    let within : length xs ≤ length olds = omega (arith, v.within, lx) in
    let left : (i : ℕ) → i < length xs → get_or xs i no_own ≡ get_or all i no_own = λ i h. v.left i (omega (arith, h, lx)) in
    let same : (i : ℕ) → i < length xs → get_or lists i no_list ≡ get_or olds i no_list = λ i h. v.same i (omega (arith, h, lx)) in
    let at : m ≡ length ys = omega (arith, c.len-relation.ensures, c.pop.new.self.ok.0, lm) in
    let split : xs ≡ ys ++ next ∷ [] = ap (map arc_value) c.in-Some.ensures.items ∙ map-append arc_value c.pop.new.self.items (c.in-Some.own ∷ []) in
    let there = push_there no_list no_own lists olds xs ys all next m at split v.count within left same in
    let below = push_below no_list no_own lists olds xs ys all next m at split v.count within left same in
    let list : c.index.result.now ≡ get_or olds m no_list = c.index.ensures ∙ get_or_default lists m c.index.result.now no_list there ∙ same m below in
    subst (λ (k : KeptList). HasHead c.args.branch k.all c.rows.result.now) (sym list)
    (subst (λ (rs : List KeptRow). HasHead c.args.branch (list_at olds m) rs) (sym c.rows.ensures) (c.requires.heads m (omega (arith, there, v.count))))

pub put-requires : goal.put-requires
put-requires c =
    let lists : List KeptList = c.loop-own.segments.items in
    let olds : List KeptList = c.args.segments.now.items in
    let xs : List Rows = map arc_value c.loop-own.records.items in
    let ys : List Rows = map arc_value c.pop.new.self.items in
    let all : List Rows = map arc_value c.args.records.items in
    let next : Rows = arc_value c.in-Some.own in
    let m : ℕ = c.len-relation.result in
    let v = c.loop-own.invariant in
    let lm = length-map c.pop.new.self.items arc_value in
    let lx = length-map c.loop-own.records.items arc_value in
    let within : length xs ≤ length olds = omega (arith, v.within, lx) in
    let left : (i : ℕ) → i < length xs → get_or xs i no_own ≡ get_or all i no_own = λ i h. v.left i (omega (arith, h, lx)) in
    let same : (i : ℕ) → i < length xs → get_or lists i no_list ≡ get_or olds i no_list = λ i h. v.same i (omega (arith, h, lx)) in
    let at : m ≡ length ys = omega (arith, c.len-relation.ensures, c.pop.new.self.ok.0, lm) in
    let split : xs ≡ ys ++ next ∷ [] = ap (map arc_value) c.in-Some.ensures.items ∙ map-append arc_value c.pop.new.self.items (c.in-Some.own ∷ []) in
    let below = push_below no_list no_own lists olds xs ys all next m at split v.count within left same in
    let there = push_there no_list no_own lists olds xs ys all next m at split v.count within left same in
    let row : c.index_mut.result.now ≡ get_or olds m no_list = c.index_mut.ensures.value ∙ get_or_default lists m c.index_mut.result.now no_list there ∙ same m below in
    let list : c.index.result.now ≡ get_or olds m no_list = c.index.ensures ∙ get_or_default lists m c.index.result.now no_list there ∙ same m below in
    let head : c.head_of_rows-head.result ≡ head_number olds c.args.branch m = c.head_of_rows-head.ensures ∙ ap (λ (k : KeptList). head_in c.args.branch (map segment_of k.all)) list in
    let held = c.requires.heads m (omega (arith, there, v.count)) in
    let own_at = has_at (head_number olds c.args.branch m) (kept_rows c.args.lane.now m) held.own in
    let is : head_number olds c.args.branch m < length (list_at olds m) = (let x = held.there own_at.0 own_at.1.0 in let y = own_at.1.1 in omega (arith, x, y)) in
    let long = ap (λ (k : KeptList). length k.all) row in
    omega (arith, is, head, long)

pub loop-own-preserved : goal.loop-own-preserved
loop-own-preserved c =
    let lists : List KeptList = c.loop-own.segments.items in
    let olds : List KeptList = c.args.segments.now.items in
    let xs : List Rows = map arc_value c.loop-own.records.items in
    let ys : List Rows = map arc_value c.pop.new.self.items in
    let all : List Rows = map arc_value c.args.records.items in
    let next : Rows = arc_value c.in-Some.own in
    let m : ℕ = c.len-relation.result in
    let x : KeptList = c.put.new.self in
    let v = c.loop-own.invariant in
    let lm = length-map c.pop.new.self.items arc_value in
    let lx = length-map c.loop-own.records.items arc_value in
    let within : length xs ≤ length olds = omega (arith, v.within, lx) in
    let left : (i : ℕ) → i < length xs → get_or xs i no_own ≡ get_or all i no_own = λ i h. v.left i (omega (arith, h, lx)) in
    let same : (i : ℕ) → i < length xs → get_or lists i no_list ≡ get_or olds i no_list = λ i h. v.same i (omega (arith, h, lx)) in
    let at : m ≡ length ys = omega (arith, c.len-relation.ensures, c.pop.new.self.ok.0, lm) in
    let split : xs ≡ ys ++ next ∷ [] = ap (map arc_value) c.in-Some.ensures.items ∙ map-append arc_value c.pop.new.self.items (c.in-Some.own ∷ []) in
    let below = push_below no_list no_own lists olds xs ys all next m at split v.count within left same in
    let there = push_there no_list no_own lists olds xs ys all next m at split v.count within left same in
    let is : next ≡ get_or all m no_own = push_next no_list no_own lists olds xs ys all next m at split v.count within left same in
    let row : c.index_mut.result.now ≡ get_or olds m no_list = c.index_mut.ensures.value ∙ get_or_default lists m c.index_mut.result.now no_list there ∙ same m below in
    let list : c.index.result.now ≡ get_or olds m no_list = c.index.ensures ∙ get_or_default lists m c.index.result.now no_list there ∙ same m below in
    let head : c.head_of_rows-head.result ≡ head_number olds c.args.branch m = c.head_of_rows-head.ensures ∙ ap (λ (k : KeptList). head_in c.args.branch (map segment_of k.all)) list in
    let now : x ≡ with_records (get_or olds m no_list) (head_number olds c.args.branch m) (get_or all m no_own) = c.put.ensures ∙ (λ i. with_records (row i) (head i) (is i)) in
    record {
      count = push_count no_list no_own lists olds xs ys all next m at split v.count within left same x;
      within = let w = push_within no_list no_own lists olds xs ys all next m at split v.count within left same in omega (arith, w, lm);
      left = λ i h. push_left no_list no_own lists olds xs ys all next m at split v.count within left same i (omega (arith, h, lm));
      same = λ i h. push_same no_list no_own lists olds xs ys all next m at split v.count within left same x i (omega (arith, h, lm));
      done = λ i h k. push_done no_list no_own lists olds xs ys all next m at split v.count within left same x
          (λ r (y : KeptList). y ≡ with_records (get_or olds r no_list) (head_number olds c.args.branch r) (get_or all r no_own)) (λ r a b. v.done r (omega (arith, a, lx)) b) now i (omega (arith, h, lm)) k;
    }
