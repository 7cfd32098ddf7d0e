use Rattle.std.proofs.Common.{◌≡◌, ◌∙◌, ◌<◌, ◌≤◌, ◌++◌, ◌∷◌, [], ℕ, List, length, map, get_or, arith, ap}
use Rattle.std.specs.Arc.{arc_value}
use Rattle.std.proofs.lemmas.List.{get_or_default, length-map, map-append}
use Rattle.record_page.specs.Page.{Rows}
use Rattle.bit_rows.specs.Segments.{KeptList, no_list, with_head}
use Rattle.hybrid_store.specs.Ready.{no_own}
use Rattle.bit_rows.proofs.PushLemmas.{push_below, push_there, push_next, push_within, push_count, push_left, push_same, push_done}
use Rattle.hybrid_store.proofs.install_branch.add_heads.Goals as goal

pub add-requires : goal.add-requires
add-requires c =
    let lists : List KeptList = c.loop-own.segments.items in
    let olds : List KeptList = c.args.segments.now.items in
    let xs : List Rows = map arc_value c.loop-own.heads.items in
    let ys : List Rows = map arc_value c.pop.new.self.items in
    let all : List Rows = map arc_value c.args.heads.items in
    let next : Rows = arc_value c.in-Some.own in
    let m : ℕ = c.len-relation.result in
    let v = c.loop-own.invariant in
    let lm = length-map c.pop.new.self.items arc_value in
    let lx = length-map c.loop-own.heads.items arc_value in
    let within : length xs ≤ length olds = omega (arith, v.within, lx) in
    let left : (i : ℕ) → i < length xs → get_or xs i no_own ≡ get_or all i no_own = λ i h. v.left i (omega (arith, h, lx)) in
    let same : (i : ℕ) → i < length xs → get_or lists i no_list ≡ get_or olds i no_list = λ i h. v.same i (omega (arith, h, lx)) in
    let at : m ≡ length ys = omega (arith, c.len-relation.ensures, c.pop.new.self.ok.0, lm) in
    let split : xs ≡ ys ++ next ∷ [] = ap (map arc_value) c.in-Some.ensures.items ∙ map-append arc_value c.pop.new.self.items (c.in-Some.own ∷ []) in
    let below = push_below no_list no_own lists olds xs ys all next m at split v.count within left same in
    let there = push_there no_list no_own lists olds xs ys all next m at split v.count within left same in
    let row : c.index_mut.result.now ≡ get_or olds m no_list = c.index_mut.ensures.value ∙ get_or_default lists m c.index_mut.result.now no_list there ∙ same m below in
    let is = c.requires.room m (omega (arith, there, v.count)) in
    let long = ap (λ (k : KeptList). length k.all) row in
    let wide = ap (λ (k : KeptList). k.room) row in
    omega (arith, is, wide, long)

pub loop-own-preserved : goal.loop-own-preserved
loop-own-preserved c =
    let lists : List KeptList = c.loop-own.segments.items in
    let olds : List KeptList = c.args.segments.now.items in
    let xs : List Rows = map arc_value c.loop-own.heads.items in
    let ys : List Rows = map arc_value c.pop.new.self.items in
    let all : List Rows = map arc_value c.args.heads.items in
    let next : Rows = arc_value c.in-Some.own in
    let m : ℕ = c.len-relation.result in
    let x : KeptList = c.add.new.self in
    let v = c.loop-own.invariant in
    let lm = length-map c.pop.new.self.items arc_value in
    let lx = length-map c.loop-own.heads.items arc_value in
    let within : length xs ≤ length olds = omega (arith, v.within, lx) in
    let left : (i : ℕ) → i < length xs → get_or xs i no_own ≡ get_or all i no_own = λ i h. v.left i (omega (arith, h, lx)) in
    let same : (i : ℕ) → i < length xs → get_or lists i no_list ≡ get_or olds i no_list = λ i h. v.same i (omega (arith, h, lx)) in
    let at : m ≡ length ys = omega (arith, c.len-relation.ensures, c.pop.new.self.ok.0, lm) in
    let split : xs ≡ ys ++ next ∷ [] = ap (map arc_value) c.in-Some.ensures.items ∙ map-append arc_value c.pop.new.self.items (c.in-Some.own ∷ []) in
    let below = push_below no_list no_own lists olds xs ys all next m at split v.count within left same in
    let there = push_there no_list no_own lists olds xs ys all next m at split v.count within left same in
    let is : next ≡ get_or all m no_own = push_next no_list no_own lists olds xs ys all next m at split v.count within left same in
    let row : c.index_mut.result.now ≡ get_or olds m no_list = c.index_mut.ensures.value ∙ get_or_default lists m c.index_mut.result.now no_list there ∙ same m below in
    let now : x ≡ with_head (get_or olds m no_list) c.args.branch (get_or all m no_own) = c.add.ensures ∙ (λ i. with_head (row i) c.args.branch (is i)) in
    record {
      count = push_count no_list no_own lists olds xs ys all next m at split v.count within left same x;
      within = let w = push_within no_list no_own lists olds xs ys all next m at split v.count within left same in omega (arith, w, lm);
      left = λ i h. push_left no_list no_own lists olds xs ys all next m at split v.count within left same i (omega (arith, h, lm));
      same = λ i h. push_same no_list no_own lists olds xs ys all next m at split v.count within left same x i (omega (arith, h, lm));
      done = λ i h k. push_done no_list no_own lists olds xs ys all next m at split v.count within left same x
          (λ r (y : KeptList). y ≡ with_head (get_or olds r no_list) c.args.branch (get_or all r no_own)) (λ r a b. v.done r (omega (arith, a, lx)) b) now i (omega (arith, h, lm)) k;
    }
