use Rattle.std.proofs.Common.{◌≡◌, ◌∙◌, ◌++◌, ◌∷◌, ℕ, List, [], length, get_or, arith, ap}
use Rattle.std.proofs.lemmas.List.{get_or_default}
use Rattle.bit_rows.specs.Rows.{KeptRow, MoreRow, no_more}
use Rattle.bit_rows.specs.Kept.{more_at}
use Rattle.bit_rows.proofs.PushLemmas.{push_below, push_there, push_next, push_within, push_count, push_left, push_same, push_done}
use Rattle.bit_rows.proofs.lane.add_rows.Goals as goal

pub add-requires : goal.add-requires
add-requires c =
    let rows : List (List KeptRow) = c.loop-next.rows.items in
    let olds : List (List KeptRow) = c.args.rows.now.items in
    let xs : List MoreRow = c.loop-next.more.items in
    let ys : List MoreRow = c.pop.new.self.items in
    let all : List MoreRow = c.args.more.items in
    let next : MoreRow = c.in-Some.next in
    let m : ℕ = c.len-relation.result in
    let v = c.loop-next.invariant in
    let at : m ≡ length ys = omega (arith, c.len-relation.ensures, c.pop.new.self.ok.0) in
    let below = push_below [] no_more rows olds xs ys all next m at c.in-Some.ensures.items v.count v.within v.left v.same in
    let there = push_there [] no_more rows olds xs ys all next m at c.in-Some.ensures.items v.count v.within v.left v.same in
    let is : next ≡ more_at all m = push_next [] no_more rows olds xs ys all next m at c.in-Some.ensures.items v.count v.within v.left v.same in
    let row : c.index_mut.result.now ≡ get_or olds m [] = c.index_mut.ensures.value ∙ get_or_default rows m c.index_mut.result.now [] there ∙ v.same m below in
    let long = ap (λ (rs : List KeptRow). length rs) row in
    let room = c.requires.room m (omega (arith, there, v.count)) in
    let same = ap (λ (x : MoreRow). x.room) is in
    omega (arith, long, room, same)

pub loop-next-preserved : goal.loop-next-preserved
loop-next-preserved c =
    let rows : List (List KeptRow) = c.loop-next.rows.items in
    let olds : List (List KeptRow) = c.args.rows.now.items in
    let xs : List MoreRow = c.loop-next.more.items in
    let ys : List MoreRow = c.pop.new.self.items in
    let all : List MoreRow = c.args.more.items in
    let next : MoreRow = c.in-Some.next in
    let m : ℕ = c.len-relation.result in
    let x : List KeptRow = c.add.new.self in
    let v = c.loop-next.invariant in
    let at : m ≡ length ys = omega (arith, c.len-relation.ensures, c.pop.new.self.ok.0) in
    let below = push_below [] no_more rows olds xs ys all next m at c.in-Some.ensures.items v.count v.within v.left v.same in
    let there = push_there [] no_more rows olds xs ys all next m at c.in-Some.ensures.items v.count v.within v.left v.same in
    let is : next ≡ more_at all m = push_next [] no_more rows olds xs ys all next m at c.in-Some.ensures.items v.count v.within v.left v.same in
    let row : c.index_mut.result.now ≡ get_or olds m [] = c.index_mut.ensures.value ∙ get_or_default rows m c.index_mut.result.now [] there ∙ v.same m below in
    let now : x ≡ get_or olds m [] ++ (more_at all m).row ∷ [] = c.add.ensures ∙ (λ i. row i ++ (is i).row ∷ []) in
    record {
      count = push_count [] no_more rows olds xs ys all next m at c.in-Some.ensures.items v.count v.within v.left v.same x;
      within = push_within [] no_more rows olds xs ys all next m at c.in-Some.ensures.items v.count v.within v.left v.same;
      left = push_left [] no_more rows olds xs ys all next m at c.in-Some.ensures.items v.count v.within v.left v.same;
      same = push_same [] no_more rows olds xs ys all next m at c.in-Some.ensures.items v.count v.within v.left v.same x;
      done = push_done [] no_more rows olds xs ys all next m at c.in-Some.ensures.items v.count v.within v.left v.same x (λ r (y : List KeptRow). y ≡ get_or olds r [] ++ (more_at all r).row ∷ []) v.done now;
    }
