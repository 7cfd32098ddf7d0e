use Rattle.std.proofs.Common.{◌≡◌, ◌∙◌, ◌<◌, ℕ, List, [], length, get_or, arith, ap, sym, subst}
use Rattle.std.proofs.lemmas.List.{get_or_default}
use Rattle.commit_history.specs.Runs.{Next, next_of}
use Rattle.bit_rows.specs.Rows.{KeptRow, kept_row_at, next_at, pushed_row}
use Rattle.bit_rows.specs.Kept.{nexts_at}
use Rattle.bit_rows.proofs.PushLemmas.{push_below, push_there, push_next, push_within, push_count, push_left, push_same, push_done}
use Rattle.bit_rows.proofs.lane.push_all.Goals as goal

pub push-requires-clause-count : goal.push-requires-clause-count
push-requires-clause-count c =
    let rows : List (List KeptRow) = c.loop-nexts.rows.items in
    let olds : List (List KeptRow) = c.args.rows.now.items in
    let xs : List (List Next) = c.loop-nexts.deltas.items in
    let ys : List (List Next) = c.pop.new.self.items in
    let all : List (List Next) = c.args.deltas.items in
    let next : List Next = c.in-Some.nexts in
    let m : ℕ = c.len-relation.result in
    let v = c.loop-nexts.invariant in
    let at : m ≡ length ys = omega (arith, c.len-relation.ensures, c.pop.new.self.ok.0) in
    let below = push_below [] [] rows olds xs ys all next m at c.in-Some.ensures.items v.count v.within v.left v.same in
    let there = push_there [] [] rows olds xs ys all next m at c.in-Some.ensures.items v.count v.within v.left v.same in
    let is : next ≡ nexts_at all m = push_next [] [] rows olds xs ys all next m at c.in-Some.ensures.items v.count v.within v.left v.same in
    let row : c.index_mut.result.now ≡ get_or olds m [] = c.index_mut.ensures.value ∙ get_or_default rows m c.index_mut.result.now [] there ∙ v.same m below in
    ap (λ (ns : List Next). length ns) is ∙ c.requires.counts m (omega (arith, there, v.count)) ∙ sym (ap (λ (rs : List KeptRow). length rs) row)

pub push-requires-clause-ready : goal.push-requires-clause-ready
push-requires-clause-ready c =
    let rows : List (List KeptRow) = c.loop-nexts.rows.items in
    let olds : List (List KeptRow) = c.args.rows.now.items in
    let xs : List (List Next) = c.loop-nexts.deltas.items in
    let ys : List (List Next) = c.pop.new.self.items in
    let all : List (List Next) = c.args.deltas.items in
    let next : List Next = c.in-Some.nexts in
    let m : ℕ = c.len-relation.result in
    let v = c.loop-nexts.invariant in
    let at : m ≡ length ys = omega (arith, c.len-relation.ensures, c.pop.new.self.ok.0) in
    let below = push_below [] [] rows olds xs ys all next m at c.in-Some.ensures.items v.count v.within v.left v.same in
    let there = push_there [] [] rows olds xs ys all next m at c.in-Some.ensures.items v.count v.within v.left v.same in
    let is : next ≡ nexts_at all m = push_next [] [] rows olds xs ys all next m at c.in-Some.ensures.items v.count v.within v.left v.same in
    let row : c.index_mut.result.now ≡ get_or olds m [] = c.index_mut.ensures.value ∙ get_or_default rows m c.index_mut.result.now [] there ∙ v.same m below in
    subst (λ (ns : List Next). (i : ℕ) → i < length c.index_mut.result.now → next_at ns i ≡ next_of (kept_row_at c.index_mut.result.now i).deltas (next_at ns i).delta.item) (sym is)
    (subst (λ (rs : List KeptRow). (i : ℕ) → i < length rs → next_at (nexts_at all m) i ≡ next_of (kept_row_at rs i).deltas (next_at (nexts_at all m) i).delta.item) (sym row)
    (λ i h. c.requires.ready m i (omega (arith, there, v.count)) h))

pub loop-nexts-preserved : goal.loop-nexts-preserved
loop-nexts-preserved c =
    let rows : List (List KeptRow) = c.loop-nexts.rows.items in
    let olds : List (List KeptRow) = c.args.rows.now.items in
    let xs : List (List Next) = c.loop-nexts.deltas.items in
    let ys : List (List Next) = c.pop.new.self.items in
    let all : List (List Next) = c.args.deltas.items in
    let next : List Next = c.in-Some.nexts in
    let m : ℕ = c.len-relation.result in
    let x : List KeptRow = c.push.new.self in
    let v = c.loop-nexts.invariant in
    let at : m ≡ length ys = omega (arith, c.len-relation.ensures, c.pop.new.self.ok.0) in
    let below = push_below [] [] rows olds xs ys all next m at c.in-Some.ensures.items v.count v.within v.left v.same in
    let there = push_there [] [] rows olds xs ys all next m at c.in-Some.ensures.items v.count v.within v.left v.same in
    let is : next ≡ nexts_at all m = push_next [] [] rows olds xs ys all next m at c.in-Some.ensures.items v.count v.within v.left v.same in
    let row : c.index_mut.result.now ≡ get_or olds m [] = c.index_mut.ensures.value ∙ get_or_default rows m c.index_mut.result.now [] there ∙ v.same m below in
    let count : length x ≡ length (get_or olds m []) = c.push.ensures.count ∙ ap (λ (rs : List KeptRow). length rs) row in
    let each : (i : ℕ) → i < length (get_or olds m []) → kept_row_at x i ≡ pushed_row (kept_row_at (get_or olds m []) i) (next_at (nexts_at all m) i) =
    λ i h. c.push.ensures.each i (subst (λ (rs : List KeptRow). i < length rs) (sym row) h) ∙ (λ j. pushed_row (kept_row_at (row j) i) (next_at (is j) i)) in
    record {
      count = push_count [] [] rows olds xs ys all next m at c.in-Some.ensures.items v.count v.within v.left v.same x;
      within = push_within [] [] rows olds xs ys all next m at c.in-Some.ensures.items v.count v.within v.left v.same;
      left = push_left [] [] rows olds xs ys all next m at c.in-Some.ensures.items v.count v.within v.left v.same;
      same = push_same [] [] rows olds xs ys all next m at c.in-Some.ensures.items v.count v.within v.left v.same x;
      counts = push_done [] [] rows olds xs ys all next m at c.in-Some.ensures.items v.count v.within v.left v.same x (λ r (y : List KeptRow). length y ≡ length (get_or olds r [])) v.counts count;
      done = λ r i h k. push_done [] [] rows olds xs ys all next m at c.in-Some.ensures.items v.count v.within v.left v.same x
          (λ q (y : List KeptRow). (j : ℕ) → j < length (get_or olds q []) → kept_row_at y j ≡ pushed_row (kept_row_at (get_or olds q []) j) (next_at (nexts_at all q) j)) (λ q a b j. v.done q j a b) each r h k i;
    }
