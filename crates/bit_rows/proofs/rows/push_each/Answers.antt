use Rattle.std.proofs.Common.{◌≡◌, ◌∙◌, ℕ, List, length, arith, sym}
use Rattle.std.proofs.lemmas.List.{get_or_default}
use Rattle.commit_history.specs.Runs.{Next, next_of}
use Rattle.bit_rows.specs.Rows.{KeptRow, no_kept_row, no_next, kept_row_at, next_at, pushed_row}
use Rattle.bit_rows.proofs.PushLemmas.{push_below, push_there, push_next, push_within, push_count, push_left, push_same, push_done}
use Rattle.bit_rows.proofs.rows.push_each.Goals as goal

pub push-requires : goal.push-requires
push-requires c =
    let rows : List KeptRow = c.loop-next.rows.items in
    let olds : List KeptRow = c.args.rows.now.items in
    let xs : List Next = c.loop-next.nexts.items in
    let ys : List Next = c.pop.new.self.items in
    let all : List Next = c.args.nexts.items in
    let next : Next = c.in-Some.next in
    let m : ℕ = c.len-index.result in
    let v = c.loop-next.invariant in
    let at : m ≡ length ys = omega (arith, c.len-index.ensures, c.pop.new.self.ok.0) in
    let below = push_below no_kept_row no_next rows olds xs ys all next m at c.in-Some.ensures.items v.count v.within v.left v.same in
    let there = push_there no_kept_row no_next rows olds xs ys all next m at c.in-Some.ensures.items v.count v.within v.left v.same in
    let is : next ≡ next_at all m = push_next no_kept_row no_next rows olds xs ys all next m at c.in-Some.ensures.items v.count v.within v.left v.same in
    let row : c.index_mut.result.now ≡ kept_row_at olds m = c.index_mut.ensures.value ∙ get_or_default rows m c.index_mut.result.now no_kept_row there ∙ v.same m below in
    is ∙ c.requires.ready m (omega (arith, there, v.count)) ∙ (λ i. next_of (sym row i).deltas (sym is i).delta.item)

pub loop-next-preserved : goal.loop-next-preserved
loop-next-preserved c =
    let rows : List KeptRow = c.loop-next.rows.items in
    let olds : List KeptRow = c.args.rows.now.items in
    let xs : List Next = c.loop-next.nexts.items in
    let ys : List Next = c.pop.new.self.items in
    let all : List Next = c.args.nexts.items in
    let next : Next = c.in-Some.next in
    let m : ℕ = c.len-index.result in
    let x : KeptRow = c.push.new.self in
    let v = c.loop-next.invariant in
    let at : m ≡ length ys = omega (arith, c.len-index.ensures, c.pop.new.self.ok.0) in
    let below = push_below no_kept_row no_next rows olds xs ys all next m at c.in-Some.ensures.items v.count v.within v.left v.same in
    let there = push_there no_kept_row no_next rows olds xs ys all next m at c.in-Some.ensures.items v.count v.within v.left v.same in
    let is : next ≡ next_at all m = push_next no_kept_row no_next rows olds xs ys all next m at c.in-Some.ensures.items v.count v.within v.left v.same in
    let row : c.index_mut.result.now ≡ kept_row_at olds m = c.index_mut.ensures.value ∙ get_or_default rows m c.index_mut.result.now no_kept_row there ∙ v.same m below in
    let now : x ≡ pushed_row (kept_row_at olds m) (next_at all m) = c.push.ensures ∙ (λ i. pushed_row (row i) (is i)) in
    record {
      count = push_count no_kept_row no_next rows olds xs ys all next m at c.in-Some.ensures.items v.count v.within v.left v.same x;
      within = push_within no_kept_row no_next rows olds xs ys all next m at c.in-Some.ensures.items v.count v.within v.left v.same;
      left = push_left no_kept_row no_next rows olds xs ys all next m at c.in-Some.ensures.items v.count v.within v.left v.same;
      same = push_same no_kept_row no_next rows olds xs ys all next m at c.in-Some.ensures.items v.count v.within v.left v.same x;
      done = push_done no_kept_row no_next rows olds xs ys all next m at c.in-Some.ensures.items v.count v.within v.left v.same x (λ i (y : KeptRow). y ≡ pushed_row (kept_row_at olds i) (next_at all i)) v.done now;
    }
