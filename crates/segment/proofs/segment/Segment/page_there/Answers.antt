use Rattle.std.proofs.Common.{arith, ◌≡◌, ◌+◌, ◌-◌, ◌*◌, ◌/◌, ◌%◌, ◌<◌, ◌≤◌, ◌++◌, [], ℕ, List, length, map, get_or, ap, sym, ◌∙◌, subst}
use Rattle.std.specs.Arc.{arc_value}
use Rattle.std.proofs.lemmas.List.{length-map}
use Rattle.record_page.specs.Page.{Rows, capacity}
use Rattle.segment.specs.Pages.{page_at, page_of, pages_of, records_of}
use Rattle.segment.proofs.PageLemmas.{page_is, page_begun, capacity_some}
use Rattle.segment.proofs.BlockLemmas.{block_page, tail_page, tail_there}
use Rattle.segment.proofs.segment.Segment.page_there.Goals as goal

pub returns-then-block-count : goal.returns-then-block-count
returns-then-block-count c =
    let ws : List ℕ = c.self.inside.widths in
    let blocks : List (List Rows) = arc_value c.self.inside.blocks in
    let tail : List Rows = map arc_value c.self.inside.tail.items in
    let laid = c.self.invariant.1.1 in
    let h : c.args.index / 64 < length blocks = subst (λ (n : ℕ). c.args.index / 64 < n) (c.count.ensures ∙ ap length c.deref.ensures) c.if-block-count.true in
    let begun : c.args.index * capacity ws < length (records_of (pages_of blocks ++ tail)) = subst (λ (v : Rows). c.args.index * capacity v.widths < length v.records) (sym c.self.view_is) c.requires in
    c.page.ensures ∙ ap (λ (bs : List (List Rows)). page_at (get_or bs (c.args.index / 64) []) (c.args.index % 64)) c.deref-then-block-count.ensures
    ∙ block_page blocks tail c.args.index laid.whole h
    ∙ page_is ws (pages_of blocks ++ tail) c.args.index laid.pages (page_begun ws (pages_of blocks ++ tail) c.args.index laid.pages (capacity_some ws laid.are) begun)
    ∙ ap (λ (v : Rows). page_of v c.args.index) c.self.view_is

pub page_in-requires : goal.page_in-requires
page_in-requires c =
    let ws : List ℕ = c.self.inside.widths in
    let blocks : List (List Rows) = arc_value c.self.inside.blocks in
    let tail : List Rows = map arc_value c.self.inside.tail.items in
    let laid = c.self.invariant.1.1 in
    let h : length blocks ≤ c.args.index / 64 = subst (λ (n : ℕ). n ≤ c.args.index / 64) (c.count.ensures ∙ ap length c.deref.ensures) c.if-block-count.false in
    let begun : c.args.index * capacity ws < length (records_of (pages_of blocks ++ tail)) = subst (λ (v : Rows). c.args.index * capacity v.widths < length v.records) (sym c.self.view_is) c.requires in
    let there = page_begun ws (pages_of blocks ++ tail) c.args.index laid.pages (capacity_some ws laid.are) begun in
    let t = tail_there blocks tail c.args.index laid.whole h there in
    let n : c.count-2.result ≡ length blocks = c.count-2.ensures ∙ ap length c.deref-2.ensures in
    let m = length-map c.self.inside.tail.items arc_value in
    let v = ap length c.as_slice.ensures.value in
    omega (arith, t, n, m, v)

pub returns : goal.returns
returns c =
    let ws : List ℕ = c.self.inside.widths in
    let blocks : List (List Rows) = arc_value c.self.inside.blocks in
    let tail : List Rows = map arc_value c.self.inside.tail.items in
    let laid = c.self.invariant.1.1 in
    let h : length blocks ≤ c.args.index / 64 = subst (λ (n : ℕ). n ≤ c.args.index / 64) (c.count.ensures ∙ ap length c.deref.ensures) c.if-block-count.false in
    let begun : c.args.index * capacity ws < length (records_of (pages_of blocks ++ tail)) = subst (λ (v : Rows). c.args.index * capacity v.widths < length v.records) (sym c.self.view_is) c.requires in
    let n : c.count-2.result ≡ length blocks = c.count-2.ensures ∙ ap length c.deref-2.ensures in
    let tail-is : map arc_value c.as_slice.result.now ≡ tail = ap (map arc_value) c.as_slice.ensures.value in
    c.page_in.ensures ∙ ap (λ (ps : List Rows). page_at ps (c.args.index - 64 * c.count-2.result)) tail-is
    ∙ ap (λ (k : ℕ). page_at tail (c.args.index - 64 * k)) n
    ∙ tail_page blocks tail c.args.index laid.whole h
    ∙ page_is ws (pages_of blocks ++ tail) c.args.index laid.pages (page_begun ws (pages_of blocks ++ tail) c.args.index laid.pages (capacity_some ws laid.are) begun)
    ∙ ap (λ (v : Rows). page_of v c.args.index) c.self.view_is
