use Rattle.std.proofs.Common.{arith, ◌≡◌, ◌+◌, ◌-◌, ◌<◌, ◌≤◌, ◌++◌, [], ℕ, List, length, map, take, ap, sym, ◌∙◌, subst}
use Rattle.std.specs.Arc.{arc_value}
use Rattle.std.proofs.lemmas.List.{length-map, length-take}
use Rattle.record_page.specs.Page.{Rows}
use Rattle.segment.specs.Pages.{pages_of, page_at, records_of, AreAllFull, AreWhole}
use Rattle.segment.proofs.BlockLemmas.{front_all, front_rows, last_widths}
use Rattle.segment.proofs.tail.Tail.in_last.Goals as goal

pub invariant_of-result : goal.invariant_of-result
invariant_of-result c =
    let links = c.args.links.now in
    let pages : List Rows = map arc_value links in
    let n : ℕ = length links - 1 in
    let some = c.requires.some in
    let m = length-map links arc_value in
    let laid = c.requires.laid in
    let e : n + 1 ≡ length pages = omega (arith, some, m) in
    let last-is : c.in_ok-last.last ≡ page_at pages n = c.in_ok-last.ensures ∙ c.page_in.ensures in
    let front : map arc_value c.in_ok-pages.pages.items ≡ take n pages = c.in_ok-pages.ensures in
    let few = laid.few in
    let k = length-map c.in_ok-pages.pages.items arc_value in
    let f = ap length front ∙ length-take n pages in
    let all : AreAllFull c.args.widths.now (pages_of (arc_value c.args.blocks.now) ++ map arc_value c.in_ok-pages.pages.items) =
    subst (λ (ps : List Rows). AreAllFull c.args.widths.now (pages_of (arc_value c.args.blocks.now) ++ ps)) (sym front) (front_all c.args.widths.now (pages_of (arc_value c.args.blocks.now)) pages n laid.pages e) in
    record {
      same = ap (λ (p : Rows). p.widths) last-is ∙ last_widths c.args.widths.now (pages_of (arc_value c.args.blocks.now)) pages n laid.pages e;
      full = subst (λ (bs : List (List Rows)). AreAllFull c.args.widths.now (pages_of bs ++ map arc_value c.in_ok-pages.pages.items)) (sym c.in_ok-blocks.ensures) all;
      whole = subst (λ (bs : List (List Rows)). AreWhole bs) (sym c.in_ok-blocks.ensures) laid.whole;
      few = omega (arith, k, f, few, m);
    }

pub returns-clause-rows : goal.returns-clause-rows
returns-clause-rows c =
    let links = c.args.links.now in
    let pages : List Rows = map arc_value links in
    let n : ℕ = length links - 1 in
    let some = c.requires.some in
    let m = length-map links arc_value in
    let laid = c.requires.laid in
    let e : n + 1 ≡ length pages = omega (arith, some, m) in
    let last-is : c.in_ok-last.last ≡ page_at pages n = c.in_ok-last.ensures ∙ c.page_in.ensures in
    let front : map arc_value c.in_ok-pages.pages.items ≡ take n pages = c.in_ok-pages.ensures in
    ap (λ (bs : List (List Rows)). records_of (pages_of bs ++ map arc_value c.in_ok-pages.pages.items) ++ c.in_ok-last.last.records) c.in_ok-blocks.ensures
    ∙ ap (λ (ps : List Rows). records_of (pages_of (arc_value c.args.blocks.now) ++ ps) ++ c.in_ok-last.last.records) front
    ∙ ap (λ (p : Rows). records_of (pages_of (arc_value c.args.blocks.now) ++ take n pages) ++ p.records) last-is
    ∙ front_rows (pages_of (arc_value c.args.blocks.now)) pages n e
