use Rattle.std.proofs.Common.{arith, ◌≤◌, ◌++◌, ◌∷◌, [], ℕ, List, length, map, ap, sym, ◌∙◌, subst}
use Rattle.std.specs.Arc.{arc_value}
use Rattle.std.proofs.lemmas.List.{length-map}
use Rattle.record_page.specs.Page.{Rows, capacity}
use Rattle.segment.specs.Keys.{AreSlots}
use Rattle.segment.specs.Pages.{pages_of, records_of, IsLaid}
use Rattle.segment.proofs.BlockLemmas.{laid_last, rows_after}
use Rattle.segment.proofs.segment.Segment.with_last.Goals as goal

pub invariant_of-result : goal.invariant_of-result
invariant_of-result c =
    let t = c.args.tail in
    let blocks : List (List Rows) = arc_value t.blocks in
    let pages : List Rows = map arc_value t.pages.items in
    let put = c.in_ok-put_page.ensures.put in
    let room = c.requires.room in
    let m = length-map t.pages.items arc_value in
    let fits : length t.last.records ≤ capacity t.widths = subst (λ (k : List ℕ). length t.last.records ≤ capacity k) t.same c.len-count.ensures.paged.room in
    let laid : IsLaid t.widths blocks (pages ++ t.last ∷ []) = laid_last t.widths blocks pages t.last (c.as_slice.ensures.are) t.full t.whole (omega (arith, room, m)) t.same c.requires.some fits c.requires.wide in
    let rows = sym (rows_after (pages_of blocks) pages t.last) ∙ ap (λ (ps : List Rows). records_of (pages_of blocks ++ ps)) (sym put) in (
      (c.requires.len ∙ ap length rows, subst (AreSlots c.args.slots) rows c.requires.slots),
      (
        c.capacity_of-most.ensures ∙ ap capacity c.as_slice.ensures.value,
        subst (λ (ps : List Rows). IsLaid t.widths blocks ps) (sym put) laid,
      ),
    )
