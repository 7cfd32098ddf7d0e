use Rattle.std.proofs.Common.{◌≡◌, ◌-◌, ◌<◌, ◌≤◌, ℕ, List, length, map, sym, subst}
use Rattle.std.specs.Arc.{arc_value}
use Rattle.std.proofs.lemmas.List.{length-map}
use Rattle.record_page.specs.Page.{Rows, capacity}
use Rattle.segment.specs.Pages.{page_at}
use Rattle.segment.proofs.BlockLemmas.{all_if}
use Rattle.segment.proofs.tail.Tail.of.Goals as goal

pub after_last-requires-clause-full : goal.after_last-requires-clause-full
after_last-requires-clause-full c =
    let links = c.args.links.now in
    let pages : List Rows = map arc_value links in
    let m = length-map links arc_value in
    all_if c.args.widths.now (arc_value c.args.blocks.now) pages c.requires (λ h.
    subst (λ (k : ℕ). capacity c.args.widths.now ≤ length (page_at pages (k - 1)).records) (sym m) (c.has_room.ensures.full c.if-has_room.false (subst (λ (k : ℕ). 0 < k) m h)))
