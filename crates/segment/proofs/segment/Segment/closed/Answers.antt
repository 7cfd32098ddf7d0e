use Rattle.std.proofs.Common.{arith, ◌≡◌, ◌++◌, [], List, length, map, ap, ◌∙◌, subst}
use Rattle.std.specs.Arc.{arc_value}
use Rattle.std.proofs.lemmas.List.{length-map, nil_from_length, append-nil}
use Rattle.db_value.specs.declared.record.Record.{Record}
use Rattle.record_page.specs.Page.{Rows, capacity}
use Rattle.segment.specs.Keys.{AreSlots}
use Rattle.segment.specs.Pages.{pages_of, records_of, AreWide}
use Rattle.segment.proofs.BlockLemmas.{laid_all}
use Rattle.segment.proofs.segment.Segment.closed.Goals as goal

pub invariant_of-result : goal.invariant_of-result
invariant_of-result c =
    let t = c.args.tail in
    let blocks : List (List Rows) = arc_value t.blocks in
    let pages : List Rows = map arc_value t.pages.items in
    let rows : List Record = records_of (pages_of blocks ++ pages) in
    let zero = c.if-len-gt0.false in
    let count = c.len.ensures.count in
    let none : t.last.records ≡ [] = nil_from_length t.last.records (omega (arith, zero, count)) in
    let all : rows ++ t.last.records ≡ rows = ap (λ (xs : List Record). rows ++ xs) none ∙ append-nil rows in
    let few = t.few in
    let m = length-map t.pages.items arc_value in (
      (c.requires.len ∙ ap length all, subst (AreSlots c.args.slots) all c.requires.slots),
      (
        c.capacity_of-most.ensures ∙ ap capacity c.as_slice.ensures.value,
        laid_all t.widths blocks pages (c.as_slice.ensures.are) t.full t.whole (omega (arith, few, m)) (subst (AreWide t.widths) all c.requires.wide),
      ),
    )
