use Rattle.std.proofs.Common.{arith, ap, ◌∙◌}
use Rattle.db_value.specs.Widths.{are_widths}
use Rattle.segment.proofs.PageLemmas.{capacity_some}
use Rattle.segment.proofs.segment.Segment.pages.Goals as goal

pub overflow_sub-result : goal.overflow_sub-result
overflow_sub-result c =
    let some = capacity_some c.as_slice.result.now (ap are_widths c.as_slice.ensures.value ∙ c.as_slice.ensures.are) in
    omega (arith, some, c.capacity_of-most.ensures)

pub nonzero_div-result : goal.nonzero_div-result
nonzero_div-result c =
    let some = capacity_some c.as_slice.result.now (ap are_widths c.as_slice.ensures.value ∙ c.as_slice.ensures.are) in
    omega (arith, some, c.capacity_of-most.ensures)
