use Rattle.std.proofs.Common.{ap, ◌∙◌}
use Rattle.std.specs.Prelude.{Err}
use Rattle.branch_tx.proofs.ask.condition.Goals as goal

pub unreachable-requires : goal.unreachable-requires
unreachable-requires c =
    let stop = c.in-Err-NoColumn in
    cc (c.resolve.ensures.no_column stop.field-0-0 (stop.is ∙ ap Err stop.field-0-is), c.requires.asked)

pub unreachable-requires-in-Err-WrongKind : goal.unreachable-requires-in-Err-WrongKind
unreachable-requires-in-Err-WrongKind c =
    let stop = c.in-Err-WrongKind in
    cc (c.resolve.ensures.wrong_kind stop.field-0-0 (stop.is ∙ ap Err stop.field-0-is), c.requires.asked)
