use Rattle.std.proofs.Common.{◌≡◌, ◌+◌, ◌<◌, ◌^◌, ◌++◌, List, length, sym, subst}
use Rattle.std.specs.Prelude.{IfOk}
use Rattle.db_value.specs.declared.record.Record.{Record}
use Rattle.segment.specs.Pages.{AreWide}
use Rattle.hybrid_view.proofs.puts.PutRows.behind.Goals as goal

pub with_puts-requires-clause-wide : goal.with_puts-requires-clause-wide
with_puts-requires-clause-wide c = subst (AreWide c.args.segment.now.widths) (sym c.self.view_is) c.requires.wide

pub with_puts-requires-clause-few : goal.with_puts-requires-clause-few
with_puts-requires-clause-few c = subst (λ (xs : List Record). length c.args.segment.now.records + length xs < 2 ^ 32) (sym c.self.view_is) c.requires.few

pub returns : goal.returns
returns c = subst (λ (xs : List Record). IfOk c.with_puts.result (λ s. s ≡ record c.args.segment.now { records = c.args.segment.now.records ++ xs })) c.self.view_is c.with_puts.ensures
