use Rattle.std.proofs.Common.{rules, ◌≡◌}
use Rattle.std.specs.Ordering.{is_lt}
use Rattle.std.proofs.lemmas.List.Sorted.{ranks_by}
use Rattle.std.proofs.lemmas.Fn.{always_returns_same}
use Rattle.db_value.proofs.OrderLemmas.{record_total}
use Rattle.multi_scan.specs.declared.found.FoundRow.{FoundRow}
use Rattle.multi_scan.specs.Kept.{row_at, kept_cmp}
use Rattle.multi_scan.proofs.found.sort_rows.Goals as goal

pub returns-clause-sorted : goal.returns-clause-sorted
returns-clause-sorted c = c.sort_unstable_by.ensures.sorted (λ x y. is_lt (kept_cmp c.args.records.now x y)) (ranks_by record_total (λ (f : FoundRow). (row_at c.args.records.now f).row)) (always_returns_same _ (λ a r. is_lt r ≡ is_lt (kept_cmp c.args.records.now a.0.now a.1.0.now)) _ (λ a r q k. search rules))
