use Rattle.std.proofs.Common.{subst, List, map}
use Rattle.std.specs.List.Sorted.{IsPermutation}
use Rattle.std.proofs.lemmas.List.Sorted.{IsPermutation-map}
use Rattle.db_value.specs.declared.record.Marked.{Marked}
use Rattle.multi_scan.specs.Kept.{row_at, IsThere}
use Rattle.multi_scan.proofs.Totals.{all_moved}
use Rattle.multi_scan.proofs.KeptLemmas.{rows_sorted}
use Rattle.multi_scan.proofs.found.FoundRows.sort.Goals as goal

pub invariant_of-self : goal.invariant_of-self
invariant_of-self c = all_moved (IsThere c.self.inside.records) c.self.inside.rows.items c.sort_rows.new.rows.items c.sort_rows.ensures.permutation c.self.invariant

pub returns-clause-permutation : goal.returns-clause-permutation
returns-clause-permutation c = subst (λ (xs : List Marked). IsPermutation xs (map (row_at c.self.inside.records) c.sort_rows.new.rows.items)) c.self.view_is (IsPermutation-map (row_at c.self.inside.records) c.self.inside.rows.items c.sort_rows.new.rows.items c.sort_rows.ensures.permutation)

pub returns-clause-sorted : goal.returns-clause-sorted
returns-clause-sorted c = rows_sorted c.self.inside.records c.sort_rows.new.rows.items c.sort_rows.ensures.sorted
