use Rattle.std.proofs.Common.{◌≡◌, drop}
use Rattle.std.specs.List.{list_any}
use Rattle.db_store.specs.Body.{is_of_texts}
use Rattle.db_store.proofs.bulk.any_of_texts.Given as goal

-- the columns that are left decide
abbrev pub invariant-loop-at : goal.invariant-loop-at
invariant-loop-at l = list_any is_of_texts (drop l.at l.widths) ≡ list_any is_of_texts l.widths
