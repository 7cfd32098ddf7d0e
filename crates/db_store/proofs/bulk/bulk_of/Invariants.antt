use Rattle.std.proofs.Common.{◌≡◌, ◌≤◌, ◌+◌, ◌*◌, true, false, drop, map}
use Rattle.db_store.specs.Body.{changes_size}
use Rattle.db_store.specs.Bulk.{text_count, with_own}
use Rattle.db_store.proofs.bulk.bulk_of.Given as goal

-- the bulk so far, with the changes that are left, gives that of all, and is small
abbrev pub invariant-loop-at : goal.invariant-loop-at
invariant-loop-at l = record {
  plain : l.bulk.plain + changes_size false (map (with_own l.widths) (drop l.at l.changes)) ≡ changes_size false (map (with_own l.widths) l.changes);
  wide : l.bulk.wide + changes_size true (map (with_own l.widths) (drop l.at l.changes)) ≡ changes_size true (map (with_own l.widths) l.changes);
  texts : l.bulk.texts + text_count (map (with_own l.widths) (drop l.at l.changes)) ≡ text_count (map (with_own l.widths) l.changes);
  small_plain : l.bulk.plain ≤ 4000 * l.at;
  small_wide : l.bulk.wide ≤ 4000 * l.at;
  small_texts : l.bulk.texts ≤ 4000 * l.at;
}
