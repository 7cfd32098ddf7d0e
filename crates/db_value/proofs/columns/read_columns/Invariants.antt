use Rattle.std.proofs.Common.{◌≡◌, map, [], drop, length, true}
use Rattle.std.specs.List.{list_all}
use Rattle.db_value.specs.Width.{is_width}
use Rattle.db_value.specs.Schema.{columns_from}
use Rattle.db_value.proofs.columns.read_columns.Given as goal

-- the columns so far, and the words that are left, give what all words give
abbrev pub invariant-loop-word : goal.invariant-loop-word
invariant-loop-word l = record {
  same : columns_from l.items.items (map (λ w. w.now) (drop l.word-index l.words)) ≡ columns_from [] (map (λ w. w.now) l.words);
  count : length l.items.items ≡ l.word-index;
  bound : list_all (λ c. is_width c.width) l.items.items ≡ true;
}
