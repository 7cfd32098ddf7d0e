use Rattle.std.proofs.Common.{◌≡◌, ◌++◌, ◌+◌, length, map}
use Rattle.db_value.specs.ValueText.{value_text}
use Rattle.stmt_text.specs.Spelling.{behind_spaces}
use Rattle.stmt_text.proofs.spell.push_fields.Given as goal

-- what is written, and the fields that are left, are all fields
abbrev pub invariant-loop : goal.invariant-loop
invariant-loop l = record {
  text : l.out.items ++ behind_spaces (map value_text l.walk) ≡ l.initial.out.items ++ behind_spaces (map value_text l.fields);
  left : length l.walk + l.counter ≡ length l.fields;
}
