use Rattle.std.proofs.Common.{◌≡◌, ◌++◌, ◌+◌, length}
use Rattle.std.specs.List.{flat_map}
use Rattle.reply_text.specs.Piece.{field_text}
use Rattle.reply_text.proofs.writer.Writer.fields.Given as goal

-- what was written, and the fields that are left
abbrev pub invariant-loop : goal.invariant-loop
invariant-loop l = record {
  text : l.self ++ flat_map field_text l.walk ≡ l.initial.self ++ flat_map field_text l.fields;
  left : length l.walk + l.counter ≡ length l.fields;
}
