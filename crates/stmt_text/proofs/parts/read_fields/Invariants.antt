use Rattle.std.proofs.Common.{◌≡◌, ◌+◌, drop, map, length}
use Rattle.stmt_text.specs.Steps.{each_of}
use Rattle.stmt_text.specs.Field.{field_of}
use Rattle.stmt_text.proofs.ReadLemmas.{with_front}
use Rattle.stmt_text.proofs.parts.read_fields.Given as goal

-- the values so far, and those of the words that are left, are those of all words
abbrev pub invariant-loop-word : goal.invariant-loop-word
invariant-loop-word l = record {
  same : with_front l.into (each_of field_of (map (λ w. w.now) (drop l.word-index l.rest))) ≡ each_of field_of (map (λ w. w.now) l.words);
  len : length l.into ≡ l.word-index + 1;
}
