use Rattle.std.proofs.Common.{rules, ◌≡◌, ◌<◌, ◌++◌, ℕ, List, drop, Option, Some, sym, ap, ◌∙◌}
use Rattle.std.proofs.lemmas.List.Elements.{All-from_get_or}
use Rattle.entry_codec.specs.Grammar.{entry_in}
use Rattle.entry_codec.specs.Laws.{AreBytes}
use Rattle.entry_codec.specs.Spelling.{spelling, entry_size}
use Rattle.entry_codec.proofs.Spelled.{spelled}
use Rattle.entry_codec.proofs.read.decode.Goals as goal

pub returns-in-Ok-Some-clause-spelled : goal.returns-in-Ok-Some-clause-spelled
returns-in-Ok-Some-clause-spelled c =
    let bytes = c.args.bytes.now in
    let e = c.in-Ok-Some.entry in
    let are : AreBytes bytes = All-from_get_or (λ (x : ℕ). x < 256) bytes 0 (λ i lt. (c.type_inv.bytes i).fits) in
    let read : entry_in bytes ≡ Some e = search rules in
    let size : c.in-Ok-Some.size ≡ entry_size e = search rules in
    record {
      size = size;
      within = search rules;
      spelled = (spelled bytes e are read).0 ∙ ap (λ (n : ℕ). spelling e ++ drop n bytes) (sym size);
    }

pub returns-in-Ok-Some-clause-rules : goal.returns-in-Ok-Some-clause-rules
returns-in-Ok-Some-clause-rules c =
    let bytes = c.args.bytes.now in
    let e = c.in-Ok-Some.entry in
    let are : AreBytes bytes = All-from_get_or (λ (x : ℕ). x < 256) bytes 0 (λ i lt. (c.type_inv.bytes i).fits) in
    let read : entry_in bytes ≡ Some e = search rules in
    (spelled bytes e are read).1
