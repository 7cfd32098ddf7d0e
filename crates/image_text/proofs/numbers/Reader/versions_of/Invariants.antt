use Rattle.std.proofs.Common.{◌≡◌, ◌-◌, length, []}
use Rattle.std.specs.Prelude.{replicate}
use Rattle.image_text.specs.Reading.{repeat, next_version}
use Rattle.image_text.proofs.numbers.Reader.versions_of.Given as goal

abbrev pub invariant-loop : goal.invariant-loop
invariant-loop l = repeat (next_version l.bases) (l.count - l.counter) (l.lasts.items, l.versions.items) l.self.rest.now ≡ repeat (next_version l.bases) l.count (replicate (length l.bases) 0, []) l.fn.self.rest.now
