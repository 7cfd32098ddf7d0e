use Rattle.std.proofs.Common.{◌≡◌, ◌++◌, map, take}
use Rattle.db_value.specs.declared.record.Record.{Record}
use Rattle.image_text.proofs.records.put_keys_of.Given as goal

abbrev pub invariant-loop-slot : goal.invariant-loop-slot
invariant-loop-slot g l = l.keys.items ≡ l.fn.keys.items ++ map (λ (x : Record). x.key) (take l.slot l.segment.records)
