use Rattle.std.proofs.Common.{◌≡◌, take}
use Rattle.std.specs.List.{All}
use Rattle.bit_rows.specs.Seen.{pieces_seen, IsSmall}
use Rattle.bit_rows.proofs.seen.parts_seen.Given as goal

abbrev pub invariant-loop-index : goal.invariant-loop-index
invariant-loop-index l = record {
  parts : l.parts.items ≡ pieces_seen l.kept.all l.position (take l.index l.rows);
  small : All IsSmall l.parts.items;
}
