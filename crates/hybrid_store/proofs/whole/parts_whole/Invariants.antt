use Rattle.std.proofs.Common.{◌≡◌, map, take}
use Rattle.std.specs.List.{All}
use Rattle.bit_rows.specs.Seen.{IsSmall}
use Rattle.hybrid_store.specs.Whole.{whole_piece}
use Rattle.hybrid_store.proofs.whole.parts_whole.Given as goal

abbrev pub invariant-loop-index : goal.invariant-loop-index
invariant-loop-index l = record {
  parts : l.parts.items ≡ map (whole_piece l.kept.all) (take l.index l.live.pieces);
  small : All IsSmall l.parts.items;
}
