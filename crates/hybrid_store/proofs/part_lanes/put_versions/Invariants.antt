use Rattle.std.proofs.Common.{◌≡◌, take}
use Rattle.hybrid_store.specs.Parts.{order_of}
use Rattle.hybrid_store.specs.Assembled.{AreWith}
use Rattle.hybrid_store.proofs.part_lanes.put_versions.Given as goal

abbrev pub invariant-loop-made : goal.invariant-loop-made
invariant-loop-made l = record {
  order : l.order.items ≡ order_of (take l.made-index l.versions);
  lanes : AreWith l.initial.lanes.items (take l.made-index l.versions) l.lanes.items;
}
