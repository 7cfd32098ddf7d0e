use Rattle.std.proofs.Common.{◌≡◌, ◌≤◌, true, length, drop}
use Rattle.db_store.specs.Overlay.{untouched, count_touched}
use Rattle.db_store.specs.Touched.{all_once}
use Rattle.db_store.specs.Layers.{overlays_in}
use Rattle.db_store.specs.Adopt.{touched_by}
use Rattle.db_store.proofs.adopt.touch_all.Given as goal

-- the layers so far, with the changes that are left, give the overlays after all of them
abbrev pub invariant-loop-at : goal.invariant-loop-at
invariant-loop-at l = record {
  overlays : touched_by (overlays_in l.touched.keys) (drop l.at l.changes) ≡ touched_by untouched l.changes;
  once : all_once l.touched.keys ≡ true;
  sum : length l.touched.keys ≡ count_touched (overlays_in l.touched.keys);
  few : length l.touched.keys ≤ l.at;
  room : l.touched.room ≡ l.initial.touched.room;
  most : l.touched.most ≡ l.initial.touched.most;
}
