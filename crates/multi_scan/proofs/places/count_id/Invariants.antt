use Rattle.std.proofs.Common.{◌≡◌, ◌+◌, drop}
use Rattle.multi_scan.specs.Places.{id_run}
use Rattle.multi_scan.proofs.places.count_id.Given as goal

abbrev pub invariant-loop-place : goal.invariant-loop-place
invariant-loop-place l = record {
  at : l.count ≡ l.place-index;
  rest : l.count + id_run l.id (drop l.place-index l.places) ≡ id_run l.id l.places;
}
