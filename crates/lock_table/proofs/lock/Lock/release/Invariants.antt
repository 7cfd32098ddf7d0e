use Rattle.std.proofs.Common.{◌≡◌}
use Rattle.std.specs.Prelude.{vec_capacity}
use Rattle.std.proofs.lemmas.List.Filters.{FiltersInPlace}
use Rattle.lock_table.specs.Kept.{is_of_other}
use Rattle.lock_table.proofs.lock.Lock.release.Given as goal

abbrev pub invariant-loop-i : goal.invariant-loop-i
invariant-loop-i l = FiltersInPlace (is_of_other l.session) l.initial.self-inside.grants.items l.self-inside.grants.items l.kept l.i × (vec_capacity l.self-inside.grants ≡ vec_capacity l.initial.self-inside.grants)
