use Rattle.std.proofs.Common.{◌≡◌, List, length, sym, subst, true, arith}
use Rattle.std.specs.List.{list_all}
use Rattle.db_value.specs.Relations.{widths_at}
use Rattle.db_value.specs.declared.entry.Change.{Change}
use Rattle.db_store.specs.Adopt.{AreAdoptable, change_meets}
use Rattle.db_store.specs.WorkState.{under_of, widths_of}
use Rattle.tries.proofs.Works.{two_adoptable, two_meet}
use Rattle.tries.proofs.changes.answers_of.Goals as goal

pub adopt-requires-clause-changes : goal.adopt-requires-clause-changes
adopt-requires-clause-changes g c =
    let n = length (g.V.View.table (under_of c.args.merged.now)) in
    subst (AreAdoptable n) (sym c.requires.changes) (two_adoptable (widths_at c.args.schema.now 0) n (omega (arith, c.requires.schema.0, c.requires.merged.0.wide)))

pub adopt-requires-clause-meet : goal.adopt-requires-clause-meet
adopt-requires-clause-meet g c =
    subst (λ (cs : List Change). list_all (change_meets (widths_of c.args.merged.now)) cs ≡ true) (sym c.requires.changes)
    (two_meet c.args.schema.now c.requires.schema c.args.merged.now (widths_at c.args.schema.now 0) c.requires.merged.0)

pub adopt-requires-2-clause-changes : goal.adopt-requires-2-clause-changes
adopt-requires-2-clause-changes g c =
    let n = length (g.V.View.table (under_of c.args.crowded.now)) in
    subst (AreAdoptable n) (sym c.requires.changes) (two_adoptable (widths_at c.args.schema.now 0) n (omega (arith, c.requires.schema.0, c.requires.crowded.0.wide)))

pub adopt-requires-2-clause-meet : goal.adopt-requires-2-clause-meet
adopt-requires-2-clause-meet g c =
    subst (λ (cs : List Change). list_all (change_meets (widths_of c.args.crowded.now)) cs ≡ true) (sym c.requires.changes)
    (two_meet c.args.schema.now c.requires.schema c.args.crowded.now (widths_at c.args.schema.now 0) c.requires.crowded.0)
