use Rattle.std.proofs.Common.{◌<◌, length, sym, subst, Option}
use Rattle.std.specs.Prelude.{IfSome}
use Rattle.db_value.specs.declared.version.VersionPlace.{VersionPlace}
use Rattle.db_store.specs.Dataset.{proper}
use Rattle.db_store.specs.State.{dataset_of}
use Rattle.db_store.proofs.StateLemmas.{proper_made, second_there}
use Rattle.version_log.proofs.log.made_line.Goals as goal

pub name_if-requires : goal.name_if-requires
name_if-requires g c =
    let d = dataset_of (g.St.Store.state c.args.store.now) in
    let sound = g.met.St.Store.sound c.args.store.now in
    let at : VersionPlace = record { branch = c.args.branch; position = c.args.position } in
    subst (λ (o : Option VersionPlace). IfSome o (λ p. p.branch < length d.branches)) (sym c.parents-parents.ensures.second) (second_there d (proper d at) sound (proper_made d at sound c.requires.made))
