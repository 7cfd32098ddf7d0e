use Rattle.std.proofs.Common.{Some, None, refl, arith}
use Rattle.db_store.specs.Work.{fields_at, updated}
use Rattle.db_store.specs.WorkState.{working_of}
use Rattle.tries.proofs.Works.{over_put, row_fits, row_meets, set_fits, set_meets}
use Rattle.tries.proofs.changes.take_step.Goals as goal

pub insert-requires-clause-relation : goal.insert-requires-clause-relation
insert-requires-clause-relation g c = omega (arith, c.requires.schema.0, c.requires.work.wide)

pub insert-requires-clause-meets : goal.insert-requires-clause-meets
insert-requires-clause-meets g c = row_meets c.args._schema.now c.requires.schema c.args.work.now c.two_fields-fields.result c.requires.work c.two_fields-fields.ensures

pub returns-in-Insert : goal.returns-in-Insert
returns-in-Insert g c =
    over_put c.args._schema.now c.requires.schema c.insert.result c.args.work.now c.insert.new.self c.in-Insert.key (Some c.two_fields-fields.result) c.insert.ensures.stays c.insert.ensures.changed c.insert.ensures.err
    (row_fits c.args._schema.now c.requires.schema c.two_fields-fields.result c.two_fields-fields.ensures) c.requires.work

pub update-requires-clause-relation : goal.update-requires-clause-relation
update-requires-clause-relation g c = omega (arith, c.requires.schema.0, c.requires.work.wide)

pub update-requires-clause-meets : goal.update-requires-clause-meets
update-requires-clause-meets g c = set_meets c.args._schema.now c.requires.schema c.args.work.now c.in-Update.key c.args.sets.now c.requires.work c.requires.sets

pub returns-in-Update : goal.returns-in-Update
returns-in-Update g c =
    over_put c.args._schema.now c.requires.schema c.update.result c.args.work.now c.update.new.self c.in-Update.key (updated c.args.sets.now (fields_at (working_of c.args.work.now) 0 c.in-Update.key)) c.update.ensures.stays c.update.ensures.changed c.update.ensures.err
    (set_fits c.args._schema.now c.requires.schema c.args.work.now c.in-Update.key c.args.sets.now c.requires.work c.requires.sets) c.requires.work

pub delete-requires : goal.delete-requires
delete-requires g c = omega (arith, c.requires.schema.0, c.requires.work.wide)

pub returns-in-Delete : goal.returns-in-Delete
returns-in-Delete g c = over_put c.args._schema.now c.requires.schema c.delete.result c.args.work.now c.delete.new.self c.in-Delete.key None c.delete.ensures.stays c.delete.ensures.changed c.delete.ensures.err refl c.requires.work
