use Rattle.std.proofs.Common.{◌≡◌, ◌<◌, ◌∙◌, List, Option, arith, ap, sym, subst, is_some, get_or}
use Rattle.std.specs.Prelude.{IfSome}
use Rattle.db_value.specs.Value.{Value}
use Rattle.db_value.specs.declared.record.Record.{Record}
use Rattle.work_region.specs.declared.rows.RowFrame.{RowFrame as Touch}
use Rattle.db_store.specs.Touched.{state_of, no_touch}
use Rattle.db_store.proofs.TouchLemmas.{place_some, look_some, look_none}
use Rattle.db_store.proofs.WorkLemmas.{fields_untouched, fields_touched, live_is, live_fields}
use Rattle.db_store.proofs.work.Work.read_at.Goals as goal

pub row-requires : goal.row-requires
row-requires g c = (place_some c.args.self.now.touched.keys c.args.relation c.args.key c.in-Some.place (sym c.in-Some.ensures)).0

pub is_live-requires : goal.is_live-requires
is_live-requires g c = (place_some c.args.self.now.touched.keys c.args.relation c.args.key c.in-Some.place (sym c.in-Some.ensures)).0

pub returns-in-Some-clause-there : goal.returns-in-Some-clause-there
returns-in-Some-clause-there g c =
    let ts : List Touch = c.args.self.now.touched.keys in
    let t : Touch = get_or ts c.in-Some.place no_touch in
    let few : c.args.relation < 8 = omega (arith, c.requires, c.args.self.now.viewable.relations) in
    c.is_live.ensures
    ∙ live_is t
    ∙ sym (ap is_some (fields_touched (g.V.View.table c.args.self.now.view) ts c.args.relation c.args.key (state_of t) c.requires few (look_some ts c.args.relation c.args.key c.in-Some.place (sym c.in-Some.ensures))))

pub returns-in-Some-clause-fields : goal.returns-in-Some-clause-fields
returns-in-Some-clause-fields g c =
    let ts : List Touch = c.args.self.now.touched.keys in
    let t : Touch = get_or ts c.in-Some.place no_touch in
    let few : c.args.relation < 8 = omega (arith, c.requires, c.args.self.now.viewable.relations) in
    subst (λ (o : Option (List Value)). IfSome o (λ fields. c.row.new.into.fields ≡ fields))
    (sym (fields_touched (g.V.View.table c.args.self.now.view) ts c.args.relation c.args.key (state_of t) c.requires few (look_some ts c.args.relation c.args.key c.in-Some.place (sym c.in-Some.ensures))))
    (live_fields t c.row.new.into.fields (ap (λ (r : Record). r.fields) c.row.ensures))

pub returns-in-None-clause-there : goal.returns-in-None-clause-there
returns-in-None-clause-there g c =
    let ts : List Touch = c.args.self.now.touched.keys in
    let few : c.args.relation < 8 = omega (arith, c.requires, c.args.self.now.viewable.relations) in
    c.read_below.ensures.there
    ∙ sym (ap is_some (fields_untouched (g.V.View.table c.args.self.now.view) ts c.args.relation c.args.key c.requires few (look_none ts c.args.relation c.args.key (sym c.in-None.ensures))))

pub returns-in-None-clause-fields : goal.returns-in-None-clause-fields
returns-in-None-clause-fields g c =
    let ts : List Touch = c.args.self.now.touched.keys in
    let few : c.args.relation < 8 = omega (arith, c.requires, c.args.self.now.viewable.relations) in
    subst (λ (o : Option (List Value)). IfSome o (λ fields. c.read_below.new.into.fields ≡ fields))
    (sym (fields_untouched (g.V.View.table c.args.self.now.view) ts c.args.relation c.args.key c.requires few (look_none ts c.args.relation c.args.key (sym c.in-None.ensures))))
    c.read_below.ensures.fields
