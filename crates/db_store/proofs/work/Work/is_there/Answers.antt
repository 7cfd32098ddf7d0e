use Rattle.std.proofs.Common.{◌<◌, ◌∙◌, List, arith, ap, sym, is_some, get_or}
use Rattle.work_region.specs.declared.rows.RowFrame.{RowFrame as Touch}
use Rattle.db_store.specs.Touched.{state_of, no_touch}
use Rattle.db_store.proofs.TouchLemmas.{place_some, look_some, look_none}
use Rattle.db_store.proofs.WorkLemmas.{fields_untouched, fields_touched, live_is}
use Rattle.db_store.proofs.work.Work.is_there.Goals as goal

pub is_live-requires : goal.is_live-requires
is_live-requires g c = (place_some c.args.self.now.touched.keys c.args.relation c.args.key c.in-Some.place (sym c.in-Some.ensures)).0

pub returns-in-Some : goal.returns-in-Some
returns-in-Some g c =
    let ts : List Touch = c.args.self.now.touched.keys in
    let t : Touch = get_or ts c.in-Some.place no_touch in
    let few : c.args.relation < 8 = omega (arith, c.requires, c.args.self.now.viewable.relations) in
    c.is_live.ensures
    ∙ live_is t
    ∙ sym (ap is_some (fields_touched (g.V.View.table c.args.self.now.view) ts c.args.relation c.args.key (state_of t) c.requires few (look_some ts c.args.relation c.args.key c.in-Some.place (sym c.in-Some.ensures))))

pub returns-in-None : goal.returns-in-None
returns-in-None g c =
    let ts : List Touch = c.args.self.now.touched.keys in
    let few : c.args.relation < 8 = omega (arith, c.requires, c.args.self.now.viewable.relations) in
    c.has.ensures
    ∙ sym (ap is_some (fields_untouched (g.V.View.table c.args.self.now.view) ts c.args.relation c.args.key c.requires few (look_none ts c.args.relation c.args.key (sym c.in-None.ensures))))
