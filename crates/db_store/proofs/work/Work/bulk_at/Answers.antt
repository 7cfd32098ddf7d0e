use Rattle.std.proofs.Common.{◌<◌, ◌∙◌, ℕ, List, Bool, Option, Some, None, arith, ap, sym, cond, get_or}
use Rattle.work_region.specs.declared.rows.RowFrame.{RowFrame as Touch}
use Rattle.db_store.specs.Bulk.{weight, weight_at}
use Rattle.db_store.specs.Overlay.{own_widths}
use Rattle.db_store.specs.Touched.{state_of, no_touch}
use Rattle.db_store.proofs.TouchLemmas.{place_some, look_some, look_none}
use Rattle.db_store.proofs.LayerLemmas.{look_is}
use Rattle.db_store.proofs.BodyLemmas.{live_widths}
use Rattle.db_store.proofs.work.Work.bulk_at.Goals as goal

pub is_live-requires : goal.is_live-requires
is_live-requires g c = (place_some c.args.self.now.touched.keys c.args.relation c.args.key c.in-Some.place (sym c.in-Some.ensures)).0

pub returns-in-None : goal.returns-in-None
returns-in-None g c =
    let ts : List Touch = c.args.self.now.touched.keys in
    let few : c.args.relation < 8 = omega (arith, c.requires, c.args.self.now.viewable.relations) in
    c.none.ensures
    ∙ sym (ap (weight_at (own_widths c.args.self.now.widths.items c.args.relation)) (look_is ts c.args.relation c.args.key few ∙ look_none ts c.args.relation c.args.key (sym c.in-None.ensures)))

pub returns-in-Some : goal.returns-in-Some
returns-in-Some g c =
    let ts : List Touch = c.args.self.now.touched.keys in
    let t : Touch = get_or ts c.in-Some.place no_touch in
    let few : c.args.relation < 8 = omega (arith, c.requires, c.args.self.now.viewable.relations) in
    let own : List ℕ = own_widths c.args.self.now.widths.items c.args.relation in
    c.of_change.ensures.weight
    ∙ ap (λ (ws : List ℕ). weight (cond c.is_live.result (Some ws) None)) c.own_widths.ensures
    ∙ ap (λ (b : Bool). weight (cond b (Some own) None)) c.is_live.ensures
    ∙ ap weight (live_widths own t)
    ∙ sym (ap (weight_at own) (look_is ts c.args.relation c.args.key few ∙ look_some ts c.args.relation c.args.key c.in-Some.place (sym c.in-Some.ensures)))
