use Rattle.std.proofs.Common.{◌<◌, ◌∙◌, ◌&&◌, arith, ap, sym, Bool, not, is_some}
use Rattle.db_value.specs.declared.record.Record.{Record}
use Rattle.db_store.specs.Parts.{slot_at}
use Rattle.db_store.specs.Touched.{look, touches_at}
use Rattle.db_store.proofs.LayerLemmas.{touched_look}
use Rattle.db_store.proofs.work.Work.is_shown.Goals as goal

pub returns : goal.returns
returns g c =
    let ts = c.args.self.now.touched.keys in
    let few : c.args.relation < 8 = omega (arith, c.requires.relation, c.args.self.now.viewable.relations) in
    let slot : Record × Bool = slot_at (g.V.View.parts_of c.args.self.now.view c.args.relation) c.args.spot.part c.args.spot.slot in
    ap not (c.is_touched.ensures ∙ touched_look ts c.args.relation c.read_record.new.into.key few ∙ ap (λ (r : Record). is_some (look r.key (touches_at ts c.args.relation))) c.read_record.ensures)
    ∙ sym (ap (λ (b : Bool). b && not (is_some (look slot.0.key (touches_at ts c.args.relation)))) (sym c.live.ensures ∙ c.if-not-live.false))
