use Rattle.std.proofs.Common.{◌≡◌, ◌∙◌, ℕ, List, true, false, Option, Some, ap, sym}
use Rattle.work_region.specs.declared.rows.RowFrame.{RowFrame as Touch}
use Rattle.db_store.specs.declared.work.WorkStop.{WorkStop}
use Rattle.db_store.specs.declared.work.WorkStop.TheVariants.{BodyFull}
use Rattle.db_store.specs.Layers.{overlays_in}
use Rattle.db_store.specs.Touched.{state_of, touch_of}
use Rattle.db_store.specs.Work.{Working}
use Rattle.db_store.proofs.WorkLemmas.{roomy_stop}
use Rattle.db_store.proofs.work.Work.put.Goals as goal

pub write-requires-clause-body : goal.write-requires-clause-body
write-requires-clause-body g c = sym c.in-Some.ensures.fits

pub returns-in-None-clause-stop : goal.returns-in-None-clause-stop
returns-in-None-clause-stop g c = λ stop e.
    let w : Working = record { below = g.V.View.table c.args.self.now.view; overlays = overlays_in c.args.self.now.touched.keys; room = c.args.self.now.touched.room; widths = c.args.self.now.widths.items; second = c.args.self.now.second } in
    let t : Touch = touch_of c.args.relation c.args.row.now c.args.live in
    let same : BodyFull ≡ stop = cc in
    roomy_stop w t.relation t.row.key (state_of t) false (sym c.has_room.ensures ∙ c.if-not-has_room.false) (sym c.in-None.ensures.fits) ∙ ap (λ (s : WorkStop). Some s) same

pub returns-in-Some-clause-ok : goal.returns-in-Some-clause-ok
returns-in-Some-clause-ok g c =
    let w : Working = record { below = g.V.View.table c.args.self.now.view; overlays = overlays_in c.args.self.now.touched.keys; room = c.args.self.now.touched.room; widths = c.args.self.now.widths.items; second = c.args.self.now.second } in
    let t : Touch = touch_of c.args.relation c.args.row.now c.args.live in
    roomy_stop w t.relation t.row.key (state_of t) true (sym c.has_room.ensures ∙ c.if-not-has_room.false) (sym c.in-Some.ensures.fits)
