use Rattle.std.proofs.Common.{◌≡◌, ◌∙◌, ◌++◌, ℕ, true, false, Some, List, ap, ap₂, sym, subst, append-nil}
use Rattle.std.specs.Prelude.{OnOk}
use Rattle.db_value.specs.Pred.{pred_holds}
use Rattle.db_value.specs.declared.record.Record.{Record}
use Rattle.db_value.specs.declared.record.Marked.{Marked}
use Rattle.multi_scan.specs.Places.{shown, part_of, slot_of, live_at, row_where, kept_at}
use Rattle.multi_scan.proofs.PlaceLemmas.{kept_one, kept_none}
use Rattle.multi_scan.proofs.slots.gather_slot.Goals as goal

pub returns-then-not-read_slot-clause-found : goal.returns-then-not-read_slot-clause-found
returns-then-not-read_slot-clause-found g c =
    let views = shown g.V.View.parts_of c.args.relation c.args.views.now in
    let row = (slot_of (part_of views c.args.first.now) c.args.slot).0 in
    let p = pred_holds c.args.pred.now in
    let no : p row ≡ false = ap p (sym c.read_slot.ensures.row) ∙ sym c.read_slot.ensures.holds ∙ c.if-not-read_slot.true in
    sym (append-nil c.args.found.now)
    ∙ ap (λ (ms : List Marked). c.args.found.now ++ ms) (sym (kept_none p row (live_at views c.args.slot c.args.places.now) no))

pub returns-clause-found : goal.returns-clause-found
returns-clause-found g c =
    let views = shown g.V.View.parts_of c.args.relation c.args.views.now in
    let row = (slot_of (part_of views c.args.first.now) c.args.slot).0 in
    let live = live_at views c.args.slot c.args.places.now in
    let p = pred_holds c.args.pred.now in
    let yes : p row ≡ true = ap p (sym c.read_slot.ensures.row) ∙ sym c.read_slot.ensures.holds ∙ c.if-not-read_slot.false in
    let kept : kept_at c.deref.result.now (Some c.read_slot.new.into) ≡ kept_at live (row_where p row) =
    ap₂ (λ (ns : List ℕ) (r : Record). kept_at ns (Some r)) (c.deref.ensures.value ∙ c.in_ok-find_live.ensures) c.read_slot.ensures.row ∙ sym (kept_one p row live yes) in
    subst (λ (ms : List Marked). OnOk c.keep.result (c.keep.new.found ≡ c.args.found.now ++ ms)) kept c.keep.ensures
