use Rattle.std.specs.Prelude.{OnOk}
use Rattle.std.proofs.Common.{◌≡◌, ◌∙◌, ◌++◌, ◌∷◌, [], Bool, sym, subst, cond, get_or, true, false, Some, None}
use Rattle.db_value.specs.declared.record.Record.{Record}
use Rattle.work_region.specs.declared.rows.RowFrame.{RowFrame as Touch}
use Rattle.db_store.specs.Overlay.{change_of}
use Rattle.db_store.specs.Touched.{no_touch}
use Rattle.db_store.proofs.touched.Touched.put_change.Goals as goal

pub returns-then-not-is_live : goal.returns-then-not-is_live
returns-then-not-is_live c =
    let t : Touch = get_or c.args.self.now.keys c.args.place no_touch in
    let dead : t.live ≡ false = sym c.is_live.ensures ∙ c.if-not-is_live.true in
    subst (λ (b : Bool). OnOk c.remove.result (c.remove.new.self ≡ c.args.all.now ++ change_of c.args.widths.now c.args.relation (c.args.key, cond b (Some t.row.fields) None) ∷ [])) (sym dead) c.remove.ensures.removed

pub returns : goal.returns
returns c =
    let t : Touch = get_or c.args.self.now.keys c.args.place no_touch in
    let live : t.live ≡ true = sym c.is_live.ensures ∙ c.if-not-is_live.false in
    subst (λ (b : Bool). OnOk c.put.result (c.put.new.self ≡ c.args.all.now ++ change_of c.args.widths.now c.args.relation (c.args.key, cond b (Some t.row.fields) None) ∷ [])) (sym live)
    (subst (λ (r : Record). OnOk c.put.result (c.put.new.self ≡ c.args.all.now ++ change_of c.args.widths.now c.args.relation (c.args.key, Some r.fields) ∷ [])) c.row.ensures c.put.ensures.put)
