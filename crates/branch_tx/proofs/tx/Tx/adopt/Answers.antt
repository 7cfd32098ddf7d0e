use Rattle.std.proofs.Common.{◌≡◌, ℕ, List, true, None, Some, length, Option, ap, sym, subst, ◌∙◌, arith}
use Rattle.std.specs.List.{list_all}
use Rattle.db_value.specs.declared.reply.Refusal.TheVariants.{TableFull as RefusedFull, Room as RefusedRoom}
use Rattle.db_value.specs.declared.reply.Reply.TheVariants.{Refused}
use Rattle.db_store.specs.declared.work.WorkStop.{WorkStop}
use Rattle.db_store.specs.declared.work.WorkStop.TheVariants.{TableFull, Room, BodyFull}
use Rattle.db_store.specs.Fits.{change_fits}
use Rattle.db_store.specs.Adopt.{touched_by, adopt_stop, change_meets}
use Rattle.db_store.specs.RowWidths.{all_widths}
use Rattle.db_store.specs.Overlay.{Overlay}
use Rattle.db_store.specs.WorkState.{widths_of, working_of}
use Rattle.branch_tx.specs.Act.{Outcome}
use Rattle.branch_tx.specs.Merging.{relation_name}
use Rattle.branch_tx.specs.Granted.{Granted, with_merge, adopted}
use Rattle.branch_tx.specs.TxState.{held_of}
use Rattle.branch_tx.specs.Shown.{parts_by}
use Rattle.branch_tx.proofs.Works.{fits_meet, holds_merged}
use Rattle.branch_tx.proofs.Stopping.{working_with}
use Rattle.branch_tx.proofs.MergeLemmas.{stop_in, stopped_by, adopted_is, filled_within}
use Rattle.branch_tx.proofs.tx.Tx.adopt.Goals as goal
use Rattle.branch_tx.proofs.tx.Tx.adopt.Goals.{in-Ok, in-Err-TableFull, in-Err-Room, in-Err-BodyFull}

pub adopt-requires-clause-meet : goal.adopt-requires-clause-meet
adopt-requires-clause-meet g c =
    let schema = c.self.inside.schema in
    let few = c.self.inside.work.viewable.relations in
    let fit = subst (λ (x : Granted). list_all (change_fits x.schema) c.args.changes.now ≡ true) (sym c.self.view_is) c.requires.fit in
    subst (λ (wss : List (List ℕ)). list_all (change_meets wss) c.args.changes.now ≡ true) (sym c.self.invariant.3) (fits_meet schema c.args.changes.now (omega (arith, few, c.self.invariant.0)) fit)

pub invariant_of-self : goal.invariant_of-self
invariant_of-self g c =
    let schema = c.self.inside.schema in
    let fit = subst (λ (x : Granted). list_all (change_fits x.schema) c.args.changes.now ≡ true) (sym c.self.view_is) c.requires.fit in
    holds_merged schema c.adopt.result _ c.self.inside.lent.1 c.self.inside.work c.adopt.new.self c.args.changes.now c.adopt.ensures.stays c.adopt.ensures.made c.adopt.ensures.err fit c.self.invariant

pub relation_name-requires : goal.relation_name-requires
relation_name-requires g c =
    let old : Granted = c.args.self.now in
    let cs = c.args.changes.now in
    let work = c.self.inside.work in
    let at : stop_in old c.args.from cs ≡ adopt_stop (working_of work) c.args.from cs =
    ap (λ (wss : List (List ℕ)). adopt_stop (working_with wss old) c.args.from cs) (sym (c.self.invariant.3 ∙ ap (λ (x : Granted). all_widths x.schema) c.self.view_is))
    ∙ ap (λ (x : Granted). adopt_stop (working_with (widths_of work) x) c.args.from cs) (sym c.self.view_is) in
    let r = c.in-Err-TableFull.relation in
    let stop : stop_in old c.args.from cs ≡ Some (TableFull r) = at ∙ c.adopt.ensures.stop c.in-Err-TableFull.field-0 c.in-Err-TableFull.is ∙ ap Some c.in-Err-TableFull.field-0-is in
    let within = filled_within old c.requires.untouched c.args.from cs r stop in
    let head = ap (λ (x : Granted). length x.head) c.self.view_is in
    omega (arith, within, head, c.self.invariant.0, c.in-Err-TableFull.relation-is)

pub returns-clause-reply : goal.returns-clause-reply
returns-clause-reply g c =
    let old : Granted = c.args.self.now in
    let cs = c.args.changes.now in
    let work = c.self.inside.work in
    let at : stop_in old c.args.from cs ≡ adopt_stop (working_of work) c.args.from cs =
    ap (λ (wss : List (List ℕ)). adopt_stop (working_with wss old) c.args.from cs) (sym (c.self.invariant.3 ∙ ap (λ (x : Granted). all_widths x.schema) c.self.view_is))
    ∙ ap (λ (x : Granted). adopt_stop (working_with (widths_of work) x) c.args.from cs) (sym c.self.view_is) in
    let by : (o : Option WorkStop) → adopt_stop (working_of work) c.args.from cs ≡ o → stopped_by old c.args.from (touched_by old.overlays cs) o ≡ adopted old c.args.from cs =
    λ o e. sym (adopted_is old c.requires.untouched c.args.from cs ∙ ap (stopped_by old c.args.from (touched_by old.overlays cs)) (at ∙ e)) in
    elim c.match-adopt.branch [
      | in-Ok w ↦ w.result-is ∙ ap (λ (o : Outcome (List Overlay)). o.reply) (by None w.in-Ok.ensures.ok)
      | in-Err-TableFull w ↦
          w.result-is ∙ w.refused.ensures
          ∙ ap (λ n. Refused (RefusedFull n)) (w.relation_name.ensures ∙ ap (relation_name c.self.inside.schema) w.in-Err-TableFull.relation-is ∙ ap (λ (x : Granted). relation_name x.schema w.in-Err-TableFull.relation) c.self.view_is)
          ∙ ap (λ (o : Outcome (List Overlay)). o.reply) (by (Some (TableFull w.in-Err-TableFull.relation)) (c.adopt.ensures.stop w.in-Err-TableFull.field-0 w.in-Err-TableFull.is ∙ ap Some w.in-Err-TableFull.field-0-is))
      | in-Err-Room w ↦
          w.result-is ∙ w.refused-in-Err-Room.ensures
          ∙ ap (λ n. Refused (RefusedRoom n)) (w.room.ensures ∙ c.adopt.ensures.stays.room ∙ ap (λ (x : Granted). x.room) c.self.view_is)
          ∙ ap (λ (o : Outcome (List Overlay)). o.reply) (by (Some Room) (c.adopt.ensures.stop w.in-Err-Room.field-0 w.in-Err-Room.is ∙ ap Some w.in-Err-Room.field-0-is))
      | in-Err-BodyFull w ↦ w.result-is ∙ w.refused-in-Err-BodyFull.ensures ∙ ap (λ (o : Outcome (List Overlay)). o.reply) (by (Some BodyFull) (c.adopt.ensures.stop w.in-Err-BodyFull.field-0 w.in-Err-BodyFull.is ∙ ap Some w.in-Err-BodyFull.field-0-is))
    ]

pub returns-clause-left : goal.returns-clause-left
returns-clause-left g c =
    let old : Granted = c.args.self.now in
    let cs = c.args.changes.now in
    let work = c.self.inside.work in
    let at : stop_in old c.args.from cs ≡ adopt_stop (working_of work) c.args.from cs =
    ap (λ (wss : List (List ℕ)). adopt_stop (working_with wss old) c.args.from cs) (sym (c.self.invariant.3 ∙ ap (λ (x : Granted). all_widths x.schema) c.self.view_is))
    ∙ ap (λ (x : Granted). adopt_stop (working_with (widths_of work) x) c.args.from cs) (sym c.self.view_is) in
    let by : (o : Option WorkStop) → adopt_stop (working_of work) c.args.from cs ≡ o → stopped_by old c.args.from (touched_by old.overlays cs) o ≡ adopted old c.args.from cs =
    λ o e. sym (adopted_is old c.requires.untouched c.args.from cs ∙ ap (stopped_by old c.args.from (touched_by old.overlays cs)) (at ∙ e)) in
    elim c.match-adopt.branch [
      | in-Ok w ↦ (λ i. record {
        schema = c.self.inside.schema;
        name = c.self.inside.current;
        held = held_of c.self.inside.held;
        head = g.St.View.View.table (c.adopt.ensures.stays.under i);
        overlays = w.in-Ok.ensures.changed i;
        room = c.adopt.ensures.stays.room i;
        second = w.in-Ok.ensures.second i;
        lent = c.self.inside.lent.0;
        below = parts_by (g.St.View.View.parts_of (c.adopt.ensures.stays.under i));
        shown = c.self.inside.lent.1;
        heads = c.self.inside.heads;
      })
          ∙ ap (λ (x : Granted). record x { overlays = touched_by x.overlays cs; second = Some c.args.from }) c.self.view_is ∙ ap (with_merge old) (by None w.in-Ok.ensures.ok)
      | in-Err-TableFull w ↦ (λ i. record {
        schema = c.self.inside.schema;
        name = c.self.inside.current;
        held = held_of c.self.inside.held;
        head = g.St.View.View.table (c.adopt.ensures.stays.under i);
        overlays = w.in-Err-TableFull.ensures.err.0 i;
        room = c.adopt.ensures.stays.room i;
        second = w.in-Err-TableFull.ensures.err.1 i;
        lent = c.self.inside.lent.0;
        below = parts_by (g.St.View.View.parts_of (c.adopt.ensures.stays.under i));
        shown = c.self.inside.lent.1;
        heads = c.self.inside.heads;
      })
          ∙ c.self.view_is ∙ ap (with_merge old) (by (Some (TableFull w.in-Err-TableFull.relation)) (c.adopt.ensures.stop w.in-Err-TableFull.field-0 w.in-Err-TableFull.is ∙ ap Some w.in-Err-TableFull.field-0-is))
      | in-Err-Room w ↦ (λ i. record {
        schema = c.self.inside.schema;
        name = c.self.inside.current;
        held = held_of c.self.inside.held;
        head = g.St.View.View.table (c.adopt.ensures.stays.under i);
        overlays = w.in-Err-Room.ensures.err.0 i;
        room = c.adopt.ensures.stays.room i;
        second = w.in-Err-Room.ensures.err.1 i;
        lent = c.self.inside.lent.0;
        below = parts_by (g.St.View.View.parts_of (c.adopt.ensures.stays.under i));
        shown = c.self.inside.lent.1;
        heads = c.self.inside.heads;
      })
          ∙ c.self.view_is ∙ ap (with_merge old) (by (Some Room) (c.adopt.ensures.stop w.in-Err-Room.field-0 w.in-Err-Room.is ∙ ap Some w.in-Err-Room.field-0-is))
      | in-Err-BodyFull w ↦ (λ i. record {
        schema = c.self.inside.schema;
        name = c.self.inside.current;
        held = held_of c.self.inside.held;
        head = g.St.View.View.table (c.adopt.ensures.stays.under i);
        overlays = w.in-Err-BodyFull.ensures.err.0 i;
        room = c.adopt.ensures.stays.room i;
        second = w.in-Err-BodyFull.ensures.err.1 i;
        lent = c.self.inside.lent.0;
        below = parts_by (g.St.View.View.parts_of (c.adopt.ensures.stays.under i));
        shown = c.self.inside.lent.1;
        heads = c.self.inside.heads;
      })
          ∙ c.self.view_is ∙ ap (with_merge old) (by (Some BodyFull) (c.adopt.ensures.stop w.in-Err-BodyFull.field-0 w.in-Err-BodyFull.is ∙ ap Some w.in-Err-BodyFull.field-0-is))
    ]
