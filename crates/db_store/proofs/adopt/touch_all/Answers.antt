use Rattle.std.proofs.Common.{◌≡◌, ◌∙◌, ◌+◌, ◌<◌, ℕ, List, true, refl, ap, sym, arith, length, drop, nat_lt, subst}
use Rattle.std.proofs.lemmas.Bool.{ltb-true}
use Rattle.std.proofs.lemmas.List.{drop_all}
use Rattle.db_value.specs.PackedChanges.{change_here}
use Rattle.db_value.specs.declared.entry.Change.{Change}
use Rattle.work_region.specs.declared.rows.RowFrame.{RowFrame as Touch}
use Rattle.db_store.specs.Overlay.{Overlay, touch, count_touched}
use Rattle.db_store.specs.Touched.{all_once, put_touch, state_of}
use Rattle.db_store.specs.Layers.{overlays_in}
use Rattle.db_store.specs.Adopt.{touched_by, is_short}
use Rattle.db_store.proofs.TouchLemmas.{once_put}
use Rattle.db_store.proofs.LayerLemmas.{nothing_in, overlays_put, sum_put, length_put_few}
use Rattle.db_store.proofs.OverlayLemmas.{count_untouched}
use Rattle.db_store.proofs.AdoptLemmas.{touched_next, all_here}
use Rattle.db_store.proofs.adopt.touch_all.Goals as goal

pub loop-at-init : goal.loop-at-init
loop-at-init c =
    let none = c.requires.none in
    record {
      overlays = ap (λ (ts : List Touch). touched_by (overlays_in ts) c.args.changes.now) none ∙ ap (λ (os : List Overlay). touched_by os c.args.changes.now) nothing_in;
      once = ap all_once none;
      sum = ap length none ∙ sym (ap (λ (ts : List Touch). count_touched (overlays_in ts)) none ∙ ap count_touched nothing_in ∙ count_untouched);
      few = omega (arith, ap length none);
      room = refl;
      most = refl;
    }

pub touch_one-requires-clause-least : goal.touch_one-requires-clause-least
touch_one-requires-clause-least c = omega (arith, c.requires.least, c.loop-at.invariant.most)

pub touch_one-requires-clause-most : goal.touch_one-requires-clause-most
touch_one-requires-clause-most c =
    let here : c.loop-at.at < length c.args.changes.now = omega (arith, c.loop-at-test.true, c.len-at-end.ensures) in
    subst (λ n. is_short n (change_here c.args.changes.now c.loop-at.at) ≡ true) (sym c.loop-at.invariant.most) (all_here (is_short c.args.touched.now.most) c.args.changes.now c.loop-at.at here c.requires.most)

pub touch_one-requires-clause-room : goal.touch_one-requires-clause-room
touch_one-requires-clause-room c = omega (arith, c.loop-at-test.true, c.len-at-end.ensures, c.loop-at.invariant.few, c.loop-at.invariant.room, c.requires.room)

pub loop-at-preserved : goal.loop-at-preserved
loop-at-preserved c =
    let ts : List Touch = c.loop-at.touched.keys in
    let cs : List Change = c.args.changes.now in
    let i : ℕ = c.loop-at.at in
    let one : Change = change_here cs i in
    let by = c.touch_one.ensures in
    let t : Touch = by.touch in
    let here : i < length cs = omega (arith, c.loop-at-test.true, c.len-at-end.ensures) in
    let few : t.relation < 8 = subst (λ n. n < 8) (sym by.relation) (ltb-true one.relation 8 (all_here (λ d. nat_lt d.relation 8) cs i here c.requires.relations)) in
    let keys : c.touch_one.new.touched.keys ≡ put_touch ts t = ap (λ k. k.keys) by.put in
    let after : overlays_in c.touch_one.new.touched.keys ≡ touch (overlays_in ts) one.relation one.key one.fields =
    ap overlays_in keys
    ∙ overlays_put ts t few
    ∙ ap (λ n. touch (overlays_in ts) n t.row.key (state_of t)) by.relation
    ∙ ap (λ k. touch (overlays_in ts) one.relation k (state_of t)) by.key
    ∙ ap (touch (overlays_in ts) one.relation one.key) by.state in
    record {
      overlays =
          ap (λ (os : List Overlay). touched_by os (drop (i + 1) cs)) after
          ∙ sym (touched_next (overlays_in ts) cs i here)
          ∙ c.loop-at.invariant.overlays;
      once = ap all_once keys ∙ once_put ts t c.loop-at.invariant.once;
      sum = ap length keys ∙ sum_put ts t few c.loop-at.invariant.sum ∙ sym (ap (λ (us : List Touch). count_touched (overlays_in us)) keys);
      few = omega (arith, ap length keys, length_put_few ts t, c.loop-at.invariant.few);
      room = ap (λ k. k.room) by.put ∙ c.loop-at.invariant.room;
      most = ap (λ k. k.most) by.put ∙ c.loop-at.invariant.most;
    }

pub returns-clause-overlays : goal.returns-clause-overlays
returns-clause-overlays c = sym (ap (touched_by (overlays_in c.loop-at.touched.keys)) (drop_all c.loop-at.at c.args.changes.now (omega (arith, c.loop-at-test.false, c.len-at-end.ensures)))) ∙ c.loop-at.invariant.overlays
