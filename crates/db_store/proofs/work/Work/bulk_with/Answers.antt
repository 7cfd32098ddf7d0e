use Rattle.std.proofs.Common.{◌≡◌, ◌<◌, ◌≤◌, ◌+◌, ◌∙◌, ℕ, List, Bool, true, false, Option, Some, None, arith, ap, sym, cond, length}
use Rattle.std.proofs.lemmas.Bool.{le-leb}
use Rattle.work_region.specs.declared.rows.RowFrame.{RowFrame as Touch}
use Rattle.db_store.specs.Body.{commit_size, most_entry}
use Rattle.db_store.specs.Overlay.{Overlay, own_widths, changes_from, touch, count_touched}
use Rattle.db_store.specs.Touched.{state_of, touch_of}
use Rattle.db_store.specs.Layers.{overlays_in}
use Rattle.db_store.proofs.LayerLemmas.{length_overlays}
use Rattle.db_store.proofs.BodyLemmas.{old_part, small_part, new_bulk, body_bulk, live_widths, sure_short, count_after}
use Rattle.db_store.proofs.work.Work.bulk_with.Goals as goal

pub returns-then-self-clause-fits : goal.returns-then-self-clause-fits
returns-then-self-clause-fits g c =
    let w = c.args.self.now in
    let os : List Overlay = overlays_in w.touched.keys in
    let t : Touch = touch_of c.args.relation c.args.row.now c.args.live in
    let few : c.args.relation < length os = omega (arith, c.requires.relation, w.viewable.relations, length_overlays w.touched.keys) in
    let after : List Overlay = touch os t.relation t.row.key (state_of t) in
    let within = count_after os t.relation t.row.key (state_of t) w.touched.room few (omega (arith, w.sum, w.roomy)) c.requires.room in
    sym (le-leb (commit_size w.second (changes_from w.widths.items 0 after)) most_entry (sure_short w.second w.widths.items after w.touched.room w.touched.most w.sized within (w.enough c.if-self.true)))

pub exchange-bulk-requires-clause-plain : goal.exchange-bulk-requires-clause-plain
exchange-bulk-requires-clause-plain g c =
    let w = c.args.self.now in
    let os : List Overlay = overlays_in w.touched.keys in
    let few : c.args.relation < length os = omega (arith, c.requires.relation, w.viewable.relations, length_overlays w.touched.keys) in
    (old_part w.widths.items os c.args.relation c.args.row.now.key w.bulk c.bulk_at-old.result few (w.weighed c.if-self.false) c.bulk_at-old.ensures).plain

pub exchange-bulk-requires-clause-small_plain : goal.exchange-bulk-requires-clause-small_plain
exchange-bulk-requires-clause-small_plain g c =
    let w = c.args.self.now in
    (small_part w.widths.items (overlays_in w.touched.keys) w.touched.room w.bulk (w.weighed c.if-self.false) (omega (arith, w.sum, w.roomy)) w.wide (omega (arith, w.small, w.sized))).plain

pub exchange-bulk-requires-clause-wide : goal.exchange-bulk-requires-clause-wide
exchange-bulk-requires-clause-wide g c =
    let w = c.args.self.now in
    let os : List Overlay = overlays_in w.touched.keys in
    let few : c.args.relation < length os = omega (arith, c.requires.relation, w.viewable.relations, length_overlays w.touched.keys) in
    (old_part w.widths.items os c.args.relation c.args.row.now.key w.bulk c.bulk_at-old.result few (w.weighed c.if-self.false) c.bulk_at-old.ensures).wide

pub exchange-bulk-requires-clause-small_wide : goal.exchange-bulk-requires-clause-small_wide
exchange-bulk-requires-clause-small_wide g c =
    let w = c.args.self.now in
    (small_part w.widths.items (overlays_in w.touched.keys) w.touched.room w.bulk (w.weighed c.if-self.false) (omega (arith, w.sum, w.roomy)) w.wide (omega (arith, w.small, w.sized))).wide

pub exchange-bulk-requires-clause-texts : goal.exchange-bulk-requires-clause-texts
exchange-bulk-requires-clause-texts g c =
    let w = c.args.self.now in
    let os : List Overlay = overlays_in w.touched.keys in
    let few : c.args.relation < length os = omega (arith, c.requires.relation, w.viewable.relations, length_overlays w.touched.keys) in
    (old_part w.widths.items os c.args.relation c.args.row.now.key w.bulk c.bulk_at-old.result few (w.weighed c.if-self.false) c.bulk_at-old.ensures).texts

pub exchange-bulk-requires-clause-small_texts : goal.exchange-bulk-requires-clause-small_texts
exchange-bulk-requires-clause-small_texts g c =
    let w = c.args.self.now in
    (small_part w.widths.items (overlays_in w.touched.keys) w.touched.room w.bulk (w.weighed c.if-self.false) (omega (arith, w.sum, w.roomy)) w.wide (omega (arith, w.small, w.sized))).texts

pub returns-then-not-fits-clause-fits : goal.returns-then-not-fits-clause-fits
returns-then-not-fits-clause-fits g c =
    let w = c.args.self.now in
    let os : List Overlay = overlays_in w.touched.keys in
    let t : Touch = touch_of c.args.relation c.args.row.now c.args.live in
    let few : c.args.relation < length os = omega (arith, c.requires.relation, w.viewable.relations, length_overlays w.touched.keys) in
    let own : List ℕ = own_widths w.widths.items c.args.relation in
    let is = c.exchange-bulk.ensures.bulk ∙ new_bulk w.widths.items os t.relation t.row.key (state_of t) w.bulk c.bulk_at-old.result (cond c.args.live (Some c.own_widths-own.result) None) few (w.weighed c.if-self.false) c.bulk_at-old.ensures (ap (λ (ws : List ℕ). cond c.args.live (Some ws) None) c.own_widths-own.ensures ∙ live_widths own t) in
    sym c.if-not-fits.true ∙ c.fits.ensures ∙ body_bulk w.second (changes_from w.widths.items 0 (touch os t.relation t.row.key (state_of t))) c.exchange-bulk.result is

pub returns-clause-fits : goal.returns-clause-fits
returns-clause-fits g c =
    let w = c.args.self.now in
    let os : List Overlay = overlays_in w.touched.keys in
    let t : Touch = touch_of c.args.relation c.args.row.now c.args.live in
    let few : c.args.relation < length os = omega (arith, c.requires.relation, w.viewable.relations, length_overlays w.touched.keys) in
    let own : List ℕ = own_widths w.widths.items c.args.relation in
    let is = c.exchange-bulk.ensures.bulk ∙ new_bulk w.widths.items os t.relation t.row.key (state_of t) w.bulk c.bulk_at-old.result (cond c.args.live (Some c.own_widths-own.result) None) few (w.weighed c.if-self.false) c.bulk_at-old.ensures (ap (λ (ws : List ℕ). cond c.args.live (Some ws) None) c.own_widths-own.ensures ∙ live_widths own t) in
    sym c.if-not-fits.false ∙ c.fits.ensures ∙ body_bulk w.second (changes_from w.widths.items 0 (touch os t.relation t.row.key (state_of t))) c.exchange-bulk.result is

pub returns-clause-bulk : goal.returns-clause-bulk
returns-clause-bulk g c = λ e.
    let w = c.args.self.now in
    let os : List Overlay = overlays_in w.touched.keys in
    let t : Touch = touch_of c.args.relation c.args.row.now c.args.live in
    let few : c.args.relation < length os = omega (arith, c.requires.relation, w.viewable.relations, length_overlays w.touched.keys) in
    let own : List ℕ = own_widths w.widths.items c.args.relation in
    c.exchange-bulk.ensures.bulk ∙ new_bulk w.widths.items os t.relation t.row.key (state_of t) w.bulk c.bulk_at-old.result (cond c.args.live (Some c.own_widths-own.result) None) few (w.weighed e) c.bulk_at-old.ensures (ap (λ (ws : List ℕ). cond c.args.live (Some ws) None) c.own_widths-own.ensures ∙ live_widths own t)
