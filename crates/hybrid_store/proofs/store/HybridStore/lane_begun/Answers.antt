use Rattle.std.proofs.Common.{◌≡◌, ◌∙◌, ◌∷◌, [], cond, ap, sym, subst, length, map, get_or, List, None}
use Rattle.std.specs.Arc.{arc_value}
use Rattle.std.proofs.lemmas.List.{length-map}
use Rattle.record_page.specs.Page.{Rows}
use Rattle.db_store.specs.LayoutGrowth.{is_last, made_at}
use Rattle.hybrid_view.specs.Live.{Lived, lived_at, IsLived}
use Rattle.bit_rows.specs.Kept.{KeptLane, kept_rows}
use Rattle.bit_rows.specs.Rows.{KeptRow}
use Rattle.hybrid_store.specs.Begun.{begun_in, AreBegun}
use Rattle.hybrid_store.specs.Store.{layout_of}
use Rattle.hybrid_store.proofs.PrepareLemmas.{begun_ready, begun_at, fit_few, fit_there, fit_made, fit_after, fit_base}
use Rattle.hybrid_store.proofs.store.HybridStore.lane_begun.Goals as goal

pub table_begun-requires-clause-view : goal.table_begun-requires-clause-view
table_begun-requires-clause-view c = ap (λ (ls : List Lived). length ls) c.table.ensures ∙ c.requires.seen.wide

pub table_begun-requires-clause-heads : goal.table_begun-requires-clause-heads
table_begun-requires-clause-heads c = sym (length-map c.args.heads.now arc_value) ∙ c.requires.heads.count

pub table_begun-requires-clause-lived : goal.table_begun-requires-clause-lived
table_begun-requires-clause-lived c =
    let s = c.args.self.now in
    let o = c.args.origin in
    let q = is_last (layout_of s) o in
    let owns : List Rows = map arc_value c.args.heads.now in
    let more : c.more_of.result ≡ cond q 1 0 = c.more_of.ensures ∙ ap (λ b. cond b 1 0) c.requires.last in
    λ r g.
    subst (λ (x : Lived). IsLived x) (λ i. begun_in s.segments.items (sym more i) owns (sym c.table.ensures i) r)
    (begun_ready s.schema s.lanes.items s.order.items s.segments.items s.stored s.laid (fit_few s.schema s.lanes.items s.order.items s.segments.items s.laid c.args.name o c.requires.fits) c.args.name o q
    (fit_there s.schema s.lanes.items s.order.items s.segments.items s.laid c.args.name o c.requires.fits) (fit_made s.schema s.lanes.items s.order.items s.segments.items s.laid c.args.name o c.requires.fits)
    (fit_after s.schema s.lanes.items s.order.items s.segments.items s.laid c.args.name o c.requires.fits) owns c.requires.heads.each (arc_value c.args.view.now.table) c.requires.seen r g)

pub returns : goal.returns
returns c =
    let s = c.args.self.now in
    let o = c.args.origin in
    let q = is_last (layout_of s) o in
    let owns : List Rows = map arc_value c.args.heads.now in
    let k : KeptLane = c.in_ok-lane.lane in
    let lane = c.in_ok-lane.ensures.lane in
    let base : c.made_at-base.result ≡ made_at (layout_of s) o = c.made_at-base.ensures ∙ fit_base s.schema s.lanes.items s.order.items s.segments.items s.laid c.args.name o c.requires.fits in
    let more : c.more_of.result ≡ cond q 1 0 = c.more_of.ensures ∙ ap (λ b. cond b 1 0) c.requires.last in
    let rows = ap (λ (x : KeptLane). x.rows) lane in
    let head = ap (λ (x : KeptLane). x.head) lane ∙ ap arc_value c.of-head.ensures ∙ c.in_ok-new.ensures.ok in
    let are : AreBegun s.segments.items (cond q 1 0) owns (arc_value c.args.view.now.table) (length s.schema) c.table_begun.new.rows.items c.in_ok-table.table =
    subst (λ (v : List Lived). AreBegun s.segments.items (cond q 1 0) owns v (length s.schema) c.table_begun.new.rows.items c.in_ok-table.table) c.table.ensures
    (subst (λ m. AreBegun s.segments.items m owns c.table.result.now (length s.schema) c.table_begun.new.rows.items c.in_ok-table.table) more c.in_ok-table.ensures) in
    record {
      lane = lane ∙ (λ i. record { name = c.args.name; origin = o; base = base i; seconds = None ∷ []; rows = sym rows i; head = sym (ap (λ (x : KeptLane). x.head) lane) i; room = k.room });
      room = c.in_ok-lane.ensures.room;
      rows = ap length rows ∙ are.count;
      head = ap (λ (ls : List Lived). length ls) head ∙ are.wide;
      counted = c.requires.heads.count;
      at = λ r g.
          begun_at s.schema s.lanes.items s.order.items s.segments.items s.stored s.laid (fit_few s.schema s.lanes.items s.order.items s.segments.items s.laid c.args.name o c.requires.fits) c.args.name o q
          (fit_there s.schema s.lanes.items s.order.items s.segments.items s.laid c.args.name o c.requires.fits) (fit_made s.schema s.lanes.items s.order.items s.segments.items s.laid c.args.name o c.requires.fits)
          (fit_after s.schema s.lanes.items s.order.items s.segments.items s.laid c.args.name o c.requires.fits) owns c.requires.heads.each (arc_value c.args.view.now.table) c.requires.seen r g
          (kept_rows k r) (lived_at k.head r) (ap (λ (ls : List Lived). lived_at ls r) head ∙ are.each r g) (ap (λ (xs : List (List KeptRow)). get_or xs r []) rows ∙ are.begun r g);
    }
