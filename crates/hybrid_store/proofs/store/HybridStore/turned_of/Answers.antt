use Rattle.std.proofs.Common.{◌≡◌, ◌<◌, ◌-◌, ◌∙◌, [], ap, sym, subst, arith, length, map, get_or, ℕ, List}
use Rattle.std.specs.Arc.{arc_value}
use Rattle.std.proofs.lemmas.List.{length-map}
use Rattle.db_value.specs.Relations.{widths_at}
use Rattle.db_value.specs.declared.schema.Relation.{Relation}
use Rattle.record_page.specs.Page.{Rows}
use Rattle.db_store.specs.LayoutGrowth.{is_last}
use Rattle.hybrid_view.specs.Live.{Lived, lived_at, IsLived}
use Rattle.bit_rows.specs.Kept.{KeptLane, no_kept, more_at}
use Rattle.hybrid_store.specs.Begun.{turned_in, turned_row, AreTurned}
use Rattle.bit_rows.specs.Segments.{list_at}
use Rattle.hybrid_store.specs.New.{own_at}
use Rattle.hybrid_store.specs.Store.{layout_of}
use Rattle.hybrid_store.proofs.PrepareLemmas.{turned_ready, turned_at, fit_few, fit_there, fit_made, fit_after, fit_last}
use Rattle.hybrid_store.proofs.store.HybridStore.turned_of.Goals as goal

pub table_turned-requires-clause-branch : goal.table_turned-requires-clause-branch
table_turned-requires-clause-branch c =
    let s = c.args.self.now in
    fit_there s.schema s.lanes.items s.order.items s.segments.items s.laid c.args.name c.args.origin c.requires.fits

pub table_turned-requires-clause-heads : goal.table_turned-requires-clause-heads
table_turned-requires-clause-heads c =
    let rl = ap (λ (rs : List Relation). length rs) c.relations.ensures.value in
    ap length c.deref.ensures.value ∙ c.in_ok-heads.ensures.count ∙ rl

pub table_turned-requires-clause-lived : goal.table_turned-requires-clause-lived
table_turned-requires-clause-lived c =
    let s = c.args.self.now in
    let o = c.args.origin in
    let name = c.args.name in
    let q = is_last (layout_of s) o in
    let k : KeptLane = get_or s.lanes.items o.branch no_kept in
    let few = fit_few s.schema s.lanes.items s.order.items s.segments.items s.laid name o c.requires.fits in
    let there = fit_there s.schema s.lanes.items s.order.items s.segments.items s.laid name o c.requires.fits in
    let made = fit_made s.schema s.lanes.items s.order.items s.segments.items s.laid name o c.requires.fits in
    let after = fit_after s.schema s.lanes.items s.order.items s.segments.items s.laid name o c.requires.fits in
    let last = fit_last s.schema s.lanes.items s.order.items s.segments.items s.laid name o c.requires.fits c.requires.last in
    let owns : List Rows = map arc_value c.in_ok-heads.heads.items in
    let rel : c.relations.result.now ≡ s.schema = c.relations.ensures.value in
    let rl = ap (λ (rs : List Relation). length rs) rel in
    let empty : (r : ℕ) → r < length s.schema → own_at owns r ≡ record { widths = widths_at s.schema r; records = [] } =
    λ r h. c.in_ok-heads.ensures.each r (omega (arith, h, rl)) ∙ ap (λ (rs : List Relation). record { widths = widths_at rs r; records = [] }) rel in
    let d : map arc_value c.deref.result.now ≡ owns = ap (map arc_value) c.deref.ensures.value in
    λ r g. subst (λ (xs : List Rows). IsLived (turned_in s.segments.items xs k.head r)) (sym d) (turned_ready s.schema s.lanes.items s.order.items s.segments.items s.stored s.laid few name o q there made after owns empty last r g)

pub returns : goal.returns
returns c =
    let s = c.args.self.now in
    let o = c.args.origin in
    let name = c.args.name in
    let q = is_last (layout_of s) o in
    let k : KeptLane = get_or s.lanes.items o.branch no_kept in
    let few = fit_few s.schema s.lanes.items s.order.items s.segments.items s.laid name o c.requires.fits in
    let there = fit_there s.schema s.lanes.items s.order.items s.segments.items s.laid name o c.requires.fits in
    let made = fit_made s.schema s.lanes.items s.order.items s.segments.items s.laid name o c.requires.fits in
    let after = fit_after s.schema s.lanes.items s.order.items s.segments.items s.laid name o c.requires.fits in
    let last = fit_last s.schema s.lanes.items s.order.items s.segments.items s.laid name o c.requires.fits c.requires.last in
    let owns : List Rows = map arc_value c.in_ok-heads.heads.items in
    let rel : c.relations.result.now ≡ s.schema = c.relations.ensures.value in
    let rl = ap (λ (rs : List Relation). length rs) rel in
    let empty : (r : ℕ) → r < length s.schema → own_at owns r ≡ record { widths = widths_at s.schema r; records = [] } =
    λ r h. c.in_ok-heads.ensures.each r (omega (arith, h, rl)) ∙ ap (λ (rs : List Relation). record { widths = widths_at rs r; records = [] }) rel in
    let d : map arc_value c.deref.result.now ≡ owns = ap (map arc_value) c.deref.ensures.value in
    let head : arc_value c.of-head.result.table ≡ c.in_ok-table.table = ap arc_value c.of-head.ensures ∙ c.in_ok-new.ensures.ok in
    let are : AreTurned s.segments.items k (length k.seconds - 1) owns (length s.schema) c.table_turned.new.more.items c.in_ok-table.table =
    subst (λ (xs : List Rows). AreTurned s.segments.items k (length k.seconds - 1) xs (length s.schema) c.table_turned.new.more.items c.in_ok-table.table) d c.in_ok-table.ensures in
    record {
      more = are.count;
      head = ap (λ (ls : List Lived). length ls) head ∙ are.wide;
      owns = length-map c.in_ok-heads.heads.items arc_value ∙ c.in_ok-heads.ensures.count ∙ rl;
      at = λ r g.
          turned_at s.schema s.lanes.items s.order.items s.segments.items s.stored s.laid few name o q there made after owns empty last r g (more_at c.table_turned.new.more.items r) (lived_at (arc_value c.of-head.result.table) r) (ap (λ (ls : List Lived). lived_at ls r) head ∙ are.each r g)
          (are.row r g ∙ ap (turned_row (length (list_at s.segments.items r))) (sym last)) (are.room r g);
    }
