use Rattle.std.proofs.Common.{◌∙◌, ap, arith, length, List}
use Rattle.record_page.specs.Page.{Rows}
use Rattle.db_store.specs.Layout.{Segment}
use Rattle.bit_rows.specs.Segments.{KeptRecords, kept_at}
use Rattle.hybrid_store.proofs.ReaderLemmas.{segment_within, segment_told}
use Rattle.hybrid_store.proofs.store.HybridStore.segment.Goals as goal

pub segment-requires : goal.segment-requires
segment-requires c =
    let s = c.args.self.now in
    let within = segment_within s.schema s.lanes.items s.order.items s.segments.items c.args.relation c.args.index c.requires.relation c.requires.index in
    let same = ap (λ (xs : List KeptRecords). length xs) c.list.ensures in
    omega (arith, within, same)

pub returns-clause-records : goal.returns-clause-records
returns-clause-records c =
    let s = c.args.self.now in
    ap (λ (x : Rows). x.records) c.records.ensures
    ∙ ap (λ (x : KeptRecords). x.rows.records) (c.segment.ensures ∙ ap (λ (ks : List KeptRecords). kept_at ks c.args.index) c.list.ensures)
    ∙ ap (λ (x : Segment). x.records) (segment_told s.schema s.lanes.items s.order.items s.segments.items c.args.relation c.args.index c.requires.relation c.requires.index)

pub returns-clause-widths : goal.returns-clause-widths
returns-clause-widths c =
    let s = c.args.self.now in
    ap (λ (x : Rows). x.widths) c.records.ensures
    ∙ ap (λ (x : KeptRecords). x.rows.widths) (c.segment.ensures ∙ ap (λ (ks : List KeptRecords). kept_at ks c.args.index) c.list.ensures)
    ∙ s.stored.widths c.args.relation c.args.index c.requires.relation (segment_within s.schema s.lanes.items s.order.items s.segments.items c.args.relation c.args.index c.requires.relation c.requires.index)
