use Rattle.std.proofs.Common.{◌≡◌, ◌∙◌, ap, sym, subst, arith, length, map, get_or, List}
use Rattle.std.proofs.lemmas.List.{get_or-map}
use Rattle.record_page.specs.Page.{Rows}
use Rattle.db_store.specs.Layout.{Segment, no_segment}
use Rattle.bit_rows.specs.Rows.{KeptRow}
use Rattle.bit_rows.specs.Kept.{KeptLane, no_kept, kept_rows}
use Rattle.bit_rows.specs.Segments.{KeptRecords, no_rows, kept_at, list_at}
use Rattle.hybrid_store.specs.Lanes.{segment_of}
use Rattle.hybrid_store.specs.Stored.{head_in, head_number, HasHead}
use Rattle.hybrid_store.proofs.BranchStored.{store_head, store_head_there}
use Rattle.hybrid_store.proofs.store.HybridStore.head_of.Goals as goal

pub head_of_rows-head-requires : goal.head_of_rows-head-requires
head_of_rows-head-requires c =
    let s = c.args.self.now in
    let rows : c.rows.result.now ≡ kept_rows (get_or s.lanes.items c.args.branch no_kept) c.args.relation = c.rows.ensures ∙ ap (λ (k : KeptLane). kept_rows k c.args.relation) c.lane.ensures.lane in
    subst (λ (ks : List KeptRecords). HasHead c.args.branch ks c.rows.result.now) (sym c.list-kept.ensures)
    (subst (λ (rs : List KeptRow). HasHead c.args.branch (list_at s.segments.items c.args.relation) rs) (sym rows)
    (store_head s.schema s.lanes.items s.order.items s.segments.items s.stored s.laid c.args.branch c.args.relation c.requires.branch c.requires.relation))

pub segment-requires : goal.segment-requires
segment-requires c =
    let s = c.args.self.now in
    let is : c.head_of_rows-head.result ≡ head_number s.segments.items c.args.branch c.args.relation = c.head_of_rows-head.ensures ∙ ap (λ (ks : List KeptRecords). head_in c.args.branch (map segment_of ks)) c.list-kept.ensures in
    let there = store_head_there s.schema s.lanes.items s.order.items s.segments.items s.stored s.laid c.args.branch c.args.relation c.requires.branch c.requires.relation in
    let same = ap (λ (xs : List KeptRecords). length xs) c.list-kept.ensures in
    omega (arith, is, there, same)

pub returns-clause-segment : goal.returns-clause-segment
returns-clause-segment c = c.head_of_rows-head.ensures ∙ ap (λ (ks : List KeptRecords). head_in c.args.branch (map segment_of ks)) c.list-kept.ensures

pub returns-clause-records : goal.returns-clause-records
returns-clause-records c =
    let s = c.args.self.now in
    let is : c.head_of_rows-head.result ≡ head_number s.segments.items c.args.branch c.args.relation = returns-clause-segment c in
    let there = store_head_there s.schema s.lanes.items s.order.items s.segments.items s.stored s.laid c.args.branch c.args.relation c.requires.branch c.requires.relation in
    c.len.ensures.count
    ∙ ap (λ (x : Rows). length x.records) c.records.ensures
    ∙ ap (λ (x : KeptRecords). length x.rows.records) (c.segment.ensures ∙ (λ i. kept_at (c.list-kept.ensures i) (is i)))
    ∙ ap (λ (x : Segment). length x.records) (sym (get_or-map segment_of (list_at s.segments.items c.args.relation) (head_number s.segments.items c.args.branch c.args.relation) no_rows no_segment there))
