use Rattle.std.proofs.Common.{◌≡◌, ◌-◌, ◌∙◌, ap, sym, subst, arith, map}
use Rattle.db_store.specs.LayoutGrowth.{is_head_of}
use Rattle.bit_rows.specs.Rows.{KeptRow, kept_row_at}
use Rattle.bit_rows.specs.Segments.{KeptRecords, kept_at}
use Rattle.hybrid_store.specs.Lanes.{segment_of}
use Rattle.hybrid_store.specs.Stored.{head_in}
use Rattle.hybrid_store.proofs.OwnLemmas.{own_some, HeadBy, head_first, head_found}
use Rattle.hybrid_store.proofs.heads.head_of_rows.Goals as goal

pub overflow_sub-index : goal.overflow_sub-index
overflow_sub-index c = let some = own_some (head_in c.args.branch (map segment_of c.args.kept.now.all)) c.args.rows.now c.requires.own in omega (arith, some, c.len-index.ensures)

pub loop-index-init : goal.loop-index-init
loop-index-init c = subst (λ n. HeadBy c.args.branch c.args.kept.now.all c.args.rows.now (n - 1)) (sym c.len-index.ensures) (head_first c.args.branch c.args.kept.now.all c.args.rows.now c.requires)

pub returns : goal.returns
returns c =
    let b = c.args.branch in
    let at : c.segment.result ≡ (kept_row_at c.args.rows.now c.loop-index.index).segment = c.segment.ensures ∙ ap (λ (x : KeptRow). x.segment) c.row.ensures in
    let test : c.is_head.result ≡ is_head_of b (kept_at c.args.kept.now.all (kept_row_at c.args.rows.now c.loop-index.index).segment).head =
    c.is_head.ensures ∙ ap (λ (x : KeptRecords). is_head_of b x.head) (c.segment-in-loop-index.ensures ∙ ap (kept_at c.args.kept.now.all) at) in
    c.segment-2.ensures
    ∙ ap (λ (x : KeptRow). x.segment) c.row-2.ensures
    ∙ head_found b c.args.kept.now.all c.args.rows.now c.requires c.loop-index.index c.loop-index.invariant.1.1.0 (sym test ∙ c.loop-index-test.false)
