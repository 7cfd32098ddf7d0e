use Rattle.std.proofs.Common.{◌∙◌, ap, map, arith, ◌++◌}
use Rattle.db_image.specs.Parts.{segment_with}
use Rattle.db_image.proofs.Wholes.{goes, list_is, fit_here}
use Rattle.db_image.proofs.whole.segments_of.Goals as goal

pub put_segments-requires : goal.put_segments-requires
put_segments-requires c =
    let l = c.loop-r-test.true in
    fit_here c.args.relations.now c.args.lists.now c.loop-r.r c.widths_at-widths.result c.as_slice.result.now c.requires.fit (omega (arith, l)) c.widths_at-widths.ensures
    (list_is c.args.lists.now c.loop-r.r c.index-lists-r.result c.as_slice.result.now (omega (arith, l)) (c.as_slice.ensures ∙ c.index-lists-r.is))

pub loop-r-preserved : goal.loop-r-preserved
loop-r-preserved c =
    let l = c.loop-r-test.true in
    goes c.args.relations.now c.loop-r.r c.widths_at-widths.result c.args.lists.now c.loop-r.made.items c.put_segments.new.made.items (omega (arith, l)) c.widths_at-widths.ensures
    c.loop-r.invariant
    (c.in_ok-put_segments.ensures
    ∙ ap (λ ss. c.loop-r.made.items ++ map (segment_with c.loop-r.r c.widths_at-widths.result) ss) (list_is c.args.lists.now c.loop-r.r c.index-lists-r.result c.as_slice.result.now (omega (arith, l)) (c.as_slice.ensures ∙ c.index-lists-r.is)))
