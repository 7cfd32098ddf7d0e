use Rattle.std.proofs.Common.{rules, ◌<◌, length, ◌∙◌}
use Rattle.new_image.proofs.Images.{segments_put}
use Rattle.new_image.proofs.image.put_segments.Goals as goal

pub loop-relation-preserved : goal.loop-relation-preserved
loop-relation-preserved c =
    let lt : c.loop-relation._relation-index < length c.args.relations.now = search rules in
    segments_put c.loop-relation.out.items c.put_segment.new.out.items c.args.relations.now c.loop-relation._relation-index c._relation-item.result lt c.in_ok-put_segment.ensures ∙ c.loop-relation.invariant
