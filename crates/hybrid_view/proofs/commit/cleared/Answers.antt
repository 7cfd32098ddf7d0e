use Rattle.std.proofs.Common.{◌∙◌, None}
use Rattle.hybrid_view.proofs.ClearLemmas.{cleared_step}
use Rattle.hybrid_view.proofs.commit.cleared.Goals as goal

pub loop-place-preserved : goal.loop-place-preserved
loop-place-preserved c = (
  cleared_step c.args.bits.now c.loop-place.new c.clear_at.new.bits c.args.places.now c.loop-place.place-index c.args.segment None c.loop-place-test.true c.loop-place.invariant.0 c.clear_at.ensures.bits,
  c.clear_at.ensures.len ∙ c.loop-place.invariant.1,
)
