use Rattle.std.proofs.Common.{◌||◌, ap, ◌∙◌, get_or, None, [], ◌∷◌}
use Rattle.hybrid_view.specs.Struck.{struck}
use Rattle.hybrid_view.proofs.ClearLemmas.{struck_step}
use Rattle.hybrid_view.proofs.commit.strikes.Goals as goal

pub loop-place-preserved : goal.loop-place-preserved
loop-place-preserved c = λ slot.
    struck_step c.args.places.now c.loop-place.place-index c.args.segment slot None c.loop-place-test.true
    ∙ ap (λ b. b || struck (get_or c.args.places.now c.loop-place.place-index None ∷ []) c.args.segment slot) (c.loop-place.invariant slot)
    ∙ c.is_in.ensures c.if-is_in.false slot
