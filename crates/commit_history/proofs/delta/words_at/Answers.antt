use Rattle.std.proofs.lemmas.List.Elements.{All-same}
use Rattle.commit_history.specs.Sparse.{IsWithin}
use Rattle.commit_history.proofs.Places.{place_more}
use Rattle.commit_history.proofs.delta.words_at.Goals as goal

pub loop-place-preserved : goal.loop-place-preserved
loop-place-preserved c = record {
  bits = λ k. place_more c.args.places.now c.loop-place.place-index _ k _ _ c.loop-place-test.true (c.in_ok-flip.ensures.bits k) (c.loop-place.invariant.bits k);
  within = λ len all. c.in_ok-flip.ensures.within len (c.loop-place.invariant.within len all) (all c.loop-place.place-index _ c.loop-place-test.true);
}

pub returns-clause-within : goal.returns-clause-within
returns-clause-within c = λ len all. All-same (IsWithin len) _ _ c.shrink_to_fit.ensures.items (c.loop-place.invariant.within len all)
