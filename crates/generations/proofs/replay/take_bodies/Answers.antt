use Rattle.std.proofs.Common.{rules, ◌≡◌, ◌+◌, ◌<◌, List, ℕ, [], length, get_or, drop, sym, ◌∙◌, subst}
use Rattle.std.proofs.lemmas.List.{get_or_default}
use Rattle.generations.specs.declared.replay.Taken.{Taken}
use Rattle.generations.specs.declared.replay.Taken.TheVariants.{All}
use Rattle.generations.specs.Replays.{TakesBody}
use Rattle.generations.proofs.Walks.{Goes, goes_on}
use Rattle.generations.proofs.replay.take_bodies.Goals as goal

pub loop-body-preserved : goal.loop-body-preserved
loop-body-preserved g c =
    let s = g.St.Store.state c.args.store.now in
    let t = g.St.Store.state c.loop-body.store in
    let u = g.St.Store.state c.take_body.new.store in
    let bodies = c.args.bodies.now in
    let i = c.loop-body.body-index in
    let lt : i < length bodies = search rules in
    let body : c.as_slice.result.now ≡ get_or bodies i [] = c.as_slice.ensures ∙ c.body-item.is ∙ get_or_default bodies i c.body-item.result [] lt in
    let takes = subst (λ (b : List ℕ). TakesBody (All c.in-All.entries) t b u) body (subst (λ (x : Taken). TakesBody x t c.as_slice.result.now u) c.in-All.is c.in_ok-take_body.ensures) in
    let at : c.in_ok-at-in-All.at ≡ c.loop-body.at + (37 + length (get_or bodies i [])) = search rules in
    let count : c.in_ok-count-in-All.count ≡ c.loop-body.count + c.in-All.entries = search rules in
    let next = goes_on s c.args.from bodies t u c.loop-body.at i c.in-All.entries c.loop-body.count c.loop-body.invariant lt takes in
    subst (λ (k : ℕ). Goes s c.args.from bodies u k (drop (i + 1) bodies) c.in_ok-count-in-All.count) (sym at)
    (subst (λ (n : ℕ). Goes s c.args.from bodies u (c.loop-body.at + (37 + length (get_or bodies i []))) (drop (i + 1) bodies) n) (sym count) next)
