use Rattle.std.proofs.Common.{◌<◌, sym, ◌∙◌, arith}
use Rattle.key_index.proofs.Trails.{stand_at, stop_past, go_on, next_within}
use Rattle.key_index.proofs.fork.end_of.Goals as goal

pub returns-then-is_of : goal.returns-then-is_of
returns-then-is_of g c =
    let some : 0 < c.loop-fuel.fuel = omega (arith, c.loop-fuel-test.true) in
    sym (c.loop-fuel.invariant.same ∙ stand_at c.args.forks.now c.args.relation c.args.key c.loop-fuel.at c.loop-fuel.rest c.index-forks-at.result c.index-forks-at.is (c.loop-fuel.invariant.within some)
    c.loop-fuel.fuel some (sym c.is_of.ensures ∙ c.if-is_of.true))

pub returns-then-to-eq0 : goal.returns-then-to-eq0
returns-then-to-eq0 g c =
    let some : 0 < c.loop-fuel.fuel = omega (arith, c.loop-fuel-test.true) in
    sym (c.loop-fuel.invariant.same ∙ stop_past c.args.forks.now c.args.relation c.args.key c.loop-fuel.at c.loop-fuel.rest c.index-forks-at.result c.index-forks-at.is (c.loop-fuel.invariant.within some)
    c.loop-fuel.fuel some (sym c.is_of.ensures ∙ c.if-is_of.false) (sym c.link-to.ensures ∙ omega (arith, c.if-to-eq0.true)))

pub loop-fuel-preserved : goal.loop-fuel-preserved
loop-fuel-preserved g c =
    let some : 0 < c.loop-fuel.fuel = omega (arith, c.loop-fuel-test.true) in
    let to : 0 < c.link-to.result = omega (arith, c.if-to-eq0.false) in
    let here = c.loop-fuel.invariant.within some in
    record {
      within = λ f. next_within c.args.forks.now c.args.relation c.args.key c.loop-fuel.at c.loop-fuel.rest c.index-forks-at.result c.index-forks-at.is here c.requires c.link-to.result c.link-to.ensures to;
      same = c.loop-fuel.invariant.same ∙ go_on c.args.forks.now c.args.relation c.args.key c.loop-fuel.at c.loop-fuel.rest c.index-forks-at.result c.index-forks-at.is here
          c.loop-fuel.fuel c.link-to.result some (sym c.is_of.ensures ∙ c.if-is_of.false) c.link-to.ensures to;
    }
