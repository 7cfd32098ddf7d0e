use Rattle.std.proofs.Common.{◌≡◌, ◌∙◌, ◌++◌, ◌-◌, ℕ, List, take, drop, ap, ap₂, sym, arith}
use Rattle.multi_scan.specs.Found.{positions_of}
use Rattle.multi_scan.proofs.Runs.{positions_more}
use Rattle.multi_scan.proofs.scans.collect.Goals as goal

pub loop-at-init : goal.loop-at-init
loop-at-init c =
    let none : 0 ≡ c.args.from - c.args.from = omega arith in
    record {
      items = c.clear.ensures.items ∙ ap (λ n. positions_of (take n (drop c.args.from c.args.found.now))) none;
      from = omega arith;
    }

pub loop-at-preserved : goal.loop-at-preserved
loop-at-preserved c =
    let found = c.args.found.now in
    let from = c.loop-at.invariant.from in
    record {
      items = c.in_ok-push_positions.ensures.items
          ∙ ap₂ (λ (some others : List ℕ). some ++ others) c.loop-at.invariant.items c.positions.ensures
          ∙ sym (positions_more found c.args.from c.loop-at.at from (omega (arith, c.loop-at-test.true, c.requires.within)));
      from = omega (arith, from);
    }

pub returns : goal.returns
returns c =
    let all : c.loop-at.at - c.args.from ≡ c.args.to - c.args.from = omega (arith, c.loop-at.invariant.from, c.loop-at-test.false, c.requires.from) in
    c.loop-at.invariant.items ∙ ap (λ n. positions_of (take n (drop c.args.from c.args.found.now))) all
