use Rattle.std.proofs.Common.{length, ap, sym, arith, ◌/◌}
use Rattle.std.proofs.lemmas.List.{length-take-le}
use Rattle.commit_history.proofs.Composed.{length_above}
use Rattle.commit_history.proofs.history.History.bitmaps_at.Goals as goal

pub slice_bounds-by_4096-end : goal.slice_bounds-by_4096-end
slice_bounds-by_4096-end c =
    let s = c.self.inside in
    let a = length_above s.deltas s.by_16 c.self.invariant.sixteens in
    let b = length_above s.by_16 s.by_256 c.self.invariant.more in
    let d = length_above s.by_256 s.by_4096 c.self.invariant.most in
    let n = ap length c.self.view_is in
    let m = ap length c.as_slice.ensures in
    sym (length-take-le (c.args.n / 4096) c.as_slice.result.now (omega (arith, a, b, d, n, m, c.requires)))

pub count_rest-by_256-requires : goal.count_rest-by_256-requires
count_rest-by_256-requires c =
    let s = c.self.inside in
    let a = length_above s.deltas s.by_16 c.self.invariant.sixteens in
    let b = length_above s.by_16 s.by_256 c.self.invariant.more in
    let n = ap length c.self.view_is in
    omega (arith, a, b, n, c.requires)

pub count_rest-by_16-requires : goal.count_rest-by_16-requires
count_rest-by_16-requires c =
    let s = c.self.inside in
    let a = length_above s.deltas s.by_16 c.self.invariant.sixteens in
    let n = ap length c.self.view_is in
    omega (arith, a, n, c.requires)

pub returns-clause-count : goal.returns-clause-count
returns-clause-count c =
    let s = c.self.inside in
    let a = length_above s.deltas s.by_16 c.self.invariant.sixteens in
    let b = length_above s.by_16 s.by_256 c.self.invariant.more in
    let d = length_above s.by_256 s.by_4096 c.self.invariant.most in
    let n = ap length c.self.view_is in
    let m = ap length c.as_slice.ensures in
    let top = length-take-le (c.args.n / 4096) c.as_slice.result.now (omega (arith, a, b, d, n, m, c.requires)) in
    omega (arith, top, c.count_rest-by_256.ensures, c.count_rest-by_16.ensures, c.count_rest.ensures)
