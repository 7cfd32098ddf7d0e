use Rattle.std.proofs.Common.{◌≡◌, ap, sym, ◌∙◌, arith, length, take, ◌/◌, ◌≤◌}
use Rattle.std.proofs.lemmas.List.{length-take-le}
use Rattle.commit_history.specs.Combined.{xor_of, combined}
use Rattle.commit_history.proofs.Exclusive.{xor_of-nil}
use Rattle.commit_history.proofs.Composed.{length_above, on_levels}
use Rattle.commit_history.proofs.history.History.at.Goals as goal

pub slice_bounds-combine_all-end : goal.slice_bounds-combine_all-end
slice_bounds-combine_all-end c =
    let s = c.self.inside in
    let a = length_above s.deltas s.by_16 c.self.invariant.sixteens in
    let b = length_above s.by_16 s.by_256 c.self.invariant.more in
    let d = length_above s.by_256 s.by_4096 c.self.invariant.most in
    let n = ap length c.self.view_is in
    let m = ap length c.as_slice.ensures in
    sym (length-take-le (c.args.n / 4096) c.as_slice.result.now (omega (arith, a, b, d, n, m, c.requires)))

pub combine_rest-requires : goal.combine_rest-requires
combine_rest-requires c =
    let s = c.self.inside in
    let a = length_above s.deltas s.by_16 c.self.invariant.sixteens in
    let b = length_above s.by_16 s.by_256 c.self.invariant.more in
    let n = ap length c.self.view_is in
    omega (arith, a, b, n, c.requires)

pub combine_rest-requires-2 : goal.combine_rest-requires-2
combine_rest-requires-2 c =
    let s = c.self.inside in
    let a = length_above s.deltas s.by_16 c.self.invariant.sixteens in
    let n = ap length c.self.view_is in
    omega (arith, a, n, c.requires)

pub returns : goal.returns
returns c =
    let s = c.self.inside in
    let n = ap length c.self.view_is in
    on_levels s.deltas s.by_16 s.by_256 s.by_4096 c.args.n c.combine_all.new.bits c.combine_rest.new.bits c.combine_rest-2.new.bits c.combine_rest-3.new.bits c.self.invariant (omega (arith, n, c.requires))
    (c.in_ok-combine_all.ensures ∙ ap (xor_of _) c.new-bits.ensures ∙ xor_of-nil _ ∙ ap (λ ds. combined (take (c.args.n / 4096) ds)) c.as_slice.ensures)
    c.in_ok-combine_rest.ensures c.in_ok-combine_rest-2.ensures c.in_ok-combine_rest-3.ensures
    ∙ ap (λ ds. combined (take c.args.n ds)) c.self.view_is
