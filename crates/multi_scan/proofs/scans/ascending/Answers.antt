use Rattle.std.proofs.Common.{◌≡◌, ◌-◌, length, take, drop, ap, ◌∙◌, arith}
use Rattle.std.proofs.lemmas.List.Sorted.{length_permutation}
use Rattle.multi_scan.specs.Found.{positions_of}
use Rattle.multi_scan.proofs.Runs.{some_positions}
use Rattle.multi_scan.proofs.scans.ascending.Goals as goal

pub unreachable-requires : goal.unreachable-requires
unreachable-requires c =
    let run = positions_of (take (c.args.to - c.args.from) (drop c.args.from c.args.found.now)) in
    let long : length c.as_slice.result.now ≡ length run = ap length c.as_slice.ensures.value ∙ length_permutation _ _ c.sort.ensures.permutation ∙ ap length c.in_ok-collect.ensures in
    absurd (omega (arith, long, some_positions c.args.found.now c.args.from c.args.to c.requires.each c.requires.some c.requires.within, c.in_default.len_below))
