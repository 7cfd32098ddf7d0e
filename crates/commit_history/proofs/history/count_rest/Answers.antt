use Rattle.std.proofs.Common.{◌-◌, ◌%◌, length, take, drop, ap, ◌∙◌, arith}
use Rattle.std.proofs.lemmas.List.{length-take-le, length-drop}
use Rattle.commit_history.proofs.history.count_rest.Goals as goal

pub returns : goal.returns
returns c =
    let n = c.args.n in
    let items = c.args.level.now in
    let left = length-drop (n - n % 16) items in
    ap length c.rest.ensures ∙ length-take-le (n % 16) (drop (n - n % 16) items) (omega (arith, left, c.requires))
