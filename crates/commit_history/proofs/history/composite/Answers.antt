use Rattle.std.proofs.Common.{ap, sym, ◌∙◌}
use Rattle.commit_history.specs.Combined.{xor_of, combined}
use Rattle.commit_history.proofs.Exclusive.{xor_of-nil, combined-push}
use Rattle.commit_history.proofs.history.composite.Goals as goal

pub returns : goal.returns
returns c =
    let deltas = c.args.deltas.now in
    let last = c.args.last.now in
    c.in_ok-made.ensures
    ∙ c.in_ok-combine.ensures.combined
    ∙ ap (xor_of last) (c.in_ok-combine_all.ensures ∙ ap (xor_of (combined deltas)) c.new-bits.ensures ∙ xor_of-nil (combined deltas))
    ∙ sym (combined-push deltas last)
