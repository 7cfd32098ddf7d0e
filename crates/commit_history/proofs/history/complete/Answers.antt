use Rattle.std.proofs.Common.{Some, [], ◌∷◌, ◌++◌, ap, ◌∙◌, arith, ◌≡◌, length, ◌%◌}
use Rattle.commit_history.specs.Combined.{combined}
use Rattle.commit_history.proofs.Composed.{above_short, completes}
use Rattle.commit_history.proofs.history.complete.Goals as goal

pub ready-requires : goal.ready-requires
ready-requires c = above_short c.args.level.now c.args.above.now c.requires.above c.requires.few

pub returns : goal.returns
returns c = ap Some c.in_ok-ready.ensures ∙ completes c.args.level.now c.args.above.now c.args.item.now c.in_ok-made.made (omega (arith, c.if-len.false, c.len.ensures)) c.requires.above (c.in_ok-made.ensures ∙ ap (λ ds. combined (ds ++ c.args.item.now ∷ [])) c.last_items.ensures)
