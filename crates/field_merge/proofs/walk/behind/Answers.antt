use Rattle.std.proofs.Common.{◌∙◌, sym, arith}
use Rattle.field_merge.proofs.FrontLemmas.{behind_past, behind_other, behind_this}
use Rattle.field_merge.proofs.walk.behind.Goals as goal

pub returns-then-at-len : goal.returns-then-at-len
returns-then-at-len c = behind_past c.args.at c.args.rows.now (omega (arith, c.if-at-len.true, c.len.ensures)) c.args.key

pub returns-then-key : goal.returns-then-key
returns-then-key c = behind_this c.args.at c.args.rows.now (omega (arith, c.if-at-len.false, c.len.ensures)) c.args.key (sym c.key.ensures ∙ c.if-key.true)

pub returns : goal.returns
returns c = behind_other c.args.at c.args.rows.now (omega (arith, c.if-at-len.false, c.len.ensures)) c.args.key (λ e. c.if-key.false (c.key.ensures ∙ e))
