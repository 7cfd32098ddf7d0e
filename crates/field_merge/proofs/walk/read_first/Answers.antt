use Rattle.std.proofs.Common.{◌∙◌, sym, arith}
use Rattle.field_merge.proofs.FrontLemmas.{first_past, first_other, first_read}
use Rattle.field_merge.proofs.walk.read_first.Goals as goal

pub returns-then-at-len : goal.returns-then-at-len
returns-then-at-len c = first_past c.args.at c.args.rows.now (omega (arith, c.if-at-len.true, c.len.ensures)) c.args.key

pub returns-then-key : goal.returns-then-key
returns-then-key c = first_other c.args.at c.args.rows.now (omega (arith, c.if-at-len.false, c.len.ensures)) c.args.key (λ e. c.if-key.true (c.key.ensures ∙ e))

pub returns : goal.returns
returns c = first_read c.args.at c.args.rows.now (omega (arith, c.if-at-len.false, c.len.ensures)) c.args.key c.read.new.into (sym c.key.ensures ∙ c.if-key.false) c.read.ensures
