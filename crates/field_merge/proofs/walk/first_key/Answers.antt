use Rattle.std.proofs.Common.{◌∙◌, ℕ, Some, ap, sym, arith}
use Rattle.field_merge.proofs.FrontLemmas.{key_past, key_here}
use Rattle.field_merge.proofs.walk.first_key.Goals as goal

pub returns-then-at-len : goal.returns-then-at-len
returns-then-at-len c = sym (key_past c.args.at c.args.rows.now (omega (arith, c.if-at-len.true, c.len.ensures)))

pub returns : goal.returns
returns c = ap (λ (k : ℕ). Some k) c.key.ensures ∙ sym (key_here c.args.at c.args.rows.now (omega (arith, c.if-at-len.false, c.len.ensures)))
