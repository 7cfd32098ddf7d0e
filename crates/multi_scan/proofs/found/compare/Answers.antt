use Rattle.std.proofs.Common.{◌∙◌, sym}
use Rattle.multi_scan.proofs.KeptLemmas.{none_there}
use Rattle.multi_scan.proofs.found.compare.Goals as goal

pub returns-then-len-eq0 : goal.returns-then-len-eq0
returns-then-len-eq0 c = none_there c.args.records.now c.args.a.now c.args.b.now (sym c.len-len.ensures ∙ c.if-len-eq0.true)
