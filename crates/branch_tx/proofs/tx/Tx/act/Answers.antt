use Rattle.std.proofs.Common.{ap, ◌∙◌}
use Rattle.std.proofs.lemmas.Result.{on_err_weaker}
use Rattle.branch_tx.specs.Granted.{known_in, takes_memory}
use Rattle.branch_tx.proofs.tx.Tx.act.Goals as goal

pub get-requires : goal.get-requires
get-requires g c = (c.in-Get.relation, c.requires.known ∙ ap (known_in c.args.self.now) c.in-Get.is)

pub returns-in-Get-clause-sure : goal.returns-in-Get-clause-sure
returns-in-Get-clause-sure g c = on_err_weaker c.get.result (λ f. ap (takes_memory c.args.self.now) c.in-Get.is ∙ f c.in-Get.relation (c.requires.known ∙ ap (known_in c.args.self.now) c.in-Get.is)) c.get.ensures.far

pub scan-requires : goal.scan-requires
scan-requires g c = (c.in-Scan.relation, c.requires.known ∙ ap (known_in c.args.self.now) c.in-Scan.is)

pub join-requires : goal.join-requires
join-requires g c = (c.in-Join.left, c.in-Join.right, c.requires.known ∙ ap (known_in c.args.self.now) c.in-Join.is)

pub minus-requires : goal.minus-requires
minus-requires g c = (c.in-Minus.relation, c.requires.known ∙ ap (known_in c.args.self.now) c.in-Minus.is)
