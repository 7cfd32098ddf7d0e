use Rattle.std.proofs.Common.{◌∙◌, sym, ap}
use Rattle.db_core.specs.Members.{AtMember}
use Rattle.db_core.specs.Waiting.{at_member, members_of}
use Rattle.db_hub.proofs.Lasts.{last_is}
use Rattle.db_hub.proofs.batch.last_line.Goals as goal

pub returns : goal.returns
returns g c = λ ms m is. ap (λ (x : AtMember). x.line) (last_is at_member c.as_slice.result.now c.in-Some.member.now ms m (sym c.in-Some.ensures.value) (ap members_of c.as_slice.ensures.value ∙ is))
