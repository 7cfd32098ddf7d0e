use Rattle.store_catalogue.proofs.NameLemmas.{get_found}
use Rattle.store_catalogue.proofs.names.BranchNames.number.Goals as goal

pub returns : goal.returns
returns c = rw (← c.self.view_is, get_found c.self.inside.sorted.items c.args.name.now c.self.invariant, ← c.deref.ensures.value) c.number_among.ensures
