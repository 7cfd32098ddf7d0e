use Rattle.std.proofs.Common.{◌∙◌, ap, map, List}
use Rattle.std.specs.FinMap.{from_sorted}
use Rattle.store_catalogue.specs.declared.names.NamedBranch.{NamedBranch}
use Rattle.store_catalogue.specs.ByName.{entry_of}
use Rattle.store_catalogue.proofs.NameLemmas.{no_names}
use Rattle.store_catalogue.proofs.names.BranchNames.with_room.Goals as goal

pub returns-clause-numbers : goal.returns-clause-numbers
returns-clause-numbers c = ap (λ (ns : List NamedBranch). from_sorted (map entry_of ns)) c.in_ok-sorted.ensures.items ∙ no_names
