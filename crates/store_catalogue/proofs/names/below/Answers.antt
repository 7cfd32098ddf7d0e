use Rattle.std.proofs.Common.{rules}
use Rattle.std.specs.Ordering.{is_gt}
use Rattle.std.proofs.lemmas.List.Sorted.{IsPartitionPoint-from_clause}
use Rattle.store_catalogue.specs.declared.names.NamedBranch.{NamedBranch}
use Rattle.store_catalogue.specs.ByName.{name_cmp}
use Rattle.store_catalogue.proofs.NameLemmas.{parted_by_name}
use Rattle.store_catalogue.proofs.names.below.Goals as goal

pub returns-clause-parted : goal.returns-clause-parted
returns-clause-parted c =
    IsPartitionPoint-from_clause (λ (n : NamedBranch). is_gt (name_cmp c.args.name.now n.name)) c.args.sorted.now _ c.partition_point.ensures.partitioned (parted_by_name c.args.name.now c.args.sorted.now c.requires) (λ a r q k. search rules)
