use Rattle.std.proofs.Common.{rules}
use Rattle.std.proofs.lemmas.List.Sorted.{IsNonDecreasingBy-from_sort_by_key}
use Rattle.segment.specs.Slots.{rank}
use Rattle.segment.proofs.SlotLemmas.{of_sorted}
use Rattle.segment.proofs.run.Run.of.Goals as goal

pub invariant_of-result : goal.invariant_of-result
invariant_of-result c = record { ascends = IsNonDecreasingBy-from_sort_by_key rank c.sort_by_key.new.self.items c.in_ok-sort_by_key.ensures.sorted (λ a r q k. search rules) }

pub returns-clause-slots : goal.returns-clause-slots
returns-clause-slots c = λ records to is. of_sorted records c.args.from to c.args.slots.items c.sort_by_key.new.self.items c.sort_by_key.ensures.permutation is
