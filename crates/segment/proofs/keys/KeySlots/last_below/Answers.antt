use Rattle.std.proofs.Common.{ℕ, Some, None, length, subst, sym}
use Rattle.segment.specs.Keys.{IsLastIn}
use Rattle.segment.proofs.KeyLemmas.{last_is}
use Rattle.segment.proofs.SlotLemmas.{lacks_all, lacks_newest}
use Rattle.segment.proofs.keys.KeySlots.last_below.Goals as goal

pub returns-in-None : goal.returns-in-None
returns-in-None c = λ records w is.
    let from : ℕ = c.args.self.now.from in
    let none : IsLastIn records from (length records) c.args.key c.args.bound None = subst (IsLastIn records from (length records) c.args.key c.args.bound) c.in-None.is (c.last_of_newest.ensures records (length records) is.newest) in
    c.last_in_runs.ensures records w is.runs (lacks_newest records from c.args.key c.args.bound w none)

pub returns-in-Some : goal.returns-in-Some
returns-in-Some c = λ records w is.
    let from : ℕ = c.args.self.now.from in
    let found : IsLastIn records from (length records) c.args.key c.args.bound (Some c.in-Some.slot) = subst (IsLastIn records from (length records) c.args.key c.args.bound) c.in-Some.is (c.last_of_newest.ensures records (length records) is.newest) in
    sym (last_is records from (length records) c.args.key c.args.bound c.in-Some.slot w found (lacks_all records c.args.key c.args.bound w))
