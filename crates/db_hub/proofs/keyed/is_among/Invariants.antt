use Rattle.std.proofs.Common.{◌≡◌, drop}
use Rattle.db_hub.specs.Keyed.{is_among}
use Rattle.db_hub.proofs.keyed.is_among.Given as goal

-- the number wasn't found so far
abbrev pub invariant-loop-other : goal.invariant-loop-other
invariant-loop-other l = is_among l.number (drop l.other-index l.fn.numbers) ≡ is_among l.number l.fn.numbers
