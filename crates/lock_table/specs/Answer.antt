-- The answer to a request.
use Rattle.std.specs.Prelude.{ℕ, Option, Some, None}
use Rattle.lock_table.specs.declared.locks.Ask.{Ask}
use Rattle.lock_table.specs.declared.locks.Ask.TheVariants.{Granted, Held}

-- held by the holder of a lock, or else granted
abbrev pub answer_of : Option (ℕ × ℕ) → Ask
answer_of None = Granted
answer_of (Some p) = Held p.0 p.1
