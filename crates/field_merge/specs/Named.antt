-- What a conflict names.
use Rattle.std.specs.Prelude.{ℕ, ◌<◌, Option, Some, None}

-- one of n columns, or none, which means the whole record
abbrev pub IsFieldOf : ℕ → Option ℕ → Type 0
IsFieldOf n None = Unit {0}
IsFieldOf n (Some f) = f < n
