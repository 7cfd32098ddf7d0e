-- The kinds of columns and of values: numbers and texts.
use Rattle.std.specs.Prelude.{ℕ, zero, suc, Bool, true, false}
use Rattle.db_value.specs.Value.{Value}
use Rattle.db_value.specs.declared.value.Value.TheVariants.{Number, Text}
use Rattle.db_value.specs.declared.condition.TermValue.{TermValue}

-- a column of width 0 has numbers, and one of another width has texts
abbrev pub has_kind : ℕ → Value → Bool
has_kind zero (Number n) = true
has_kind zero (Text t) = false
has_kind (suc w) (Number n) = false
has_kind (suc w) (Text t) = true

-- the value of a term is of a column's kind
abbrev pub term_has_kind : ℕ → TermValue → Bool
term_has_kind zero (TermValue.Number n) = true
term_has_kind zero (TermValue.Text t) = false
term_has_kind (suc w) (TermValue.Number n) = false
term_has_kind (suc w) (TermValue.Text t) = true
