-- The values of fields and of terms: numbers, and texts between double quotes.
use Rattle.std.specs.Prelude.{ℕ, ℤ, ◌-◌, ◌==◌, ◌&&◌, nat_lt, List, [], ◌∷◌, length, take, get_or, Option, Some, None, cond}
use Rattle.db_value.specs.Text.{is_text}
use Rattle.db_value.specs.Value.{Value}
use Rattle.db_value.specs.declared.value.Value.TheVariants.{Number, Text}
use Rattle.db_value.specs.declared.condition.TermValue.{TermValue}
use Rattle.stmt_text.specs.Number.{value_of}

-- bytes that are a short text
abbrev pub text_if : List ℕ → Option (List ℕ)
text_if bs = cond (is_text bs) (Some bs) None

-- the text before a double quote at the end
abbrev pub ended_text : List ℕ → Option (List ℕ)
ended_text bs = cond (nat_lt 0 (length bs) && get_or bs (length bs - 1) 0 == 34) (text_if (take (length bs - 1) bs)) None

-- a text as the value of a field
abbrev pub text_field : Option (List ℕ) → Option Value
text_field None = None
text_field (Some t) = Some (Text t)

-- a number as the value of a field
abbrev pub number_field : Option ℤ → Option Value
number_field None = None
number_field (Some n) = Some (Number n)

-- the value of a field: a text between double quotes, or a number
unfoldable pub field_of : List ℕ → Option Value
field_of [] = None
field_of (c ∷ cs) = cond (c == 34) (text_field (ended_text cs)) (number_field (value_of (c ∷ cs)))

-- the value of a field as that of a term
abbrev pub term_value : Value → TermValue
term_value (Number n) = TermValue.Number n
term_value (Text t) = TermValue.Text t
