-- The text of a value.
use Rattle.std.specs.Prelude.{ℕ, List, [], ◌∷◌, ◌++◌}
use Rattle.std.specs.Fmt.{signed_decimal}
use Rattle.db_value.specs.Value.{Value}
use Rattle.db_value.specs.declared.value.Value.TheVariants.{Number, Text}

-- a number in decimal digits, or a text between double quotes
abbrev pub value_text : Value → List ℕ
value_text (Number n) = signed_decimal n
value_text (Text t) = 34 ∷ t ++ 34 ∷ []
