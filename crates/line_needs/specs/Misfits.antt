-- Values that have no place in their columns: of the other kind, or texts that are too long.
use Rattle.std.specs.Prelude.{ℕ, zero, suc, nat_le, cond, List, [], ◌∷◌, length, get_or, Option, Some, None}
use Rattle.db_value.specs.Value.{Value}
use Rattle.db_value.specs.declared.value.Value.TheVariants.{Number, Text}
use Rattle.db_value.specs.declared.schema.Column.{Column}
use Rattle.db_value.specs.declared.reply.Refusal.{Refusal}
use Rattle.db_value.specs.declared.reply.Refusal.TheVariants.{WrongKind, TextTooLong}
use Rattle.stmt_text.specs.declared.stmt.NamedSet.{NamedSet}
use Rattle.line_needs.specs.Columns.{column_named}

-- why a value has no place in the column with a name and a width, if it hasn't
abbrev pub misfit : List ℕ → ℕ → Value → Option Refusal
misfit name zero (Number n) = None
misfit name zero (Text t) = Some (WrongKind name)
misfit name (suc w) (Number n) = Some (WrongKind name)
misfit name (suc w) (Text t) = cond (nat_le (length t) (suc w)) None (Some (TextTooLong name))

-- the first refusal, or the one behind it
abbrev pub first_of : Option Refusal → Option Refusal → Option Refusal
first_of None behind = behind
first_of (Some why) behind = Some why

-- why the first value of a row that has no place in its column hasn't
abbrev pub row_misfit : List Column → List Value → Option Refusal
row_misfit [] vs = None
row_misfit (c ∷ cs) [] = None
row_misfit (c ∷ cs) (v ∷ vs) = first_of (misfit c.name c.width v) (row_misfit cs vs)

-- why a new value has no place in the column with a number, among columns of these widths
abbrev pub set_misfit : List ℕ → NamedSet → Option ℕ → Option Refusal
set_misfit widths s None = None
set_misfit widths s (Some c) = misfit s.column (get_or widths c 0) s.value

-- why the first new value that has no place in its column hasn't
abbrev pub sets_misfit : List ℕ → List (List ℕ) → List NamedSet → Option Refusal
sets_misfit widths columns [] = None
sets_misfit widths columns (s ∷ ss) = first_of (set_misfit widths s (column_named columns s.column)) (sets_misfit widths columns ss)
