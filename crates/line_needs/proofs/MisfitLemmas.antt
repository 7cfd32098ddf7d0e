-- A row has no misfit exactly if it meets the widths of the columns.
use Rattle.std.proofs.Common.{◌≡◌, ℕ, zero, suc, ◌+◌, ◌<◌, Bool, true, false, ◌&&◌, cond, List, [], ◌∷◌, length, map, drop, get_or, refl, arith, ap, ◌∙◌, Option, Some, None}
use Rattle.std.specs.Prelude.{nat_le}
use Rattle.std.proofs.lemmas.Bool.{eq-eqb}
use Rattle.std.proofs.lemmas.List.{drop_more}
use Rattle.db_value.specs.Value.{Value}
use Rattle.db_value.specs.declared.value.Value.TheVariants.{Number, Text}
use Rattle.db_value.specs.declared.schema.Column.{Column}
use Rattle.db_value.specs.declared.schema.Relation.{Relation}
use Rattle.db_value.specs.declared.reply.Refusal.{Refusal}
use Rattle.db_value.specs.declared.reply.Refusal.TheVariants.{TextTooLong}
use Rattle.db_value.specs.Relations.{widths_at}
use Rattle.db_value.specs.Widths.{fits_width, meets}
use Rattle.stmt_text.specs.declared.stmt.NamedSet.{NamedSet}
use Rattle.line_needs.specs.Columns.{columns_of, column_named}
use Rattle.line_needs.specs.Early.{row_refusal}
use Rattle.line_needs.specs.Misfits.{misfit, first_of, row_misfit, set_misfit, sets_misfit}

fits_none : (name : List ℕ) (w : ℕ) (v : Value) → fits_width w v ≡ true → misfit name w v ≡ None
fits_none name zero (Number n) e = refl
fits_none name zero (Text t) e = absurd cc
fits_none name (suc w) (Number n) e = absurd cc
fits_none name (suc w) (Text t) e = ap (λ (q : Bool). cond q None (Some (TextTooLong name))) e

passed : (q : Bool) (why : Refusal) → cond q None (Some why) ≡ None → q ≡ true
passed true why e = refl
passed false why e = absurd cc

pub none_fits : (name : List ℕ) (w : ℕ) (v : Value) → misfit name w v ≡ None → fits_width w v ≡ true
none_fits name zero (Number n) e = refl
none_fits name zero (Text t) e = absurd cc
none_fits name (suc w) (Number n) e = absurd cc
none_fits name (suc w) (Text t) e = passed (nat_le (length t) (suc w)) (TextTooLong name) e

pub first_none : (o p : Option Refusal) → first_of o p ≡ None → (o ≡ None) × (p ≡ None)
first_none None p e = (refl, e)
first_none (Some why) p e = absurd cc

two : (a b : Bool) → (a && b) ≡ true → (a ≡ true) × (b ≡ true)
two true b e = (refl, e)
two false b e = absurd cc

meets_none : (cs : List Column) (vs : List Value) → meets (map (λ c. c.width) cs) vs ≡ true → (length vs ≡ length cs) × (row_misfit cs vs ≡ None)
meets_none [] [] e = (refl, refl)
meets_none [] (v ∷ vs) e = absurd cc
meets_none (c ∷ cs) [] e = absurd cc
meets_none (c ∷ cs) (v ∷ vs) e =
    let b = two (fits_width c.width v) (meets (map (λ (d : Column). d.width) cs) vs) e in
    let r = meets_none cs vs b.1 in
    (ap suc r.0, ap (λ (o : Option Refusal). first_of o (row_misfit cs vs)) (fits_none c.name c.width v b.0) ∙ r.1)

pub none_meets : (cs : List Column) (vs : List Value) → length vs ≡ length cs → row_misfit cs vs ≡ None → meets (map (λ c. c.width) cs) vs ≡ true
none_meets [] [] n e = refl
none_meets [] (v ∷ vs) n e = absurd (omega (arith, n))
none_meets (c ∷ cs) [] n e = absurd (omega (arith, n))
none_meets (c ∷ cs) (v ∷ vs) n e =
    let f = first_none (misfit c.name c.width v) (row_misfit cs vs) e in
    rw (none_fits c.name c.width v f.0, none_meets cs vs (omega (arith, n)) f.1) refl

-- a row that meets the widths isn't refused
pub met_refusal : (schema : List Relation) (name : List ℕ) (fields : List Value) (r : ℕ) → meets (widths_at schema r) fields ≡ true → None ≡ row_refusal schema name fields (Some r)
met_refusal schema name fields r e =
    let m = meets_none (columns_of schema r) fields e in
    rw (eq-eqb (length fields) (length (columns_of schema r)) m.0, m.1) refl

-- ---- one value further

-- what stops, and what goes on
pub stops : (o p : Option Refusal) (why : Refusal) → o ≡ Some why → first_of o p ≡ Some why
stops o p why e = ap (λ (q : Option Refusal). first_of q p) e

pub goes_on : (o p : Option Refusal) → o ≡ None → first_of o p ≡ p
goes_on o p e = ap (λ (q : Option Refusal). first_of q p) e

-- the new values from a place on
sets_from : (widths : List ℕ) (columns : List (List ℕ)) (sets : List NamedSet) (i : ℕ) (x d : NamedSet) → i < length sets → get_or sets i d ≡ x → sets_misfit widths columns (drop i sets) ≡ first_of (set_misfit widths x (column_named columns x.column)) (sets_misfit widths columns (drop (i + 1) sets))
sets_from widths columns sets i x d h is = ap (sets_misfit widths columns) (drop_more sets i d h ∙ ap (λ (y : NamedSet). y ∷ drop (i + 1) sets) is)

pub sets_step : (widths : List ℕ) (columns : List (List ℕ)) (sets : List NamedSet) (i : ℕ) (x d : NamedSet) → i < length sets → get_or sets i d ≡ x → set_misfit widths x (column_named columns x.column) ≡ None → sets_misfit widths columns (drop i sets) ≡ sets_misfit widths columns (drop (i + 1) sets)
sets_step widths columns sets i x d h is e = sets_from widths columns sets i x d h is ∙ goes_on (set_misfit widths x (column_named columns x.column)) (sets_misfit widths columns (drop (i + 1) sets)) e

pub sets_stop : (widths : List ℕ) (columns : List (List ℕ)) (sets : List NamedSet) (i : ℕ) (x d : NamedSet) (why : Refusal) → i < length sets → get_or sets i d ≡ x → set_misfit widths x (column_named columns x.column) ≡ Some why → sets_misfit widths columns (drop i sets) ≡ Some why
sets_stop widths columns sets i x d why h is e = sets_from widths columns sets i x d h is ∙ stops (set_misfit widths x (column_named columns x.column)) (sets_misfit widths columns (drop (i + 1) sets)) why e

-- the columns and the values from a place on
row_from : (cs : List Column) (vs : List Value) (i : ℕ) (c d : Column) (v : Value) (more : List Value) → i < length cs → get_or cs i d ≡ c → vs ≡ v ∷ more → row_misfit (drop i cs) vs ≡ first_of (misfit c.name c.width v) (row_misfit (drop (i + 1) cs) more)
row_from cs vs i c d v more h is e = ap (row_misfit (drop i cs)) e ∙ ap (λ (ks : List Column). row_misfit ks (v ∷ more)) (drop_more cs i d h ∙ ap (λ (k : Column). k ∷ drop (i + 1) cs) is)

pub row_step : (cs : List Column) (vs : List Value) (i : ℕ) (c d : Column) (v : Value) (more : List Value) → i < length cs → get_or cs i d ≡ c → vs ≡ v ∷ more → misfit c.name c.width v ≡ None → row_misfit (drop i cs) vs ≡ row_misfit (drop (i + 1) cs) more
row_step cs vs i c d v more h is e none = row_from cs vs i c d v more h is e ∙ goes_on (misfit c.name c.width v) (row_misfit (drop (i + 1) cs) more) none

pub row_stop : (cs : List Column) (vs : List Value) (i : ℕ) (c d : Column) (v : Value) (more : List Value) (why : Refusal) → i < length cs → get_or cs i d ≡ c → vs ≡ v ∷ more → misfit c.name c.width v ≡ Some why → row_misfit (drop i cs) vs ≡ Some why
row_stop cs vs i c d v more why h is e some = row_from cs vs i c d v more h is e ∙ stops (misfit c.name c.width v) (row_misfit (drop (i + 1) cs) more) why some

-- no value is left
pub row_end : (cs : List Column) (vs : List Value) → vs ≡ [] → row_misfit cs vs ≡ None
row_end [] vs e = refl
row_end (c ∷ cs) vs e = ap (row_misfit (c ∷ cs)) e
