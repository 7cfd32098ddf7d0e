-- Rows one by one, and pairs of two lists.
use Rattle.std.proofs.Common.{◌≡◌, ℕ, ◌+◌, Bool, true, false, cond, not, is_some, List, [], ◌∷◌, ◌++◌, length, drop, refl, ap, sym, ◌∙◌, arith, Option, Some, None}
use Rattle.std.specs.Prelude.{slice_get, IfSome}
use Rattle.std.specs.FinMap as finite
use Rattle.std.proofs.lemmas.Bool.{false≢true}
use Rattle.std.proofs.lemmas.List.{drop_more}
use Rattle.std.proofs.lemmas.Option.{get_or_from_slice_get, slice_get_within}
use Rattle.db_value.specs.Value.{Value, fields_eq}
use Rattle.db_value.specs.Pairs.{beside, paired}
use Rattle.db_value.specs.declared.record.Record.{Record}
use Rattle.db_value.specs.declared.pairs.Pair.{Pair}
use Rattle.db_store.specs.Table.{Contents}
use Rattle.version_join.specs.Join.{pair_with, differs, unlike}

-- a row that was read, and those after it
pub drop_read : (rows : List Record) (i : ℕ) (row : Record) → slice_get rows i ≡ Some row → drop i rows ≡ row ∷ drop (i + 1) rows
drop_read rows i row e = drop_more rows i row (slice_get_within rows i row e) ∙ ap (λ (r : Record). r ∷ drop (i + 1) rows) (get_or_from_slice_get rows i row row e)

-- the first row, and those after it
pub unlike_first : (row : Record) (rows : List Record) (right : Contents) → unlike (row ∷ []) right ++ unlike rows right ≡ unlike (row ∷ rows) right
unlike_first row rows right = elim (differs row (finite.get right row.key)) as (λ b. cond b (row ∷ []) [] ++ unlike rows right ≡ cond b (row ∷ unlike rows right) (unlike rows right)) [ true ↦ refl | false ↦ refl ]

-- a row that the other side lacks, and one that it has
pub unlike_absent : (row : Record) (right : Contents) → is_some (finite.get right row.key) ≡ false → row ∷ [] ≡ unlike (row ∷ []) right
unlike_absent row right e = by (finite.get right row.key) e
  where
    by : (o : Option (List Value)) → is_some o ≡ false → row ∷ [] ≡ cond (differs row o) (row ∷ []) []
    by None e = refl
    by (Some fields) e = absurd (false≢true (sym e))

pub unlike_other : (row : Record) (right : Contents) (read : List Value) → is_some (finite.get right row.key) ≡ true → IfSome (finite.get right row.key) (λ fields. read ≡ fields) → fields_eq row.fields read ≡ false → row ∷ [] ≡ unlike (row ∷ []) right
unlike_other row right read e h other = by (finite.get right row.key) e h
  where
    by : (o : Option (List Value)) → is_some o ≡ true → IfSome o (λ fields. read ≡ fields) → row ∷ [] ≡ cond (differs row o) (row ∷ []) []
    by None e h = absurd (false≢true e)
    by (Some fields) e h = sym (ap (λ (b : Bool). cond (not b) (row ∷ []) []) (ap (fields_eq row.fields) (sym h) ∙ other))

pub unlike_same : (row : Record) (right : Contents) (read : List Value) → is_some (finite.get right row.key) ≡ true → IfSome (finite.get right row.key) (λ fields. read ≡ fields) → fields_eq row.fields read ≡ true → [] ≡ unlike (row ∷ []) right
unlike_same row right read e h same = by (finite.get right row.key) e h
  where
    by : (o : Option (List Value)) → is_some o ≡ true → IfSome o (λ fields. read ≡ fields) → [] ≡ cond (differs row o) (row ∷ []) []
    by None e h = absurd (false≢true e)
    by (Some fields) e h = sym (ap (λ (b : Bool). cond (not b) (row ∷ []) []) (ap (fields_eq row.fields) (sym h) ∙ same))

-- a pair more
pub paired_more : (ls rs : List Record) (l r : Record) → length rs ≡ length ls → paired (ls ++ l ∷ []) (rs ++ r ∷ []) ≡ paired ls rs ++ beside l r ∷ []
paired_more [] [] l r h = refl
paired_more [] (x ∷ rs) l r h = absurd (omega (arith, h))
paired_more (x ∷ ls) [] l r h = absurd (omega (arith, h))
paired_more (x ∷ ls) (y ∷ rs) l r h = ap (λ (ps : List Pair). beside x y ∷ ps) (paired_more ls rs l r (omega (arith, h)))

pub pair_none : (row : Record) (o : Option (List Value)) → is_some o ≡ false → pair_with row o ≡ []
pair_none row None e = refl
pair_none row (Some fields) e = absurd (false≢true (sym e))

pub pair_some : (row other : Record) (o : Option (List Value)) → is_some o ≡ true → IfSome o (λ fields. other.fields ≡ fields) → pair_with row o ≡ beside row other ∷ []
pair_some row other None e h = absurd (false≢true e)
pair_some row other (Some fields) e h = ap (λ (fs : List Value). record { key = row.key; left = row.fields; right = fs } ∷ []) (sym h)
