-- The first column of a condition that is unknown, or of the other kind, one term further.
use Rattle.std.proofs.Common.{◌≡◌, ℕ, ◌+◌, ◌<◌, Bool, true, false, cond, is_some, List, ◌∷◌, drop, length, get_or, refl, ap, ◌∙◌, Option, Some, None}
use Rattle.std.proofs.lemmas.List.{drop_more}
use Rattle.db_value.specs.declared.condition.Term.{Term}
use Rattle.db_value.specs.declared.condition.TermValue.{TermValue}
use Rattle.db_value.specs.Condition.{column_place}
use Rattle.db_value.specs.Kind.{term_has_kind}
use Rattle.db_value.specs.Pred.{unknown_or, first_unknown, wrong_at, wrong_or, first_wrong}

-- a test that stops at a name, or goes on
passes : (q : Bool) (name : List ℕ) (behind : Option (List ℕ)) → cond q None (Some name) ≡ None → cond q behind (Some name) ≡ behind
passes true name behind e = refl
passes false name behind e = absurd cc

stops : (q : Bool) (name column : List ℕ) (behind : Option (List ℕ)) → cond q None (Some name) ≡ Some column → cond q behind (Some name) ≡ Some column
stops true name column behind e = absurd cc
stops false name column behind e = e

-- the terms from a place on
from : (terms : List Term) (i : ℕ) (x d : Term) → i < length terms → get_or terms i d ≡ x → drop i terms ≡ x ∷ drop (i + 1) terms
from terms i x d h is = drop_more terms i d h ∙ ap (λ (y : Term). y ∷ drop (i + 1) terms) is

-- ---- unknown columns

known_term : (columns : List (List ℕ)) (column behind : Option (List ℕ)) → unknown_or columns column None ≡ None → unknown_or columns column behind ≡ behind
known_term columns None behind e = refl
known_term columns (Some name) behind e = passes (is_some (column_place columns name)) name behind e

unknown_term : (columns : List (List ℕ)) (column behind : Option (List ℕ)) (name : List ℕ) → unknown_or columns column None ≡ Some name → unknown_or columns column behind ≡ Some name
unknown_term columns None behind name e = absurd cc
unknown_term columns (Some own) behind name e = stops (is_some (column_place columns own)) own name behind e

pub known_step : (columns : List (List ℕ)) (terms : List Term) (i : ℕ) (x d : Term) → i < length terms → get_or terms i d ≡ x → unknown_or columns x.column None ≡ None → first_unknown columns (drop i terms) ≡ first_unknown columns (drop (i + 1) terms)
known_step columns terms i x d h is at = ap (first_unknown columns) (from terms i x d h is) ∙ known_term columns x.column (first_unknown columns (drop (i + 1) terms)) at

pub unknown_stop : (columns : List (List ℕ)) (terms : List Term) (i : ℕ) (x d : Term) (name : List ℕ) → i < length terms → get_or terms i d ≡ x → unknown_or columns x.column None ≡ Some name → first_unknown columns (drop i terms) ≡ Some name
unknown_stop columns terms i x d name h is at = ap (first_unknown columns) (from terms i x d h is) ∙ unknown_term columns x.column (first_unknown columns (drop (i + 1) terms)) name at

-- ---- columns of the other kind

right_at : (widths name : List ℕ) (value : TermValue) (o : Option ℕ) (behind : Option (List ℕ)) → wrong_at widths name value o None ≡ None → wrong_at widths name value o behind ≡ behind
right_at widths name value None behind e = refl
right_at widths name value (Some place) behind e = passes (term_has_kind (get_or widths place 0) value) name behind e

wrong_there : (widths name : List ℕ) (value : TermValue) (o : Option ℕ) (behind : Option (List ℕ)) (column : List ℕ) → wrong_at widths name value o None ≡ Some column → wrong_at widths name value o behind ≡ Some column
wrong_there widths name value None behind column e = absurd cc
wrong_there widths name value (Some place) behind column e = stops (term_has_kind (get_or widths place 0) value) name column behind e

right_term : (columns : List (List ℕ)) (widths : List ℕ) (column : Option (List ℕ)) (value : TermValue) (behind : Option (List ℕ)) → wrong_or columns widths column value None ≡ None → wrong_or columns widths column value behind ≡ behind
right_term columns widths None value behind e = refl
right_term columns widths (Some name) value behind e = right_at widths name value (column_place columns name) behind e

wrong_term : (columns : List (List ℕ)) (widths : List ℕ) (column : Option (List ℕ)) (value : TermValue) (behind : Option (List ℕ)) (name : List ℕ) → wrong_or columns widths column value None ≡ Some name → wrong_or columns widths column value behind ≡ Some name
wrong_term columns widths None value behind name e = absurd cc
wrong_term columns widths (Some own) value behind name e = wrong_there widths own value (column_place columns own) behind name e

pub right_step : (columns : List (List ℕ)) (widths : List ℕ) (terms : List Term) (i : ℕ) (x d : Term) → i < length terms → get_or terms i d ≡ x → wrong_or columns widths x.column x.value None ≡ None → first_wrong columns widths (drop i terms) ≡ first_wrong columns widths (drop (i + 1) terms)
right_step columns widths terms i x d h is at = ap (first_wrong columns widths) (from terms i x d h is) ∙ right_term columns widths x.column x.value (first_wrong columns widths (drop (i + 1) terms)) at

pub wrong_stop : (columns : List (List ℕ)) (widths : List ℕ) (terms : List Term) (i : ℕ) (x d : Term) (name : List ℕ) → i < length terms → get_or terms i d ≡ x → wrong_or columns widths x.column x.value None ≡ Some name → first_wrong columns widths (drop i terms) ≡ Some name
wrong_stop columns widths terms i x d name h is at = ap (first_wrong columns widths) (from terms i x d h is) ∙ wrong_term columns widths x.column x.value (first_wrong columns widths (drop (i + 1) terms)) name at
