-- The merge relation by relation.
use Rattle.std.proofs.Common.{◌≡◌, ℕ, suc, ◌==◌, ◌+◌, ◌-◌, ◌<◌, ◌≤◌, Bool, true, false, cond, List, [], ◌∷◌, ◌++◌, length, Some, Result, Err, refl, ap, sym, ◌∙◌, arith}
use Rattle.std.specs.List.{flat_map, range_with_len}
use Rattle.std.proofs.lemmas.Bool.{eqb-true, eq-eqb}
use Rattle.std.proofs.lemmas.Option.{none-some}
use Rattle.std.proofs.lemmas.List.{append-nil, append_assoc}
use Rattle.db_value.specs.Value.{Value}
use Rattle.db_value.specs.declared.record.Record.{Record}
use Rattle.db_value.specs.declared.entry.Change.{Change}
use Rattle.db_store.specs.SameRows.{fields_in, Apart}
use Rattle.field_merge.specs.Merge.{Clash, least_clash}
use Rattle.field_merge.specs.Walk.{HaveFields}

-- ---- the rows of a table's relation

pub have_fields : (n : ℕ) (rows : List Record) → Apart rows → ((q : ℕ) (fields : List Value) → fields_in q rows ≡ Some fields → length fields ≡ n) → HaveFields n rows
have_fields n [] a each = tt
have_fields n (r ∷ rs) a each = (
  each r.key r.fields (ap (λ (b : Bool). cond b (Some r.fields) (fields_in r.key rs)) (eq-eqb r.key r.key refl)),
  have_fields n rs a.1 (λ q fields e. each q fields (behind q fields e (r.key == q) refl)),
)
  where
    behind : (q : ℕ) (fields : List Value) → fields_in q rs ≡ Some fields → (b : Bool) → (r.key == q) ≡ b → fields_in q (r ∷ rs) ≡ Some fields
    behind q fields e true k = absurd (none-some fields (sym (sym e ∙ ap (λ n. fields_in n rs) (sym (eqb-true r.key q k)) ∙ a.0)))
    behind q fields e false k = ap (λ (b : Bool). cond b (Some r.fields) (fields_in q rs)) k ∙ e

-- ---- one relation more

-- the relations from n on, of `count`
abbrev pub from_relation : ℕ → ℕ → List ℕ
from_relation n count = range_with_len n (count - n)

from_more : (n count : ℕ) → n < count → from_relation n count ≡ n ∷ from_relation (n + 1) count
from_more n count h = let e : count - n ≡ suc (count - (n + 1)) = omega arith in ap (range_with_len n) e

from_end : (n count : ℕ) → count ≤ n → from_relation n count ≡ []
from_end n count h = let e : count - n ≡ 0 = omega arith in ap (range_with_len n) e

module _ {A : Type 0} (of : ℕ → List A) (n count : ℕ) where
  -- what was gathered with what comes is all
  pub gathered_more : (old new all : List A) → n < count → new ≡ old ++ of n → old ++ flat_map of (from_relation n count) ≡ all → new ++ flat_map of (from_relation (n + 1) count) ≡ all
  gathered_more old new all h e so_far =
      ap (λ (xs : List A). xs ++ flat_map of (from_relation (n + 1) count)) e
      ∙ append_assoc old (of n) (flat_map of (from_relation (n + 1) count))
      ∙ ap (λ (ks : List ℕ). old ++ flat_map of ks) (sym (from_more n count h))
      ∙ so_far

  pub none_more : (all : List A) → n < count → of n ≡ [] → flat_map of (from_relation n count) ≡ all → flat_map of (from_relation (n + 1) count) ≡ all
  none_more all h e so_far = sym (ap (flat_map of) (from_more n count h) ∙ ap (λ (xs : List A). xs ++ flat_map of (from_relation (n + 1) count)) e) ∙ so_far

  pub none_left : count ≤ n → flat_map of (from_relation n count) ≡ []
  none_left h = ap (flat_map of) (from_end n count h)

least_front : (cs ds : List Clash) (c : Clash) → least_clash cs ≡ Some c → least_clash (cs ++ ds) ≡ Some c
least_front [] ds c e = absurd cc
least_front (d ∷ cs) ds c e = e

-- the least conflict of a relation, where those before it have none
pub least_of : (of : ℕ → List Clash) (n count : ℕ) (c : Clash) → n < count → least_clash (of n) ≡ Some c → least_clash (flat_map of (from_relation n count)) ≡ Some c
least_of of n count c h e = ap (λ (ks : List ℕ). least_clash (flat_map of ks)) (from_more n count h) ∙ least_front (of n) (flat_map of (from_relation (n + 1) count)) c e

pub gathered_all : (of : ℕ → List Change) (n count : ℕ) (old all : List Change) → count ≤ n → old ++ flat_map of (from_relation n count) ≡ all → old ≡ all
gathered_all of n count old all h e = sym (append-nil old) ∙ ap (λ (xs : List Change). old ++ xs) (sym (none_left of n count h)) ∙ e

-- a stop is one, whatever would have been answered without it
err_is : {A E : Type 0} (x y : E) → ◌≡◌ {A = Result A E} (Err x) (Err y) → x ≡ y
err_is x y e = cc

pub same_stop : {A B E : Type 0} (x y : E) → ◌≡◌ {A = Result A E} (Err x) (Err y) → ◌≡◌ {A = Result B E} (Err x) (Err y)
same_stop {A} {B} {E} x y e = ap Err (err_is {A = A} x y e)
