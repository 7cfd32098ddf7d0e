-- A change that a transaction accepts leaves a table of the schema.
use Rattle.std.proofs.Common.{◌≡◌, ◌≢◌, ◌⊎◌, inl, inr, ℕ, ◌+◌, ◌-◌, ◌<◌, ◌≤◌, nat_lt, Bool, true, false, cond, is_some, List, length, set, Some, None, refl, ap, sym, ◌∙◌, subst, arith}
use Rattle.std.specs.FinMap as finite
use Rattle.std.proofs.lemmas.Cmp.{nat_cmp_total}
use Rattle.std.proofs.lemmas.Bool.{and_from, ltb-true, lt-ltb, cases_eq}
use Rattle.std.proofs.lemmas.List.{length-set, get_or-set_same, get_or-set_other}
use Rattle.db_value.specs.Value.{Value}
use Rattle.db_value.specs.Relations.{widths_at}
use Rattle.db_value.specs.Widths.{meets}
use Rattle.db_value.specs.declared.schema.Relation.{Relation}
use Rattle.db_value.specs.declared.entry.Change.{Change}
use Rattle.db_store.specs.Table.{Contents, Table, relation_at, changed, with_change}
use Rattle.db_store.specs.Fits.{has_fields, change_fits, most_keys}
use Rattle.db_store.specs.Counted.{IsTable}
use Rattle.db_store.specs.Overlay.{change_of}
use Rattle.db_store.proofs.CountedLemmas.{IsShaped, change_shaped, table_shaped}
use Rattle.field_merge.proofs.OrderLemmas.{own_told}
use Rattle.branch_tx.proofs.Private.{State}
use Rattle.branch_tx.proofs.Keeps.{MayBe}

-- what may be set meets the widths of the columns
may_have : (ws : List ℕ) (space : Bool) (old st : State) → MayBe ws space old st → ((fields : List Value) → old ≡ Some fields → meets ws fields ≡ true) → has_fields ws st ≡ true
may_have ws space old None m f = refl
may_have ws space None (Some new) m f = m.1
may_have ws space (Some old) (Some new) m f = m (f old refl)

-- a change of a relation that meets its widths, and tells them, fits
pub change_fit : (schema : List Relation) (r key : ℕ) (st : State) → r < length schema → has_fields (widths_at schema r) st ≡ true → change_fits schema (change_of (widths_at schema r) r (key, st)) ≡ true
change_fit schema r key st h m = and_from _ _ (lt-ltb r (length schema) h) (and_from _ _ m (own_told (widths_at schema r) st))

one_less : (q : Bool) (x n k : ℕ) → x ≡ cond q (n - 1) n → n ≤ k → x ≤ k
one_less true x n k e h = omega (arith, e, h)
one_less false x n k e h = omega (arith, e, h)

-- and leaves no more keys than there can be
may_len : (ws : List ℕ) (m : Contents) (key : ℕ) (old st : State) → finite.get m key ≡ old → MayBe ws (nat_lt (finite.len m) most_keys) old st → finite.len m ≤ most_keys → finite.len (changed m key st) ≤ most_keys
may_len ws m key old None e may h = one_less (is_some (finite.get m key)) _ (finite.len m) most_keys (finite.len-remove nat_cmp_total m key) h
may_len ws m key None (Some new) e may h =
    let l = ltb-true (finite.len m) most_keys may.0 in
    let n : finite.len (finite.insert m key new) ≡ finite.len m + 1 = finite.len-insert nat_cmp_total m key new ∙ ap (λ (o : State). cond (is_some o) (finite.len m) (finite.len m + 1)) e in
    omega (arith, l, n)
may_len ws m key (Some old) (Some new) e may h =
    let n : finite.len (finite.insert m key new) ≡ finite.len m = finite.len-insert nat_cmp_total m key new ∙ ap (λ (o : State). cond (is_some o) (finite.len m) (finite.len m + 1)) e in
    omega (arith, n, h)

pub table_changed : (schema : List Relation) (t : Table) (r key : ℕ) (st : State) → IsTable schema t → r < length schema → MayBe (widths_at schema r) (nat_lt (finite.len (relation_at t r)) most_keys) (finite.get (relation_at t r) key) st
    → IsTable schema (with_change t (change_of (widths_at schema r) r (key, st)))
table_changed schema t r key st s h may = record { wide = shaped.wide; few = λ j l. there j l (cases_eq j r); counted = shaped.counted }
  where
    within : r < length t
    within = let w = s.wide in omega (arith, w, h)

    new : Contents
    new = changed (relation_at t r) key st

    change : Change
    change = change_of (widths_at schema r) r (key, st)

    fit : change_fits schema change ≡ true
    fit = change_fit schema r key st h (may_have (widths_at schema r) _ _ st may (λ fields e. s.counted r key fields within e))

    shaped : IsShaped schema (with_change t change)
    shaped = change_shaped schema t change fit (table_shaped schema t s)

    there : (j : ℕ) → j < length (with_change t change) → (j ≡ r) ⊎ (j ≢ r) → finite.len (relation_at (with_change t change) j) ≤ most_keys
    there j l (inl e) = subst (λ (m : Contents). finite.len m ≤ most_keys) (sym (ap (relation_at (set t r new)) e ∙ get_or-set_same t r new finite.empty within))
        (may_len (widths_at schema r) (relation_at t r) key (finite.get (relation_at t r) key) st refl may (s.few r within))
    there j l (inr n) =
        let c = length-set t r new in
        let k : j < length t = omega (arith, l, c) in
        subst (λ (m : Contents). finite.len m ≤ most_keys) (sym (get_or-set_other t r j new finite.empty n)) (s.few j k)
