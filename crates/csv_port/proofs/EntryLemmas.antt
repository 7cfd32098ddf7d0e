-- How many bytes the entry of inserted rows has, by the touched keys of a whole private table.
use Rattle.std.proofs.Common.{◌≡◌, ◌∙◌, ℕ, zero, suc, ◌+◌, ◌*◌, ◌<◌, ◌==◌, ◌||◌, nat_lt, cond, Bool, true, false, List, [], ◌∷◌, ◌++◌, length, map, set, replicate, Option, Some, None, refl, sym, ap, arith, append-nil}
use Rattle.std.specs.Prelude.{is_some}
use Rattle.std.specs.FinMap as finite
use Rattle.std.specs.List.{AllByRecursion}
use Rattle.std.proofs.lemmas.Bool.{eq-eqb, false≢true, ne_eqb}
use Rattle.std.proofs.lemmas.Cmp.{nat_cmp_total}
use Rattle.db_value.specs.Value.{Value}
use Rattle.db_value.specs.declared.entry.Change.{Change}
use Rattle.db_store.specs.Body.{any_of_texts, any_text, changes_size, commit_size, fields_size, form_size, have_texts}
use Rattle.db_store.specs.Overlay.{own_widths, widths_if}
use Rattle.db_store.specs.Table.{Contents, Table, relation_at}
use Rattle.db_store.specs.TouchRules.{same_key}
use Rattle.branch_tx.specs.Keeping.{count_keys, is_among, state_in, states_from, with_key}
use Rattle.csv_port.specs.Inserts.{entry_size}

-- each of these keys has a record
abbrev pub AllThere : Contents → List ℕ → Type 0
AllThere cs ks = AllByRecursion (λ k. is_some (finite.get cs k) ≡ true) ks

-- of so many relations only this one has touched keys
abbrev pub only : ℕ → ℕ → List ℕ → List (List ℕ)
only m r ks = set (replicate m []) r ks

-- ---- one key more

-- a key without a record is none of them
pub absent : (cs : Contents) (key : ℕ) (ks : List ℕ) → finite.get cs key ≡ None → AllThere cs ks → is_among key ks ≡ false
absent cs key [] none h = refl
absent cs key (k ∷ ks) none h =
    let other : (key == k) ≡ false = ne_eqb key k (λ e. absurd (false≢true (sym (ap is_some none) ∙ ap (λ (q : ℕ). is_some (finite.get cs q)) e ∙ h.0))) in
    ap (λ (q : Bool). q || is_among key ks) other ∙ absent cs key ks none h.1

neither : (a b : Bool) → (a || b) ≡ false → (a ≡ false) × (b ≡ false)
neither true b e = absurd cc
neither false b e = (refl, e)

pub length-with_key : (key : ℕ) (ks : List ℕ) → is_among key ks ≡ false → length (with_key key ks) ≡ length ks + 1
length-with_key key [] e = refl
length-with_key key (k ∷ ks) e =
    let n = neither (key == k) (is_among key ks) e in
    by (nat_lt key k) (key == k) n.0 (length-with_key key ks n.1)
  where
    by : (a b : Bool) → b ≡ false → length (with_key key ks) ≡ length ks + 1 → length (cond a (key ∷ k ∷ ks) (cond b (k ∷ ks) (k ∷ with_key key ks))) ≡ suc (length ks) + 1
    by true b n h = omega arith
    by false true n h = absurd cc
    by false false n h = omega (arith, h)

pub with_key_all : (P : ℕ → Type 0) (key : ℕ) (ks : List ℕ) → P key → AllByRecursion P ks → AllByRecursion P (with_key key ks)
with_key_all P key [] p h = (p, tt)
with_key_all P key (k ∷ ks) p h = by (nat_lt key k) (key == k) (with_key_all P key ks p h.1)
  where
    by : (a b : Bool) → AllByRecursion P (with_key key ks) → AllByRecursion P (cond a (key ∷ k ∷ ks) (cond b (k ∷ ks) (k ∷ with_key key ks)))
    by true b more = (p, h)
    by false true more = h
    by false false more = (h.0, more)

module _ (cs : Contents) (key : ℕ) (fields : List Value) where
  found : (k : ℕ) → finite.get (finite.insert cs key fields) k ≡ cond (k == key) (Some fields) (finite.get cs k)
  found k = finite.get-insert nat_cmp_total cs key fields k ∙ ap (λ (q : Bool). cond q (Some fields) (finite.get cs k)) (same_key k key)

  pub there_now : is_some (finite.get (finite.insert cs key fields) key) ≡ true
  there_now = ap is_some (found key ∙ ap (λ (q : Bool). cond q (Some fields) (finite.get cs key)) (eq-eqb key key refl))

  either : (q : Bool) (o : Option (List Value)) → is_some o ≡ true → is_some (cond q (Some fields) o) ≡ true
  either true o h = refl
  either false o h = h

  pub there_still : (ks : List ℕ) → AllThere cs ks → AllThere (finite.insert cs key fields) ks
  there_still [] h = tt
  there_still (k ∷ ks) h = (ap is_some (found k) ∙ either (k == key) (finite.get cs k) h.0, there_still ks h.1)

-- ---- the keys of one relation

none_counted : (m : ℕ) → count_keys (replicate m []) ≡ 0
none_counted zero = refl
none_counted (suc m) = let z = none_counted m in omega (arith, z)

pub only_counted : (m r : ℕ) (ks : List ℕ) → r < m → count_keys (only m r ks) ≡ length ks
only_counted zero r ks h = absurd (omega (arith, h))
only_counted (suc m) zero ks h = let z = none_counted m in omega (arith, z)
only_counted (suc m) (suc r) ks h = let z = only_counted m r ks (omega (arith, h)) in omega (arith, z)

pub only_none : (m r : ℕ) → replicate m [] ≡ only m r []
only_none zero r = refl
only_none (suc m) zero = refl
only_none (suc m) (suc r) = ap (λ (kss : List (List ℕ)). [] ∷ kss) (only_none m r)

module _ (wss : List (List ℕ)) (t : Table) where
  no_states : (n m : ℕ) → states_from wss t n (replicate m []) ≡ []
  no_states n zero = refl
  no_states n (suc m) = no_states (n + 1) m

  -- the states of one relation's keys
  abbrev states_at : ℕ → List ℕ → List Change
  states_at r ks = map (state_in (own_widths wss r) t r) ks

  only_states : (n m r : ℕ) (ks : List ℕ) → r < m → states_from wss t n (only m r ks) ≡ states_at (n + r) ks
  only_states n zero r ks h = absurd (omega (arith, h))
  only_states n (suc m) zero ks h =
      let here : n ≡ n + 0 = omega arith in
      ap (λ (cs : List Change). states_at n ks ++ cs) (no_states (n + 1) m) ∙ append-nil (states_at n ks) ∙ ap (λ (k : ℕ). states_at k ks) here
  only_states n (suc m) (suc r) ks h =
      let further : n + 1 + r ≡ n + suc r = omega arith in
      only_states (n + 1) m r ks (omega (arith, h)) ∙ ap (λ (k : ℕ). states_at k ks) further

-- ---- bytes

-- fields that are there have these widths
has_widths : (ws : List ℕ) (o : Option (List Value)) → is_some o ≡ true → widths_if ws o ≡ Some ws
has_widths ws None h = absurd cc
has_widths ws (Some fields) h = refl

module _ (ws : List ℕ) (t : Table) (r : ℕ) where
  -- the states of keys
  abbrev states : List ℕ → List Change
  states ks = map (state_in ws t r) ks

  abbrev widths_here : ℕ → Option (List ℕ)
  widths_here k = widths_if ws (finite.get (relation_at t r) k)

  one_more : (n size : ℕ) → size + n * size ≡ suc n * size
  one_more n size = omega arith

  none_more : (size : ℕ) → 0 ≡ 0 * size
  none_more size = omega arith

  states_size : (wide : Bool) (ks : List ℕ) → AllThere (relation_at t r) ks → changes_size wide (states ks) ≡ length ks * (10 + form_size wide ws)
  states_size wide [] h = none_more (10 + form_size wide ws)
  states_size wide (k ∷ ks) h =
      ap (λ (o : Option (List ℕ)). 10 + fields_size wide o + changes_size wide (states ks)) (has_widths ws (finite.get (relation_at t r) k) h.0)
      ∙ ap (λ (n : ℕ). 10 + form_size wide ws + n) (states_size wide ks h.1)
      ∙ one_more (length ks) (10 + form_size wide ws)

  -- one key at least
  states_text : (k : ℕ) (ks : List ℕ) → AllThere (relation_at t r) (k ∷ ks) → any_text (states (k ∷ ks)) ≡ any_of_texts ws
  states_text k [] h = ap (λ (o : Option (List ℕ)). have_texts o || false) (has_widths ws (finite.get (relation_at t r) k) h.0) ∙ alone (any_of_texts ws)
    where
      alone : (q : Bool) → (q || false) ≡ q
      alone true = refl
      alone false = refl
  states_text k (l ∷ ls) h =
      ap (λ (o : Option (List ℕ)). have_texts o || any_text (states (l ∷ ls))) (has_widths ws (finite.get (relation_at t r) k) h.0)
      ∙ ap (λ (q : Bool). any_of_texts ws || q) (states_text l ls h.1) ∙ twice (any_of_texts ws)
    where
      twice : (q : Bool) → (q || q) ≡ q
      twice true = refl
      twice false = refl

  states_bytes : (ks : List ℕ) → 0 < length ks → AllThere (relation_at t r) ks → commit_size None (states ks) ≡ entry_size ws (length ks)
  states_bytes [] some h = absurd (omega (arith, some))
  states_bytes (k ∷ ks) some h =
      ap (λ (q : Bool). 10 + changes_size q (states (k ∷ ks))) (states_text k ks h) ∙ ap (λ (n : ℕ). 10 + n) (states_size (any_of_texts ws) (k ∷ ks) h)

-- the entry of these keys
pub entry_is : (wss : List (List ℕ)) (ws : List ℕ) (t : Table) (m r : ℕ) (ks : List ℕ) → own_widths wss r ≡ ws → r < m → 0 < length ks → AllThere (relation_at t r) ks
    → commit_size None (states_from wss t 0 (only m r ks)) ≡ entry_size ws (length ks)
entry_is wss ws t m r ks own within some there =
    let here : 0 + r ≡ r = omega arith in
    ap (commit_size None) (only_states wss t 0 m r ks within ∙ ap (λ (k : ℕ). states_at wss t k ks) here ∙ ap (λ (us : List ℕ). states us t r ks) own) ∙ states_bytes ws t r ks some there
