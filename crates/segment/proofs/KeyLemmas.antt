-- What the greatest slot with a key is.
use Rattle.std.proofs.Common.{◌≡◌, ◌≢◌, inl, inr, ℕ, zero, suc, ◌+◌, ◌<◌, ◌≤◌, ◌==◌, Bool, true, false, cond, List, [], ◌∷◌, length, take, Option, Some, None, refl, arith, ap, sym, ◌∙◌, subst}
use Rattle.std.specs.Option.{option_or}
use Rattle.std.proofs.lemmas.Bool.{cases_lt, eq-eqb, eqb-true, true≢false}
use Rattle.std.proofs.lemmas.Option.{none-some}
use Rattle.std.proofs.lemmas.List.{get_or-take, length-take-le}
use Rattle.db_value.specs.declared.record.Record.{Record}
use Rattle.record_page.specs.Page.{record_at}
use Rattle.segment.specs.Keys.{last_from, last_slot, LacksKey, IsLastIn}

abbrev no_row : Record
no_row = record { key = 0; fields = [] }

keyed_not : (a b : ℕ) → (a == b) ≡ false → a ≢ b
keyed_not a b f e = true≢false (sym (eq-eqb a b e) ∙ f)

last_from_none : (slot : ℕ) (xs : List Record) (key : ℕ) → last_from slot xs key ≡ None → (j : ℕ) → j < length xs → (record_at xs j).key ≢ key
last_from_none slot [] key e j h = absurd (omega (arith, h))
last_from_none slot (x ∷ xs) key e j h = by (last_from_none (suc slot) xs key) (last_from (suc slot) xs key) refl (x.key == key) refl e j h
  where
    by : (last_from (suc slot) xs key ≡ None → (j : ℕ) → j < length xs → (record_at xs j).key ≢ key) → (o : Option ℕ) → last_from (suc slot) xs key ≡ o → (b : Bool) → (x.key == key) ≡ b → option_or o (cond b (Some slot) None) ≡ None → (j : ℕ) → j < length (x ∷ xs) → (record_at (x ∷ xs) j).key ≢ key
    by rest (Some t) f b g n j h = absurd (none-some t (sym n))
    by rest None f true g n j h = absurd (none-some slot (sym n))
    by rest None f false g n zero h = keyed_not x.key key g
    by rest None f false g n (suc j) h = rest f j (omega (arith, h))

-- no record has the key
pub last_none : (xs : List Record) (key : ℕ) → last_slot xs key ≡ None → (j : ℕ) → j < length xs → (record_at xs j).key ≢ key
last_none xs key e j h = last_from_none 0 xs key e j h

-- the record in the slot has the key, and none after it has
pub record IsLast (xs : List Record) (key s : ℕ) : Type 0 where
  pub within : s < length xs
  pub key_is : (record_at xs s).key ≡ key
  pub none_past : (j : ℕ) → s < j → j < length xs → (record_at xs j).key ≢ key

last_from_some : (slot : ℕ) (xs : List Record) (key s : ℕ) → last_from slot xs key ≡ Some s → (d : ℕ) × ((s ≡ slot + d) × IsLast xs key d)
last_from_some slot [] key s e = absurd (none-some s e)
last_from_some slot (x ∷ xs) key s e = by (last_from_some (suc slot) xs key s) (last_from (suc slot) xs key) refl (x.key == key) refl e
  where
    past_first : last_from (suc slot) xs key ≡ None → (j : ℕ) → 0 < j → j < length (x ∷ xs) → (record_at (x ∷ xs) j).key ≢ key
    past_first f zero l h = absurd (omega (arith, l))
    past_first f (suc j) l h = last_from_none (suc slot) xs key f j (omega (arith, h))

    past_more : (d : ℕ) → IsLast xs key d → (j : ℕ) → suc d < j → j < length (x ∷ xs) → (record_at (x ∷ xs) j).key ≢ key
    past_more d is zero l h = absurd (omega (arith, l))
    past_more d is (suc j) l h = is.none_past j (omega (arith, l)) (omega (arith, h))

    by : (last_from (suc slot) xs key ≡ Some s → (d : ℕ) × ((s ≡ suc slot + d) × IsLast xs key d)) → (o : Option ℕ) → last_from (suc slot) xs key ≡ o → (b : Bool) → (x.key == key) ≡ b → option_or o (cond b (Some slot) None) ≡ Some s → (d : ℕ) × ((s ≡ slot + d) × IsLast (x ∷ xs) key d)
    by rest (Some t) f b g n =
        let r = rest (f ∙ n) in
        let e : s ≡ suc slot + r.0 = r.1.0 in
        let w = r.1.1.within in
        (suc r.0, (omega (arith, e), record { within = omega (arith, w); key_is = r.1.1.key_is; none_past = past_more r.0 r.1.1 }))
    by rest None f false g n = absurd (none-some s n)
    by rest None f true g n =
        let e : slot ≡ s = cc in
        (0, (omega (arith, e), record { within = omega arith; key_is = eqb-true x.key key g; none_past = past_first f }))

pub last_some : (xs : List Record) (key s : ℕ) → last_slot xs key ≡ Some s → IsLast xs key s
last_some xs key s e =
    let r = last_from_some 0 xs key s e in
    let z = r.1.0 in
    let same : r.0 ≡ s = omega (arith, z) in
    subst (IsLast xs key) same r.1.1

-- ---- the greatest slot below a bound

taken_key : (records : List Record) (bound slot key : ℕ) → slot < bound → (record_at records slot).key ≡ key → (record_at (take bound records) slot).key ≡ key
taken_key records bound slot key h e = ap (λ (r : Record). r.key) (get_or-take bound records slot no_row h) ∙ e

own_key : (records : List Record) (bound slot key : ℕ) → slot < bound → (record_at (take bound records) slot).key ≡ key → (record_at records slot).key ≡ key
own_key records bound slot key h e = sym (ap (λ (r : Record). r.key) (get_or-take bound records slot no_row h)) ∙ e

-- a slot below the bound with the key, past which no other has it
pub last_is : (records : List Record) (from to key bound slot : ℕ) → bound ≤ length records → IsLastIn records from to key bound (Some slot) → LacksKey records key to bound → last_slot (take bound records) key ≡ Some slot
last_is records from to key bound slot w is past = by (last_slot (take bound records) key) refl
  where
    n : length (take bound records) ≡ bound
    n = length-take-le bound records w

    by : (o : Option ℕ) → last_slot (take bound records) key ≡ o → o ≡ Some slot
    by None e = let b = is.0 in absurd (last_none (take bound records) key e slot (omega (arith, n, b)) (taken_key records bound slot key b is.1.1.0))
    by (Some t) e =
        let l = last_some (take bound records) key t e in
        let b = is.0 in
        let h = l.within in
        let below : t < bound = omega (arith, h, n) in
        elim (cases_lt t slot) [
          | inl lt ↦ absurd (l.none_past slot lt (omega (arith, n, b)) (taken_key records bound slot key b is.1.1.0))
          | inr ge ↦ elim (cases_lt slot t) [
            | inl lt ↦ elim (cases_lt t to) [
              | inl in_it ↦ absurd (is.1.1.1 t lt in_it below (own_key records bound t key below l.key_is))
              | inr beyond ↦ absurd (past t beyond below (own_key records bound t key below l.key_is))
            ]
            | inr le ↦ let same : t ≡ slot = omega (arith, ge, le) in ap (λ (k : ℕ). Some k) same
          ]
        ]

-- no slot below the bound has the key
pub last_is_none : (records : List Record) (key bound : ℕ) → bound ≤ length records → LacksKey records key 0 bound → last_slot (take bound records) key ≡ None
last_is_none records key bound w lacks = by (last_slot (take bound records) key) refl
  where
    by : (o : Option ℕ) → last_slot (take bound records) key ≡ o → o ≡ None
    by None e = refl
    by (Some t) e =
        let l = last_some (take bound records) key t e in
        let h = l.within in
        let n = length-take-le bound records w in
        let below : t < bound = omega (arith, h, n) in
        absurd (lacks t (omega arith) below (own_key records bound t key below l.key_is))

-- one span further back
pub lacks_more : (records : List Record) (from to key bound : ℕ) → IsLastIn records from to key bound None → LacksKey records key to bound → LacksKey records key from bound
lacks_more records from to key bound is past slot f b = elim (cases_lt slot to) [
  | inl lt ↦ is slot f lt b
  | inr ge ↦ past slot ge b
]
