-- Bits of rows, and the records that they keep.
use Rattle.std.proofs.Common.{◌≡◌, ◌≢◌, ◌⊎◌, inl, inr, ℕ, zero, suc, ◌+◌, ◌<◌, ◌≤◌, ◌==◌, ◌&&◌, ◌||◌, Bool, true, false, cond, not, List, [], ◌∷◌, ◌++◌, length, refl, arith, ap, sym, ◌∙◌, Option, Some, None, nat_cmp}
use Rattle.std.specs.Prelude.{filter}
use Rattle.std.specs.List.{range_with_len}
use Rattle.std.specs.FinMap as finite
use Rattle.std.specs.Cmp.{unsigned_tied}
use Rattle.std.proofs.lemmas.Cmp.{nat_cmp_total}
use Rattle.std.proofs.lemmas.Bool.{cases_eq, eq-eqb, ne_eqb}
use Rattle.db_value.specs.Value.{Value}
use Rattle.db_value.specs.declared.record.Record.{Record}
use Rattle.db_store.specs.Layout.{differ, has, combined, slots_where, live_from, contents_of}
use Rattle.db_store.specs.SameRows.{fields_in}

-- ---- slots below a number

has_cond : (q : Bool) (a : ℕ) (xs : List ℕ) (slot : ℕ) → has (cond q (a ∷ xs) xs) slot ≡ ((q && a == slot) || has xs slot)
has_cond true a xs slot = refl
has_cond false a xs slot = refl

or_false : (a b : Bool) → a ≡ false → (a || b) ≡ b
or_false true b e = absurd cc
or_false false b e = refl

and_right : (q b : Bool) → b ≡ false → (q && b) ≡ false
and_right true b e = e
and_right false b e = refl

and_or : (q b : Bool) → b ≡ true → ((q && b) || false) ≡ q
and_or true b e = ap (λ x. x || false) e
and_or false b e = refl

-- none below and none past the end
has_out : (p : ℕ → Bool) (a n slot : ℕ) → (slot < a) ⊎ (a + n ≤ slot) → has (filter p (range_with_len a n)) slot ≡ false
has_out p a zero slot h = refl
has_out p a (suc n) slot h =
    has_cond (p a) a (filter p (range_with_len (a + 1) n)) slot
    ∙ or_false (p a && a == slot) (has (filter p (range_with_len (a + 1) n)) slot) (and_right (p a) (a == slot) (ne_eqb a slot (apart h)))
    ∙ has_out p (a + 1) n slot (next h)
  where
    apart : (slot < a) ⊎ (a + suc n ≤ slot) → a ≢ slot
    apart (inl l) e = absurd (omega (arith, l, e))
    apart (inr l) e = absurd (omega (arith, l, e))

    next : (slot < a) ⊎ (a + suc n ≤ slot) → (slot < a + 1) ⊎ (a + 1 + n ≤ slot)
    next (inl l) = inl (omega (arith, l))
    next (inr l) = inr (omega (arith, l))

has_in : (p : ℕ → Bool) (a n slot : ℕ) → a ≤ slot → slot < a + n → has (filter p (range_with_len a n)) slot ≡ p slot
has_in p a zero slot h l = absurd (omega (arith, h, l))
has_in p a (suc n) slot h l = has_cond (p a) a (filter p (range_with_len (a + 1) n)) slot ∙ by (cases_eq a slot) (λ e. has_in p (a + 1) n slot (omega (arith, h, e)) (omega (arith, l)))
  where
    by : (a ≡ slot) ⊎ (a ≢ slot) → (a ≢ slot → has (filter p (range_with_len (a + 1) n)) slot ≡ p slot) → ((p a && a == slot) || has (filter p (range_with_len (a + 1) n)) slot) ≡ p slot
    by (inl e) rest =
        ap (λ b. (p a && a == slot) || b) (has_out p (a + 1) n slot (inl (omega (arith, e))))
        ∙ and_or (p a) (a == slot) (eq-eqb a slot e)
        ∙ ap p e
    by (inr e) rest = or_false (p a && a == slot) (has (filter p (range_with_len (a + 1) n)) slot) (and_right (p a) (a == slot) (ne_eqb a slot e)) ∙ rest e

pub has_where : (p : ℕ → Bool) (n slot : ℕ) → slot < n → has (slots_where p n) slot ≡ p slot
has_where p n slot h = has_in p 0 n slot (omega arith) (omega (arith, h))

pub has_past : (p : ℕ → Bool) (n slot : ℕ) → n ≤ slot → has (slots_where p n) slot ≡ false
has_past p n slot h = has_out p 0 n slot (inr (omega (arith, h)))

-- ---- deltas

differ_none : (b : Bool) → differ false b ≡ b
differ_none b = refl

differ_right : (b : Bool) → differ b false ≡ b
differ_right true = refl
differ_right false = refl

differ_assoc : (a b c : Bool) → differ a (differ b c) ≡ differ (differ a b) c
differ_assoc true true c = two c
  where
    two : (x : Bool) → not (not x) ≡ x
    two true = refl
    two false = refl
differ_assoc true false c = refl
differ_assoc false b c = refl

-- what differs twice is as it was
pub differ_back : (a b : Bool) → differ a (differ a b) ≡ b
differ_back true true = refl
differ_back true false = refl
differ_back false b = refl

-- one delta more
pub combined_push : (ds : List (List ℕ)) (d : List ℕ) (slot : ℕ) → combined (ds ++ d ∷ []) slot ≡ differ (combined ds slot) (has d slot)
combined_push [] d slot = differ_right (has d slot)
combined_push (x ∷ xs) d slot = ap (differ (has x slot)) (combined_push xs d slot) ∙ differ_assoc (has x slot) (combined xs slot) (has d slot)

-- ---- live records

pub live_append : (slot : ℕ) (xs ys : List Record) (p : ℕ → Bool) → live_from slot (xs ++ ys) p ≡ live_from slot xs p ++ live_from (slot + length xs) ys p
live_append slot [] ys p = ap (λ n. live_from n ys p) (omega arith)
live_append slot (x ∷ xs) ys p =
    let rest : live_from (suc slot) (xs ++ ys) p ≡ live_from (suc slot) xs p ++ live_from (slot + suc (length xs)) ys p =
    live_append (suc slot) xs ys p ∙ ap (λ n. live_from (suc slot) xs p ++ live_from n ys p) (omega arith) in
    by (p slot) (live_from (suc slot) (xs ++ ys) p) (live_from (suc slot) xs p) (live_from (slot + suc (length xs)) ys p) rest
  where
    by : (b : Bool) (zs us vs : List Record) → zs ≡ us ++ vs → cond b (x ∷ zs) zs ≡ cond b (x ∷ us) us ++ vs
    by true zs us vs e = ap (λ (t : List Record). x ∷ t) e
    by false zs us vs e = e

-- tests that agree on the slots keep the same records
pub live_same : (slot : ℕ) (xs : List Record) (p q : ℕ → Bool) → ((s : ℕ) → slot ≤ s → s < slot + length xs → p s ≡ q s) → live_from slot xs p ≡ live_from slot xs q
live_same slot [] p q f = refl
live_same slot (x ∷ xs) p q f =
    let rest : live_from (suc slot) xs p ≡ live_from (suc slot) xs q = live_same (suc slot) xs p q (λ s h l. f s (omega (arith, h)) (omega (arith, l))) in
    ap (λ b. cond b (x ∷ live_from (suc slot) xs p) (live_from (suc slot) xs p)) (f slot (omega arith) (omega arith))
    ∙ ap (λ (t : List Record). cond (q slot) (x ∷ t) t) rest

live_none_from : (slot : ℕ) (xs : List Record) → live_from slot xs (λ s. false) ≡ []
live_none_from slot [] = refl
live_none_from slot (x ∷ xs) = live_none_from (suc slot) xs

pub live_none : (slot : ℕ) (xs : List Record) (p : ℕ → Bool) → ((s : ℕ) → slot ≤ s → p s ≡ false) → live_from slot xs p ≡ []
live_none slot xs p f = live_same slot xs p (λ s. false) (λ s h l. f s h) ∙ live_none_from slot xs

live_all_from : (slot : ℕ) (xs : List Record) → live_from slot xs (λ s. true) ≡ xs
live_all_from slot [] = refl
live_all_from slot (x ∷ xs) = ap (λ (t : List Record). x ∷ t) (live_all_from (suc slot) xs)

pub live_all : (slot : ℕ) (xs : List Record) (p : ℕ → Bool) → ((s : ℕ) → slot ≤ s → p s ≡ true) → live_from slot xs p ≡ xs
live_all slot xs p f = live_same slot xs p (λ s. true) (λ s h l. f s h) ∙ live_all_from slot xs

-- ---- the fields at a key

-- the first one that is there
abbrev pub or_else : Option (List Value) → Option (List Value) → Option (List Value)
or_else None o = o
or_else (Some fields) o = Some fields

pub fields_append : (key : ℕ) (xs ys : List Record) → fields_in key (xs ++ ys) ≡ or_else (fields_in key xs) (fields_in key ys)
fields_append key [] ys = refl
fields_append key (x ∷ xs) ys = by (x.key == key) (fields_append key xs ys)
  where
    by : (b : Bool) → fields_in key (xs ++ ys) ≡ or_else (fields_in key xs) (fields_in key ys) → cond b (Some x.fields) (fields_in key (xs ++ ys)) ≡ or_else (cond b (Some x.fields) (fields_in key xs)) (fields_in key ys)
    by true e = refl
    by false e = e

pub flip_eqb : (a b : ℕ) → (a == b) ≡ (b == a)
flip_eqb a b = by (cases_eq a b)
  where
    by : (a ≡ b) ⊎ (a ≢ b) → (a == b) ≡ (b == a)
    by (inl e) = eq-eqb a b e ∙ sym (eq-eqb b a (sym e))
    by (inr n) = ne_eqb a b n ∙ sym (ne_eqb b a (λ e. n (sym e)))

-- records by key have what the first record with the key has
pub get_contents : (rows : List Record) (key : ℕ) → finite.get (contents_of rows) key ≡ fields_in key rows
get_contents [] key = finite.get-empty nat_cmp key
get_contents (x ∷ xs) key =
    finite.get-insert nat_cmp_total (contents_of xs) x.key x.fields key
    ∙ ap (λ b. cond b (Some x.fields) (finite.get (contents_of xs) key)) (unsigned_tied key x.key ∙ flip_eqb key x.key)
    ∙ ap (cond (x.key == key) (Some x.fields)) (get_contents xs key)
