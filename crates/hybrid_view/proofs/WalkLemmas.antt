-- The walk over the slots with a key, from the last one on, up to one that is live.
use Rattle.std.proofs.Common.{◌≡◌, ◌⊎◌, inl, inr, ℕ, zero, suc, ◌+◌, ◌<◌, ◌≤◌, ◌==◌, ◌&&◌, Bool, true, false, cond, List, [], ◌∷◌, ◌++◌, length, take, drop, Option, Some, None, refl, arith, ap, sym, ◌∙◌}
use Rattle.std.proofs.lemmas.Bool.{cases_Bool, cases_lt, and_parts, eqb-true, eq-eqb}
use Rattle.std.proofs.lemmas.List.{length-take, get_or-take, take_all, drop_all, drop_more}
use Rattle.db_value.specs.declared.record.Record.{Record}
use Rattle.record_page.specs.Page.{record_at}
use Rattle.plain_bits.specs.Truth.{bit_of}
use Rattle.db_store.specs.Layout.{live_from}
use Rattle.db_store.specs.LaidOut.{times}
use Rattle.db_store.proofs.LaidLemmas.{times_append}
use Rattle.segment.specs.Keys.{last_slot, slot_before}
use Rattle.segment.proofs.KeyLemmas.{last_none, last_some}
use Rattle.hybrid_view.specs.Live.{Piece, no_piece, piece_at, slot_in, place_or, place_of, live_piece, live_pieces}

abbrev no_row : Record
no_row = record { key = 0; fields = [] }

-- ---- in one piece

-- how many slots are left to look at
abbrev pub slots_left : Option ℕ → ℕ
slots_left None = 0
slots_left (Some slot) = suc slot

-- the next slot with the key is the last one of those in front, and no record behind them that has the key is live
pub record IsLeft (xs : List Record) (p : ℕ → Bool) (key : ℕ) (at : Option ℕ) : Type 0 where
  pub front : ℕ
  pub is : at ≡ last_slot (take front xs) key
  pub past : (j : ℕ) → front ≤ j → j < length xs → (record_at xs j).key ≡ key → p j ≡ false

pub left_begun : (xs : List Record) (p : ℕ → Bool) (key : ℕ) → IsLeft xs p key (last_slot xs key)
left_begun xs p key = record {
  front = length xs;
  is = ap (λ (ys : List Record). last_slot ys key) (sym (take_all (length xs) xs (omega arith)));
  past = λ j g h k. absurd (omega (arith, g, h));
}

-- the slot is one with the key
pub left_some : (xs : List Record) (p : ℕ → Bool) (key s : ℕ) → IsLeft xs p key (Some s) → (s < length xs) × ((record_at xs s).key ≡ key)
left_some xs p key s is =
    let l = last_some (take is.front xs) key s (sym is.is) in
    let w = l.within in
    let n = length-take is.front xs in (
      omega (arith, w, n),
      ap (λ (r : Record). r.key) (sym (get_or-take is.front xs s no_row (omega (arith, w, n)))) ∙ l.key_is,
    )

-- if it is not live, the walk goes on
pub left_more : (xs : List Record) (p : ℕ → Bool) (key s : ℕ) → IsLeft xs p key (Some s) → p s ≡ false → IsLeft xs p key (slot_before xs s)
left_more xs p key s is dead =
    let l = last_some (take is.front xs) key s (sym is.is) in
    let here = left_some xs p key s is in
    record {
      front = s;
      is = ap (last_slot (take s xs)) here.1;
      past = λ j g h k. elim (cases_lt s j) [
        | inl lt ↦ elim (cases_lt j is.front) [
          | inl in_front ↦ let n = length-take is.front xs in absurd (l.none_past j lt (omega (arith, in_front, h, n)) (ap (λ (r : Record). r.key) (get_or-take is.front xs j no_row in_front) ∙ k))
          | inr behind ↦ is.past j behind h k
        ]
        | inr le ↦ let e : s ≡ j = omega (arith, g, le) in ap p (sym e) ∙ dead
      ];
    }

-- each step of the walk leaves fewer slots
pub left_less : (xs : List Record) (s : ℕ) → slots_left (slot_before xs s) < slots_left (Some s)
left_less xs s = by (slot_before xs s) refl
  where
    by : (o : Option ℕ) → slot_before xs s ≡ o → slots_left o < suc s
    by None e = omega arith
    by (Some t) e =
        let w = (last_some (take s xs) (record_at xs s).key t e).within in
        let n = length-take s xs in
        omega (arith, w, n)

none_slot_in : (slot : ℕ) (xs : List Record) (p : ℕ → Bool) (key : ℕ) → ((j : ℕ) → j < length xs → (record_at xs j).key ≡ key → p (slot + j) ≡ false) → slot_in slot xs p key ≡ None
none_slot_in slot [] p key f = refl
none_slot_in slot (x ∷ xs) p key f =
    by (none_slot_in (suc slot) xs p key (λ j h k. let e : suc slot + j ≡ slot + suc j = omega arith in ap p e ∙ f (suc j) (omega (arith, h)) k)) (cases_Bool (x.key == key))
  where
    none : slot_in (suc slot) xs p key ≡ None → (a b : Bool) → (a && b) ≡ false → cond (a && b) (Some slot) (slot_in (suc slot) xs p key) ≡ None
    none rest a b e = ap (λ q. cond q (Some slot) (slot_in (suc slot) xs p key)) e ∙ rest

    and_no : (a : Bool) → (a && false) ≡ false
    and_no true = refl
    and_no false = refl

    by : slot_in (suc slot) xs p key ≡ None → ((x.key == key) ≡ true) ⊎ ((x.key == key) ≡ false) → slot_in slot (x ∷ xs) p key ≡ None
    by rest (inl t) =
        let e : slot ≡ slot + 0 = omega arith in
        let dead : p slot ≡ false = ap p e ∙ f 0 (omega arith) (eqb-true x.key key t) in
        none rest (p slot) (x.key == key) (ap (λ q. q && x.key == key) dead)
    by rest (inr n) = none rest (p slot) (x.key == key) (ap (λ q. p slot && q) n ∙ and_no (p slot))

-- at its end no record with the key is live
pub left_none : (xs : List Record) (p : ℕ → Bool) (key : ℕ) → IsLeft xs p key None → slot_in 0 xs p key ≡ None
left_none xs p key is = none_slot_in 0 xs p key (λ j h k. let z : 0 + j ≡ j = omega arith in ap p z ∙ dead j h k)
  where
    dead : (j : ℕ) → j < length xs → (record_at xs j).key ≡ key → p j ≡ false
    dead j h k = elim (cases_lt j is.front) [
      | inl in_front ↦ let n = length-take is.front xs in absurd (last_none (take is.front xs) key (sym is.is) j (omega (arith, in_front, h, n)) (ap (λ (r : Record). r.key) (get_or-take is.front xs j no_row in_front) ∙ k))
      | inr behind ↦ is.past j behind h k
    ]

-- ---- a key that is live once

live_times : (slot : ℕ) (xs : List Record) (p : ℕ → Bool) (key k : ℕ) → k < length xs → p (slot + k) ≡ true → (record_at xs k).key ≡ key → 0 < times key (live_from slot xs p)
live_times slot [] p key k h l e = absurd (omega (arith, h))
live_times slot (x ∷ xs) p key zero h l e =
    let z : slot ≡ slot + 0 = omega arith in
    let live : p slot ≡ true = ap p z ∙ l in
    let one : times key (live_from slot (x ∷ xs) p) ≡ cond (x.key == key) 1 0 + times key (live_from (suc slot) xs p) = ap (λ b. times key (cond b (x ∷ live_from (suc slot) xs p) (live_from (suc slot) xs p))) live in
    let same : cond (x.key == key) 1 0 + times key (live_from (suc slot) xs p) ≡ 1 + times key (live_from (suc slot) xs p) = ap (λ b. cond b 1 0 + times key (live_from (suc slot) xs p)) (eq-eqb x.key key e) in
    omega (arith, one, same)
live_times slot (x ∷ xs) p key (suc k) h l e =
    let z : suc slot + k ≡ slot + suc k = omega arith in
    by (p slot) (live_times (suc slot) xs p key k (omega (arith, h)) (ap p z ∙ l) e)
  where
    by : (b : Bool) → 0 < times key (live_from (suc slot) xs p) → 0 < times key (cond b (x ∷ live_from (suc slot) xs p) (live_from (suc slot) xs p))
    by true r = omega (arith, r)
    by false r = r

fewer : (b : Bool) (x : Record) (ys : List Record) (key : ℕ) → times key (cond b (x ∷ ys) ys) ≤ 1 → times key ys ≤ 1
fewer true x ys key h = omega (arith, h)
fewer false x ys key h = h

-- the live record is the one that is found
pub one_slot : (slot : ℕ) (xs : List Record) (p : ℕ → Bool) (key k : ℕ) → times key (live_from slot xs p) ≤ 1 → k < length xs → p (slot + k) ≡ true → (record_at xs k).key ≡ key → slot_in slot xs p key ≡ Some (slot + k)
one_slot slot [] p key k once h l e = absurd (omega (arith, h))
one_slot slot (x ∷ xs) p key zero once h l e =
    let z : slot ≡ slot + 0 = omega arith in
    (λ i. cond ((ap p z ∙ l) i && eq-eqb x.key key e i) (Some slot) (slot_in (suc slot) xs p key)) ∙ ap (λ n. Some n) z
one_slot slot (x ∷ xs) p key (suc k) once h l e =
    let later : suc slot + k ≡ slot + suc k = omega arith in
    by (one_slot (suc slot) xs p key k (fewer (p slot) x (live_from (suc slot) xs p) key once) (omega (arith, h)) (ap p later ∙ l) e ∙ ap (λ n. Some n) later)
    (live_times (suc slot) xs p key k (omega (arith, h)) (ap p later ∙ l) e)
    (cases_Bool (p slot && x.key == key))
  where
    by : slot_in (suc slot) xs p key ≡ Some (slot + suc k) → 0 < times key (live_from (suc slot) xs p) → ((p slot && x.key == key) ≡ true) ⊎ ((p slot && x.key == key) ≡ false) → slot_in slot (x ∷ xs) p key ≡ Some (slot + suc k)
    by rest there (inl t) =
        let two = and_parts (p slot) (x.key == key) t in
        let one : times key (live_from slot (x ∷ xs) p) ≡ cond (x.key == key) 1 0 + times key (live_from (suc slot) xs p) = ap (λ b. times key (cond b (x ∷ live_from (suc slot) xs p) (live_from (suc slot) xs p))) two.0 in
        let same : cond (x.key == key) 1 0 + times key (live_from (suc slot) xs p) ≡ 1 + times key (live_from (suc slot) xs p) = ap (λ b. cond b 1 0 + times key (live_from (suc slot) xs p)) two.1 in
        absurd (omega (arith, once, one, same, there))
    by rest there (inr f) = ap (λ q. cond q (Some slot) (slot_in (suc slot) xs p key)) f ∙ rest

-- ---- in pieces

-- the pieces from a place on have the place of the key, and it is live once in them
pub record IsAhead (ps : List Piece) (key i : ℕ) : Type 0 where
  pub place : place_of ps key ≡ place_of (drop i ps) key
  pub once : times key (live_pieces (drop i ps)) ≤ 1

pub ahead_begun : (ps : List Piece) (key : ℕ) → times key (live_pieces ps) ≤ 1 → IsAhead ps key 0
ahead_begun ps key h = record { place = refl; once = h }

ahead_first : (ps : List Piece) (key i : ℕ) → IsAhead ps key i → i < length ps → place_of ps key ≡ place_or (piece_at ps i).segment (slot_in 0 (piece_at ps i).rows.records (bit_of (piece_at ps i).bits) key) (place_of (drop (i + 1) ps) key)
ahead_first ps key i is h = is.place ∙ ap (λ (qs : List Piece). place_of qs key) (drop_more ps i no_piece h)

ahead_times : (ps : List Piece) (key i : ℕ) → IsAhead ps key i → i < length ps → times key (live_piece (piece_at ps i)) + times key (live_pieces (drop (i + 1) ps)) ≤ 1
ahead_times ps key i is h =
    let a : times key (live_pieces (drop i ps)) ≡ times key (live_piece (piece_at ps i) ++ live_pieces (drop (i + 1) ps)) = ap (λ (qs : List Piece). times key (live_pieces qs)) (drop_more ps i no_piece h) in
    let b = times_append key (live_piece (piece_at ps i)) (live_pieces (drop (i + 1) ps)) in
    let once = is.once in
    omega (arith, a, b, once)

-- a piece in which no record with the key is live
pub ahead_more : (ps : List Piece) (key i : ℕ) → IsAhead ps key i → i < length ps → slot_in 0 (piece_at ps i).rows.records (bit_of (piece_at ps i).bits) key ≡ None → IsAhead ps key (i + 1)
ahead_more ps key i is h none = record {
  place = ahead_first ps key i is h ∙ ap (λ o. place_or (piece_at ps i).segment o (place_of (drop (i + 1) ps) key)) none;
  once = let t = ahead_times ps key i is h in omega (arith, t);
}

-- and one in which one is
pub ahead_found : (ps : List Piece) (key i slot : ℕ) → IsAhead ps key i → i < length ps → slot < length (piece_at ps i).rows.records → bit_of (piece_at ps i).bits slot ≡ true → (record_at (piece_at ps i).rows.records slot).key ≡ key
    → place_of ps key ≡ Some ((piece_at ps i).segment, slot)
ahead_found ps key i slot is h within live key_is =
    let t = ahead_times ps key i is h in
    let z : 0 + slot ≡ slot = omega arith in
    ahead_first ps key i is h
    ∙ ap (λ o. place_or (piece_at ps i).segment o (place_of (drop (i + 1) ps) key))
    (one_slot 0 (piece_at ps i).rows.records (bit_of (piece_at ps i).bits) key slot (omega (arith, t)) within (ap (bit_of (piece_at ps i).bits) z ∙ live) key_is ∙ ap (λ n. Some n) z)

pub ahead_none : (ps : List Piece) (key i : ℕ) → IsAhead ps key i → length ps ≤ i → place_of ps key ≡ None
ahead_none ps key i is h = is.place ∙ ap (λ (qs : List Piece). place_of qs key) (drop_all i ps h)
