-- Where the live record with a key stands.
use Rattle.std.proofs.Common.{◌≡◌, ◌⊎◌, inl, inr, ℕ, zero, suc, ◌+◌, ◌<◌, ◌≤◌, ◌==◌, ◌&&◌, nat_le, Bool, true, false, cond, List, [], ◌∷◌, length, map, get_or, Option, Some, None, refl, arith, ap, sym, ◌∙◌, subst}
use Rattle.std.specs.Prelude.{position}
use Rattle.std.proofs.lemmas.Bool.{cases_Bool, and_parts, leb-true, eqb-true, eq-eqb, false≢true}
use Rattle.std.proofs.lemmas.Option.{none-some}
use Rattle.std.proofs.lemmas.List.{get_or-map}
use Rattle.std.proofs.lemmas.List.Quantifiers.{position-Some}
use Rattle.db_value.proofs.LineLemmas.{position_none}
use Rattle.db_value.specs.declared.record.Record.{Record}
use Rattle.db_store.specs.Parts.{Part, no_part, no_slot, part_at, slot_at}
use Rattle.db_store.specs.Layout.{live_from}
use Rattle.db_store.specs.SameRows.{fields_in}
use Rattle.db_store.proofs.BitLemmas.{or_else, fields_append}
use Rattle.plain_bits.specs.Truth.{bit_of}
use Rattle.record_page.specs.Page.{record_at}
use Rattle.hybrid_view.specs.Live.{Piece, no_piece, piece_at, slots_from, part_of, live_piece, live_pieces, slot_in, place_or, place_of, rises}

-- ---- in one piece

-- the live record with the key stands so far from the first slot
pub record InSlots (slot : ℕ) (xs : List Record) (p : ℕ → Bool) (key i k : ℕ) : Type 0 where
  pub is : i ≡ slot + k
  pub within : k < length xs
  pub live : p i ≡ true
  pub key_is : (record_at xs k).key ≡ key
  pub fields : fields_in key (live_from slot xs p) ≡ Some (record_at xs k).fields

passes_on : (b : Bool) (x : Record) (xs : List Record) (key : ℕ) → (b && x.key == key) ≡ false → fields_in key (cond b (x ∷ xs) xs) ≡ fields_in key xs
passes_on true x xs key e = ap (λ q. cond q (Some x.fields) (fields_in key xs)) e
passes_on false x xs key e = refl

pub in_slots : (slot : ℕ) (xs : List Record) (p : ℕ → Bool) (key i : ℕ) → slot_in slot xs p key ≡ Some i → (k : ℕ) × InSlots slot xs p key i k
in_slots slot [] p key i e = absurd (none-some i e)
in_slots slot (x ∷ xs) p key i e = by (cases_Bool (p slot && x.key == key)) (in_slots (suc slot) xs p key i)
  where
    by : ((p slot && x.key == key) ≡ true) ⊎ ((p slot && x.key == key) ≡ false) → (slot_in (suc slot) xs p key ≡ Some i → (k : ℕ) × InSlots (suc slot) xs p key i k) → (k : ℕ) × InSlots slot (x ∷ xs) p key i k
    by (inl t) rest =
        let two = and_parts (p slot) (x.key == key) t in
        let same : Some slot ≡ Some i = sym (ap (λ q. cond q (Some slot) (slot_in (suc slot) xs p key)) t) ∙ e in
        let here : slot ≡ i = cc in (
          0,
          record {
            is = omega (arith, here);
            within = omega arith;
            live = ap p (sym here) ∙ two.0;
            key_is = eqb-true x.key key two.1;
            fields = ap (λ q. fields_in key (cond q (x ∷ live_from (suc slot) xs p) (live_from (suc slot) xs p))) two.0 ∙ ap (λ q. cond q (Some x.fields) (fields_in key (live_from (suc slot) xs p))) two.1;
          },
        )
    by (inr f) rest =
        let r = rest (sym (ap (λ q. cond q (Some slot) (slot_in (suc slot) xs p key)) f) ∙ e) in
        let n = r.1.is in
        let w = r.1.within in (
          suc r.0,
          record {
            is = omega (arith, n);
            within = omega (arith, w);
            live = r.1.live;
            key_is = r.1.key_is;
            fields = passes_on (p slot) x (live_from (suc slot) xs p) key f ∙ r.1.fields;
          },
        )

pub no_slot_in : (slot : ℕ) (xs : List Record) (p : ℕ → Bool) (key : ℕ) → slot_in slot xs p key ≡ None → fields_in key (live_from slot xs p) ≡ None
no_slot_in slot [] p key e = refl
no_slot_in slot (x ∷ xs) p key e = by (cases_Bool (p slot && x.key == key)) (no_slot_in (suc slot) xs p key)
  where
    by : ((p slot && x.key == key) ≡ true) ⊎ ((p slot && x.key == key) ≡ false) → (slot_in (suc slot) xs p key ≡ None → fields_in key (live_from (suc slot) xs p) ≡ None) → fields_in key (live_from slot (x ∷ xs) p) ≡ None
    by (inl t) rest = absurd (none-some slot (sym (sym (ap (λ q. cond q (Some slot) (slot_in (suc slot) xs p key)) t) ∙ e)))
    by (inr f) rest = passes_on (p slot) x (live_from (suc slot) xs p) key f ∙ rest (sym (ap (λ q. cond q (Some slot) (slot_in (suc slot) xs p key)) f) ∙ e)

-- ---- in pieces

pub record Found (ps : List Piece) (key segment slot part : ℕ) : Type 0 where
  pub part_there : part < length ps
  pub segment_is : (piece_at ps part).segment ≡ segment
  pub slot_there : slot < length (piece_at ps part).rows.records
  pub live : bit_of (piece_at ps part).bits slot ≡ true
  pub key_is : (record_at (piece_at ps part).rows.records slot).key ≡ key
  pub fields : fields_in key (live_pieces ps) ≡ Some (record_at (piece_at ps part).rows.records slot).fields

segment_or : Option (ℕ × ℕ) → ℕ
segment_or None = 0
segment_or (Some x) = x.0

slot_or : Option (ℕ × ℕ) → ℕ
slot_or None = 0
slot_or (Some x) = x.1

same_pair : (x y : ℕ × ℕ) → Some x ≡ Some y → x.0 ≡ y.0
unfolding segment_or
same_pair x y e = ap segment_or e

same_slot : (x y : ℕ × ℕ) → Some x ≡ Some y → x.1 ≡ y.1
unfolding slot_or
same_slot x y e = ap slot_or e

pub found_in : (ps : List Piece) (key segment slot : ℕ) → place_of ps key ≡ Some (segment, slot) → (part : ℕ) × Found ps key segment slot part
found_in [] key segment slot e = absurd (none-some (segment, slot) e)
found_in (p ∷ ps) key segment slot e = by (slot_in 0 p.rows.records (bit_of p.bits) key) refl e (found_in ps key segment slot)
  where
    by : (o : Option ℕ) → slot_in 0 p.rows.records (bit_of p.bits) key ≡ o → place_or p.segment o (place_of ps key) ≡ Some (segment, slot) → (place_of ps key ≡ Some (segment, slot) → (part : ℕ) × Found ps key segment slot part)
        → (part : ℕ) × Found (p ∷ ps) key segment slot part
    by None n f rest =
        let r = rest f in
        let t = r.1.part_there in (
          suc r.0,
          record {
            part_there = omega (arith, t);
            segment_is = r.1.segment_is;
            slot_there = r.1.slot_there;
            live = r.1.live;
            key_is = r.1.key_is;
            fields = fields_append key (live_piece p) (live_pieces ps) ∙ ap (λ o. or_else o (fields_in key (live_pieces ps))) (no_slot_in 0 p.rows.records (bit_of p.bits) key n) ∙ r.1.fields;
          },
        )
    by (Some i) n f rest =
        let r = in_slots 0 p.rows.records (bit_of p.bits) key i n in
        let here : p.segment ≡ segment = same_pair (p.segment, i) (segment, slot) f in
        let there : i ≡ slot = same_slot (p.segment, i) (segment, slot) f in
        let is = r.1.is in
        let w = r.1.within in
        let at : r.0 ≡ slot = omega (arith, is, there) in (
          0,
          record {
            part_there = omega arith;
            segment_is = here;
            slot_there = omega (arith, at, w);
            live = ap (bit_of p.bits) (sym there) ∙ r.1.live;
            key_is = ap (λ k. (record_at p.rows.records k).key) (sym at) ∙ r.1.key_is;
            fields = fields_append key (live_piece p) (live_pieces ps) ∙ ap (λ o. or_else o (fields_in key (live_pieces ps))) r.1.fields ∙ ap (λ k. Some (record_at p.rows.records k).fields) at;
          },
        )

pub found_none : (ps : List Piece) (key : ℕ) → place_of ps key ≡ None → fields_in key (live_pieces ps) ≡ None
found_none [] key e = refl
found_none (p ∷ ps) key e = by (slot_in 0 p.rows.records (bit_of p.bits) key) refl e (found_none ps key)
  where
    by : (o : Option ℕ) → slot_in 0 p.rows.records (bit_of p.bits) key ≡ o → place_or p.segment o (place_of ps key) ≡ None → (place_of ps key ≡ None → fields_in key (live_pieces ps) ≡ None) → fields_in key (live_pieces (p ∷ ps)) ≡ None
    by None n f rest = fields_append key (live_piece p) (live_pieces ps) ∙ ap (λ o. or_else o (fields_in key (live_pieces ps))) (no_slot_in 0 p.rows.records (bit_of p.bits) key n) ∙ rest f
    by (Some i) n f rest = absurd (none-some (p.segment, i) (sym f))

-- ---- pieces in order

low_of : (low i : ℕ) (ps : List Piece) → rises low ps ≡ true → i < length ps → low ≤ (piece_at ps i).segment
low_of low i [] up h = absurd (omega (arith, h))
low_of low zero (p ∷ ps) up h = leb-true low p.segment (and_parts (nat_le low p.segment) (rises (suc p.segment) ps) up).0
low_of low (suc i) (p ∷ ps) up h =
    let two = and_parts (nat_le low p.segment) (rises (suc p.segment) ps) up in
    let l = leb-true low p.segment two.0 in
    let r = low_of (suc p.segment) i ps two.1 (omega (arith, h)) in
    omega (arith, l, r)

pub one_place : (low i j : ℕ) (ps : List Piece) → rises low ps ≡ true → i < length ps → j < length ps → (piece_at ps i).segment ≡ (piece_at ps j).segment → i ≡ j
one_place low i j [] up h k e = absurd (omega (arith, h))
one_place low zero zero (p ∷ ps) up h k e = refl
one_place low zero (suc j) (p ∷ ps) up h k e =
    let r = low_of (suc p.segment) j ps (and_parts (nat_le low p.segment) (rises (suc p.segment) ps) up).1 (omega (arith, k)) in absurd (omega (arith, r, e))
one_place low (suc i) zero (p ∷ ps) up h k e =
    let r = low_of (suc p.segment) i ps (and_parts (nat_le low p.segment) (rises (suc p.segment) ps) up).1 (omega (arith, h)) in absurd (omega (arith, r, e))
one_place low (suc i) (suc j) (p ∷ ps) up h k e = ap suc (one_place (suc p.segment) i j ps (and_parts (nat_le low p.segment) (rises (suc p.segment) ps) up).1 (omega (arith, h)) (omega (arith, k)) e)

-- the part with the segment is the one in which the record was found
pub found_at : (ps : List Piece) (key segment slot part : ℕ) → rises 0 ps ≡ true → place_of ps key ≡ Some (segment, slot) → position (λ (p : Piece). p.segment == segment) ps ≡ Some part → Found ps key segment slot part
found_at ps key segment slot part up e f =
    let found = found_in ps key segment slot e in
    let at = position-Some (λ (p : Piece). p.segment == segment) ps part no_piece f in
    let same : found.0 ≡ part = one_place 0 found.0 part ps up found.1.part_there at.0 (found.1.segment_is ∙ sym (eqb-true (piece_at ps part).segment segment at.1)) in
    subst (Found ps key segment slot) same found.1

pub never_lost : (ps : List Piece) (key segment slot : ℕ) → place_of ps key ≡ Some (segment, slot) → position (λ (p : Piece). p.segment == segment) ps ≡ None → ⊥
never_lost ps key segment slot e f =
    let found = found_in ps key segment slot e in
    false≢true (sym (position_none (λ (p : Piece). p.segment == segment) ps no_piece f found.0 found.1.part_there) ∙ eq-eqb (piece_at ps found.0).segment segment found.1.segment_is)

-- ---- parts

length_slots : (slot : ℕ) (xs : List Record) (p : ℕ → Bool) → length (slots_from slot xs p) ≡ length xs
length_slots slot [] p = refl
length_slots slot (x ∷ xs) p = ap suc (length_slots (suc slot) xs p)

slot_is : (slot i : ℕ) (xs : List Record) (p : ℕ → Bool) → i < length xs → get_or (slots_from slot xs p) i no_slot ≡ (record_at xs i, p (slot + i))
slot_is slot i [] p h = absurd (omega (arith, h))
slot_is slot zero (x ∷ xs) p h = ap (λ n. (x, p n)) (omega arith)
slot_is slot (suc i) (x ∷ xs) p h = slot_is (suc slot) i xs p (omega (arith, h)) ∙ ap (λ n. (record_at xs i, p n)) (omega arith)

pub part_is : (ps : List Piece) (i : ℕ) → i < length ps → part_at (map part_of ps) i ≡ part_of (piece_at ps i)
part_is ps i h = get_or-map part_of ps i no_piece no_part h

pub slots_count : (ps : List Piece) (i : ℕ) → i < length ps → length (part_at (map part_of ps) i).slots ≡ length (piece_at ps i).rows.records
slots_count ps i h = ap (λ (p : Part). length p.slots) (part_is ps i h) ∙ length_slots 0 (piece_at ps i).rows.records (bit_of (piece_at ps i).bits)

pub slot_at_is : (ps : List Piece) (i slot : ℕ) → i < length ps → slot < length (piece_at ps i).rows.records → slot_at (map part_of ps) i slot ≡ (record_at (piece_at ps i).rows.records slot, bit_of (piece_at ps i).bits slot)
slot_at_is ps i slot h k =
    ap (λ (p : Part). get_or p.slots slot no_slot) (part_is ps i h)
    ∙ slot_is 0 slot (piece_at ps i).rows.records (bit_of (piece_at ps i).bits) k
    ∙ ap (λ n. (record_at (piece_at ps i).rows.records slot, bit_of (piece_at ps i).bits n)) (omega arith)
