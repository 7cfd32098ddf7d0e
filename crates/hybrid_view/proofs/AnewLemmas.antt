-- An index that is made anew of pieces gives the places of their live records.
use Rattle.std.proofs.Common.{◌≡◌, ℕ, zero, suc, ◌+◌, ◌<◌, ◌≤◌, ◌==◌, ◌&&◌, Bool, true, false, cond, List, [], ◌∷◌, ◌++◌, Option, Some, None, refl, arith, ap, sym, ◌∙◌, nat_cmp}
use Rattle.std.specs.FinMap as finite
use Rattle.std.specs.Cmp.{unsigned_tied}
use Rattle.std.proofs.lemmas.Cmp.{nat_cmp_total}
use Rattle.std.proofs.lemmas.Option.{none-some}
use Rattle.db_value.specs.declared.record.Record.{Record}
use Rattle.key_index.specs.declared.changes.SpotChange.{SpotChange}
use Rattle.key_index.specs.Places.{Places, with_place, with_changes}
use Rattle.plain_bits.specs.Truth.{bit_of}
use Rattle.db_store.specs.Layout.{live_from}
use Rattle.db_store.specs.LaidOut.{times}
use Rattle.db_store.proofs.BitLemmas.{flip_eqb}
use Rattle.db_store.proofs.LaidLemmas.{times_append}
use Rattle.hybrid_view.specs.Live.{Piece, Lived, slot_in, place_or, place_of, live_piece, live_pieces, IsLived}
use Rattle.hybrid_view.specs.Spots.{spots_in, spots_of_piece, spots_of_pieces, places_anew}

-- ---- the places of live records

placed_get : (m : Places) (key : ℕ) (place : ℕ × ℕ) (other : ℕ) (b : Bool) → (key == other) ≡ b → finite.get (with_place m key (Some place)) other ≡ cond b (Some place) (finite.get m other)
placed_get m key place other b e = finite.get-insert nat_cmp_total m key place other ∙ ap (λ q. cond q (Some place) (finite.get m other)) (unsigned_tied other key ∙ flip_eqb other key ∙ e)

-- a key with no live record has no slot
none_slot : (slot : ℕ) (xs : List Record) (p : ℕ → Bool) (key : ℕ) → times key (live_from slot xs p) ≡ 0 → slot_in slot xs p key ≡ None
none_slot slot [] p key e = refl
none_slot slot (x ∷ xs) p key e = by (p slot) (x.key == key) (none_slot (suc slot) xs p key) refl e
  where
    by : (a b : Bool) → (times key (live_from (suc slot) xs p) ≡ 0 → slot_in (suc slot) xs p key ≡ None) → (x.key == key) ≡ b → times key (cond a (x ∷ live_from (suc slot) xs p) (live_from (suc slot) xs p)) ≡ 0 → cond (a && b) (Some slot) (slot_in (suc slot) xs p key) ≡ None
    by false b rest q z = rest z
    by true true rest q z = let w : 1 + times key (live_from (suc slot) xs p) ≡ 0 = ap (λ t. cond t 1 0 + times key (live_from (suc slot) xs p)) (sym q) ∙ z in absurd (omega (arith, w))
    by true false rest q z = let w : 0 + times key (live_from (suc slot) xs p) ≡ 0 = ap (λ t. cond t 1 0 + times key (live_from (suc slot) xs p)) (sym q) ∙ z in rest (omega (arith, w))

index_piece : (segment slot : ℕ) (xs : List Record) (p : ℕ → Bool) (key : ℕ) (m : Places) → times key (live_from slot xs p) ≤ 1 → finite.get (with_changes m (spots_in segment slot xs p)) key ≡ place_or segment (slot_in slot xs p key) (finite.get m key)
index_piece segment slot [] p key m h = refl
index_piece segment slot (x ∷ xs) p key m h = by (p slot) (x.key == key) (index_piece segment (suc slot) xs p key) refl h
  where
    by : (a b : Bool)
        → ((m : Places) → times key (live_from (suc slot) xs p) ≤ 1 → finite.get (with_changes m (spots_in segment (suc slot) xs p)) key ≡ place_or segment (slot_in (suc slot) xs p key) (finite.get m key))
        → (x.key == key) ≡ b → times key (cond a (x ∷ live_from (suc slot) xs p) (live_from (suc slot) xs p)) ≤ 1
        → finite.get (with_changes m (cond a (record { key = x.key; place = Some (segment, slot) } ∷ spots_in segment (suc slot) xs p) (spots_in segment (suc slot) xs p))) key
        ≡ place_or segment (cond (a && b) (Some slot) (slot_in (suc slot) xs p key)) (finite.get m key)
    by false b rest q g = rest m g
    by true true rest q g =
        let next : Places = with_place m x.key (Some (segment, slot)) in
        let w = ap (λ t. cond t 1 0 + times key (live_from (suc slot) xs p)) q in
        let z : times key (live_from (suc slot) xs p) ≡ 0 = omega (arith, g, w) in
        rest next (omega (arith, z))
        ∙ ap (λ o. place_or segment o (finite.get next key)) (none_slot (suc slot) xs p key z)
        ∙ placed_get m x.key (segment, slot) key true q
    by true false rest q g =
        let next : Places = with_place m x.key (Some (segment, slot)) in
        let w = ap (λ t. cond t 1 0 + times key (live_from (suc slot) xs p)) q in
        rest next (omega (arith, g, w))
        ∙ ap (place_or segment (slot_in (suc slot) xs p key)) (placed_get m x.key (segment, slot) key false q)

changes_append : (m : Places) (xs ys : List SpotChange) → with_changes m (xs ++ ys) ≡ with_changes (with_changes m xs) ys
changes_append m [] ys = refl
changes_append m (x ∷ xs) ys = changes_append (with_place m x.key x.place) xs ys

-- the first place, or else another
abbrev or_place : Option (ℕ × ℕ) → Option (ℕ × ℕ) → Option (ℕ × ℕ)
or_place None o = o
or_place (Some x) o = Some x

none_place : (ps : List Piece) (key : ℕ) → times key (live_pieces ps) ≡ 0 → place_of ps key ≡ None
none_place [] key e = refl
none_place (p ∷ ps) key e =
    let a = times_append key (live_piece p) (live_pieces ps) in
    ap (λ o. place_or p.segment o (place_of ps key)) (none_slot 0 p.rows.records (bit_of p.bits) key (omega (arith, a, e))) ∙ none_place ps key (omega (arith, a, e))

some_slot : (slot : ℕ) (xs : List Record) (p : ℕ → Bool) (key i : ℕ) → slot_in slot xs p key ≡ Some i → 0 < times key (live_from slot xs p)
some_slot slot xs p key i e = by (times key (live_from slot xs p)) refl
  where
    by : (n : ℕ) → times key (live_from slot xs p) ≡ n → 0 < times key (live_from slot xs p)
    by zero z = absurd (none-some i (sym (none_slot slot xs p key z) ∙ e))
    by (suc n) z = omega (arith, z)

index_pieces : (ps : List Piece) (key : ℕ) (m : Places) → times key (live_pieces ps) ≤ 1 → finite.get (with_changes m (spots_of_pieces ps)) key ≡ or_place (place_of ps key) (finite.get m key)
index_pieces [] key m h = refl
index_pieces (p ∷ ps) key m h =
    let a = times_append key (live_piece p) (live_pieces ps) in
    let next : Places = with_changes m (spots_of_piece p) in
    ap (λ (q : Places). finite.get q key) (changes_append m (spots_of_piece p) (spots_of_pieces ps))
    ∙ index_pieces ps key next (omega (arith, a, h))
    ∙ ap (or_place (place_of ps key)) (index_piece p.segment 0 p.rows.records (bit_of p.bits) key m (omega (arith, a, h)))
    ∙ by (slot_in 0 p.rows.records (bit_of p.bits) key) refl
  where
    by : (o : Option ℕ) → slot_in 0 p.rows.records (bit_of p.bits) key ≡ o → or_place (place_of ps key) (place_or p.segment o (finite.get m key)) ≡ or_place (place_or p.segment o (place_of ps key)) (finite.get m key)
    by None e = refl
    by (Some i) e =
        let a = times_append key (live_piece p) (live_pieces ps) in
        let s = some_slot 0 p.rows.records (bit_of p.bits) key i e in
        ap (λ o. or_place o (Some (p.segment, i))) (none_place ps key (omega (arith, a, h, s)))

or_nothing : (o : Option (ℕ × ℕ)) → or_place o None ≡ o
or_nothing None = refl
or_nothing (Some x) = refl

-- an index of their places
pub spots_placed : (ps : List Piece) (key : ℕ) → times key (live_pieces ps) ≤ 1 → finite.get (with_changes finite.empty (spots_of_pieces ps)) key ≡ place_of ps key
spots_placed ps key h = index_pieces ps key finite.empty h ∙ ap (or_place (place_of ps key)) (finite.get-empty nat_cmp key) ∙ or_nothing (place_of ps key)

-- the places of pieces of which they are kept are those that are made anew
pub anew_is : (l : Lived) → IsLived l → places_anew l.pieces ≡ l.places
anew_is l lived = finite.same_map nat_cmp_total finite.nat_cmp-IsAntisymmetric (places_anew l.pieces) l.places (λ key. spots_placed l.pieces key (lived.apart key) ∙ sym (lived.placed key))
