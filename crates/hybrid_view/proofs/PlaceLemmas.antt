-- The places of keys after a commit.
use Rattle.std.proofs.Common.{◌≡◌, ◌≢◌, ◌⊎◌, inl, inr, ℕ, zero, suc, ◌+◌, ◌<◌, ◌≤◌, ◌==◌, ◌&&◌, ◌||◌, not, Bool, true, false, cond, List, [], ◌∷◌, ◌++◌, length, map, drop, get_or, Option, Some, None, refl, arith, ap, sym, ◌∙◌, zero-add}
use Rattle.std.specs.List.{list_any}
use Rattle.std.specs.FinMap as finite
use Rattle.std.specs.Cmp.{unsigned_tied}
use Rattle.std.proofs.lemmas.Cmp.{nat_cmp_total}
use Rattle.std.proofs.lemmas.Bool.{cases_eq, cases_Bool, and_parts, eqb-true, eq-eqb, ne_eqb, not-true, le-ltb}
use Rattle.std.proofs.lemmas.List.{take-append-drop, length-append}
use Rattle.db_value.specs.Value.{Value}
use Rattle.db_value.specs.declared.record.Record.{Record}
use Rattle.db_value.specs.declared.entry.Change.{Change}
use Rattle.db_store.specs.Adopt.{is_of_key, keys_differ}
use Rattle.db_store.specs.Layout.{Segment, Row, no_record, bit, records_at, live_from, live_of, live_in}
use Rattle.db_store.specs.LayoutGrowth.{is_head_of, put_before, puts, touches, segment_after, bit_after, row_after}
use Rattle.db_store.specs.LaidOut.{IsRow, AreRows, head_at, has_head, times}
use Rattle.record_page.specs.Page.{record_at}
use Rattle.db_store.proofs.BitLemmas.{flip_eqb}
use Rattle.db_store.proofs.CommitLaw.{Spares, spares_rest, spares_first, and_true, and_false, after_spares, or_none, same_of_key, first_is, rest_are, bit_next, after_records}
use Rattle.key_index.specs.Places.{Places, with_place, with_changes}
use Rattle.hybrid_view.specs.Live.{Piece, piece_at, slot_in, place_or, place_of, live_piece, live_pieces, rises}
use Rattle.db_store.proofs.LaidLemmas.{times_append}
use Rattle.plain_bits.specs.Truth.{bit_of}
use Rattle.hybrid_view.proofs.FindLemmas.{found_in, one_place}
use Rattle.hybrid_view.specs.Struck.{struck, touched_places}
use Rattle.hybrid_view.specs.RowPlaces.{row_slot, place_in_rows, Shows, AllShow, spot_before, spots}

-- ---- slots

pub slot_same : (slot : ℕ) (xs : List Record) (p q : ℕ → Bool) (key : ℕ) → ((s : ℕ) → slot ≤ s → s < slot + length xs → p s ≡ q s) → slot_in slot xs p key ≡ slot_in slot xs q key
slot_same slot [] p q key f = refl
slot_same slot (x ∷ xs) p q key f =
    ap (λ b. cond (b && x.key == key) (Some slot) (slot_in (suc slot) xs p key)) (f slot (omega arith) (omega arith))
    ∙ ap (cond (q slot && x.key == key) (Some slot)) (slot_same (suc slot) xs p q key (λ s h l. f s (omega (arith, h)) (omega (arith, l))))

-- the first that is there
abbrev or_slot : Option ℕ → Option ℕ → Option ℕ
or_slot None o = o
or_slot (Some s) o = Some s

slot_append : (slot : ℕ) (xs ys : List Record) (p : ℕ → Bool) (key : ℕ) → slot_in slot (xs ++ ys) p key ≡ or_slot (slot_in slot xs p key) (slot_in (slot + length xs) ys p key)
slot_append slot [] ys p key = ap (λ n. slot_in n ys p key) (omega arith)
slot_append slot (x ∷ xs) ys p key =
    let rest : slot_in (suc slot) (xs ++ ys) p key ≡ or_slot (slot_in (suc slot) xs p key) (slot_in (slot + suc (length xs)) ys p key) =
    slot_append (suc slot) xs ys p key ∙ ap (λ n. or_slot (slot_in (suc slot) xs p key) (slot_in n ys p key)) (omega arith) in
    by (p slot && x.key == key) (slot_in (suc slot) (xs ++ ys) p key) (slot_in (suc slot) xs p key) (slot_in (slot + suc (length xs)) ys p key) rest
  where
    by : (b : Bool) (o u v : Option ℕ) → o ≡ or_slot u v → cond b (Some slot) o ≡ or_slot (cond b (Some slot) u) v
    by true o u v e = refl
    by false o u v e = e

and_assoc : (a b c : Bool) → ((a && b) && c) ≡ (a && (b && c))
and_assoc true b c = refl
and_assoc false b c = refl

and_none : (a b : Bool) → b ≡ false → (a && b) ≡ false
and_none true b e = e
and_none false b e = refl

-- an untouched key stands where it stood
untouched_slot : (touched : ℕ → Bool) (key : ℕ) → touched key ≡ false → (slot : ℕ) (xs : List Record) (before p : ℕ → Bool) → Spares touched slot xs before p → slot_in slot xs p key ≡ slot_in slot xs before key
untouched_slot touched key t slot [] before p f = refl
untouched_slot touched key t slot (x ∷ xs) before p f =
    by (cases_eq x.key key) (untouched_slot touched key t (suc slot) xs before p (spares_rest touched slot x xs before p f))
  where
    by : (x.key ≡ key) ⊎ (x.key ≢ key) → slot_in (suc slot) xs p key ≡ slot_in (suc slot) xs before key
        → cond (p slot && x.key == key) (Some slot) (slot_in (suc slot) xs p key) ≡ cond (before slot && x.key == key) (Some slot) (slot_in (suc slot) xs before key)
    by (inl e) i =
        ap (λ b. cond (b && x.key == key) (Some slot) (slot_in (suc slot) xs p key)) (spares_first touched slot x xs before p f ∙ and_true (before slot) (touched x.key) (ap touched e ∙ t))
        ∙ ap (cond (before slot && x.key == key) (Some slot)) i
    by (inr n) i =
        ap (λ b. cond b (Some slot) (slot_in (suc slot) xs p key)) (and_none (p slot) (x.key == key) (ne_eqb x.key key n))
        ∙ i
        ∙ sym (ap (λ b. cond b (Some slot) (slot_in (suc slot) xs before key)) (and_none (before slot) (x.key == key) (ne_eqb x.key key n)))

-- a touched key is gone from the old records
touched_slot : (touched : ℕ → Bool) (key : ℕ) → touched key ≡ true → (slot : ℕ) (xs : List Record) (before p : ℕ → Bool) → Spares touched slot xs before p → slot_in slot xs p key ≡ None
touched_slot touched key t slot [] before p f = refl
touched_slot touched key t slot (x ∷ xs) before p f =
    by (cases_eq x.key key) (touched_slot touched key t (suc slot) xs before p (spares_rest touched slot x xs before p f))
  where
    by : (x.key ≡ key) ⊎ (x.key ≢ key) → slot_in (suc slot) xs p key ≡ None → cond (p slot && x.key == key) (Some slot) (slot_in (suc slot) xs p key) ≡ None
    by (inl e) i =
        ap (λ b. cond (b && x.key == key) (Some slot) (slot_in (suc slot) xs p key)) (spares_first touched slot x xs before p f ∙ and_false (before slot) (touched x.key) (ap touched e ∙ t)) ∙ i
    by (inr n) i = ap (λ b. cond b (Some slot) (slot_in (suc slot) xs p key)) (and_none (p slot) (x.key == key) (ne_eqb x.key key n)) ∙ i

put_slot : (q : Bool) (key : ℕ) (state : Option (List Value)) (rest : List Record) (slot other : ℕ) → (q && key == other) ≡ false → ((n : ℕ) → slot_in n rest (λ s. true) other ≡ None) → slot_in slot (put_before q key state rest) (λ s. true) other ≡ None
put_slot true key None rest slot other e f = f slot
put_slot true key (Some fields) rest slot other e f = ap (λ b. cond b (Some slot) (slot_in (suc slot) rest (λ s. true) other)) e ∙ f (suc slot)
put_slot false key state rest slot other e f = f slot

-- what is put has no untouched key
untouched_put : (cs : List Change) (r key slot : ℕ) → touches cs r key ≡ false → slot_in slot (puts cs r) (λ s. true) key ≡ None
untouched_put [] r key slot t = refl
untouched_put (c ∷ cs) r key slot t =
    let two = or_none (c.relation == r && c.key == key) (touches cs r key) t in
    put_slot (c.relation == r) c.key c.fields (puts cs r) slot key two.0 (λ n. untouched_put cs r key n two.1)

-- ---- the rows after a commit

module _ (b : ℕ) (cs : List Change) (r : ℕ) (ss : List Segment) (count n : ℕ) (last : suc n ≡ count) (key : ℕ) where
  abbrev news : List Segment
  news = map (segment_after b (puts cs r)) ss

  -- the place of what is put for the key, in the head
  abbrev pub put_place : ℕ → Option (ℕ × ℕ)
  put_place head = place_or head (slot_in (length (records_at ss head)) (puts cs r) (λ s. true) key) None

  one : (row : Row) → IsRow ss count row
      → row_slot (map (segment_after b (puts cs r)) ss) count (row_after ss (map (segment_after b (puts cs r)) ss) (touches cs r) n row) key
      ≡ or_slot (slot_in 0 (records_at ss row.segment) (bit_after (records_at ss row.segment) (touches cs r) (bit row n)) key)
      (slot_in (length (records_at ss row.segment)) (cond (is_head_of b (head_at ss row.segment)) (puts cs r) []) (λ s. true) key)
  one row is =
      let xs : List Record = records_at ss row.segment in
      let more : List Record = cond (is_head_of b (head_at ss row.segment)) (puts cs r) [] in
      let p : ℕ → Bool = bit_after xs (touches cs r) (bit row n) in
      slot_same 0 (records_at news row.segment) (bit (row_after ss news (touches cs r) n row) count) p key (λ s h l. bit_next ss news (touches cs r) count n row is last s (omega (arith, l)))
      ∙ ap (λ ys. slot_in 0 ys p key) (after_records b (puts cs r) ss row.segment is.there)
      ∙ slot_append 0 xs more p key
      ∙ ap (λ m. or_slot (slot_in 0 xs p key) (slot_in m more p key)) (zero-add (length xs))
      ∙ ap (or_slot (slot_in 0 xs p key)) (slot_same (length xs) more p (λ s. true) key (λ s h l. ap (λ q. cond q (bit row n s && not (touches cs r (get_or xs s no_record).key)) true) (le-ltb s (length xs) h)))

  no_put : (q : Bool) (slot : ℕ) → touches cs r key ≡ false → slot_in slot (cond q (puts cs r) []) (λ s. true) key ≡ None
  no_put true slot t = untouched_put cs r key slot t
  no_put false slot t = refl

  or_nothing : (o : Option ℕ) → or_slot o None ≡ o
  or_nothing None = refl
  or_nothing (Some s) = refl

  pub untouched_place : touches cs r key ≡ false → (rows : List Row) → AreRows ss count rows
      → place_in_rows (map (segment_after b (puts cs r)) ss) count (map (row_after ss (map (segment_after b (puts cs r)) ss) (touches cs r) n) rows) key ≡ place_in_rows ss n rows key
  untouched_place t [] all = refl
  untouched_place t (row ∷ rows) all =
      let xs : List Record = records_at ss row.segment in
      let before : Option ℕ = slot_in 0 xs (bit_after xs (touches cs r) (bit row n)) key in
      ap (λ o. place_or row.segment o (place_in_rows news count (map (row_after ss news (touches cs r) n) rows) key))
      (one row (first_is ss count row rows all)
      ∙ ap (or_slot before) (no_put (is_head_of b (head_at ss row.segment)) (length xs) t)
      ∙ or_nothing before
      ∙ untouched_slot (touches cs r) key t 0 xs (bit row n) (bit_after xs (touches cs r) (bit row n)) (after_spares (touches cs r) xs (bit row n)))
      ∙ ap (place_or row.segment (row_slot ss n row key)) (untouched_place t rows (rest_are ss count row rows all))

  -- of a touched key there is what was put into the head; the head's segment is the only one that is the head
  pub touched_place : touches cs r key ≡ true → (head : ℕ) → ((s : ℕ) → s < length ss → is_head_of b (head_at ss s) ≡ true → s ≡ head) → (rows : List Row) → AreRows ss count rows
      → place_in_rows (map (segment_after b (puts cs r)) ss) count (map (row_after ss (map (segment_after b (puts cs r)) ss) (touches cs r) n) rows) key
      ≡ cond (has_head b ss rows) (place_or head (slot_in (length (records_at ss head)) (puts cs r) (λ s. true) key) None) None
  touched_place t head only [] all = refl
  touched_place t head only (row ∷ rows) all =
      let xs : List Record = records_at ss row.segment in
      let is : IsRow ss count row = first_is ss count row rows all in
      ap (λ o. place_or row.segment o (place_in_rows news count (map (row_after ss news (touches cs r) n) rows) key))
      (one row is
      ∙ ap (λ o. or_slot o (slot_in (length xs) (cond (is_head_of b (head_at ss row.segment)) (puts cs r) []) (λ s. true) key))
      (touched_slot (touches cs r) key t 0 xs (bit row n) (bit_after xs (touches cs r) (bit row n)) (after_spares (touches cs r) xs (bit row n))))
      ∙ ap (place_or row.segment (slot_in (length xs) (cond (is_head_of b (head_at ss row.segment)) (puts cs r) []) (λ s. true) key)) (touched_place t head only rows (rest_are ss count row rows all))
      ∙ by (is_head_of b (head_at ss row.segment)) refl
    where
      twice : (s m : ℕ) (p : Bool) (o : Option ℕ) → s ≡ m → place_or s o (cond p (place_or m o None) None) ≡ place_or m o None
      twice s m true None e = refl
      twice s m false None e = refl
      twice s m p (Some i) e = ap (λ k. Some (k, i)) e

      by : (q : Bool) → is_head_of b (head_at ss row.segment) ≡ q
          → place_or row.segment (slot_in (length (records_at ss row.segment)) (cond q (puts cs r) []) (λ s. true) key) (cond (has_head b ss rows) (place_or head (slot_in (length (records_at ss head)) (puts cs r) (λ s. true) key) None) None)
          ≡ cond (q || has_head b ss rows) (place_or head (slot_in (length (records_at ss head)) (puts cs r) (λ s. true) key) None) None
      by true e =
          let same : row.segment ≡ head = only row.segment (first_is ss count row rows all).there e in
          ap (λ k. place_or row.segment (slot_in (length (records_at ss k)) (puts cs r) (λ s. true) key) (cond (has_head b ss rows) (place_or head (slot_in (length (records_at ss head)) (puts cs r) (λ s. true) key) None) None)) same
          ∙ twice row.segment head (has_head b ss rows) (slot_in (length (records_at ss head)) (puts cs r) (λ s. true) key) same
      by false e = refl

-- ---- the index after a commit

get_place : (m : Places) (key : ℕ) (place : Option (ℕ × ℕ)) (other : ℕ) → finite.get (with_place m key place) other ≡ cond (other == key) place (finite.get m other)
get_place m key None other = finite.get-remove nat_cmp_total m key other ∙ ap (λ b. cond b None (finite.get m other)) (unsigned_tied other key)
get_place m key (Some place) other = finite.get-insert nat_cmp_total m key place other ∙ ap (λ b. cond b (Some place) (finite.get m other)) (unsigned_tied other key)

other_place : (m : Places) (key : ℕ) (place : Option (ℕ × ℕ)) (other : ℕ) → (key == other) ≡ false → finite.get (with_place m key place) other ≡ finite.get m other
other_place m key place other e = get_place m key place other ∙ ap (λ b. cond b place (finite.get m other)) (flip_eqb other key ∙ e)

this_place : (m : Places) (key : ℕ) (place : Option (ℕ × ℕ)) (other : ℕ) → (key == other) ≡ true → finite.get (with_place m key place) other ≡ place
this_place m key place other e = get_place m key place other ∙ ap (λ b. cond b place (finite.get m other)) (flip_eqb other key ∙ e)

-- what the rest of the changes makes of a key that it doesn't touch, or of one that it touches
abbrev Rest : List Change → ℕ → ℕ → ℕ → Type 0
Rest cs r head key = (next : ℕ) (m : Places) → finite.get (with_changes m (spots head next cs r)) key ≡ cond (touches cs r key) (place_or head (slot_in next (puts cs r) (λ s. true) key) None) (finite.get m key)

spot_hit : (cs : List Change) (r head next key : ℕ) (c : ℕ) (state : Option (List Value)) (m : Places) → Rest cs r head key → touches cs r key ≡ false → (c == key) ≡ true
    → finite.get (with_changes m (spot_before true head next c state (λ n. spots head n cs r))) key ≡ place_or head (slot_in next (put_before true c state (puts cs r)) (λ s. true) key) None
spot_hit cs r head next key c None m rest t e =
    rest next (with_place m c None)
    ∙ ap (λ q. cond q (place_or head (slot_in next (puts cs r) (λ s. true) key) None) (finite.get (with_place m c None) key)) t
    ∙ this_place m c None key e
    ∙ ap (λ o. place_or head o None) (sym (untouched_put cs r key next t))
spot_hit cs r head next key c (Some fields) m rest t e =
    rest (suc next) (with_place m c (Some (head, next)))
    ∙ ap (λ q. cond q (place_or head (slot_in (suc next) (puts cs r) (λ s. true) key) None) (finite.get (with_place m c (Some (head, next))) key)) t
    ∙ this_place m c (Some (head, next)) key e
    ∙ ap (λ b. place_or head (cond b (Some next) (slot_in (suc next) (puts cs r) (λ s. true) key)) None) (sym e)

spot_miss : (cs : List Change) (r head next key : ℕ) (q : Bool) (c : ℕ) (state : Option (List Value)) (m : Places) → Rest cs r head key → (q && c == key) ≡ false
    → finite.get (with_changes m (spot_before q head next c state (λ n. spots head n cs r))) key
    ≡ cond (touches cs r key) (place_or head (slot_in next (put_before q c state (puts cs r)) (λ s. true) key) None) (finite.get m key)
spot_miss cs r head next key true c None m rest e =
    rest next (with_place m c None) ∙ ap (cond (touches cs r key) (place_or head (slot_in next (puts cs r) (λ s. true) key) None)) (other_place m c None key e)
spot_miss cs r head next key true c (Some fields) m rest e =
    rest (suc next) (with_place m c (Some (head, next)))
    ∙ ap (cond (touches cs r key) (place_or head (slot_in (suc next) (puts cs r) (λ s. true) key) None)) (other_place m c (Some (head, next)) key e)
    ∙ ap (λ b. cond (touches cs r key) (place_or head (cond b (Some next) (slot_in (suc next) (puts cs r) (λ s. true) key)) None) (finite.get m key)) (sym e)
spot_miss cs r head next key false c state m rest e = rest next m

pub spots_get : (cs : List Change) (r head key : ℕ) → keys_differ cs ≡ true → (next : ℕ) (m : Places)
    → finite.get (with_changes m (spots head next cs r)) key ≡ cond (touches cs r key) (place_or head (slot_in next (puts cs r) (λ s. true) key) None) (finite.get m key)
spots_get [] r head key d next m = refl
spots_get (c ∷ cs) r head key d next m = by (cases_Bool (c.relation == r && c.key == key)) (spots_get cs r head key two.1)
  where
    two : (not (list_any (is_of_key c) cs) ≡ true) × (keys_differ cs ≡ true)
    two = and_parts _ _ d

    by : ((c.relation == r && c.key == key) ≡ true) ⊎ ((c.relation == r && c.key == key) ≡ false) → Rest cs r head key
        → finite.get (with_changes m (spot_before (c.relation == r) head next c.key c.fields (λ n. spots head n cs r))) key
        ≡ cond ((c.relation == r && c.key == key) || touches cs r key) (place_or head (slot_in next (put_before (c.relation == r) c.key c.fields (puts cs r)) (λ s. true) key) None) (finite.get m key)
    by (inr f) rest =
        spot_miss cs r head next key (c.relation == r) c.key c.fields m rest f
        ∙ ap (λ q. cond (q || touches cs r key) (place_or head (slot_in next (put_before (c.relation == r) c.key c.fields (puts cs r)) (λ s. true) key) None) (finite.get m key)) (sym f)
    by (inl t) rest =
        let both = and_parts (c.relation == r) (c.key == key) t in
        let none : touches cs r key ≡ false = sym (same_of_key c cs r key (eqb-true _ _ both.0) (eqb-true _ _ both.1)) ∙ not-true _ two.0 in
        ap (λ q. finite.get (with_changes m (spot_before q head next c.key c.fields (λ n. spots head n cs r))) key) both.0
        ∙ spot_hit cs r head next key c.key c.fields m rest none both.1
        ∙ ap (λ q. place_or head (slot_in next (put_before q c.key c.fields (puts cs r)) (λ s. true) key) None) (sym both.0)
        ∙ ap (λ q. cond (q || touches cs r key) (place_or head (slot_in next (put_before (c.relation == r) c.key c.fields (puts cs r)) (λ s. true) key) None) (finite.get m key)) (sym t)

-- an index of the rows of a branch, with the changes of a commit, is one of its rows after the commit
pub index_next : (b : ℕ) (cs : List Change) (r : ℕ) (ss : List Segment) (count n head : ℕ) (rows : List Row) (m : Places) → suc n ≡ count → keys_differ cs ≡ true → AreRows ss count rows → has_head b ss rows ≡ true
    → ((s : ℕ) → s < length ss → is_head_of b (head_at ss s) ≡ true → s ≡ head) → ((key : ℕ) → finite.get m key ≡ place_in_rows ss n rows key)
    → (key : ℕ) → finite.get (with_changes m (spots head (length (records_at ss head)) cs r)) key
    ≡ place_in_rows (map (segment_after b (puts cs r)) ss) count (map (row_after ss (map (segment_after b (puts cs r)) ss) (touches cs r) n) rows) key
index_next b cs r ss count n head rows m last d all is only placed key = spots_get cs r head key d (length (records_at ss head)) m ∙ by (cases_Bool (touches cs r key))
  where
    by : (touches cs r key ≡ true) ⊎ (touches cs r key ≡ false)
        → cond (touches cs r key) (place_or head (slot_in (length (records_at ss head)) (puts cs r) (λ s. true) key) None) (finite.get m key)
        ≡ place_in_rows (map (segment_after b (puts cs r)) ss) count (map (row_after ss (map (segment_after b (puts cs r)) ss) (touches cs r) n) rows) key
    by (inl t) =
        ap (λ q. cond q (place_or head (slot_in (length (records_at ss head)) (puts cs r) (λ s. true) key) None) (finite.get m key)) t
        ∙ ap (λ q. cond q (place_or head (slot_in (length (records_at ss head)) (puts cs r) (λ s. true) key) None) None) (sym is)
        ∙ sym (touched_place b cs r ss count n last key t head only rows all)
    by (inr f) =
        ap (λ q. cond q (place_or head (slot_in (length (records_at ss head)) (puts cs r) (λ s. true) key) None) (finite.get m key)) f
        ∙ placed key
        ∙ sym (untouched_place b cs r ss count n last key f rows all)

-- ---- pieces that show rows

no_live : (slot : ℕ) (xs : List Record) (p : ℕ → Bool) → ((k : ℕ) → slot ≤ k → p k ≡ false) → live_from slot xs p ≡ []
no_live slot [] p f = refl
no_live slot (x ∷ xs) p f = ap (λ b. cond b (x ∷ live_from (suc slot) xs p) (live_from (suc slot) xs p)) (f slot (omega arith)) ∙ no_live (suc slot) xs p (λ k h. f k (omega (arith, h)))

no_slot_in : (slot : ℕ) (xs : List Record) (p : ℕ → Bool) (key : ℕ) → ((k : ℕ) → slot ≤ k → p k ≡ false) → slot_in slot xs p key ≡ None
no_slot_in slot [] p key f = refl
no_slot_in slot (x ∷ xs) p key f = ap (λ b. cond (b && x.key == key) (Some slot) (slot_in (suc slot) xs p key)) (f slot (omega arith)) ∙ no_slot_in (suc slot) xs p key (λ k h. f k (omega (arith, h)))

live_front : (slot : ℕ) (xs ys : List Record) (p : ℕ → Bool) → ((k : ℕ) → slot + length xs ≤ k → p k ≡ false) → live_from slot (xs ++ ys) p ≡ live_from slot xs p
live_front slot [] ys p f = no_live slot ys p (λ k h. f k (omega (arith, h)))
live_front slot (x ∷ xs) ys p f = ap (λ (t : List Record). cond (p slot) (x ∷ t) t) (live_front (suc slot) xs ys p (λ k h. f k (omega (arith, h))))

slot_front : (slot : ℕ) (xs ys : List Record) (p : ℕ → Bool) (key : ℕ) → ((k : ℕ) → slot + length xs ≤ k → p k ≡ false) → slot_in slot (xs ++ ys) p key ≡ slot_in slot xs p key
slot_front slot [] ys p key f = no_slot_in slot ys p key (λ k h. f k (omega (arith, h)))
slot_front slot (x ∷ xs) ys p key f = ap (cond (p slot && x.key == key) (Some slot)) (slot_front (suc slot) xs ys p key (λ k h. f k (omega (arith, h))))

-- the records of the segment are those of the piece, and others behind them
pub shown_split : (ss : List Segment) (n : ℕ) (row : Row) (p : Piece) → Shows ss n row p → records_at ss row.segment ≡ p.rows.records ++ drop (length p.rows.records) (records_at ss row.segment)
shown_split ss n row p s =
    sym (take-append-drop (length p.rows.records) (records_at ss row.segment)) ∙ ap (λ (xs : List Record). xs ++ drop (length p.rows.records) (records_at ss row.segment)) s.front

pub shown_shorter : (ss : List Segment) (n : ℕ) (row : Row) (p : Piece) → Shows ss n row p → length p.rows.records ≤ length (records_at ss row.segment)
shown_shorter ss n row p s =
    let e = ap length (shown_split ss n row p s) in
    let k = length-append p.rows.records (drop (length p.rows.records) (records_at ss row.segment)) in
    omega (arith, e, k)

shown_live : (ss : List Segment) (n : ℕ) (row : Row) (p : Piece) → Shows ss n row p → live_from 0 p.rows.records (bit_of p.bits) ≡ live_of ss n row
shown_live ss n row p s =
    (λ i. live_from 0 p.rows.records (λ k. s.bits k i))
    ∙ sym (live_front 0 p.rows.records (drop (length p.rows.records) (records_at ss row.segment)) (bit row n) (λ k h. s.past k (omega (arith, h))))
    ∙ ap (λ (xs : List Record). live_from 0 xs (bit row n)) (sym (shown_split ss n row p s))

shown_slot : (ss : List Segment) (n : ℕ) (row : Row) (p : Piece) (key : ℕ) → Shows ss n row p → slot_in 0 p.rows.records (bit_of p.bits) key ≡ row_slot ss n row key
shown_slot ss n row p key s =
    (λ i. slot_in 0 p.rows.records (λ k. s.bits k i) key)
    ∙ sym (slot_front 0 p.rows.records (drop (length p.rows.records) (records_at ss row.segment)) (bit row n) key (λ k h. s.past k (omega (arith, h))))
    ∙ ap (λ (xs : List Record). slot_in 0 xs (bit row n) key) (sym (shown_split ss n row p s))

pub shown_place : (ss : List Segment) (n : ℕ) (rows : List Row) (ps : List Piece) (key : ℕ) → AllShow ss n rows ps → place_of ps key ≡ place_in_rows ss n rows key
shown_place ss n [] [] key s = refl
shown_place ss n [] (p ∷ ps) key s = absurd s
shown_place ss n (row ∷ rows) [] key s = absurd s
shown_place ss n (row ∷ rows) (p ∷ ps) key s =
    (λ i. place_or (s.0.segment i) (shown_slot ss n row p key s.0 i) (place_of ps key))
    ∙ ap (place_or row.segment (row_slot ss n row key)) (shown_place ss n rows ps key s.1)

pub shown_rows : (ss : List Segment) (n : ℕ) (rows : List Row) (ps : List Piece) → AllShow ss n rows ps → live_pieces ps ≡ live_in ss n rows
shown_rows ss n [] [] s = refl
shown_rows ss n [] (p ∷ ps) s = absurd s
shown_rows ss n (row ∷ rows) [] s = absurd s
shown_rows ss n (row ∷ rows) (p ∷ ps) s =
    (λ i. shown_live ss n row p s.0 i ++ live_pieces ps)
    ∙ ap (λ (xs : List Record). live_of ss n row ++ xs) (shown_rows ss n rows ps s.1)

-- ---- a live record with a key is the one that is found

times_some : (slot : ℕ) (xs : List Record) (p : ℕ → Bool) (key k : ℕ) → k < length xs → p (slot + k) ≡ true → (record_at xs k).key ≡ key → 1 ≤ times key (live_from slot xs p)
times_some slot [] p key k h t e = absurd (omega (arith, h))
times_some slot (x ∷ xs) p key zero h t e =
    let live : p slot ≡ true = ap p (omega arith) ∙ t in
    let one : times key (cond (p slot) (x ∷ live_from (suc slot) xs p) (live_from (suc slot) xs p)) ≡ 1 + times key (live_from (suc slot) xs p) =
    ap (λ q. times key (cond q (x ∷ live_from (suc slot) xs p) (live_from (suc slot) xs p))) live ∙ ap (λ q. cond q 1 0 + times key (live_from (suc slot) xs p)) (eq-eqb x.key key e) in
    omega (arith, one)
times_some slot (x ∷ xs) p key (suc k) h t e = more (p slot) (x.key == key) (times_some (suc slot) xs p key k (omega (arith, h)) (ap p (omega arith) ∙ t) e)
  where
    more : (b c : Bool) → 1 ≤ times key (live_from (suc slot) xs p) → 1 ≤ times key (cond b (x ∷ live_from (suc slot) xs p) (live_from (suc slot) xs p))
    more true c i = extra (x.key == key) i
      where
        extra : (q : Bool) → 1 ≤ times key (live_from (suc slot) xs p) → 1 ≤ cond q 1 0 + times key (live_from (suc slot) xs p)
        extra true i = omega (arith, i)
        extra false i = omega (arith, i)
    more false c i = i

slot_unique : (slot : ℕ) (xs : List Record) (p : ℕ → Bool) (key k : ℕ) → times key (live_from slot xs p) ≤ 1 → k < length xs → p (slot + k) ≡ true → (record_at xs k).key ≡ key → slot_in slot xs p key ≡ Some (slot + k)
slot_unique slot [] p key k o h t e = absurd (omega (arith, h))
slot_unique slot (x ∷ xs) p key zero o h t e =
    let live : p slot ≡ true = ap p (omega arith) ∙ t in
    ap (λ b. cond (b && x.key == key) (Some slot) (slot_in (suc slot) xs p key)) live
    ∙ ap (λ b. cond b (Some slot) (slot_in (suc slot) xs p key)) (eq-eqb x.key key e)
    ∙ ap Some (omega arith)
slot_unique slot (x ∷ xs) p key (suc k) o h t e =
    let some : 1 ≤ times key (live_from (suc slot) xs p) = times_some (suc slot) xs p key k (omega (arith, h)) (ap p (omega arith) ∙ t) e in
    let not_here : (p slot && x.key == key) ≡ false = missed (p slot) some o in
    let fewer_now : times key (live_from (suc slot) xs p) ≤ 1 = fewer (p slot) o in
    ap (λ b. cond b (Some slot) (slot_in (suc slot) xs p key)) not_here
    ∙ slot_unique (suc slot) xs p key k fewer_now (omega (arith, h)) (ap p (omega arith) ∙ t) e
    ∙ ap Some (omega arith)
  where
    missed : (b : Bool) → 1 ≤ times key (live_from (suc slot) xs p) → times key (cond b (x ∷ live_from (suc slot) xs p) (live_from (suc slot) xs p)) ≤ 1 → (b && x.key == key) ≡ false
    missed true i j = apart (x.key == key) i j
      where
        apart : (q : Bool) → 1 ≤ times key (live_from (suc slot) xs p) → cond q 1 0 + times key (live_from (suc slot) xs p) ≤ 1 → q ≡ false
        apart true i j = absurd (omega (arith, i, j))
        apart false i j = refl
    missed false i j = refl

    fewer : (b : Bool) → times key (cond b (x ∷ live_from (suc slot) xs p) (live_from (suc slot) xs p)) ≤ 1 → times key (live_from (suc slot) xs p) ≤ 1
    fewer true j = less (x.key == key) j
      where
        less : (q : Bool) → cond q 1 0 + times key (live_from (suc slot) xs p) ≤ 1 → times key (live_from (suc slot) xs p) ≤ 1
        less true j = omega (arith, j)
        less false j = omega (arith, j)
    fewer false j = j

no_slot : (slot : ℕ) (xs : List Record) (p : ℕ → Bool) (key : ℕ) → times key (live_from slot xs p) ≡ 0 → slot_in slot xs p key ≡ None
no_slot slot [] p key e = refl
no_slot slot (x ∷ xs) p key e = by (p slot) e (no_slot (suc slot) xs p key)
  where
    live : (q : Bool) → cond q 1 0 + times key (live_from (suc slot) xs p) ≡ 0 → (times key (live_from (suc slot) xs p) ≡ 0 → slot_in (suc slot) xs p key ≡ None) → cond q (Some slot) (slot_in (suc slot) xs p key) ≡ None
    live true f rest = absurd (omega (arith, f))
    live false f rest = rest (omega (arith, f))

    by : (b : Bool) → times key (cond b (x ∷ live_from (suc slot) xs p) (live_from (suc slot) xs p)) ≡ 0 → (times key (live_from (suc slot) xs p) ≡ 0 → slot_in (suc slot) xs p key ≡ None) → cond (b && x.key == key) (Some slot) (slot_in (suc slot) xs p key) ≡ None
    by true f rest = live (x.key == key) f rest
    by false f rest = rest f

pieces_some : (ps : List Piece) (key part slot : ℕ) → part < length ps → slot < length (piece_at ps part).rows.records → bit_of (piece_at ps part).bits slot ≡ true → (record_at (piece_at ps part).rows.records slot).key ≡ key
    → 1 ≤ times key (live_pieces ps)
pieces_some [] key part slot h k t e = absurd (omega (arith, h))
pieces_some (p ∷ ps) key zero slot h k t e =
    let sum = times_append key (live_piece p) (live_pieces ps) in
    let some = times_some 0 p.rows.records (bit_of p.bits) key slot k (ap (bit_of p.bits) (zero-add slot) ∙ t) e in
    omega (arith, sum, some)
pieces_some (p ∷ ps) key (suc part) slot h k t e =
    let sum = times_append key (live_piece p) (live_pieces ps) in
    let some = pieces_some ps key part slot (omega (arith, h)) k t e in
    omega (arith, sum, some)

-- where no key is live twice, a live record stands where its key is found
pub place_unique : (ps : List Piece) (key part slot : ℕ) → times key (live_pieces ps) ≤ 1 → part < length ps → slot < length (piece_at ps part).rows.records → bit_of (piece_at ps part).bits slot ≡ true → (record_at (piece_at ps part).rows.records slot).key ≡ key
    → place_of ps key ≡ Some ((piece_at ps part).segment, slot)
place_unique [] key part slot o h k t e = absurd (omega (arith, h))
place_unique (p ∷ ps) key zero slot o h k t e =
    let sum = times_append key (live_piece p) (live_pieces ps) in
    let live : bit_of p.bits (0 + slot) ≡ true = ap (bit_of p.bits) (zero-add slot) ∙ t in
    ap (λ s. place_or p.segment s (place_of ps key)) (slot_unique 0 p.rows.records (bit_of p.bits) key slot (omega (arith, sum, o)) k live e)
    ∙ ap (λ s. Some (p.segment, s)) (zero-add slot)
place_unique (p ∷ ps) key (suc part) slot o h k t e =
    let sum = times_append key (live_piece p) (live_pieces ps) in
    let some : 1 ≤ times key (live_pieces ps) = pieces_some ps key part slot (omega (arith, h)) k t e in
    ap (λ s. place_or p.segment s (place_of ps key)) (no_slot 0 p.rows.records (bit_of p.bits) key (omega (arith, sum, o, some)))
    ∙ place_unique ps key part slot (omega (arith, sum, o)) (omega (arith, h)) k t e

-- ---- what the index strikes

or_true_left : (a b : Bool) → a ≡ true → (a || b) ≡ true
or_true_left a b e = ap (λ x. x || b) e

or_true_right : (a b : Bool) → b ≡ true → (a || b) ≡ true
or_true_right true b e = refl
or_true_right false b e = e

-- the place of a touched key is struck
touched_struck : (ps : List Piece) (cs : List Change) (r key segment slot : ℕ) → touches cs r key ≡ true → place_of ps key ≡ Some (segment, slot) → struck (touched_places ps cs r) segment slot ≡ true
touched_struck ps [] r key segment slot t e = absurd cc
touched_struck ps (c ∷ cs) r key segment slot t e = by (cases_Bool (c.relation == r && c.key == key)) (touched_struck ps cs r key segment slot)
  where
    more : (o : Option (ℕ × ℕ)) → struck (touched_places ps cs r) segment slot ≡ true → struck (o ∷ touched_places ps cs r) segment slot ≡ true
    more None h = h
    more (Some x) h = or_true_right (x.0 == segment && x.1 == slot) (struck (touched_places ps cs r) segment slot) h

    here : (o : Option (ℕ × ℕ)) → o ≡ Some (segment, slot) → struck (o ∷ touched_places ps cs r) segment slot ≡ true
    here o f =
        ap (λ x. struck (x ∷ touched_places ps cs r) segment slot) f
        ∙ or_true_left (segment == segment && slot == slot) (struck (touched_places ps cs r) segment slot) (ap (λ b. b && slot == slot) (eq-eqb segment segment refl) ∙ eq-eqb slot slot refl)

    by : ((c.relation == r && c.key == key) ≡ true) ⊎ ((c.relation == r && c.key == key) ≡ false) → (touches cs r key ≡ true → place_of ps key ≡ Some (segment, slot) → struck (touched_places ps cs r) segment slot ≡ true)
        → struck (cond (c.relation == r) (place_of ps c.key) None ∷ touched_places ps cs r) segment slot ≡ true
    by (inl h) rest =
        let two = and_parts (c.relation == r) (c.key == key) h in
        here (cond (c.relation == r) (place_of ps c.key) None) (ap (λ q. cond q (place_of ps c.key) None) two.0 ∙ ap (place_of ps) (eqb-true c.key key two.1) ∙ e)
    by (inr f) rest = more (cond (c.relation == r) (place_of ps c.key) None) (rest (sym (ap (λ q. q || touches cs r key) f) ∙ t) e)

-- what is struck is the place of a touched key
struck_touched : (ps : List Piece) (cs : List Change) (r segment slot : ℕ) → struck (touched_places ps cs r) segment slot ≡ true → (key : ℕ) × (touches cs r key ≡ true) × (place_of ps key ≡ Some (segment, slot))
struck_touched ps [] r segment slot h = absurd cc
struck_touched ps (c ∷ cs) r segment slot h = by (cases_Bool (c.relation == r)) (struck_touched ps cs r segment slot)
  where
    Told : Type 0
    Told = (key : ℕ) × (touches (c ∷ cs) r key ≡ true) × (place_of ps key ≡ Some (segment, slot))

    later : (key : ℕ) × (touches cs r key ≡ true) × (place_of ps key ≡ Some (segment, slot)) → (key : ℕ) × (touches (c ∷ cs) r key ≡ true) × (place_of ps key ≡ Some (segment, slot))
    later t = (t.0, or_true_right (c.relation == r && c.key == t.0) (touches cs r t.0) t.1, t.2)

    at : c.relation ≡ r → (o : Option (ℕ × ℕ)) → place_of ps c.key ≡ o → struck (o ∷ touched_places ps cs r) segment slot ≡ true
        → (struck (touched_places ps cs r) segment slot ≡ true → (key : ℕ) × (touches cs r key ≡ true) × (place_of ps key ≡ Some (segment, slot)))
        → (key : ℕ) × (touches (c ∷ cs) r key ≡ true) × (place_of ps key ≡ Some (segment, slot))
    at q None e g rest = later (rest g)
    at q (Some x) e g rest = one (cases_Bool (x.0 == segment && x.1 == slot))
      where
        one : ((x.0 == segment && x.1 == slot) ≡ true) ⊎ ((x.0 == segment && x.1 == slot) ≡ false) → (key : ℕ) × (touches (c ∷ cs) r key ≡ true) × (place_of ps key ≡ Some (segment, slot))
        one (inl t) =
            let two = and_parts (x.0 == segment) (x.1 == slot) t in
            let s = eqb-true x.0 segment two.0 in
            let k = eqb-true x.1 slot two.1 in (
              c.key,
              or_true_left (c.relation == r && c.key == c.key) (touches cs r c.key) (ap (λ b. b && c.key == c.key) (eq-eqb c.relation r q) ∙ eq-eqb c.key c.key refl),
              e ∙ (λ i. Some (s i, k i)),
            )
        one (inr f) = later (rest (sym (ap (λ b. b || struck (touched_places ps cs r) segment slot) f) ∙ g))

    by : ((c.relation == r) ≡ true) ⊎ ((c.relation == r) ≡ false) → (struck (touched_places ps cs r) segment slot ≡ true → (key : ℕ) × (touches cs r key ≡ true) × (place_of ps key ≡ Some (segment, slot)))
        → (key : ℕ) × (touches (c ∷ cs) r key ≡ true) × (place_of ps key ≡ Some (segment, slot))
    by (inl t) rest = at (eqb-true c.relation r t) (place_of ps c.key) refl (sym (ap (λ q. struck (cond q (place_of ps c.key) None ∷ touched_places ps cs r) segment slot) t) ∙ h) rest
    by (inr f) rest = later (rest (sym (ap (λ q. struck (cond q (place_of ps c.key) None ∷ touched_places ps cs r) segment slot) f) ∙ h))

-- clearing what the index has at the touched keys leaves the live records whose keys aren't touched
pub struck_is : (ps : List Piece) (cs : List Change) (r part slot : ℕ) → rises 0 ps ≡ true → ((key : ℕ) → times key (live_pieces ps) ≤ 1) → part < length ps → slot < length (piece_at ps part).rows.records
    → (bit_of (piece_at ps part).bits slot && not (struck (touched_places ps cs r) (piece_at ps part).segment slot))
    ≡ (bit_of (piece_at ps part).bits slot && not (touches cs r (record_at (piece_at ps part).rows.records slot).key))
struck_is ps cs r part slot up apart h k = by (bit_of (piece_at ps part).bits slot) refl
  where
    key : ℕ
    key = (record_at (piece_at ps part).rows.records slot).key

    agree : bit_of (piece_at ps part).bits slot ≡ true → (p q : Bool) → struck (touched_places ps cs r) (piece_at ps part).segment slot ≡ p → touches cs r (record_at (piece_at ps part).rows.records slot).key ≡ q → p ≡ q
    agree live true true e f = refl
    agree live false false e f = refl
    agree live true false e f =
        let t = struck_touched ps cs r (piece_at ps part).segment slot e in
        let found = found_in ps t.0 (piece_at ps part).segment slot t.2 in
        let same : found.0 ≡ part = one_place 0 found.0 part ps up found.1.part_there h found.1.segment_is in
        let is : (record_at (piece_at ps part).rows.records slot).key ≡ t.0 = ap (λ n. (record_at (piece_at ps n).rows.records slot).key) (sym same) ∙ found.1.key_is in
        absurd (true_false (sym t.1 ∙ sym (ap (touches cs r) is) ∙ f))
      where
        true_false : true ≡ false → ⊥
        true_false g = absurd cc
    agree live false true e f =
        let place = place_unique ps (record_at (piece_at ps part).rows.records slot).key part slot (apart (record_at (piece_at ps part).rows.records slot).key) h k live refl in
        let s = touched_struck ps cs r (record_at (piece_at ps part).rows.records slot).key (piece_at ps part).segment slot f place in
        absurd (true_false (sym s ∙ e))
      where
        true_false : true ≡ false → ⊥
        true_false g = absurd cc

    by : (b : Bool) → bit_of (piece_at ps part).bits slot ≡ b
        → (b && not (struck (touched_places ps cs r) (piece_at ps part).segment slot)) ≡ (b && not (touches cs r (record_at (piece_at ps part).rows.records slot).key))
    by true live = ap not (agree live (struck (touched_places ps cs r) (piece_at ps part).segment slot) (touches cs r (record_at (piece_at ps part).rows.records slot).key) refl refl)
    by false live = refl
