-- What changes make of an index, and the deltas of rows.
use Rattle.std.proofs.Common.{◌≡◌, ◌⊎◌, inl, inr, ℕ, zero, suc, ◌+◌, ◌<◌, ◌≤◌, ◌==◌, ◌&&◌, nat_lt, not, cond, Bool, true, false, List, [], ◌∷◌, ◌++◌, length, drop, get_or, Option, Some, None, refl, arith, ap, sym, ◌∙◌, subst}
use Rattle.std.proofs.lemmas.List.{get_or_append_left, get_or_push, get_or_past, drop_all}
use Rattle.std.proofs.lemmas.Bool.{cases_lt, lt-ltb, le-ltb}
use Rattle.hybrid_view.specs.Live.{Piece, piece_at}
use Rattle.plain_bits.specs.Truth.{differ as differ_bits}
use Rattle.db_store.specs.Layout.{differ}
use Rattle.hybrid_view.proofs.DeltaLemmas.{slots_by, slots_stop}
use Rattle.db_value.specs.Value.{Value}
use Rattle.db_value.specs.PackedChanges.{change_here}
use Rattle.db_value.specs.declared.record.Record.{Record}
use Rattle.db_value.specs.declared.entry.Change.{Change}
use Rattle.plain_bits.specs.Truth.{bit_of}
use Rattle.db_store.specs.Layout.{slots_where}
use Rattle.db_store.specs.LayoutGrowth.{put_before, puts}
use Rattle.hybrid_view.specs.Deltas.{slots_of}
use Rattle.hybrid_view.specs.Struck.{struck}
use Rattle.hybrid_view.specs.RowPlaces.{spot_before, spots}
use Rattle.commit_history.specs.Runs.{Next, next_of}
use Rattle.bit_rows.specs.Short.{shortest}
use Rattle.bit_rows.specs.Rows.{KeptRow, no_next, next_at, kept_row_at}
use Rattle.bit_rows.specs.Differences.{difference_of, IsNext}

spot_first : (b : Bool) (head next key : ℕ) (f : Option (List Value)) (cs : List Change) (r : ℕ) → spot_before b head next key f (λ n. spots head n cs r)
    ≡ spot_before b head next key f (λ n. []) ++ spots head (next + length (put_before b key f [])) cs r
spot_first true head next key (Some f) cs r = let one : suc next ≡ next + 1 = omega arith in ap (λ k. record { key = key; place = Some (head, next) } ∷ spots head k cs r) one
spot_first true head next key None cs r = let one : next ≡ next + 0 = omega arith in ap (λ k. record { key = key; place = None } ∷ spots head k cs r) one
spot_first false head next key f cs r = let one : next ≡ next + 0 = omega arith in ap (λ k. spots head k cs r) one

spots_from : (cs : List Change) (head next r i : ℕ) (z : Change) → i < length cs → spots head next (drop i cs) r ≡ spots head next (get_or cs i z ∷ []) r ++ spots head (next + length (puts (get_or cs i z ∷ []) r)) (drop (i + 1) cs) r
spots_from [] head next r i z h = absurd (omega (arith, h))
spots_from (c ∷ cs) head next r zero z h = spot_first (c.relation == r) head next c.key c.fields cs r
spots_from (c ∷ cs) head next r (suc i) z h =
    let one : suc (i + 1) ≡ suc i + 1 = omega arith in
    spots_from cs head next r i z (omega (arith, h)) ∙ ap (λ k. spots head next (get_or cs i z ∷ []) r ++ spots head (next + length (puts (get_or cs i z ∷ []) r)) (drop k (c ∷ cs)) r) one

-- what one change makes of an index stands in front of what the later ones make
pub spots_drop : (cs : List Change) (head next r i : ℕ) → i < length cs → spots head next (drop i cs) r ≡ spots head next (change_here cs i ∷ []) r ++ spots head (next + length (puts (change_here cs i ∷ []) r)) (drop (i + 1) cs) r
spots_drop cs head next r i h = spots_from cs head next r i (record { relation = 0; key = 0; fields = None; widths = None }) h

-- past the last change nothing is made of it
pub spots_past : (cs : List Change) (head next r i : ℕ) → length cs ≤ i → spots head next (drop i cs) r ≡ []
spots_past cs head next r i h = ap (λ (ds : List Change). spots head next ds r) (drop_all i cs h)

-- ---- the bits in which two bitmaps differ

pub same_differ : (a b : Bool) → differ_bits a b ≡ differ a b
same_differ true b = refl
same_differ false b = refl

pub delta_slots : (p q d : List Bool) → length d ≡ length q → ((s : ℕ) → bit_of d s ≡ differ_bits (bit_of p s) (bit_of q s)) → slots_of d ≡ slots_where (λ s. differ (bit_of p s) (bit_of q s)) (length q)
delta_slots p q d n f = slots_by d (λ s. differ (bit_of p s) (bit_of q s)) (length q) (omega (arith, n)) (λ s h. f s ∙ same_differ (bit_of p s) (bit_of q s))

-- what is ready for one row more
pub differences_more : (rows : List KeptRow) (ps qs : List Piece) (ns : List Next) (x : Next) (i : ℕ) → length ns ≡ i
    → ((j : ℕ) → j < i → next_at ns j ≡ next_of (kept_row_at rows j).deltas (shortest (difference_of (piece_at ps j) (piece_at qs j))))
    → x ≡ next_of (kept_row_at rows i).deltas (shortest (difference_of (piece_at ps i) (piece_at qs i)))
    → (j : ℕ) → j < i + 1 → next_at (ns ++ x ∷ []) j ≡ next_of (kept_row_at rows j).deltas (shortest (difference_of (piece_at ps j) (piece_at qs j)))
differences_more rows ps qs ns x i n f e j h = by (cases_lt j i)
  where
    by : (j < i) ⊎ (i ≤ j) → next_at (ns ++ x ∷ []) j ≡ next_of (kept_row_at rows j).deltas (shortest (difference_of (piece_at ps j) (piece_at qs j)))
    by (inl l) = get_or_append_left ns (x ∷ []) no_next j (omega (arith, l, n)) ∙ f j l
    by (inr g) =
        let same : i ≡ j = omega (arith, h, g) in
        subst (λ k. next_at (ns ++ x ∷ []) k ≡ next_of (kept_row_at rows k).deltas (shortest (difference_of (piece_at ps k) (piece_at qs k)))) same (get_or_push ns x no_next i n ∙ e)

-- ---- a part that stays as it was

still_bit : (p q : List Bool) (n slot : ℕ) (struck_here : Bool) → length p ≤ n → struck_here ≡ false → bit_of q slot ≡ cond (nat_lt slot n) (bit_of p slot && not struck_here) (nat_lt slot n) → differ (bit_of p slot) (bit_of q slot) ≡ false
still_bit p q n slot s h free e = ap (differ (bit_of p slot)) (e ∙ ap (λ b. cond (nat_lt slot n) (bit_of p slot && not b) (nat_lt slot n)) free) ∙ elim (cases_lt slot n) [
  | inl lt ↦ ap (λ b. differ (bit_of p slot) (cond b (bit_of p slot && true) b)) (lt-ltb slot n lt) ∙ same (bit_of p slot)
  | inr le ↦ ap (λ b. differ (bit_of p slot) (cond b (bit_of p slot && true) b)) (le-ltb slot n le) ∙ ap (λ b. differ b false) (get_or_past p slot false (omega (arith, h, le)))
]
  where
    same : (b : Bool) → differ b (b && true) ≡ false
    same true = refl
    same false = refl

pub still : (places : List (Option (ℕ × ℕ))) (p q : Piece) → IsNext places p q → length p.bits ≤ length p.rows.records → length p.rows.records ≡ length q.rows.records → ((slot : ℕ) → struck places p.segment slot ≡ false) → difference_of p q ≡ []
still places p q next covered same free =
    let z : length q.bits ≡ 0 + length q.bits = omega arith in
    ap (slots_where (λ slot. differ (bit_of p.bits slot) (bit_of q.bits slot))) z
    ∙ slots_stop (λ slot. differ (bit_of p.bits slot) (bit_of q.bits slot)) 0 (length q.bits)
    (λ slot h. still_bit p.bits q.bits (length p.rows.records) slot (struck places p.segment slot) covered (free slot)
    (next.1.1.bits slot ∙ ap (λ n. cond (nat_lt slot (length p.rows.records)) (bit_of p.bits slot && not (struck places p.segment slot)) (nat_lt slot n)) (sym same)))
