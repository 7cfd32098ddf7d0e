-- Pieces with an index that is made anew of them: what holds of them, and how many keys there are.
use Rattle.std.proofs.Common.{◌≡◌, ℕ, zero, suc, ◌+◌, ◌-◌, ◌^◌, ◌<◌, ◌≤◌, ◌==◌, ◌&&◌, Bool, true, false, cond, List, [], ◌∷◌, ◌++◌, length, Option, Some, None, refl, arith, ap, sym, ◌∙◌, nat_cmp}
use Rattle.std.specs.Prelude.{is_some}
use Rattle.std.specs.FinMap as finite
use Rattle.std.specs.Cmp.{unsigned_tied}
use Rattle.std.proofs.lemmas.Cmp.{nat_cmp_total}
use Rattle.std.proofs.lemmas.Bool.{eq-eqb}
use Rattle.std.proofs.lemmas.List.{length-append}
use Rattle.std.proofs.lemmas.Option.{none-some}
use Rattle.db_value.specs.Value.{Value}
use Rattle.db_value.specs.declared.record.Record.{Record}
use Rattle.key_index.specs.declared.changes.SpotChange.{SpotChange}
use Rattle.key_index.specs.Places.{Places, with_place, with_changes}
use Rattle.plain_bits.specs.Truth.{bit_of}
use Rattle.db_store.specs.Layout.{live_from, contents_of}
use Rattle.db_store.specs.LaidOut.{times}
use Rattle.db_store.proofs.BitLemmas.{flip_eqb, get_contents}
use Rattle.db_store.proofs.LaidLemmas.{times_append}
use Rattle.hybrid_view.specs.Live.{Piece, piece_at, slot_in, place_or, place_of, live_piece, live_pieces, rises, IsLived}
use Rattle.hybrid_view.specs.LiveRules.{times_none}
use Rattle.hybrid_view.specs.Spots.{spots_in, spots_of_piece, spots_of_pieces, lived_of}
use Rattle.hybrid_view.proofs.AnewLemmas.{spots_placed}

-- ---- as many keys as places

len_contents : (xs : List Record) → ((key : ℕ) → times key xs ≤ 1) → finite.len (contents_of xs) ≡ length xs
len_contents [] t = finite.len-empty nat_cmp (List Value)
len_contents (x ∷ xs) t =
    let one : times x.key (x ∷ xs) ≡ 1 + times x.key xs = ap (λ b. cond b 1 0 + times x.key xs) (eq-eqb x.key x.key refl) in
    let h = t x.key in
    let none : finite.get (contents_of xs) x.key ≡ None = get_contents xs x.key ∙ times_none x.key xs (omega (arith, one, h)) in
    let rest = len_contents xs (λ key. fewer (x.key == key) (times key xs) (t key)) in
    finite.len-insert nat_cmp_total (contents_of xs) x.key x.fields
    ∙ ap (λ (o : Option (List Value)). cond (is_some o) (finite.len (contents_of xs)) (finite.len (contents_of xs) + 1)) none
    ∙ (let e : finite.len (contents_of xs) + 1 ≡ suc (length xs) = omega (arith, rest) in e)
  where
    fewer : (b : Bool) (n : ℕ) → cond b 1 0 + n ≤ 1 → n ≤ 1
    fewer true n h = omega (arith, h)
    fewer false n h = omega (arith, h)

spots_count : (segment slot : ℕ) (xs : List Record) (p : ℕ → Bool) → length (spots_in segment slot xs p) ≡ length (live_from slot xs p)
spots_count segment slot [] p = refl
spots_count segment slot (x ∷ xs) p = by (p slot) (spots_count segment (suc slot) xs p)
  where
    by : (b : Bool) → length (spots_in segment (suc slot) xs p) ≡ length (live_from (suc slot) xs p)
        → length (cond b (record { key = x.key; place = Some (segment, slot) } ∷ spots_in segment (suc slot) xs p) (spots_in segment (suc slot) xs p)) ≡ length (cond b (x ∷ live_from (suc slot) xs p) (live_from (suc slot) xs p))
    by true e = ap suc e
    by false e = e

all_count : (ps : List Piece) → length (spots_of_pieces ps) ≡ length (live_pieces ps)
all_count [] = refl
all_count (p ∷ ps) =
    let a = length-append (spots_of_piece p) (spots_of_pieces ps) in
    let b = length-append (live_piece p) (live_pieces ps) in
    let c = spots_count p.segment 0 p.rows.records (bit_of p.bits) in
    let d = all_count ps in
    omega (arith, a, b, c, d)

-- pieces with an index that is made anew of them
pub spots_lived : (ps : List Piece) → rises 0 ps ≡ true → ((key : ℕ) → times key (live_pieces ps) ≤ 1) → length ps < 2 ^ 32 - 1 → ((i : ℕ) → i < length ps → length (piece_at ps i).bits ≤ length (piece_at ps i).rows.records)
    → IsLived (lived_of ps)
spots_lived ps ascend apart few covered = record {
  ascend = ascend;
  apart = apart;
  placed = λ key. spots_placed ps key (apart key);
  counted = all_count ps ∙ sym (len_contents (live_pieces ps) apart);
  few = few;
  covered = covered;
}
