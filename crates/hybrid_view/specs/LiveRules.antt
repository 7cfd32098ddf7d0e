-- The live records of parts are those of the contents.
use Rattle.std.proofs.Common.{◌≡◌, ℕ, suc, ◌+◌, ◌<◌, ◌≤◌, ◌==◌, Bool, true, false, cond, List, [], ◌∷◌, ◌++◌, length, map, Some, None, refl, arith, ap, sym, ◌∙◌, subst}
use Rattle.std.specs.List.Sorted.{IsPermutation}
use Rattle.std.specs.FinMap as finite
use Rattle.std.proofs.lemmas.Bool.{eq-eqb}
use Rattle.db_value.specs.declared.record.Record.{Record}
use Rattle.db_store.specs.Table.{rows_of, relation_at}
use Rattle.db_store.specs.Parts.{live_rows, rows_in}
use Rattle.db_store.specs.Layout.{live_from}
use Rattle.db_store.specs.LaidOut.{times}
use Rattle.db_store.specs.SameRows.{fields_in, Apart, same_fields, fields_rows, apart_rows}
use Rattle.plain_bits.specs.Truth.{bit_of}
use Rattle.hybrid_view.specs.Live.{Piece, Lived, no_lived, slots_from, part_of, live_piece, live_pieces, contents_in, parts_in, IsLived, lived_at, AllLived, table_of}
use Rattle.db_store.proofs.BitLemmas.{get_contents}
use Rattle.std.proofs.lemmas.List.{length-map, get_or-map}

live_slots : (slot : ℕ) (xs : List Record) (p : ℕ → Bool) → live_rows (slots_from slot xs p) ≡ live_from slot xs p
live_slots slot [] p = refl
live_slots slot (x ∷ xs) p = ap (λ ys. cond (p slot) (x ∷ ys) ys) (live_slots (suc slot) xs p)

-- the live records of the parts are those of the pieces
pub rows_in_parts : (ps : List Piece) → rows_in (map part_of ps) ≡ live_pieces ps
rows_in_parts [] = refl
rows_in_parts (p ∷ ps) =
    ap (λ (xs : List Record). xs ++ rows_in (map part_of ps)) (live_slots 0 p.rows.records (bit_of p.bits))
    ∙ ap (λ (xs : List Record). live_piece p ++ xs) (rows_in_parts ps)

-- a key that stands nowhere
none_here : (b : Bool) (n : ℕ) → cond b 1 0 + n ≡ 0 → (b ≡ false) × (n ≡ 0)
none_here true n e = absurd (omega (arith, e))
none_here false n e = (refl, omega (arith, e))

-- a key that no record has gives no fields
pub times_none : (key : ℕ) (xs : List Record) → times key xs ≡ 0 → fields_in key xs ≡ None
times_none key [] e = refl
times_none key (x ∷ xs) e =
    let two = none_here (x.key == key) (times key xs) e in
    ap (λ b. cond b (Some x.fields) (fields_in key xs)) two.0 ∙ times_none key xs two.1

fewer : (b : Bool) (n : ℕ) → cond b 1 0 + n ≤ 1 → n ≤ 1
fewer true n h = omega (arith, h)
fewer false n h = omega (arith, h)

-- records of which no two have one key are apart
pub apart_from_times : (xs : List Record) → ((key : ℕ) → times key xs ≤ 1) → Apart xs
apart_from_times [] t = tt
apart_from_times (x ∷ xs) t = (
  times_none x.key xs (rest (ap (λ b. cond b 1 0 + times x.key xs) (eq-eqb x.key x.key refl)) (t x.key)),
  apart_from_times xs (λ key. fewer (x.key == key) (times key xs) (t key)),
)
  where
    rest : cond (x.key == x.key) 1 0 + times x.key xs ≡ 1 + times x.key xs → cond (x.key == x.key) 1 0 + times x.key xs ≤ 1 → times x.key xs ≡ 0
    rest e h = omega (arith, e, h)

-- the live records of a relation are its rows, in some order
pub lived_rows_are : (l : Lived) → IsLived l → IsPermutation (rows_in (parts_in l)) (rows_of (contents_in l))
lived_rows_are l is =
    subst (λ (xs : List Record). IsPermutation xs (rows_of (contents_in l))) (sym (rows_in_parts l.pieces))
    (same_fields (live_pieces l.pieces) (rows_of (contents_in l)) (apart_from_times (live_pieces l.pieces) is.apart) (apart_rows (contents_in l))
    (λ q. sym (fields_rows (contents_in l) q ∙ get_contents (live_pieces l.pieces) q)))

-- so are those of each relation of a version
pub live_rows_are : (ls : List Lived) (r : ℕ) → AllLived ls → r < length (table_of ls) → IsPermutation (rows_in (parts_in (lived_at ls r))) (rows_of (relation_at (table_of ls) r))
live_rows_are ls r all h =
    let n = length-map ls contents_in in
    let k : r < length ls = omega (arith, n, h) in
    subst (λ m. IsPermutation (rows_in (parts_in (lived_at ls r))) (rows_of m)) (sym (get_or-map contents_in ls r no_lived finite.empty k)) (lived_rows_are (lived_at ls r) (all r k))
