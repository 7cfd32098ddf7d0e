-- A part without records.
use Rattle.std.proofs.Common.{◌≡◌, ℕ, zero, suc, ◌<◌, ◌≤◌, List, [], ◌∷◌, ◌++◌, length, refl, arith, ap, sym, ◌∙◌, None, nat_cmp}
use Rattle.std.specs.FinMap as finite
use Rattle.std.proofs.lemmas.Bool.{and_from, le-leb}
use Rattle.db_value.specs.Value.{Value}
use Rattle.db_value.specs.declared.record.Record.{Record}
use Rattle.plain_bits.specs.Truth.{bit_of}
use Rattle.db_store.specs.Layout.{live_from, contents_of}
use Rattle.db_store.specs.LaidOut.{times}
use Rattle.hybrid_view.specs.Live.{Piece, piece_at, slot_in, place_or, live_pieces, empty_lived, IsLived}

pub empty_is_lived : (p : Piece) → p.rows.records ≡ [] → p.bits ≡ [] → IsLived (empty_lived p)
empty_is_lived p e f = record {
  ascend = and_from _ _ (le-leb 0 p.segment (omega arith)) refl;
  apart = λ key. let t : times key (live_pieces (p ∷ [])) ≡ 0 = ap (times key) none in omega (arith, t);
  placed = λ key. finite.get-empty nat_cmp key ∙ sym (ap (λ (xs : List Record). place_or p.segment (slot_in 0 xs (bit_of p.bits) key) None) e);
  counted = sym (ap (λ (xs : List Record). finite.len (contents_of xs)) none ∙ finite.len-empty nat_cmp (List Value));
  few = omega arith;
  covered = covered;
}
  where
    none : live_pieces (p ∷ []) ≡ []
    none = ap (λ (xs : List Record). live_from 0 xs (bit_of p.bits) ++ []) e

    covered : (i : ℕ) → i < 1 → length (piece_at (p ∷ []) i).bits ≤ length (piece_at (p ∷ []) i).rows.records
    covered zero h = let z = ap length f in omega (arith, z)
    covered (suc i) h = absurd (omega (arith, h))
