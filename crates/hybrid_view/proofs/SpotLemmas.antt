-- The places of live records, one slot and one piece after another.
use Rattle.std.proofs.Common.{◌≡◌, ℕ, suc, ◌+◌, ◌<◌, Bool, true, false, cond, List, [], ◌∷◌, ◌++◌, length, take, drop, get_or, Some, arith, ap, ◌∙◌}
use Rattle.std.proofs.lemmas.List.{append-nil, drop_more, take_more}
use Rattle.std.proofs.lemmas.Grind.{flat_map-append}
use Rattle.db_value.specs.declared.record.Record.{Record}
use Rattle.key_index.specs.declared.changes.SpotChange.{SpotChange}
use Rattle.hybrid_view.specs.Live.{Piece, no_piece, piece_at}
use Rattle.hybrid_view.specs.Spots.{spots_in, spots_of_piece, spots_of_pieces}

spot_first : (b : Bool) (c : SpotChange) (u v : List SpotChange) → u ≡ v → cond b (c ∷ u) u ≡ cond b (c ∷ []) [] ++ v
spot_first true c u v e = ap (λ (ys : List SpotChange). c ∷ ys) e
spot_first false c u v e = e

pub spots_drop : (segment slot : ℕ) (xs : List Record) (p : ℕ → Bool) (z : Record) → slot < length xs → spots_in segment slot (drop slot xs) p ≡ spots_in segment slot (get_or xs slot z ∷ []) p ++ spots_in segment (slot + 1) (drop (slot + 1) xs) p
spots_drop segment slot xs p z h =
    let one : suc slot ≡ slot + 1 = omega arith in
    ap (λ (ys : List Record). spots_in segment slot ys p) (drop_more xs slot z h)
    ∙ spot_first (p slot) (record { key = (get_or xs slot z).key; place = Some (segment, slot) }) (spots_in segment (suc slot) (drop (slot + 1) xs) p) (spots_in segment (slot + 1) (drop (slot + 1) xs) p)
    (ap (λ k. spots_in segment k (drop (slot + 1) xs) p) one)

pub spots_more : (ps : List Piece) (i : ℕ) → i < length ps → spots_of_pieces (take (i + 1) ps) ≡ spots_of_pieces (take i ps) ++ spots_of_piece (piece_at ps i)
spots_more ps i h =
    ap spots_of_pieces (take_more ps i no_piece h)
    ∙ flat_map-append spots_of_piece (take i ps) (piece_at ps i ∷ [])
    ∙ ap (λ (ys : List SpotChange). spots_of_pieces (take i ps) ++ ys) (append-nil (spots_of_piece (piece_at ps i)))
