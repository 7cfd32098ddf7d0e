-- Branches with more room are the same branches.
use Rattle.std.proofs.Common.{◌≡◌, ℕ, zero, suc, ◌<◌, List, [], ◌∷◌, length, map, set, get_or, refl, arith, ap, sym, ◌∙◌, subst}
use Rattle.std.specs.List.{All, AllZip}
use Rattle.std.proofs.lemmas.List.Elements.{AllZip-get_or, length_all_zip}
use Rattle.db_value.specs.declared.schema.Relation.{Relation}
use Rattle.bit_rows.specs.Kept.{KeptLane, no_kept}
use Rattle.hybrid_store.specs.Lanes.{lane_of}
use Rattle.bit_rows.specs.Segments.{KeptList}
use Rattle.hybrid_store.specs.Stored.{HasRoom, Widens, IsKept, IsStored}

pub zip_set : (old new : List KeptLane) (i : ℕ) (d x : KeptLane) → AllZip Widens old new → Widens (get_or new i d) x → AllZip Widens old (set new i x)
zip_set [] [] i d x h g = h
zip_set [] (j ∷ js) i d x h g = absurd h
zip_set (k ∷ ks) [] i d x h g = absurd h
zip_set (k ∷ ks) (j ∷ js) zero d x h g = ((g.0 ∙ ap (λ (y : KeptLane). record y { room = x.room }) h.0.0, let a = h.0.1 in let b = g.1 in omega (arith, a, b)), h.1)
zip_set (k ∷ ks) (j ∷ js) (suc i) d x h g = (h.0, zip_set ks js i d x h.1 g)

pub zip_same : (ks : List KeptLane) → AllZip Widens ks ks
zip_same [] = tt
zip_same (k ∷ ks) = ((refl, omega arith), zip_same ks)

-- the layout has the same lanes
pub zip_lanes : (schema : List Relation) (old new : List KeptLane) → AllZip Widens old new → map (lane_of schema) new ≡ map (lane_of schema) old
zip_lanes schema [] [] h = refl
zip_lanes schema [] (j ∷ js) h = absurd h
zip_lanes schema (k ∷ ks) [] h = absurd h
zip_lanes schema (k ∷ ks) (j ∷ js) h = λ i. ap (lane_of schema) h.0.0 i ∷ zip_lanes schema ks js h.1 i

-- there is room where there was
pub zip_rooms : (n : ℕ) (old new : List KeptLane) → AllZip Widens old new → All (HasRoom n) old → All (HasRoom n) new
zip_rooms n old new zip rooms k d lt =
    let within : k < length old = let e = length_all_zip Widens old new zip in omega (arith, e, lt) in
    let both = AllZip-get_or Widens old new k d d zip within in
    let room = rooms k d within in
    let same : length (get_or new k d).seconds ≡ length (get_or old k d).seconds = ap (λ (x : KeptLane). length x.seconds) both.0 in
    let more = both.1 in
    omega (arith, more, room, same)

-- and what holds of the branches holds still
pub zip_stored : (schema : List Relation) (old new : List KeptLane) (segments : List KeptList) → AllZip Widens old new → IsStored schema old segments → IsStored schema new segments
zip_stored schema old new segments zip is =
    let n = length_all_zip Widens old new zip in
    record {
      wide = is.wide;
      room = is.room;
      few = λ r h. let f = is.few r h in omega (arith, f, n);
      widths = is.widths;
      each = λ b h.
          let lt : b < length old = omega (arith, h, n) in
          let both = AllZip-get_or Widens old new b no_kept no_kept zip lt in
          let k = is.each b lt in
          subst (IsKept schema segments b) (sym both.0) (record { rows = k.rows; head = k.head; at = k.at });
    }
