-- A second store of the same state keeps what the first one keeps.
use Rattle.std.proofs.Common.{◌≡◌, ℕ, ◌-◌, ◌<◌, List, [], ◌∷◌, length, map, get_or, refl, arith, ap, sym, ◌∙◌, subst}
use Rattle.std.specs.List.{All}
use Rattle.std.proofs.lemmas.List.{length-map, get_or-map}
use Rattle.db_value.specs.Relations.{widths_at}
use Rattle.db_value.specs.declared.schema.Relation.{Relation}
use Rattle.db_value.specs.declared.version.VersionPlace.{VersionPlace}
use Rattle.db_store.specs.Layout.{Lane}
use Rattle.db_store.proofs.LayoutLaw.{same_relations}
use Rattle.hybrid_view.specs.Live.{lived_at}
use Rattle.bit_rows.specs.Kept.{KeptLane, no_kept, kept_rows}
use Rattle.hybrid_store.specs.Lanes.{segment_of, lane_of, kept_layout}
use Rattle.bit_rows.specs.Segments.{KeptRecords, KeptList, no_list, list_at, kept_at, all_of, HasMost}
use Rattle.hybrid_store.specs.Stored.{roomless, IsKeptAt, IsStored}

lanes_roomless : (schema : List Relation) (ks : List KeptLane) → map (lane_of schema) (map roomless ks) ≡ map (lane_of schema) ks
lanes_roomless schema [] = refl
lanes_roomless schema (k ∷ ks) = ap (λ (xs : List Lane). lane_of schema k ∷ xs) (lanes_roomless schema ks)

module _ (schema : List Relation) (lanes news : List KeptLane) (order : List VersionPlace) (segments lists : List KeptList) (same : map roomless news ≡ map roomless lanes) (alls : map all_of lists ≡ map all_of segments) where
  list_same : (r : ℕ) → r < length segments → list_at lists r ≡ list_at segments r
  list_same r h =
      let n = ap (λ (xs : List (List KeptRecords)). length xs) alls in
      let a = length-map lists all_of in
      let b = length-map segments all_of in
      sym (get_or-map all_of lists r no_list [] (omega (arith, h, n, a, b)))
      ∙ ap (λ (xs : List (List KeptRecords)). get_or xs r []) alls
      ∙ get_or-map all_of segments r no_list [] h

  pub same_count : length news ≡ length lanes
  same_count = let n = ap (λ (xs : List KeptLane). length xs) same in let a = length-map news roomless in let b = length-map lanes roomless in omega (arith, n, a, b)

  lane_same : (b : ℕ) → b < length lanes → roomless (get_or news b no_kept) ≡ roomless (get_or lanes b no_kept)
  lane_same b h =
      let n = same_count in
      sym (get_or-map roomless news b no_kept no_kept (omega (arith, h, n)))
      ∙ ap (λ (xs : List KeptLane). get_or xs b no_kept) same
      ∙ get_or-map roomless lanes b no_kept no_kept h

  pub layout_same : length segments ≡ length schema → kept_layout schema news order lists ≡ kept_layout schema lanes order segments
  layout_same wide = λ i. record {
    schema = schema;
    lanes = (sym (lanes_roomless schema news) ∙ ap (map (lane_of schema)) same ∙ lanes_roomless schema lanes) i;
    order = order;
    segments = same_relations schema (λ r. map segment_of (list_at lists r)) (λ r. map segment_of (list_at segments r)) [] (λ r h. ap (map segment_of) (list_same r (omega (arith, h, wide)))) i;
  }

  pub stored_same : All HasMost lists → IsStored schema lanes segments → IsStored schema news lists
  stored_same rooms is =
      let n = ap (λ (xs : List (List KeptRecords)). length xs) alls in
      let a = length-map lists all_of in
      let b = length-map segments all_of in
      let w = is.wide in
      let in_lists : (r : ℕ) → r < length schema → r < length segments = λ r h. omega (arith, h, w) in
      record {
        wide = omega (arith, n, a, b, w);
        room = λ r h. rooms r no_list (omega (arith, h, n, a, b, w));
        few = λ r h. let f = is.few r h in let e = ap (λ (xs : List KeptRecords). length xs) (list_same r (in_lists r h)) in let c = same_count in omega (arith, f, e, c);
        widths = λ r s h lt.
            let e = list_same r (in_lists r h) in
            let k = ap (λ (xs : List KeptRecords). length xs) e in
            ap (λ (xs : List KeptRecords). (kept_at xs s).rows.widths) e ∙ is.widths r s h (omega (arith, lt, k));
        each = λ x h.
            let c = same_count in
            let lt : x < length lanes = omega (arith, h, c) in
            let old : KeptLane = get_or lanes x no_kept in
            let new : KeptLane = get_or news x no_kept in
            let e : roomless old ≡ roomless new = sym (lane_same x lt) in
            let was = is.each x lt in
            record {
              rows = ap (λ (k : KeptLane). length k.rows) (sym e) ∙ was.rows;
              head = ap (λ (k : KeptLane). length k.head) (sym e) ∙ was.head;
              at = λ r g.
                  subst (λ (k : KeptLane). IsKeptAt (map segment_of (list_at lists r)) (widths_at schema r) x (length k.seconds - 1) (kept_rows k r) (lived_at k.head r)) e
                  (subst (λ (xs : List KeptRecords). IsKeptAt (map segment_of xs) (widths_at schema r) x (length old.seconds - 1) (kept_rows old r) (lived_at old.head r)) (sym (list_same r (in_lists r g))) (was.at r g));
            };
      }
