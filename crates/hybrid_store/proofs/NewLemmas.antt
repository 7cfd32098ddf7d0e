-- What a new store keeps is the new layout, and all that holds of what a store keeps holds of it.
use Rattle.std.proofs.Common.{◌≡◌, ◌⊎◌, inl, inr, true, false, ◌++◌, ℕ, zero, suc, ◌+◌, ◌-◌, ◌^◌, ◌<◌, ◌≤◌, ◌==◌, List, [], ◌∷◌, length, map, get_or, refl, arith, ap, sym, ◌∙◌, subst, Some, None}
use Rattle.std.specs.Prelude.{codes}
use Rattle.std.proofs.lemmas.Bool.{cases_lt}
use Rattle.std.proofs.lemmas.List.{get_or_append_left, get_or_push}
use Rattle.db_value.specs.Relations.{widths_at}
use Rattle.db_value.specs.declared.schema.Relation.{Relation}
use Rattle.db_value.specs.declared.version.VersionPlace.{VersionPlace}
use Rattle.record_page.specs.Page.{Rows}
use Rattle.db_store.specs.Dataset.{root}
use Rattle.db_store.specs.Layout.{by_relation, head_segment, head_row, new_layout}
use Rattle.db_store.specs.LayoutGrowth.{is_head_of}
use Rattle.db_store.specs.LaidOut.{head_at, row_at}
use Rattle.db_store.proofs.LayoutLaw.{same_relations}
use Rattle.hybrid_view.specs.Live.{Lived, piece_at, lived_at}
use Rattle.hybrid_view.specs.RowPlaces.{Shows}
use Rattle.hybrid_view.proofs.EmptyLemmas.{empty_is_lived}
use Rattle.bit_rows.specs.Rows.{KeptRow, kept_row_at, laid_row}
use Rattle.bit_rows.specs.Kept.{KeptLane, no_kept, kept_rows, first_row}
use Rattle.hybrid_view.specs.Deltas.{slots_of}
use Rattle.bit_rows.specs.Short.{shortest}
use Rattle.hybrid_store.specs.Lanes.{segment_of, lane_of, kept_layout}
use Rattle.bit_rows.specs.Segments.{KeptRecords, KeptList, no_list, most_segments, list_at, kept_at}
use Rattle.hybrid_store.specs.New.{first_lived}
use Rattle.hybrid_store.specs.Stored.{head_in, IsKeptAt, IsKept, IsStored}

-- ---- one item more

pub each_more : {X : Type 0} (P : ℕ → X → Type 0) (xs : List X) (x d : X) (i : ℕ) → length xs ≡ i → ((q : ℕ) → q < i → P q (get_or xs q d)) → P i x → (q : ℕ) → q < i + 1 → P q (get_or (xs ++ x ∷ []) q d)
each_more P xs x d i n f e q h = by (cases_lt q i)
  where
    by : (q < i) ⊎ (i ≤ q) → P q (get_or (xs ++ x ∷ []) q d)
    by (inl l) = subst (P q) (sym (get_or_append_left xs (x ∷ []) d q (omega (arith, l, n)))) (f q l)
    by (inr g) = let same : i ≡ q = omega (arith, h, g) in subst (λ k. P k (get_or (xs ++ x ∷ []) k d)) same (subst (P i) (sym (get_or_push xs x d i n)) e)

-- ---- what a new store keeps

-- a head without records
abbrev own : List ℕ → Rows
own ws = record { widths = ws; records = [] }

abbrev first_segment : List ℕ → KeptRecords
first_segment ws = record { head = Some 0; rows = own ws }

headed : (s : ℕ) → s < 1 → is_head_of 0 (head_at (head_segment 0 ∷ []) s) ≡ (s == head_in 0 (head_segment 0 ∷ []))
headed zero h = refl
headed (suc s) h = absurd (omega (arith, h))

shown : (ws : List ℕ) (i : ℕ) → i < 1 → Shows (head_segment 0 ∷ []) 0 (row_at (map laid_row (first_row ∷ [])) i) (piece_at (first_lived (own ws)).pieces i)
shown ws zero h = record { segment = refl; front = refl; bits = λ slot. refl; past = λ slot g. refl }
shown ws (suc i) h = absurd (omega (arith, h))

first_kept : (ws : List ℕ) → IsKeptAt (head_segment 0 ∷ []) ws 0 0 (first_row ∷ []) (first_lived (own ws))
first_kept ws = record {
  own = refl;
  headed = headed;
  short = λ i h. short i h;
  shown = record { count = refl; each = shown ws };
  whole = λ i h e. whole i h;
  lived = empty_is_lived (record { segment = 0; rows = own ws; bits = [] }) refl refl;
  small = λ i h. small i h;
  widths = λ i h. widths i h;
}
  where
    short : (i : ℕ) → i < 1 → map shortest (map slots_of (kept_row_at (first_row ∷ []) i).deltas) ≡ (kept_row_at (first_row ∷ []) i).deltas
    short zero h = refl
    short (suc i) h = absurd (omega (arith, h))

    whole : (i : ℕ) → i < 1 → (piece_at (first_lived (own ws)).pieces i).rows.records ≡ []
    whole zero h = refl
    whole (suc i) h = absurd (omega (arith, h))

    small : (i : ℕ) → i < 1 → length (piece_at (first_lived (own ws)).pieces i).rows.records < 2 ^ 32
    small zero h = omega arith
    small (suc i) h = absurd (omega (arith, h))

    widths : (i : ℕ) → i < 1 → (piece_at (first_lived (own ws)).pieces i).rows.widths ≡ ws
    widths zero h = refl
    widths (suc i) h = absurd (omega (arith, h))

module _ (schema : List Relation) (k : KeptLane) (order : List VersionPlace) (segments : List KeptList)
    (is : k ≡ record { name = codes "master"; origin = root; base = root; seconds = None ∷ []; rows = k.rows; head = k.head; room = k.room })
    (rows : (r : ℕ) → r < length schema → kept_rows k r ≡ first_row ∷ [])
    (lists : (r : ℕ) → r < length schema → list_at segments r ≡ record { head = Some 0; rows = record { widths = widths_at schema r; records = [] } } ∷ []) where
  lane_is : lane_of schema k ≡ record { name = codes "master"; origin = root; base = root; seconds = None ∷ []; rows = by_relation schema (λ r. head_row 0 0 ∷ []) }
  lane_is = λ i. record {
    name = (is i).name;
    origin = (is i).origin;
    base = (is i).base;
    seconds = (is i).seconds;
    rows = same_relations schema (λ r. map laid_row (kept_rows k r)) (λ r. head_row 0 0 ∷ []) [] (λ r h. ap (map laid_row) (rows r h)) i;
  }

  pub new_is : order ≡ root ∷ [] → kept_layout schema (k ∷ []) order segments ≡ new_layout schema
  new_is o = λ i. record {
    schema = schema;
    lanes = lane_is i ∷ [];
    order = o i;
    segments = same_relations schema (λ r. map segment_of (list_at segments r)) (λ r. head_segment 0 ∷ []) [] (λ r h. ap (map segment_of) (lists r h)) i;
  }

  pub new_stored : length segments ≡ length schema → ((r : ℕ) → r < length schema → most_segments ≤ (get_or segments r no_list).room) → length k.rows ≡ length schema → length k.head ≡ length schema
      → ((r : ℕ) → r < length schema → lived_at k.head r ≡ first_lived (record { widths = widths_at schema r; records = [] })) → IsStored schema (k ∷ []) segments
  new_stored wide room rows_wide head_wide lived = record {
    wide = wide;
    room = room;
    few = λ r h. let e = ap (λ (ks : List KeptRecords). length ks) (lists r h) in omega (arith, e);
    widths = λ r s h lt. let e = ap (λ (ks : List KeptRecords). length ks) (lists r h) in ap (λ (ks : List KeptRecords). (kept_at ks s).rows.widths) (lists r h) ∙ one (widths_at schema r) s (omega (arith, e, lt));
    each = each;
  }
    where
      one : (ws : List ℕ) (s : ℕ) → s < 1 → (kept_at (first_segment ws ∷ []) s).rows.widths ≡ ws
      one ws zero h = refl
      one ws (suc s) h = absurd (omega (arith, h))

      at : (r : ℕ) → r < length schema → IsKeptAt (map segment_of (list_at segments r)) (widths_at schema r) 0 (length k.seconds - 1) (kept_rows k r) (lived_at k.head r)
      at r h =
          let n : 0 ≡ length k.seconds - 1 = sym (ap (λ (x : KeptLane). length x.seconds - 1) is) in
          let c : List ℕ = widths_at schema r in
          subst (λ (ks : List KeptRecords). IsKeptAt (map segment_of ks) c 0 (length k.seconds - 1) (kept_rows k r) (lived_at k.head r)) (sym (lists r h))
          (subst (λ m. IsKeptAt (head_segment 0 ∷ []) c 0 m (kept_rows k r) (lived_at k.head r)) n
          (subst (λ (xs : List KeptRow). IsKeptAt (head_segment 0 ∷ []) c 0 0 xs (lived_at k.head r)) (sym (rows r h))
          (subst (λ (l : Lived). IsKeptAt (head_segment 0 ∷ []) c 0 0 (first_row ∷ []) l) (sym (lived r h)) (first_kept c))))

      each : (b : ℕ) → b < 1 → IsKept schema segments b (get_or (k ∷ []) b no_kept)
      each zero h = record { rows = rows_wide; head = head_wide; at = at }
      each (suc b) h = absurd (omega (arith, h))
