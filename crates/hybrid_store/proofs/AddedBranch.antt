-- What holds of a store after a new branch that was ready is installed.
use Rattle.std.proofs.Common.{◌≡◌, ℕ, ◌-◌, ◌<◌, ◌≤◌, true, List, [], ◌∷◌, ◌++◌, length, map, get_or, Option, Some, None, refl, arith, ap, sym, ◌∙◌, subst}
use Rattle.std.specs.Prelude.{IfSome}
use Rattle.std.specs.List.{All}
use Rattle.std.specs.FinMap.{insert}
use Rattle.std.proofs.lemmas.List.{length-map, length-set, map-append}
use Rattle.db_value.specs.Relations.{widths_at}
use Rattle.db_value.specs.Schema.{most_relations}
use Rattle.db_value.specs.declared.schema.Relation.{Relation}
use Rattle.db_value.specs.declared.version.VersionPlace.{VersionPlace}
use Rattle.db_value.specs.declared.entry.Entry.{Entry}
use Rattle.db_value.specs.declared.entry.Entry.TheVariants.{Commit, Branch as NewBranch}
use Rattle.record_page.specs.Page.{Rows}
use Rattle.db_store.specs.Dataset.{Dataset, branch_named, apply, begun as begun_branch}
use Rattle.db_store.specs.Fits.{fits, most_branches}
use Rattle.db_store.specs.Layout.{Segment, Row, Lane, Layout, lane_at, segments_at, rows_at, dataset_in}
use Rattle.db_store.specs.LayoutGrowth.{segments_with, is_last, grow_layout}
use Rattle.db_store.specs.LaidOut.{IsLaid}
use Rattle.db_store.specs.Order.{lineage, IsOrdered}
use Rattle.db_store.specs.Sound.{IsSound}
use Rattle.db_store.specs.State.{laid, grow}
use Rattle.db_store.proofs.LayoutLaw.{layout_law, made_there}
use Rattle.db_store.proofs.NewLayout.{layout_grows}
use Rattle.db_store.proofs.OrderMade.{lineage_branch}
use Rattle.db_store.proofs.SoundLemmas.{branch_parts}
use Rattle.hybrid_view.specs.Live.{lived_at}
use Rattle.store_catalogue.specs.ByName.{Numbers, AreNumbers}
use Rattle.store_catalogue.proofs.BranchLemmas.{numbers_more}
use Rattle.bit_rows.specs.Rows.{laid_row}
use Rattle.bit_rows.specs.Kept.{KeptLane, no_kept, kept_rows}
use Rattle.hybrid_store.specs.Lanes.{segment_of, lane_of, kept_layout}
use Rattle.bit_rows.specs.Segments.{KeptList, no_list, list_at, kept_at, with_head}
use Rattle.hybrid_store.specs.Ready.{no_own}
use Rattle.hybrid_store.specs.ReadyBranch.{Turn, IsBegunAt, IsBegunOf, IsTurnedIf, CanTake, TurnsIf, IsReadyBranch}
use Rattle.std.proofs.lemmas.List.Elements.{All-same, All-set, All-weaker}
use Rattle.hybrid_store.specs.Stored.{HasRoom, kept_dataset, IsKeptAt, IsKept, IsStored}
use Rattle.hybrid_store.proofs.LayoutLemmas.{lane_kept, segments_kept, rows_kept}
use Rattle.hybrid_store.proofs.StoredLemmas.{kept_count}
use Rattle.hybrid_store.proofs.BranchLayout.{branch_layout}
use Rattle.hybrid_store.proofs.BranchStored.{branch_stored}
use Rattle.hybrid_store.proofs.TurnedLemmas.{IsAfter, can_take, is_after, pushed_widths}

-- what is ready for an entry is ready for a new branch
pub record ReadyNew (l : Layout) (b : ℕ) (k : KeptLane) (owns : List Rows) (turned : Option Turn) (e : Entry) : Type 0 where
  pub name : List ℕ
  pub origin : VersionPlace
  pub entry : e ≡ NewBranch name origin
  pub fit : fits (dataset_in l) e ≡ true
  pub new : fits (dataset_in l) (NewBranch name origin) ≡ true
  pub branch : b ≡ origin.branch
  pub begun : IsBegunOf l name origin k owns
  pub turn : IsTurnedIf (is_last l origin) l origin turned

pub new_parts : (l : Layout) (b : ℕ) (k : KeptLane) (owns : List Rows) (turned : Option Turn) (e : Entry) → IsReadyBranch b k owns turned (laid l) e → ReadyNew l b k owns turned e
new_parts l b k owns turned (Commit c second cs) r = absurd r.1
new_parts l b k owns turned (NewBranch name origin) r = record { name = name; origin = origin; entry = refl; fit = r.0; new = r.0; branch = r.1.0; begun = r.1.1.0; turn = r.1.1.1 }

module _ (schema : List Relation) (lanes : List KeptLane) (order : List VersionPlace) (segments : List KeptList) (b : ℕ) (k : KeptLane) (owns : List Rows) (turned : Option Turn)
    (is : IsStored schema lanes segments) (whole : IsLaid (kept_layout schema lanes order segments)) (sound : IsSound (kept_dataset schema lanes order segments)) (narrow : length schema ≤ most_relations)
    (e : Entry) (r : IsReadyBranch b k owns turned (laid (kept_layout schema lanes order segments)) e) where
  abbrev l : Layout
  l = kept_layout schema lanes order segments

  abbrev d : Dataset
  d = kept_dataset schema lanes order segments

  pub parts : ReadyNew (kept_layout schema lanes order segments) b k owns turned e
  parts = new_parts l b k owns turned e r

  abbrev origin : VersionPlace
  origin = parts.origin

  pub lanes_few : length lanes < most_branches
  lanes_few = let f = (branch_parts d parts.name parts.origin parts.new).room in let n = kept_count schema lanes order segments in omega (arith, f, n)

  made : (parts.origin.branch < length (kept_layout schema lanes order segments).lanes)
  made = (made_there l parts.origin (branch_parts d parts.name parts.origin parts.new).made).0

  origin_there : parts.origin.branch < length lanes
  origin_there = let m = made in let n = length-map lanes (lane_of schema) in omega (arith, m, n)

  pub from_there : b < length lanes
  from_there = let t = origin_there in let e2 = parts.branch in omega (arith, t, e2)

  pub takes : IfSome turned (λ t. CanTake b (get_or lanes b no_kept) segments t)
  takes = subst (λ x. IfSome turned (λ t. CanTake x (get_or lanes x no_kept) segments t)) (sym parts.branch) (can_take schema lanes order segments is whole parts.origin origin_there (is_last l parts.origin) turned narrow lanes_few parts.turn)

  pub name_new : branch_named (kept_dataset schema lanes order segments) k.name ≡ None
  name_new = ap (λ (x : KeptLane). branch_named d x.name) parts.begun.lane ∙ (branch_parts d parts.name parts.origin parts.new).new

  module _ (news : List KeptLane) (lists lasts : List KeptList) (turns : TurnsIf b turned lanes segments news lists) where
    after : IsAfter schema lanes segments (is_last (kept_layout schema lanes order segments) parts.origin) parts.origin.branch parts.origin.position news lists
    after = is_after schema lanes order segments is whole parts.origin origin_there (is_last l parts.origin) turned news lists refl parts.turn (subst (λ x. TurnsIf x turned lanes segments news lists) parts.branch turns)

    pub heads_count : length owns ≡ length lists
    heads_count = parts.begun.counted ∙ sym after.long

    pub heads_room : (q : ℕ) → q < length lists → length (list_at lists q) < (get_or lists q no_list).room
    heads_room q h =
        let w = after.long in
        let f = after.few q (omega (arith, h, w)) in
        let x = after.room q (omega (arith, h, w)) in
        let n = lanes_few in
        omega (arith, f, x, n)

    pub news_count : length news ≡ length lanes
    news_count = ap (λ (ks : List KeptLane). length ks) after.others ∙ length-set lanes parts.origin.branch (get_or news parts.origin.branch no_kept)

    pub rooms_after : (n : ℕ) → All (HasRoom n) lanes → All (HasRoom 0) news
    rooms_after n rooms =
        let from : ℕ = parts.origin.branch in
        let new : KeptLane = get_or news from no_kept in
        let old : HasRoom n (get_or lanes from no_kept) = rooms from no_kept origin_there in
        let count = ap (λ (x : KeptLane). length x.seconds) after.lane in
        let room = ap (λ (x : KeptLane). x.room) after.lane in
        All-same (HasRoom 0) _ _ after.others (All-set (HasRoom 0) lanes from new (omega (arith, old, count, room)) (All-weaker (HasRoom n) (HasRoom 0) (λ k h. omega (arith, h)) lanes rooms))

    begun_at : (q : ℕ) → q < length schema
        → IsBegunAt (map segment_of (list_at segments q)) (is_last (kept_layout schema lanes order segments) parts.origin) (widths_at schema q) parts.origin.branch (length lanes) parts.origin.position (map laid_row (kept_rows (get_or lanes parts.origin.branch no_kept) q))
        (kept_rows k q) (lived_at k.head q) (get_or owns q no_own)
    begun_at q g =
        let ws : List ℕ = widths_at schema q in
        let last = is_last l parts.origin in
        let from : ℕ = parts.origin.branch in
        let n : ℕ = parts.origin.position in
        subst (λ (xs : List Segment). IsBegunAt xs last ws from (length lanes) n (map laid_row (kept_rows (get_or lanes from no_kept) q)) (kept_rows k q) (lived_at k.head q) (get_or owns q no_own)) (segments_kept schema lanes order segments q g)
        (subst (λ (rows : List Row). IsBegunAt (segments_at l.segments q) last ws from (length lanes) n rows (kept_rows k q) (lived_at k.head q) (get_or owns q no_own))
        (ap (λ (x : Lane). rows_at x q) (lane_kept schema lanes order segments from origin_there) ∙ rows_kept schema (get_or lanes from no_kept) q g)
        (subst (λ c. IsBegunAt (segments_at l.segments q) last ws from c n (rows_at (lane_at l from) q) (kept_rows k q) (lived_at k.head q) (get_or owns q no_own)) (length-map lanes (lane_of schema)) (parts.begun.at q g)))

    module _ (long : length lasts ≡ length lists) (put : (q : ℕ) → q < length lists → get_or lasts q no_list ≡ with_head (get_or lists q no_list) (length lanes) (get_or owns q no_own)) where
      abbrev old : KeptLane
      old = get_or news parts.origin.branch no_kept

      in_lists : (q : ℕ) → q < length schema → q < length lists
      in_lists q g = let w = after.long in omega (arith, g, w)

      lists_put : (q : ℕ) → q < length schema → map segment_of (list_at lasts q) ≡ segments_with (is_last (kept_layout schema lanes order segments) parts.origin) parts.origin.branch (length lanes) (map segment_of (list_at segments q))
      lists_put q g =
          ap (λ (x : KeptList). map segment_of x.all) (put q (in_lists q g))
          ∙ map-append segment_of (list_at lists q) (record { head = Some (length lanes); rows = get_or owns q no_own } ∷ [])
          ∙ ap (λ (x : Rows). map segment_of (list_at lists q) ++ record { head = Some (length lanes); records = x.records } ∷ []) (begun_at q g).empty
          ∙ after.put q g

      widths : (q s : ℕ) → q < length schema → s < length (list_at lasts q) → (kept_at (list_at lasts q) s).rows.widths ≡ widths_at schema q
      widths q s g lt =
          let n = ap (λ (x : KeptList). length x.all) (put q (in_lists q g)) in
          ap (λ (x : KeptList). (kept_at x.all s).rows.widths) (put q (in_lists q g))
          ∙ pushed_widths (list_at lists q) (record { head = Some (length lanes); rows = get_or owns q no_own }) (widths_at schema q) (λ i h. after.widths q i g h) (ap (λ (x : Rows). x.widths) (begun_at q g).empty) s (omega (arith, lt, n))

      old_kept : IsKept schema lasts parts.origin.branch (get_or news parts.origin.branch no_kept)
      old_kept = record {
        rows = after.rows_count;
        head = after.head_count;
        at = λ q g.
            let ws : List ℕ = widths_at schema q in
            subst (λ (xs : List Segment). IsKeptAt xs ws parts.origin.branch (length old.seconds - 1) (kept_rows old q) (lived_at old.head q)) (sym (lists_put q g))
            (subst (λ n. IsKeptAt (segments_with (is_last l parts.origin) parts.origin.branch (length lanes) (map segment_of (list_at segments q))) ws parts.origin.branch n (kept_rows old q) (lived_at old.head q)) (sym (ap (λ (x : KeptLane). length x.seconds - 1) after.lane)) (after.kept q g));
      }

      new_kept : IsKept schema lasts (length lanes) k
      new_kept = record {
        rows = parts.begun.rows;
        head = parts.begun.head;
        at = λ q g.
            let ws : List ℕ = widths_at schema q in
            subst (λ (xs : List Segment). IsKeptAt xs ws (length lanes) (length k.seconds - 1) (kept_rows k q) (lived_at k.head q)) (sym (lists_put q g))
            (subst (λ n. IsKeptAt (segments_with (is_last l parts.origin) parts.origin.branch (length lanes) (map segment_of (list_at segments q))) ws (length lanes) n (kept_rows k q) (lived_at k.head q)) (sym (ap (λ (x : KeptLane). length x.seconds - 1) parts.begun.lane)) (begun_at q g).kept);
      }

      -- what is kept
      pub branch_is_stored : IsStored schema (news ++ k ∷ []) lasts
      branch_is_stored =
          subst (λ (ks : List KeptLane). IsStored schema (ks ++ k ∷ []) lasts) (sym after.others)
          (branch_stored schema lanes order segments lasts (is_last l parts.origin) parts.origin.branch old k origin_there is whole (long ∙ after.long)
          (λ q g. let x = after.room q g in let y = ap (λ (z : KeptList). z.room) (put q (in_lists q g)) in omega (arith, x, y)) lists_put widths old_kept new_kept)

      pub branch_layout_is : kept_layout schema (news ++ k ∷ []) order lasts ≡ grow_layout (kept_layout schema lanes order segments) e
      branch_layout_is =
          ap (λ (ks : List KeptLane). kept_layout schema (ks ++ k ∷ []) order lasts) after.others
          ∙ branch_layout schema lanes order segments lasts (is_last l parts.origin) parts.name parts.origin old k origin_there after.lane parts.begun.lane after.rows (λ q g. (begun_at q g).begun) lists_put
          ∙ ap (grow_layout l) (sym parts.entry)

      pub branch_state : laid (kept_layout schema (news ++ k ∷ []) order lasts) ≡ grow (laid (kept_layout schema lanes order segments)) e
      branch_state = ap laid branch_layout_is ∙ sym (layout_grows l e whole parts.fit)

      pub branch_dataset : kept_dataset schema (news ++ k ∷ []) order lasts ≡ apply (kept_dataset schema lanes order segments) e
      branch_dataset = ap dataset_in branch_layout_is ∙ layout_law l e whole parts.fit

  pub branch_numbers : (numbers : Numbers) → AreNumbers numbers (kept_dataset schema lanes order segments) → AreNumbers (insert numbers k.name (length lanes)) (apply (kept_dataset schema lanes order segments) e)
  branch_numbers numbers are =
      let name_is : parts.name ≡ k.name = sym (ap (λ (x : KeptLane). x.name) parts.begun.lane) in
      subst (λ (x : Entry). AreNumbers (insert numbers k.name (length lanes)) (apply d x)) (sym parts.entry)
      (subst (λ n. AreNumbers (insert numbers n (length lanes)) (apply d (NewBranch parts.name parts.origin))) name_is
      (subst (λ n. AreNumbers (insert numbers parts.name n) (apply d (NewBranch parts.name parts.origin))) (kept_count schema lanes order segments)
      (numbers_more d (begun_branch d parts.name parts.origin) numbers (branch_parts d parts.name parts.origin parts.new).new are)))

  pub branch_lineage : IsOrdered (kept_dataset schema lanes order segments) → lineage (apply (kept_dataset schema lanes order segments) e) ≡ lineage (kept_dataset schema lanes order segments)
  branch_lineage o = ap (λ (x : Entry). lineage (apply d x)) parts.entry ∙ lineage_branch d parts.name parts.origin sound o
