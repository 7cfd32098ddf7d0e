-- Growth keeps that an image can have the segments and the rows of a layout.
use Rattle.std.proofs.Common.{◌≡◌, ◌≢◌, ◌⊎◌, inl, inr, ℕ, zero, suc, ◌+◌, ◌*◌, ◌<◌, ◌≤◌, ◌==◌, Bool, true, false, cond, ◌&&◌, List, [], ◌∷◌, ◌++◌, map, length, get_or, Option, Some, None, refl, sym, ap, subst, ◌∙◌, arith}
use Rattle.std.specs.Prelude.{nat_lt}
use Rattle.std.specs.List.{All, flat_map, list_all}
use Rattle.std.proofs.lemmas.Bool.{and_parts, eqb-true, leb-true, cases_eq, cases_lt}
use Rattle.std.proofs.lemmas.List.{length-map, length-append, length_push, get_or_past}
use Rattle.std.proofs.lemmas.List.Elements.{All-nil, All-cons, All-append}
use Rattle.db_value.specs.Value.{Value}
use Rattle.db_value.specs.Relations.{widths_at}
use Rattle.db_value.specs.declared.version.VersionPlace.{VersionPlace}
use Rattle.db_value.specs.declared.record.Record.{Record}
use Rattle.db_value.specs.declared.entry.Change.{Change}
use Rattle.db_value.specs.declared.entry.Entry.{Entry}
use Rattle.db_value.specs.declared.entry.Entry.TheVariants.{Commit, Branch as NewBranch}
use Rattle.db_value.specs.declared.schema.Relation.{Relation}
use Rattle.db_store.specs.Dataset.{apply, IsMade}
use Rattle.db_store.specs.Fits.{fits, change_fits, has_fields, has_widths}
use Rattle.db_value.specs.Widths.{meets}
use Rattle.db_store.specs.Growth.{commit_parts, made_from, made_stays}
use Rattle.db_store.specs.Sound.{IsSound}
use Rattle.db_store.specs.Layout.{Segment, Row, Lane, Layout, no_lane, lane_at, records_at, segments_at, rows_at, dataset_in, new_layout, head_segment, head_row, slots_where, bit}
use Rattle.db_store.specs.LayoutGrowth.{is_head_of, put_before, puts, touches, segment_after, row_after, segments_after, last_in, after_commit, internal_if, without_head, segments_with, row_of, carried, rows_with, new_head, rows_begun, with_branch, is_last, grow_layout}
use Rattle.db_store.specs.LaidOut.{row_at, IsLaid}
use Rattle.db_store.proofs.SegmentLemmas.{at_relation}
use Rattle.db_store.proofs.LayoutLaw.{count_is, lanes_there, made_there, layout_law}
use Rattle.db_image.specs.Imaged.{IsNamed, IsBlank, IsFilled, last_at, HasOrigins, HasSegments, AreInOrder, IsImaged}
use Rattle.hybrid_store.specs.declared.parts.BranchPart.{BranchPart}
use Rattle.db_image.specs.Rules.{EachNext, onto, IsNextRelation}
use Rattle.db_image.proofs.OrderKept.{own_lane, other_lane, own_seconds, count, same, same_part, same_seconds, wide_count, new_lane, source_lane, older_lane, new_in_order, stays_in_order}
use Rattle.db_image.proofs.LinesKept.{new_lines, lines_stay}

-- ---- lists

all_map : {X Y : Type 0} (P : X → Type 0) (Q : Y → Type 0) (f : X → Y) (xs : List X) → ((x : X) → P x → Q (f x)) → All P xs → All Q (map f xs)
all_map P Q f [] h all = All-nil Q
all_map P Q f (x ∷ xs) h all = All-cons Q (f x) (map f xs) (h x (all 0 x (omega arith))) (all_map P Q f xs h (λ k d l. all (suc k) d (omega (arith, l))))

all_flat : {X Y : Type 0} (Q : Y → Type 0) (f : X → List Y) (xs : List X) → ((x : X) → All Q (f x)) → All Q (flat_map f xs)
all_flat Q f [] h = All-nil Q
all_flat Q f (x ∷ xs) h = All-append Q (f x) (flat_map f xs) (h x) (all_flat Q f xs h)

-- ---- what changes put

-- a record meets widths
abbrev IsWide : List ℕ → Record → Type 0
IsWide ws x = meets ws x.fields ≡ true

puts_are : (schema : List Relation) (cs : List Change) (r : ℕ) → list_all (change_fits schema) cs ≡ true → All (IsWide (widths_at schema r)) (puts cs r) × (length (puts cs r) ≤ length cs)
puts_are schema [] r e = (All-nil (IsWide (widths_at schema r)), omega arith)
puts_are schema (c ∷ cs) r e = at (c.relation == r) refl c.fields own.0 (puts_are schema cs r two.1)
  where
    two : (change_fits schema c ≡ true) × (list_all (change_fits schema) cs ≡ true)
    two = and_parts (change_fits schema c) (list_all (change_fits schema) cs) e

    own : (has_fields (widths_at schema c.relation) c.fields ≡ true) × (has_widths (widths_at schema c.relation) c.fields c.widths ≡ true)
    own = and_parts (has_fields (widths_at schema c.relation) c.fields) (has_widths (widths_at schema c.relation) c.fields c.widths)
        (and_parts (nat_lt c.relation (length schema)) (has_fields (widths_at schema c.relation) c.fields && has_widths (widths_at schema c.relation) c.fields c.widths) two.0).1

    at : (q : Bool) → (c.relation == r) ≡ q → (fields : Option (List Value)) → has_fields (widths_at schema c.relation) fields ≡ true
        → All (IsWide (widths_at schema r)) (puts cs r) × (length (puts cs r) ≤ length cs)
        → All (IsWide (widths_at schema r)) (put_before q c.key fields (puts cs r)) × (length (put_before q c.key fields (puts cs r)) ≤ suc (length cs))
    at true h (Some fields) w rest =
        let n = rest.1 in
        let wide : meets (widths_at schema r) fields ≡ true = subst (λ k. meets (widths_at schema k) fields ≡ true) (eqb-true c.relation r h) w in
        (All-cons (IsWide (widths_at schema r)) (record { key = c.key; fields = fields }) (puts cs r) wide rest.0, omega (arith, n))
    at true h None w rest = let n = rest.1 in (rest.0, omega (arith, n))
    at false h fields w rest = let n = rest.1 in (rest.0, omega (arith, n))

-- ---- heads and deltas

is_head_some : (o : Option ℕ) (b : ℕ) → is_head_of b o ≡ true → o ≡ Some b
is_head_some None b e = absurd cc
is_head_some (Some c) b e = ap (λ k. Some k) (sym (eqb-true b c e))

some_same : (a b : ℕ) → Some a ≡ Some b → a ≡ b
some_same a b e = cc

blank_push : (ds : List (List ℕ)) (d : List ℕ) → 0 < length ds → get_or (ds ++ d ∷ []) 0 [] ≡ get_or ds 0 []
blank_push [] d l = absurd (omega (arith, l))
blank_push (x ∷ xs) d l = refl

-- ---- a commit

module _ (l : Layout) (b : ℕ) (second : Option VersionPlace) (changes : List Change) (laid : IsLaid l) (are : AreInOrder l) (sound : IsSound (dataset_in l)) (h : b < length l.lanes) (room : length (lane_at l b).seconds < 65536) (few : length changes ≤ 65536)
    (fit : list_all (change_fits l.schema) changes ≡ true) (has : HasSegments l) where
  abbrev m : Layout
  m = after_commit l b second changes

  grown : (c : ℕ) → length (lane_at l c).seconds ≤ length (lane_at m c).seconds
  grown c = at (cases_eq c b)
    where
      at : (c ≡ b) ⊎ (c ≢ b) → length (lane_at l c).seconds ≤ length (lane_at (after_commit l b second changes) c).seconds
      at (inl e) = subst (λ k. length (lane_at l k).seconds ≤ length (lane_at (after_commit l b second changes) k).seconds) (sym e)
          (let s = ap (λ (xs : List (Option VersionPlace)). length xs) (own_seconds l b second changes are sound h) in let n = length_push (lane_at l b).seconds second in omega (arith, s, n))
      at (inr n) = let s = ap (λ (x : Lane). length x.seconds) (other_lane l b second changes are sound h c n) in omega (arith, s)

  longer : last_at m b ≡ length (lane_at l b).seconds
  longer = let s = ap (λ (xs : List (Option VersionPlace)). length xs) (own_seconds l b second changes are sound h) in let n = length_push (lane_at l b).seconds second in omega (arith, s, n)

  filled_after : (r : ℕ) (s : Segment) → IsFilled (widths_at l.schema r) (last_at l) s → IsFilled (widths_at l.schema r) (last_at m) (segment_after b (puts changes r) s)
  filled_after r s is = at (is_head_of b s.head) refl
    where
      at : (q : Bool) → is_head_of b s.head ≡ q → IsFilled (widths_at l.schema r) (last_at m) (record { head = s.head; records = cond q (s.records ++ puts changes r) s.records })
      at false e = record {
        wide = is.wide;
        room = λ c g. let a = is.room c g in let n = grown c in omega (arith, a, n);
      }
      at true e =
          let own : s.head ≡ Some b = is_head_some s.head b e in
          let p = puts_are l.schema changes r fit in
          let size = length-append s.records (puts changes r) in
          let a = is.room b own in
          let n = p.1 in
          let k = longer in
          let some = (laid.lanes b h).some in
          record {
            wide = All-append (IsWide (widths_at l.schema r)) s.records (puts changes r) is.wide p.0;
            room = λ c g.
                let same_branch : b ≡ c = some_same b c (sym own ∙ g) in
                subst (λ d. length (s.records ++ puts changes r) ≤ 65536 * last_at m d) same_branch (omega (arith, size, a, n, few, k, some));
          }

  blank_after : (r : ℕ) (rows : List Row) → ((i : ℕ) → i < length rows → 0 < length (row_at rows i).deltas) → All IsBlank rows → All IsBlank (map (row_after (segments_at l.segments r) (segments_at (segments_after l b changes) r) (touches changes r) (last_in (lane_at l b))) rows)
  blank_after r [] some all = All-nil IsBlank
  blank_after r (x ∷ xs) some all =
      All-cons IsBlank (row_after (segments_at l.segments r) (segments_at (segments_after l b changes) r) (touches changes r) (last_in (lane_at l b)) x) (map (row_after (segments_at l.segments r) (segments_at (segments_after l b changes) r) (touches changes r) (last_in (lane_at l b))) xs)
      (λ late. blank_push x.deltas _ (some 0 (omega arith)) ∙ all 0 x (omega arith) late)
      (blank_after r xs (λ i g. some (suc i) (omega (arith, g))) (λ k d g. all (suc k) d (omega (arith, g))))

  segments_now : (r : ℕ) → r < length l.schema → segments_at m.segments r ≡ map (segment_after b (puts changes r)) (segments_at l.segments r)
  segments_now r hr = at_relation l.schema (λ k. map (segment_after b (puts changes k)) (segments_at l.segments k)) r [] hr

  rows_now : (r : ℕ) → r < length l.schema → rows_at (lane_at m b) r ≡ map (row_after (segments_at l.segments r) (segments_at (segments_after l b changes) r) (touches changes r) (last_in (lane_at l b))) (rows_at (lane_at l b) r)
  rows_now r hr =
      ap (λ (x : Lane). rows_at x r) (own_lane l b second changes are sound h)
      ∙ at_relation l.schema (λ k. map (row_after (segments_at l.segments k) (segments_at (segments_after l b changes) k) (touches changes k) (last_in (lane_at l b))) (rows_at (lane_at l b) k)) r [] hr

  pub commit_segments : HasSegments m
  commit_segments = record {
    few = λ r hr.
        let n = ap (λ (xs : List Segment). length xs) (segments_now r hr) in
        let k = length-map (segments_at l.segments r) (segment_after b (puts changes r)) in
        let c = count l b second changes are sound h in
        let f = has.few r hr in
        omega (arith, n, k, c, f);
    filled = λ r hr.
        subst (All (IsFilled (widths_at l.schema r) (last_at m))) (sym (segments_now r hr))
        (all_map (IsFilled (widths_at l.schema r) (last_at l)) (IsFilled (widths_at l.schema r) (last_at m)) (segment_after b (puts changes r)) (segments_at l.segments r) (filled_after r) (has.filled r hr));
    blank = λ c r hc hr. at c r hr (let n = count l b second changes are sound h in omega (arith, n, hc)) (cases_eq c b);
  }
    where
      some : (r : ℕ) → r < length l.schema → (i : ℕ) → i < length (rows_at (lane_at l b) r) → 0 < length (row_at (rows_at (lane_at l b) r) i).deltas
      some r hr i g = let is = ((laid.lanes b h).rows r hr).are i g in let f = is.full in let a = is.begun in omega (arith, f, a)

      at : (c r : ℕ) → r < length l.schema → c < length l.lanes → (c ≡ b) ⊎ (c ≢ b) → All IsBlank (rows_at (lane_at (after_commit l b second changes) c) r)
      at c r hr hc (inl e) = subst (λ k. All IsBlank (rows_at (lane_at (after_commit l b second changes) k) r)) (sym e) (subst (All IsBlank) (sym (rows_now r hr)) (blank_after r (rows_at (lane_at l b) r) (some r hr) (has.blank b r h hr)))
      at c r hr hc (inr n) = subst (λ (x : Lane). All IsBlank (rows_at x r)) (sym (other_lane l b second changes are sound h c n)) (has.blank c r hc hr)

-- ---- a new branch

filled_more : (ws : List ℕ) (last now : ℕ → ℕ) (s : Segment) → ((c : ℕ) → last c ≤ now c) → IsFilled ws last s → IsFilled ws now s
filled_more ws last now s more is = record { wide = is.wide; room = λ c g. let a = is.room c g in let n = more c in omega (arith, a, n) }

filled_without : (ws : List ℕ) (b : ℕ) (now : ℕ → ℕ) (s : Segment) → IsFilled ws now s → IsFilled ws now (without_head b s)
filled_without ws b now s is = at (is_head_of b s.head)
  where
    at : (q : Bool) → IsFilled ws now (internal_if q s)
    at true = record { wide = is.wide; room = λ c g. absurd cc }
    at false = is

filled_head : (ws : List ℕ) (b : ℕ) (now : ℕ → ℕ) → IsFilled ws now (head_segment b)
filled_head ws b now = record { wide = All-nil (IsWide ws); room = λ c g. omega arith }

filled_with : (ws : List ℕ) (b c : ℕ) (last now : ℕ → ℕ) (q : Bool) (ss : List Segment) → ((d : ℕ) → last d ≤ now d) → All (IsFilled ws last) ss → All (IsFilled ws now) (segments_with q b c ss)
filled_with ws b c last now true ss more all =
    All-append (IsFilled ws now) (map (without_head b) ss) (head_segment b ∷ head_segment c ∷ [])
    (all_map (IsFilled ws last) (IsFilled ws now) (without_head b) ss (λ s is. filled_without ws b now s (filled_more ws last now s more is)) all)
    (All-cons (IsFilled ws now) (head_segment b) (head_segment c ∷ []) (filled_head ws b now) (All-cons (IsFilled ws now) (head_segment c) [] (filled_head ws c now) (All-nil (IsFilled ws now))))
filled_with ws b c last now false ss more all =
    All-append (IsFilled ws now) ss (head_segment c ∷ []) (λ k d g. filled_more ws last now (get_or ss k d) more (all k d g))
    (All-cons (IsFilled ws now) (head_segment c) [] (filled_head ws c now) (All-nil (IsFilled ws now)))

length_with : (b c : ℕ) (q : Bool) (ss : List Segment) → length (segments_with q b c ss) ≤ length ss + 2
length_with b c true ss = let n = length-append (map (without_head b) ss) (head_segment b ∷ head_segment c ∷ []) in let m = length-map ss (without_head b) in omega (arith, n, m)
length_with b c false ss = let n = length_push ss (head_segment c) in omega (arith, n)

blank_with : (q : Bool) (n : ℕ) (ss : List Segment) (rows : List Row) → All IsBlank rows → All IsBlank (rows_with q n ss rows)
blank_with true n ss rows all = All-append IsBlank rows (head_row (length ss) n ∷ []) all (All-cons IsBlank (head_row (length ss) n) [] (λ late. refl) (All-nil IsBlank))
blank_with false n ss rows all = all

blank_row : (s : ℕ) (slots : List ℕ) → All IsBlank (row_of s slots)
blank_row s [] = All-nil IsBlank
blank_row s (x ∷ xs) = All-cons IsBlank (record { segment = s; from = 0; deltas = (x ∷ xs) ∷ [] }) [] (λ late. absurd (omega (arith, late))) (All-nil IsBlank)

blank_begun : (q : Bool) (n : ℕ) (ss : List Segment) (rows : List Row) → All IsBlank (rows_begun q n ss rows)
blank_begun q n ss rows =
    All-append IsBlank (flat_map (carried ss n) rows) (head_row (new_head q ss) 0 ∷ []) (all_flat IsBlank (carried ss n) rows (λ row. blank_row row.segment (slots_where (bit row n) (length (records_at ss row.segment)))))
    (All-cons IsBlank (head_row (new_head q ss) 0) [] (λ late. refl) (All-nil IsBlank))

module _ (l : Layout) (q : Bool) (name : List ℕ) (origin : VersionPlace) (are : AreInOrder l) (sound : IsSound (dataset_in l)) (h : origin.branch < length l.lanes) (has : HasSegments l) where
  abbrev wide : Layout
  wide = with_branch l q name origin

  more : (c : ℕ) → last_at l c ≤ last_at wide c
  more c = at (cases_lt c (length l.lanes))
    where
      at : (c < length l.lanes) ⊎ (length l.lanes ≤ c) → last_at l c ≤ last_at (with_branch l q name origin) c
      at (inl g) = let s = ap (λ (xs : List (Option VersionPlace)). length xs) (same_seconds l q name origin are sound h c g) in omega (arith, s)
      at (inr g) = let s = ap (λ (x : Lane). length x.seconds) (get_or_past l.lanes c no_lane g) in omega (arith, s)

  segments_then : (r : ℕ) → r < length l.schema → segments_at wide.segments r ≡ segments_with q origin.branch (length l.lanes) (segments_at l.segments r)
  segments_then r hr = at_relation l.schema (λ k. segments_with q origin.branch (length l.lanes) (segments_at l.segments k)) r [] hr

  blank_then : (c r : ℕ) → r < length l.schema → c < length wide.lanes → All IsBlank (rows_at (lane_at wide c) r)
  blank_then c r hr hc = at (cases_lt c (length l.lanes))
    where
      old : c < length l.lanes → (c ≡ origin.branch) ⊎ (c ≢ origin.branch) → All IsBlank (rows_at (lane_at (with_branch l q name origin) c) r)
      old g (inl e) =
          subst (λ (x : Lane). All IsBlank (rows_at x r)) (sym (source_lane l q name origin are sound h c g e))
          (subst (All IsBlank) (sym (at_relation l.schema (λ k. rows_with q origin.position (segments_at l.segments k) (rows_at (lane_at l origin.branch) k)) r [] hr))
          (blank_with q origin.position (segments_at l.segments r) (rows_at (lane_at l origin.branch) r) (has.blank origin.branch r h hr)))
      old g (inr n) = subst (λ (x : Lane). All IsBlank (rows_at x r)) (sym (older_lane l q name origin are sound h c g n)) (has.blank c r g hr)

      at : (c < length l.lanes) ⊎ (length l.lanes ≤ c) → All IsBlank (rows_at (lane_at (with_branch l q name origin) c) r)
      at (inl g) = old g (cases_eq c origin.branch)
      at (inr g) =
          let e : c ≡ length l.lanes = let n = wide_count l q name origin are sound h in omega (arith, n, g, hc) in
          subst (λ k. All IsBlank (rows_at (lane_at (with_branch l q name origin) k) r)) (sym e)
          (subst (λ (x : Lane). All IsBlank (rows_at x r)) (sym (new_lane l q name origin are sound h))
          (subst (All IsBlank) (sym (at_relation l.schema (λ k. rows_begun q origin.position (segments_at l.segments k) (rows_at (lane_at l origin.branch) k)) r [] hr))
          (blank_begun q origin.position (segments_at l.segments r) (rows_at (lane_at l origin.branch) r))))

  pub branch_segments : HasSegments wide
  branch_segments = record {
    few = λ r hr.
        let n = ap (λ (xs : List Segment). length xs) (segments_then r hr) in
        let k = length_with origin.branch (length l.lanes) q (segments_at l.segments r) in
        let c = wide_count l q name origin are sound h in
        let f = has.few r hr in
        omega (arith, n, k, c, f);
    filled = λ r hr.
        subst (All (IsFilled (widths_at l.schema r) (last_at wide))) (sym (segments_then r hr))
        (filled_with (widths_at l.schema r) origin.branch (length l.lanes) (last_at l) (last_at wide) q (segments_at l.segments r) more (has.filled r hr));
    blank = λ c r hc hr. blank_then c r hr hc;
  }

-- ---- origins

commit_origins : (l : Layout) (b : ℕ) (second : Option VersionPlace) (changes : List Change) (laid : IsLaid l) (are : AreInOrder l) (sound : IsSound (dataset_in l)) → fits (dataset_in l) (Commit b second changes) ≡ true → HasOrigins l → HasOrigins (after_commit l b second changes)
commit_origins l b second changes laid are sound f has = λ c hc.
    let h : b < length l.lanes = lanes_there l b (commit_parts (dataset_in l) b second changes f).there in
    let g : c < length l.lanes = let n = count l b second changes are sound h in omega (arith, n, hc) in
    subst (λ d. IsMade d (lane_at (after_commit l b second changes) c).origin) (sym (layout_law l (Commit b second changes) laid f))
    (subst (IsMade (apply (dataset_in l) (Commit b second changes))) (sym (ap (λ (x : BranchPart). x.origin) (same_part l b second changes are sound h c))) (made_stays (dataset_in l) (Commit b second changes) (lane_at l c).origin (has c g)))

origin_made : (l : Layout) (name : List ℕ) (origin : VersionPlace) → fits (dataset_in l) (NewBranch name origin) ≡ true → IsMade (dataset_in l) origin
origin_made l name origin f = made_from (dataset_in l) origin (and_parts _ _ f).1

branch_origins : (l : Layout) (name : List ℕ) (origin : VersionPlace) (laid : IsLaid l) (are : AreInOrder l) (sound : IsSound (dataset_in l)) → fits (dataset_in l) (NewBranch name origin) ≡ true → HasOrigins l → HasOrigins (with_branch l (is_last l origin) name origin)
branch_origins l name origin laid are sound f has = λ c hc. subst (λ d. IsMade d (lane_at (with_branch l (is_last l origin) name origin) c).origin) (sym (layout_law l (NewBranch name origin) laid f)) (at c hc (cases_lt c (length l.lanes)))
  where
    made : IsMade (dataset_in l) origin
    made = origin_made l name origin f

    there : origin.branch < length l.lanes
    there = (made_there l origin made).0

    at : (c : ℕ) → c < length (with_branch l (is_last l origin) name origin).lanes → (c < length l.lanes) ⊎ (length l.lanes ≤ c) → IsMade (apply (dataset_in l) (NewBranch name origin)) (lane_at (with_branch l (is_last l origin) name origin) c).origin
    at c hc (inl g) =
        subst (IsMade (apply (dataset_in l) (NewBranch name origin))) (sym (same l (is_last l origin) name origin are sound there (λ (x : Lane). x.origin) refl c g)) (made_stays (dataset_in l) (NewBranch name origin) (lane_at l c).origin (has c g))
    at c hc (inr g) =
        let e : c ≡ length l.lanes = let n = wide_count l (is_last l origin) name origin are sound there in omega (arith, n, g, hc) in
        subst (IsMade (apply (dataset_in l) (NewBranch name origin))) (sym (ap (λ k. (lane_at (with_branch l (is_last l origin) name origin) k).origin) e ∙ ap (λ (x : Lane). x.origin) (new_lane l (is_last l origin) name origin are sound there)))
        (made_stays (dataset_in l) (NewBranch name origin) origin made)

-- ---- a new dataset, and an entry

pub new_imaged : (schema : List Relation) → EachNext onto IsNextRelation [] schema → IsImaged (new_layout schema)
new_imaged schema names = record {
  ordered = new_in_order schema;
  relations = names;
  lines = new_lines schema;
  origins = λ b h. only b h;
  segments = record {
    few = λ r hr. let n = ap (λ (xs : List Segment). length xs) (at_relation schema (λ k. head_segment 0 ∷ []) r [] hr) in omega (arith, n);
    filled = λ r hr.
        subst (All (IsFilled (widths_at schema r) (last_at (new_layout schema)))) (sym (at_relation schema (λ k. head_segment 0 ∷ []) r [] hr))
        (All-cons (IsFilled (widths_at schema r) (last_at (new_layout schema))) (head_segment 0) [] (filled_head (widths_at schema r) 0 (last_at (new_layout schema))) (All-nil (IsFilled (widths_at schema r) (last_at (new_layout schema)))));
    blank = λ b r h hr. blank b r h hr;
  };
}
  where
    only : (b : ℕ) → b < 1 → IsMade (dataset_in (new_layout schema)) (lane_at (new_layout schema) b).origin
    only zero h = (omega arith, omega arith)
    only (suc b) h = absurd (omega (arith, h))

    blank : (b r : ℕ) → b < 1 → r < length schema → All IsBlank (rows_at (lane_at (new_layout schema) b) r)
    blank zero r h hr = subst (All IsBlank) (sym (at_relation schema (λ k. head_row 0 0 ∷ []) r [] hr)) (All-cons IsBlank (head_row 0 0) [] (λ late. refl) (All-nil IsBlank))
    blank (suc b) r h hr = absurd (omega (arith, h))

pub imaged_stays : (l : Layout) (e : Entry) → IsLaid l → IsSound (dataset_in l) → fits (dataset_in l) e ≡ true → IsNamed e → IsImaged l → IsImaged (grow_layout l e)
imaged_stays l (Commit b second changes) laid sound f named is =
    let parts = commit_parts (dataset_in l) b second changes f in
    let h : b < length l.lanes = lanes_there l b parts.there in
    let three = and_parts _ _ parts.changes in
    let two = and_parts _ _ three.0 in
    record {
      ordered = stays_in_order l (Commit b second changes) sound f is.ordered;
      relations = is.relations;
      lines = lines_stay l (Commit b second changes) sound f named is.ordered is.lines;
      origins = commit_origins l b second changes laid is.ordered sound f is.origins;
      segments = commit_segments l b second changes laid is.ordered sound h (let c = count_is l b h in let r = parts.room in omega (arith, c, r)) (leb-true (length changes) 65536 two.0) three.1 is.segments;
    }
imaged_stays l (NewBranch name origin) laid sound f named is =
    let there = (made_there l origin (made_from (dataset_in l) origin (and_parts _ _ f).1)).0 in
    record {
      ordered = stays_in_order l (NewBranch name origin) sound f is.ordered;
      relations = is.relations;
      lines = lines_stay l (NewBranch name origin) sound f named is.ordered is.lines;
      origins = branch_origins l name origin laid is.ordered sound f is.origins;
      segments = branch_segments l (is_last l origin) name origin is.ordered sound there is.segments;
    }
