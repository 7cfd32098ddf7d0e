-- An image can be of the layout that an image which is read stands for.
use Rattle.std.proofs.Common.{◌≡◌, ◌≢◌, ◌⊎◌, inl, inr, ℕ, zero, suc, ◌+◌, ◌-◌, ◌*◌, ◌^◌, ◌<◌, ◌≤◌, ◌==◌, Bool, true, false, cond, ◌&&◌, ◌||◌, List, [], ◌∷◌, ◌++◌, map, filter, take, length, replicate, get_or, Option, Some, None, Result, Ok, Err, refl, sym, ap, subst, ◌∙◌, arith}
use Rattle.std.specs.Prelude.{set}
use Rattle.std.specs.List.{All, list_all, range_with_len}
use Rattle.std.proofs.lemmas.Bool.{and_parts, eqb-true, ne_eqb, cases_eq, ltb-true, leb-true}
use Rattle.std.proofs.lemmas.List.{length_push, length-set, length-replicate, get_or-map, get_or-set_same, get_or-set_other}
use Rattle.std.proofs.lemmas.List.Elements.{All-nil, All-append, All-map, All-filter}
use Rattle.std.proofs.lemmas.List.FromFn.{get_or-map-range_with_len}
use Rattle.plain_bits.specs.Truth.{bit_of}
use Rattle.db_value.specs.Relations.{widths_at}
use Rattle.db_value.proofs.SchemaLemmas.{columns_widths}
use Rattle.db_value.specs.declared.schema.Column.{Column}
use Rattle.db_value.specs.declared.schema.Relation.{Relation}
use Rattle.record_page.specs.Page.{capacity}
use Rattle.record_page.proofs.Pages.{capacity_some}
use Rattle.db_value.specs.declared.version.VersionPlace.{VersionPlace}
use Rattle.db_store.specs.Dataset.{Dataset, IsMade}
use Rattle.db_store.specs.Sound.{IsSound}
use Rattle.db_store.specs.Layout.{Lane, Layout, lane_at, segments_at, dataset_in}
use Rattle.hybrid_view.specs.Deltas.{slots_of}
use Rattle.hybrid_store.specs.declared.parts.BranchPart.{BranchPart as BranchLaid}
use Rattle.hybrid_store.specs.declared.parts.RowPart.{RowPart as RowLaid}
use Rattle.hybrid_store.specs.declared.parts.LayoutParts.{LayoutParts}
use Rattle.hybrid_store.specs.Readers.{made_version}
use Rattle.hybrid_store.specs.Parts.{segment_laid, row_laid, rows_from, no_branch_part, layout_of_parts}
use Rattle.image_text.specs.declared.image.Format.{Format}
use Rattle.image_text.specs.declared.image.BranchPart.{BranchPart}
use Rattle.image_text.specs.declared.image.MadeVersion.{MadeVersion}
use Rattle.image_text.specs.declared.image.Delta.{Delta}
use Rattle.image_text.specs.declared.image.RowPart.{RowPart}
use Rattle.image_text.specs.declared.image.SegmentPart.{SegmentPart}
use Rattle.image_text.specs.declared.image.Image.{Image}
use Rattle.image_text.specs.Reading.{base_of, is_earlier, last_of, is_there, are_blank, has_room, parts_at}
use Rattle.image_text.proofs.Loop.{bind_ok}
use Rattle.image_text.proofs.Counted.{both_true}
use Rattle.image_parts.specs.Whole.{are_made, heads_once, keys_once, delta_bit, is_whole, image_at}
use Rattle.db_image.specs.Parts.{branch_part, version_part, bits_of, row_part, head_part, segment_part, parts_of}
use Rattle.db_image.specs.Images.{branches_image, version_image, versions_image}
use Rattle.db_image.specs.Imaged.{HasLines, HasOrigins, IsFilled, last_at, IsBlank, HasSegments, IsImaged}
use Rattle.db_image.specs.Rules.{EachNext, after, onto, IsNextRelation, IsPlace, branch_next, IsNextBranch, version_next, IsSecond, IsNextVersion, branches_seen}
use Rattle.db_image.proofs.BranchesRead.{no_branch}
use Rattle.db_image.proofs.VersionsRead.{zero_at, begun_is}
use Rattle.db_image.proofs.SegmentsRead.{IsSegment}
use Rattle.db_image.proofs.Read.{parts_read, whole_ok, IsImage}
use Rattle.db_image.proofs.ReadWhole.{relation_counted, branches_are as seen_branches, versions_are as seen_versions}
use Rattle.db_image.proofs.RulesSteps.{Keeps, first_read, if_tested, all_read}
use Rattle.db_image.proofs.RulesLines.{relations_kept, IsBranchNext, AreBranchesOf, branches_kept, IsParent, IsVersionNext, AreVersionsOf, versions_kept}
use Rattle.db_image.proofs.RulesRows.{IsBlankRow, IsRoomy, all_segments_kept}
use Rattle.db_image.proofs.Heads.{all_at}
use Rattle.db_image.proofs.Bits.{bits_counted}
use Rattle.db_image.proofs.Slots.{clear_words}
use Rattle.db_image.proofs.Sound.{lanes_are, lasts_are, lane_is, counted, made, sound}
use Rattle.db_image.proofs.RowsLaid.{length_laid}
use Rattle.db_image.proofs.Laid.{segments_are, rows_are, there}
use Rattle.db_image.proofs.LayoutBack.{map_twice}
use Rattle.db_image.proofs.PartsInOrder.{branches_are, versions_are, parts_in_order}

abbrev none_read : List SegmentPart
none_read = []

-- ---- what is read

-- the parts keep their rules, but for how great their numbers are
record AreRuled (i : Image) (lasts : List ℕ) : Type 0 where
  relations : EachNext onto IsNextRelation [] i.relations
  branches : EachNext branch_next IsBranchNext ([], []) i.branches
  versions : EachNext version_next (IsVersionNext (branches_seen i).1) (replicate (length (branches_seen i).1) 0, []) i.versions
  segments : All (λ ss. All (IsRoomy lasts) ss) i.segments

-- a page has room for a record of each relation
some_room : (seen rs : List Relation) → EachNext onto IsNextRelation seen rs → (r : ℕ) → 0 < capacity (widths_at rs r)
some_room seen [] each zero = omega arith
some_room seen [] each (suc r) = omega arith
some_room seen (x ∷ rs) each zero = capacity_some (map (λ (c : Column). c.width) x.columns) (columns_widths x (relation_counted seen x each.0))
some_room seen (x ∷ rs) each (suc r) = some_room (seen ++ x ∷ []) rs each.1 r

are_ruled : (rs : List Relation) (bs : (List BranchPart × List VersionPlace) × List ℕ) (vs : (List ℕ × List MadeVersion) × List ℕ) (sss : List (List SegmentPart)) → EachNext onto IsNextRelation [] rs → AreBranchesOf bs → AreVersionsOf bs.0.1 vs
    → All (λ ss. All (IsRoomy vs.0.0) ss) sss → AreRuled (record { relations = rs; branches = bs.0.0; versions = vs.0.1; segments = sss }) vs.0.0
are_ruled rs bs vs sss relations branches versions segments =
    let same_branches : bs.0.0 ≡ branches.0 = ap (λ y. y.0) branches.1 ∙ seen_branches [] [] branches.0 in
    let same_versions : vs.0.1 ≡ versions.0 = ap (λ y. y.1) versions.1 ∙ seen_versions (replicate (length bs.0.1) 0) [] versions.0 in
    let seen : after branch_next ([], []) bs.0.0 ≡ bs.0 = ap (after branch_next ([], [])) same_branches ∙ sym branches.1 in
    record {
      relations = relations;
      branches = subst (λ l. EachNext branch_next IsBranchNext ([], []) l) (sym same_branches) branches.2;
      versions =
          subst (λ (y : List BranchPart × List VersionPlace). EachNext version_next (IsVersionNext y.1) (replicate (length y.1) 0, []) vs.0.1) (sym seen)
          (subst (λ l. EachNext version_next (IsVersionNext bs.0.1) (replicate (length bs.0.1) 0, []) l) (sym same_versions) versions.2);
      segments = segments;
    }

parts_ruled : (format : Format) (b : List ℕ) → Keeps (parts_at format b) (λ x. AreRuled x.0 x.1)
unfolding parts_at
parts_ruled format b =
    first_read _ (relations_kept format b) (λ rs relations.
    first_read _ (branches_kept rs.1) (λ bs branches.
    first_read _ (versions_kept bs.0.1 bs.1) (λ vs versions.
    first_read _ (all_segments_kept rs.0 vs.0.0 (some_room [] rs.0 relations) (length rs.0) vs.1) (λ sss segments.
    if_tested (length sss.1 == 0) sss.1 _ (λ ended.
    all_read (record { relations = rs.0; branches = bs.0.0; versions = vs.0.1; segments = sss.0 }, vs.0.0) (are_ruled rs.0 bs vs sss.0 relations branches versions segments))))))

abbrev done : {A : Type 0} → A → Result A ℕ
done x = Ok x

image_kept : (format : Format) (b : List ℕ) (i : Image) → image_at format b ≡ Ok i → (bases : List VersionPlace) × (lasts : List ℕ) × IsImage i bases lasts × AreRuled i lasts
unfolding image_at is_whole
image_kept format b i e =
    let p = bind_ok (parts_at format b) (λ parts. cond (is_whole parts.0 parts.1) (done parts.0) (Err 0)) i e in
    let w = whole_ok (is_whole p.0.0 p.0.1) p.0.0 i p.2 in
    let parts = parts_read format b p.0 p.1 in
    let two = both_true (are_made p.0.1 p.0.0.branches) (list_all (λ (ss : List SegmentPart). heads_once (length p.0.1) ss && keys_once p.0.1 ss) p.0.0.segments) w.0 in
    (parts.0, p.0.1, subst (λ (j : Image). IsImage j parts.0 p.0.1) w.1 (record { parts = parts.1; made = two.0; heads = two.1 }), subst (λ (j : Image). AreRuled j p.0.1) w.1 ((parts_ruled format b).holds p.0 p.1))

map_self : {X : Type 0} (xs : List X) → map (λ x. x) xs ≡ xs
map_self [] = refl
map_self (x ∷ xs) = ap (λ l. x ∷ l) (map_self xs)

-- ---- how great the numbers are

earlier_is : (bs : List BranchPart) (o : ℕ) → is_earlier bs o ≡ true → o < length bs + 1
earlier_is [] o e = let z = eqb-true o 0 e in omega (arith, z)
earlier_is (b ∷ bs) o e = let l = ltb-true o (length (b ∷ bs)) e in omega (arith, l)

-- each branch is made from one before it, and the first one from itself
earlier_at : (s : List BranchPart × List VersionPlace) (bs : List BranchPart) → EachNext branch_next IsBranchNext s bs → (b : ℕ) (d : BranchPart) → b < length bs → (get_or bs b d).origin.branch < length s.0 + b + 1
earlier_at s [] each b d h = absurd (omega (arith, h))
earlier_at s (x ∷ bs) each zero d h = let e = earlier_is s.0 x.origin.branch each.0.earlier in omega (arith, e)
earlier_at s (x ∷ bs) each (suc b) d h =
    let e = earlier_at (branch_next s x) bs each.1 b d (omega (arith, h)) in
    let n = length_push s.0 x in
    omega (arith, e, n)

branches_fit : (s : List BranchPart × List VersionPlace) (bs : List BranchPart) → EachNext branch_next IsBranchNext s bs → All (λ (x : BranchPart). IsPlace x.origin) bs → EachNext branch_next IsNextBranch s bs
branches_fit s [] each all = tt
branches_fit s (x ∷ bs) each all = (
  record { name = each.0.name; turn = each.0.turn; origin = all 0 x (omega arith); earlier = each.0.earlier; position = each.0.position },
  branches_fit (branch_next s x) bs each.1 (λ k d l. all (suc k) d (omega (arith, l))),
)

bases_count : (s : List BranchPart × List VersionPlace) (bs : List BranchPart) → length (after branch_next s bs).1 ≡ length s.1 + length bs
bases_count s [] = omega arith
bases_count s (x ∷ bs) = let e = bases_count (branch_next s x) bs in let n = length_push s.1 (base_of s.1 x.origin) in omega (arith, e, n)

second_fits : (bases : List VersionPlace) (lasts : List ℕ) (o : Option VersionPlace) → length lasts < 2 ^ 32 → ((c : ℕ) → last_of lasts c ≤ 65535) → IsParent bases lasts o → IsSecond bases lasts o
second_fits bases lasts None few low is = tt
second_fits bases lasts (Some at) few low is =
    let b = (begun_is bases lasts at.branch is.0).0 in
    let p = is.1 in
    let m = low at.branch in
    (record { branch = omega (arith, b, few); position = omega (arith, p, m) }, is.0, is.1)

versions_fit : (bases : List VersionPlace) (s : List ℕ × List MadeVersion) (vs : List MadeVersion) → length s.0 < 2 ^ 32 → ((c : ℕ) → last_of s.0 c ≤ 65535) → EachNext version_next (IsVersionNext bases) s vs → EachNext version_next (IsNextVersion bases) s vs
versions_fit bases s [] few low each = tt
versions_fit bases s (v ∷ vs) few low each = (
  record { branch = (let b = there in omega (arith, b, few)); begun = each.0.begun; few = each.0.few; second = second_fits bases s.0 v.second few low each.0.second },
  versions_fit bases (version_next s v) vs (let n = length-set s.0 v.branch (last_of s.0 v.branch + 1) in omega (arith, n, few)) (λ c. low_then c (cases_eq c v.branch)) each.1,
)
  where
    there : v.branch < length s.0
    there = (begun_is bases s.0 v.branch each.0.begun).0

    low_then : (c : ℕ) → (c ≡ v.branch) ⊎ (c ≢ v.branch) → last_of (set s.0 v.branch (last_of s.0 v.branch + 1)) c ≤ 65535
    low_then c (inl e) =
        subst (λ k. last_of (set s.0 v.branch (last_of s.0 v.branch + 1)) k ≤ 65535) (sym e)
        (let n = get_or-set_same s.0 v.branch (last_of s.0 v.branch + 1) 0 there in let f = each.0.few in omega (arith, n, f))
    low_then c (inr n) = subst (λ k. k ≤ 65535) (sym (get_or-set_other s.0 v.branch c (last_of s.0 v.branch + 1) 0 n)) (low c)

-- ---- rows

none_where : (p : ℕ → Bool) (n a : ℕ) → ((k : ℕ) → a ≤ k → k < a + n → p k ≡ false) → filter p (range_with_len a n) ≡ []
none_where p zero a h = refl
none_where p (suc n) a h =
    ap (λ q. cond q (a ∷ filter p (range_with_len (a + 1) n)) (filter p (range_with_len (a + 1) n))) (h a (omega arith) (omega arith))
    ∙ none_where p n (a + 1) (λ k g l. h k (omega (arith, g)) (omega (arith, l)))

-- a delta without words changes no slot
no_slots : (size : ℕ) (d : Delta) → length d.words ≡ 0 → slots_of (bits_of size d) ≡ []
no_slots size d e =
    let n = bits_counted size d in
    none_where (bit_of (bits_of size d)) (length (bits_of size d)) 0
    (λ k g l. get_or-map-range_with_len (delta_bit d) 0 size k k false (omega (arith, n, l)) (omega arith) ∙ clear_words d k e)

first_blank : (size : ℕ) (ds : List Delta) → are_blank (take 1 ds) ≡ true → get_or (map slots_of (map (bits_of size) ds)) 0 [] ≡ []
first_blank size [] e = refl
first_blank size (d ∷ ds) e = no_slots size d (eqb-true (length d.words) 0 (and_parts (length d.words == 0) true e).0)

blank_row : (size k : ℕ) (x : RowPart) → IsBlankRow x → IsBlank (row_laid k (row_part size x))
blank_row size k x is later =
    let no : (x.from == 0) ≡ false = ne_eqb x.from 0 (λ z. omega (arith, z, later)) in
    first_blank size x.deltas (subst (λ q. (q || are_blank (take 1 x.deltas)) ≡ true) no is)

rows_blank : (relations : List Relation) (r b k : ℕ) (lasts : List ℕ) (ss : List SegmentPart) → All (IsRoomy lasts) ss → All IsBlank (rows_from b k (map (segment_part relations r) ss))
rows_blank relations r b k lasts [] all = All-nil IsBlank
rows_blank relations r b k lasts (s ∷ ss) all =
    let size : ℕ = length s.records in
    let own : RowLaid → Bool = λ x. x.branch == b in
    let rows = (all 0 s (omega arith)).rows in
    let each : All (λ (x : RowPart). IsBlank (row_laid k (row_part (length s.records) x))) s.rows = λ j d l. blank_row (length s.records) k (get_or s.rows j d) (rows j d l) in
    let here : All IsBlank (map (row_laid k) (filter own (map (row_part size) s.rows))) =
    All-map IsBlank (row_laid k) (filter own (map (row_part size) s.rows)) (All-filter own (λ (y : RowLaid). IsBlank (row_laid k y)) (map (row_part size) s.rows) (All-map (λ (y : RowLaid). IsBlank (row_laid k y)) (row_part size) s.rows each)) in
    All-append IsBlank (map (row_laid k) (filter own (map (row_part size) s.rows))) (rows_from b (suc k) (map (segment_part relations r) ss)) here
    (rows_blank relations r b (suc k) lasts ss (λ j d l. all (suc j) d (omega (arith, l))))

-- ---- the layout

module _ (i : Image) (bases : List VersionPlace) (lasts : List ℕ) (is : IsImage i bases lasts) (ruled : AreRuled i lasts) where
  abbrev p : LayoutParts
  p = parts_of i

  abbrev l : Layout
  l = layout_of_parts p

  abbrev d : Dataset
  d = dataset_in l

  abbrev n : ℕ
  n = length i.branches

  abbrev read : ℕ → List SegmentPart
  read r = get_or i.segments r none_read

  sound_is : IsSound d
  sound_is = sound i bases lasts is

  below : (b : ℕ) → b < length l.lanes → b < n
  below b h = let e = lanes_are i bases lasts is in omega (arith, e, h)

  abbrev branch_back : BranchLaid → BranchPart
  branch_back x = record { name = x.name; origin = x.origin }

  branches_same : branches_image l ≡ i.branches
  branches_same =
      sym (map_twice branch_back (λ b. record { name = (lane_at l b).name; origin = (lane_at l b).origin }) (range_with_len 0 (length l.lanes)))
      ∙ ap (map branch_back) (branches_are p sound_is)
      ∙ map_twice branch_back branch_part i.branches
      ∙ map_self i.branches

  versions_same : versions_image l ≡ i.versions
  versions_same =
      sym (map_twice version_image (made_version l) (range_with_len 0 (length l.order - 1)))
      ∙ ap (map version_image) (versions_are p sound_is)
      ∙ map_twice version_image version_part i.versions
      ∙ map_self i.versions

  abbrev RuledWith : List BranchPart → List MadeVersion → Type 0
  RuledWith bs vs = EachNext version_next (IsNextVersion (after branch_next ([], []) bs).1) (replicate (length (after branch_next ([], []) bs).1) 0, []) vs

  places : All (λ (x : BranchPart). IsPlace x.origin) i.branches
  places b e h =
      let at : VersionPlace = (get_or i.branches b e).origin in
      let f = is.parts.few in
      let k = earlier_at ([], []) i.branches ruled.branches b e h in
      let t = leb-true at.position (last_of lasts at.branch) (all_at (λ (x : BranchPart). is_there lasts x.origin) i.branches b e is.made h) in
      let m = is.parts.versions.few at.branch in
      record { branch = omega (arith, k, h, f); position = omega (arith, t, m) }

  branches_ruled : EachNext branch_next IsNextBranch ([], []) i.branches
  branches_ruled = branches_fit ([], []) i.branches ruled.branches places

  versions_ruled : RuledWith i.branches i.versions
  versions_ruled =
      let size = length (branches_seen i).1 in
      let f = is.parts.few in
      let k = bases_count ([], []) i.branches in
      let m = length-replicate {A = ℕ} (length (branches_seen i).1) 0 in
      versions_fit (branches_seen i).1 (replicate (length (branches_seen i).1) 0, []) i.versions (omega (arith, m, k, f)) (λ c. subst (λ x. x ≤ 65535) (sym (zero_at (length (branches_seen i).1) c)) (omega arith)) ruled.versions

  lines : HasLines l
  lines = record {
    branches = subst (λ bs. EachNext branch_next IsNextBranch ([], []) bs) (sym branches_same) branches_ruled;
    versions = subst (λ bs. RuledWith bs (versions_image l)) (sym branches_same) (subst (RuledWith i.branches) (sym versions_same) versions_ruled);
  }

  origin_is : (b : ℕ) → b < n → (lane_at l b).origin ≡ (get_or i.branches b no_branch).origin
  origin_is b h = ap (λ (x : Lane). x.origin) (lane_is i bases lasts is b h) ∙ ap (λ (x : BranchLaid). x.origin) (get_or-map branch_part i.branches b no_branch no_branch_part h)

  origins : HasOrigins l
  origins b g =
      let h = below b g in
      let at : VersionPlace = (get_or i.branches b no_branch).origin in
      let e = earlier_at ([], []) i.branches ruled.branches b no_branch h in
      let t = leb-true at.position (last_of lasts at.branch) (all_at (λ (x : BranchPart). is_there lasts x.origin) i.branches b no_branch is.made h) in
      subst (IsMade d) (sym (origin_is b h)) (made i bases lasts is (get_or i.branches b no_branch).origin (omega (arith, e, h)) t)

  read_are : (r : ℕ) → r < length i.relations → All (IsSegment (widths_at i.relations r) lasts) (read r)
  read_are r h = (is.parts.segments r (there i bases lasts is r h)).each

  roomy : (r : ℕ) → r < length i.relations → All (IsRoomy lasts) (read r)
  roomy r h = ruled.segments r none_read (there i bases lasts is r h)

  last_is : (b : ℕ) → b < n → last_at l b ≡ last_of lasts b
  last_is b h = let c = counted i bases lasts is b h in omega (arith, c)

  room_of : (h b count : ℕ) → h ≤ length lasts → has_room lasts h count ≡ true → head_part h ≡ Some b → count ≤ 65536 * last_at l b
  room_of zero b count t room e = absurd cc
  room_of (suc c) b count t room e =
      let same : c ≡ b = cc in
      let few = leb-true count (65536 * last_of lasts c) room in
      let m = lasts_are i bases lasts is in
      let last = last_is c (omega (arith, m, t)) in
      subst (λ k. count ≤ 65536 * last_at l k) same (subst (λ k. count ≤ 65536 * k) (sym last) few)

  filled_one : (r : ℕ) (ws : List ℕ) (s : SegmentPart) → IsSegment ws lasts s → IsRoomy lasts s → IsFilled ws (last_at l) (segment_laid (segment_part i.relations r s))
  filled_one r ws s one roomy_one = record { wide = one.records; room = λ b e. room_of s.head b (length s.records) one.head roomy_one.room e }

  filled : (r : ℕ) → r < length i.relations → All (IsFilled (widths_at i.relations r) (last_at l)) (segments_at l.segments r)
  filled r h =
      let ws : List ℕ = widths_at i.relations r in
      subst (All (IsFilled (widths_at i.relations r) (last_at l))) (sym (segments_are i bases lasts is r h))
      (All-map (IsFilled ws (last_at l)) segment_laid (map (segment_part i.relations r) (read r))
      (All-map (λ s. IsFilled ws (last_at l) (segment_laid s)) (segment_part i.relations r) (read r) (λ k e m. filled_one r ws (get_or (read r) k e) (read_are r h k e m) (roomy r h k e m))))

  segments : HasSegments l
  segments = record {
    few = λ r h.
        let e = ap length (segments_are i bases lasts is r h) in
        let c = length_laid i.relations r (read r) in
        let f = (is.parts.segments r (there i bases lasts is r h)).few in
        let m = lasts_are i bases lasts is in
        let k = lanes_are i bases lasts is in
        omega (arith, e, c, f, m, k);
    filled = filled;
    blank = λ b r g h. subst (All IsBlank) (sym (rows_are i bases lasts is b r (below b g) h)) (rows_blank i.relations r b 0 lasts (read r) (roomy r h));
  }

  imaged : IsImaged l
  imaged = record { ordered = parts_in_order p sound_is; relations = ruled.relations; lines = lines; origins = origins; segments = segments }

pub read_imaged : (format : Format) (b : List ℕ) (i : Image) → image_at format b ≡ Ok i → IsImaged (layout_of_parts (parts_of i))
read_imaged format b i e = let k = image_kept format b i e in imaged i k.0 k.1 k.2 k.3
