-- Segments keep their records as a layout grows.
use Rattle.std.proofs.Common.{◌≡◌, ℕ, ◌<◌, ◌≤◌, ◌&&◌, Bool, true, false, cond, List, [], ◌∷◌, ◌++◌, length, map, take, get_or, refl, arith, ap, sym, ◌∙◌, subst, Some, None, nat_lt, nat_le, zero-add}
use Rattle.std.proofs.lemmas.Bool.{and_parts, and_from, ltb-true, lt-ltb, leb-true, le-leb}
use Rattle.std.proofs.lemmas.Option.{none-some}
use Rattle.std.proofs.lemmas.List.{append-nil, length-append, length-map, get_or-map, get_or_append_left, take-append-le}
use Rattle.std.proofs.lemmas.List.FromFn.{get_or-map-range_with_len, length-map-range_with_len}
use Rattle.db_value.specs.declared.record.Record.{Record}
use Rattle.db_value.specs.declared.schema.Relation.{Relation}
use Rattle.db_value.specs.declared.entry.Entry.{Entry}
use Rattle.db_value.specs.declared.entry.Entry.TheVariants.{Commit, Branch as NewBranch}
use Rattle.db_store.specs.Layout.{Segment, Layout, no_segment, records_at, by_relation, segments_at, head_segment}
use Rattle.db_store.specs.LayoutGrowth.{is_head_of, puts, segment_after, internal_if, without_head, segments_with, is_last, grow_layout}
use Rattle.db_store.specs.State.{segment_records}

-- what is there for a relation
pub at_relation : {X : Type 0} (schema : List Relation) (f : ℕ → X) (r : ℕ) (d : X) → r < length schema → get_or (by_relation schema f) r d ≡ f r
at_relation schema f r d h = get_or-map-range_with_len f 0 (length schema) r r d h (zero-add r)

pub length_by : {X : Type 0} (schema : List Relation) (f : ℕ → X) → length (by_relation schema f) ≡ length schema
length_by schema f = length-map-range_with_len f 0 (length schema)

-- the same segments, with their records and maybe more
pub record Extended (old new : List Segment) : Type 0 where
  pub count : length old ≤ length new
  pub records : (s : ℕ) → s < length old → (rest : List Record) × (records_at new s ≡ records_at old s ++ rest)

pub extended_same : (ss : List Segment) → Extended ss ss
extended_same ss = record { count = omega arith; records = λ s h. ([], sym (append-nil (records_at ss s))) }

after_one : (b : Bool) (xs new : List Record) → (rest : List Record) × (cond b (xs ++ new) xs ≡ xs ++ rest)
after_one true xs new = (new, refl)
after_one false xs new = ([], sym (append-nil xs))

pub extended_after : (b : ℕ) (new : List Record) (ss : List Segment) → Extended ss (map (segment_after b new) ss)
extended_after b new ss = record {
  count = let n = length-map ss (segment_after b new) in omega (arith, n);
  records = λ s h.
      let one = after_one (is_head_of b (get_or ss s no_segment).head) (records_at ss s) new in
      (one.0, ap (λ (x : Segment). x.records) (get_or-map (segment_after b new) ss s no_segment no_segment h) ∙ one.1);
}

internal_records : (q : Bool) (s : Segment) → (internal_if q s).records ≡ s.records
internal_records true s = refl
internal_records false s = refl

-- a head that becomes internal keeps its records
pub without_records : (b : ℕ) (ss : List Segment) (s : ℕ) → s < length ss → records_at (map (without_head b) ss) s ≡ records_at ss s
without_records b ss s h =
    ap (λ (x : Segment). x.records) (get_or-map (without_head b) ss s no_segment no_segment h)
    ∙ internal_records (is_head_of b (get_or ss s no_segment).head) (get_or ss s no_segment)

pub extended_with : (q : Bool) (b c : ℕ) (ss : List Segment) → Extended ss (segments_with q b c ss)
extended_with true b c ss =
    let new : List Segment = head_segment b ∷ head_segment c ∷ [] in
    let n = length-append (map (without_head b) ss) new in
    let m = length-map ss (without_head b) in
    record {
      count = omega (arith, n, m);
      records = λ s h. (
        [],
        ap (λ (x : Segment). x.records) (get_or_append_left (map (without_head b) ss) new no_segment s (omega (arith, m, h))) ∙ without_records b ss s h ∙ sym (append-nil (records_at ss s)),
      );
    }
extended_with false b c ss =
    let n = length-append ss (head_segment c ∷ []) in
    record {
      count = omega (arith, n);
      records = λ s h. ([], ap (λ (x : Segment). x.records) (get_or_append_left ss (head_segment c ∷ []) no_segment s h) ∙ sym (append-nil (records_at ss s)));
    }

-- an entry keeps the segments of a relation
pub segments_keep : (l : Layout) (e : Entry) (r : ℕ) → r < length l.schema → Extended (segments_at l.segments r) (segments_at (grow_layout l e).segments r)
segments_keep l (Commit b second changes) r h =
    subst (Extended (segments_at l.segments r)) (sym (at_relation l.schema (λ k. map (segment_after b (puts changes k)) (segments_at l.segments k)) r [] h))
    (extended_after b (puts changes r) (segments_at l.segments r))
segments_keep l (NewBranch name origin) r h =
    subst (Extended (segments_at l.segments r)) (sym (at_relation l.schema (λ k. segments_with (is_last l origin) origin.branch (length l.lanes) (segments_at l.segments k)) r [] h))
    (extended_with (is_last l origin) origin.branch (length l.lanes) (segments_at l.segments r))

pub schema_stays : (l : Layout) (e : Entry) → (grow_layout l e).schema ≡ l.schema
schema_stays l (Commit b second changes) = refl
schema_stays l (NewBranch name origin) = refl

some_there : (b : Bool) (xs ys : List Record) → cond b (Some xs) None ≡ Some ys → b ≡ true
some_there true xs ys e = refl
some_there false xs ys e = absurd (none-some ys e)

-- and the records of every id
pub records_stay : (l : Layout) (e : Entry) (r s k : ℕ) (xs : List Record) → segment_records l r s k ≡ Some xs → segment_records (grow_layout l e) r s k ≡ Some xs
records_stay l e r s k xs is =
    let there : (nat_lt r (length l.schema) && nat_lt s (length (segments_at l.segments r)) && nat_le k (length (records_at (segments_at l.segments r) s))) ≡ true = some_there _ _ xs is in
    let two = and_parts _ _ there in
    let one = and_parts _ _ two.0 in
    let h : r < length l.schema = ltb-true _ _ one.0 in
    let i : s < length (segments_at l.segments r) = ltb-true _ _ one.1 in
    let m : k ≤ length (records_at (segments_at l.segments r) s) = leb-true _ _ two.1 in
    let keep = segments_keep l e r h in
    let more = keep.records s i in
    let count = ap length more.1 ∙ length-append (records_at (segments_at l.segments r) s) more.0 in
    let wide : r < length (grow_layout l e).schema = subst (λ (x : List Relation). r < length x) (sym (schema_stays l e)) h in
    let is_there : (nat_lt r (length (grow_layout l e).schema) && nat_lt s (length (segments_at (grow_layout l e).segments r)) && nat_le k (length (records_at (segments_at (grow_layout l e).segments r) s))) ≡ true =
    and_from _ _ (and_from _ _ (lt-ltb _ _ wide) (lt-ltb _ _ (let n = keep.count in omega (arith, n, i)))) (le-leb _ _ (omega (arith, count, m))) in
    let same : take k (records_at (segments_at (grow_layout l e).segments r) s) ≡ take k (records_at (segments_at l.segments r) s) = ap (take k) more.1 ∙ take-append-le k (records_at (segments_at l.segments r) s) more.0 m in
    ap (λ q. cond q (Some (take k (records_at (segments_at (grow_layout l e).segments r) s))) None) is_there
    ∙ ap Some same
    ∙ sym (ap (λ q. cond q (Some (take k (records_at (segments_at l.segments r) s))) None) there)
    ∙ is
