-- An image that is read is spelled so.
use Rattle.std.proofs.Common.{◌≡◌, ℕ, zero, suc, ◌+◌, ◌^◌, ◌<◌, ◌≤◌, true, ◌&&◌, List, [], ◌∷◌, ◌++◌, length, drop, replicate, Result, Ok, refl, sym, ap, subst, ◌∙◌, arith}
use Rattle.std.specs.Prelude.{nat_lt, nat_le, ◌==◌}
use Rattle.std.specs.List.{flat_map, All}
use Rattle.std.proofs.lemmas.List.Elements.{All-cons, All-nil}
use Rattle.std.specs.Int.{w32, to_le_bytes}
use Rattle.std.proofs.lemmas.Bool.{eqb-true}
use Rattle.std.proofs.lemmas.List.{append-nil, length-append, drop_more, nil_from_length, length-drop}
use Rattle.db_value.specs.Relations.{widths_at, no_relation, is_counted}
use Rattle.db_value.proofs.SchemaLemmas.{relation_widths}
use Rattle.db_value.specs.declared.schema.Relation.{Relation}
use Rattle.db_value.specs.declared.version.VersionPlace.{VersionPlace}
use Rattle.image_text.specs.declared.image.Format.{Format}
use Rattle.image_text.specs.declared.image.BranchPart.{BranchPart}
use Rattle.image_text.specs.declared.image.MadeVersion.{MadeVersion}
use Rattle.image_text.specs.declared.image.SegmentPart.{SegmentPart}
use Rattle.image_text.specs.declared.image.Image.{Image}
use Rattle.image_text.specs.Reading.{◌>>=◌, Read, test, repeat, number_at, relations_at, next_branch, branches_at, next_version, versions_at, next_segments, parts_at}
use Rattle.image_text.specs.Spelling.{FitsSegments, AllFit, counted, relations_bytes, branch_bytes, version_bytes, segment_bytes, segments_bytes, spelling}
use Rattle.image_text.specs.Laws.{IsBytes, IsSpelled}
use Rattle.image_text.proofs.Loop.{bind_ok, ok_is}
use Rattle.image_text.proofs.Counted.{tested, relations_counted}
use Rattle.image_text.proofs.Takes.{Takes, Always, Takes-then, joined, one_more_text, wide32, number_takes, relations_take, next_branch_takes, next_version_takes}
use Rattle.image_text.proofs.SegmentLaw.{next_segments_takes}

-- the same, of a list in the state
repeat_on : {S A : Type 0} (P : A → Type 0) (view : S → List A) (spell : A → List ℕ) (item : S → List ℕ → Read S)
    (one : (s : S) (b : List ℕ) (x : S × List ℕ) → IsBytes b → item s b ≡ Ok x → (a : A) × (view x.0 ≡ view s ++ a ∷ []) × Takes b (spell a) x.1 × P a)
    (k : ℕ) (s : S) (b : List ℕ) (x : S × List ℕ) → IsBytes b → repeat item k s b ≡ Ok x → (got : List A) × (view x.0 ≡ view s ++ got) × (length got ≡ k) × Takes b (flat_map spell got) x.1 × All P got
unfolding repeat
repeat_on {S} {A} P view spell item one zero s b x fits e =
    subst (λ (y : S × List ℕ). (got : List A) × (view y.0 ≡ view s ++ got) × (length got ≡ 0) × Takes b (flat_map spell got) y.1 × All P got) (ok_is (s, b) x e) ([], sym (append-nil (view s)), refl, record { parts = refl; rest_fits = fits }, All-nil P)
repeat_on P view spell item one (suc k) s b x fits e =
    let a = bind_ok (item s b) (λ y. repeat item k y.0 y.1) x e in
    let first = one s b a.0 fits a.1 in
    let others = repeat_on P view spell item one k a.0.0 a.0.1 x first.2.rest_fits a.2 in
    let both = Takes-then b (spell first.0) a.0.1 (flat_map spell others.0) x.1 first.2 others.3 in
    (first.0 ∷ others.0, others.1 ∙ joined (view s) (view a.0.0) first.0 others.0 first.1, ap suc others.2, one_more_text spell first.0 others.0 b x.1 both, All-cons P first.0 others.0 first.3 others.4)

counted_is : {A : Type 0} (spell : A → List ℕ) (n : ℕ) (got all : List A) (b n1 r : List ℕ) → Takes b (to_le_bytes w32 n) n1 → all ≡ got → length got ≡ n → Takes n1 (flat_map spell got) r → Takes b (counted spell all) r
counted_is spell n got all b n1 r t0 same len t1 =
    let both = subst (λ (m : ℕ). Takes b (to_le_bytes w32 m ++ flat_map spell got) r) (sym len) (Takes-then b (to_le_bytes w32 n) n1 (flat_map spell got) r t0 t1) in
    subst (λ l. Takes b (counted spell l) r) (sym same) both

counted_few : {A : Type 0} (n : ℕ) (got all : List A) → all ≡ got → length got ≡ n → n < 2 ^ 32 → length all < 2 ^ 32
counted_few n got all same len few = omega (arith, ap length same, len, few)

abbrev IsNamed : BranchPart → Type 0
IsNamed b = length b.name ≤ 32

abbrev done : {A : Type 0} → A → Result A ℕ
done x = Ok x

abbrev no_branches : List BranchPart × List VersionPlace
no_branches = ([], [])

abbrev no_versions : List MadeVersion
no_versions = []

abbrev no_parts : List (List SegmentPart)
no_parts = []

branches_take : (b : List ℕ) (x : (List BranchPart × List VersionPlace) × List ℕ) → IsBytes b → branches_at b ≡ Ok x → Takes b (counted branch_bytes x.0.0) x.1 × (length x.0.0 < 2 ^ 32) × All IsNamed x.0.0
unfolding branches_at
branches_take b x fits e =
    let n = bind_ok (number_at w32 b) (λ n. test (nat_lt 0 n.0 && nat_le n.0 1024) b >>= λ u. repeat next_branch n.0 no_branches n.1) x e in
    let u = bind_ok (test (nat_lt 0 n.0.0 && nat_le n.0.0 1024) b) (λ u. repeat next_branch n.0.0 no_branches n.0.1) x n.2 in
    let t0 = (number_takes w32 (2 ^ 32) wide32 b n.0 fits n.1).0 in
    let t1 = repeat_on IsNamed (λ (s : List BranchPart × List VersionPlace). s.0) branch_bytes next_branch next_branch_takes n.0.0 no_branches n.0.1 x t0.rest_fits u.2 in
    (counted_is branch_bytes n.0.0 t1.0 x.0.0 b n.0.1 x.1 t0 t1.1 t1.2 t1.3, counted_few n.0.0 t1.0 x.0.0 t1.1 t1.2 (number_takes w32 (2 ^ 32) wide32 b n.0 fits n.1).1, subst (λ (l : List BranchPart). All IsNamed l) (sym t1.1) t1.4)

versions_take : (bases : List VersionPlace) (b : List ℕ) (x : (List ℕ × List MadeVersion) × List ℕ) → IsBytes b → versions_at bases b ≡ Ok x → Takes b (counted version_bytes x.0.1) x.1 × (length x.0.1 < 2 ^ 32)
unfolding versions_at
versions_take bases b x fits e =
    let n = bind_ok (number_at w32 b) (λ n. repeat (next_version bases) n.0 (replicate (length bases) 0, no_versions) n.1) x e in
    let t0 = (number_takes w32 (2 ^ 32) wide32 b n.0 fits n.1).0 in
    let t1 = repeat_on Always (λ (s : List ℕ × List MadeVersion). s.1) version_bytes (next_version bases) (next_version_takes bases) n.0.0 (replicate (length bases) 0, no_versions) n.0.1 x t0.rest_fits n.2 in
    (counted_is version_bytes n.0.0 t1.0 x.0.1 b n.0.1 x.1 t0 t1.1 t1.2 t1.3, counted_few n.0.0 t1.0 x.0.1 t1.1 t1.2 (number_takes w32 (2 ^ 32) wide32 b n.0 fits n.1).1)

one_relation_text : (rs : List Relation) (i : ℕ) (first : List SegmentPart) (others : List (List SegmentPart)) (b b1 r : List ℕ) → i < length rs → Takes b (counted (segment_bytes (widths_at rs i)) first) b1
    → Takes b1 (segments_bytes (drop (i + 1) rs) others) r → Takes b (segments_bytes (drop i rs) (first ∷ others)) r
one_relation_text rs i first others b b1 r lt t0 t1 =
    rw (drop_more rs i no_relation lt) (Takes-then b (counted (segment_bytes (widths_at rs i)) first) b1 (segments_bytes (drop (i + 1) rs) others) r t0 t1)

one_relation_fits : (rs : List Relation) (i : ℕ) (first : List SegmentPart) (others : List (List SegmentPart)) → i < length rs → FitsSegments (widths_at rs i) first → AllFit (drop (i + 1) rs) others → AllFit (drop i rs) (first ∷ others)
one_relation_fits rs i first others lt one more = rw (drop_more rs i no_relation lt) (one, more)

segments_take : (rs : List Relation) (lasts : List ℕ) (k : ℕ) (s : List (List SegmentPart)) (b : List ℕ) (x : List (List SegmentPart) × List ℕ) → is_counted rs ≡ true → k + length s ≡ length rs → IsBytes b → repeat (next_segments rs lasts) k s b ≡ Ok x
    → (got : List (List SegmentPart)) × (x.0 ≡ s ++ got) × Takes b (segments_bytes (drop (length s) rs) got) x.1 × (length got ≡ k) × AllFit (drop (length s) rs) got
unfolding repeat
segments_take rs lasts zero s b x counted_rs len fits e =
    let none : drop (length s) rs ≡ [] = nil_from_length (drop (length s) rs) (omega (arith, length-drop (length s) rs, len)) in
    let text : Takes b (segments_bytes (drop (length s) rs) []) b = rw none (record { parts = refl; rest_fits = fits }) in
    subst (λ (y : List (List SegmentPart) × List ℕ). (got : List (List SegmentPart)) × (y.0 ≡ s ++ got) × Takes b (segments_bytes (drop (length s) rs) got) y.1 × (length got ≡ 0) × AllFit (drop (length s) rs) got) (ok_is (s, b) x e) ([], sym (append-nil s), text, refl, rw none tt)
segments_take rs lasts (suc k) s b x counted_rs len fits e =
    let a = bind_ok (next_segments rs lasts s b) (λ y. repeat (next_segments rs lasts) k y.0 y.1) x e in
    let lt : length s < length rs = omega (arith, len) in
    let first = next_segments_takes rs lasts s (relation_widths rs (length s) counted_rs lt) b a.0 fits a.1 in
    let more : length a.0.0 ≡ length s + 1 = ap (λ (l : List (List SegmentPart)). length l) first.1 ∙ length-append s (first.0 ∷ []) in
    let others = segments_take rs lasts k a.0.0 a.0.1 x counted_rs (omega (arith, more, len)) first.2.rest_fits a.2 in
    let behind : Takes a.0.1 (segments_bytes (drop (length s + 1) rs) others.0) x.1 = subst (λ (i : ℕ). Takes a.0.1 (segments_bytes (drop i rs) others.0) x.1) more others.2 in
    (first.0 ∷ others.0, others.1 ∙ joined s a.0.0 first.0 others.0 first.1, one_relation_text rs (length s) first.0 others.0 b a.0.1 x.1 lt first.2 behind, ap suc others.3, one_relation_fits rs (length s) first.0 others.0 lt first.3 (subst (λ (i : ℕ). AllFit (drop i rs) others.0) more others.4))

whole_text : (format : Format) (i : Image) (b b1 b2 b3 r : List ℕ) → Takes b (relations_bytes format i.relations) b1 → Takes b1 (counted branch_bytes i.branches) b2 → Takes b2 (counted version_bytes i.versions) b3 → (got : List (List SegmentPart)) → i.segments ≡ got
    → Takes b3 (segments_bytes i.relations got) r → length r ≡ 0 → b ≡ spelling format i
unfolding spelling
whole_text format i b b1 b2 b3 r t0 t1 t2 got same t3 none =
    let t3' : Takes b3 (segments_bytes i.relations i.segments) r = subst (λ (l : List (List SegmentPart)). Takes b3 (segments_bytes i.relations l) r) (sym same) t3 in
    let e2 = Takes-then b2 (counted version_bytes i.versions) b3 (segments_bytes i.relations i.segments) r t2 t3' in
    let e1 = Takes-then b1 (counted branch_bytes i.branches) b2 (counted version_bytes i.versions ++ segments_bytes i.relations i.segments) r t1 e2 in
    let e0 = Takes-then b (relations_bytes format i.relations) b1 (counted branch_bytes i.branches ++ (counted version_bytes i.versions ++ segments_bytes i.relations i.segments)) r t0 e1 in
    e0.parts ∙ ap (λ (l : List ℕ). (relations_bytes format i.relations ++ (counted branch_bytes i.branches ++ (counted version_bytes i.versions ++ segments_bytes i.relations i.segments))) ++ l) (nil_from_length r none) ∙ append-nil (relations_bytes format i.relations ++ (counted branch_bytes i.branches ++ (counted version_bytes i.versions ++ segments_bytes i.relations i.segments)))

pub parts_are : (format : Format) (b : List ℕ) (x : Image × List ℕ) → IsBytes b → parts_at format b ≡ Ok x → IsSpelled format b x.0
unfolding parts_at
parts_are format b x fits e =
    let relations = bind_ok (relations_at format b) (λ relations. branches_at relations.1 >>= λ branches. versions_at branches.0.1 branches.1 >>= λ versions. repeat (next_segments relations.0 versions.0.0) (length relations.0) no_parts versions.1 >>= λ segments. test (length segments.1 == 0) segments.1 >>= λ ended. Ok (record { relations = relations.0; branches = branches.0.0; versions = versions.0.1; segments = segments.0 }, versions.0.0)) x e in
    let branches = bind_ok (branches_at relations.0.1) (λ branches. versions_at branches.0.1 branches.1 >>= λ versions. repeat (next_segments relations.0.0 versions.0.0) (length relations.0.0) no_parts versions.1 >>= λ segments. test (length segments.1 == 0) segments.1 >>= λ ended. Ok (record { relations = relations.0.0; branches = branches.0.0; versions = versions.0.1; segments = segments.0 }, versions.0.0)) x relations.2 in
    let versions = bind_ok (versions_at branches.0.0.1 branches.0.1) (λ versions. repeat (next_segments relations.0.0 versions.0.0) (length relations.0.0) no_parts versions.1 >>= λ segments. test (length segments.1 == 0) segments.1 >>= λ ended. Ok (record { relations = relations.0.0; branches = branches.0.0.0; versions = versions.0.1; segments = segments.0 }, versions.0.0)) x branches.2 in
    let segments = bind_ok (repeat (next_segments relations.0.0 versions.0.0.0) (length relations.0.0) no_parts versions.0.1) (λ segments. test (length segments.1 == 0) segments.1 >>= λ ended. Ok (record { relations = relations.0.0; branches = branches.0.0.0; versions = versions.0.0.1; segments = segments.0 }, versions.0.0.0)) x versions.2 in
    let ended = bind_ok (test (length segments.0.1 == 0) segments.0.1) (λ ended. Ok (record { relations = relations.0.0; branches = branches.0.0.0; versions = versions.0.0.1; segments = segments.0.0 }, versions.0.0.0)) x segments.2 in
    let r0 = relations_take format b relations.0 fits relations.1 in
    let t0 = r0.0 in
    let r1 = branches_take relations.0.1 branches.0 t0.rest_fits branches.1 in
    let t1 = r1.0 in
    let r2 = versions_take branches.0.0.1 branches.0.1 versions.0 t1.rest_fits versions.1 in
    let t2 = r2.0 in
    let t3 = segments_take relations.0.0 versions.0.0.0 (length relations.0.0) no_parts versions.0.1 segments.0 (relations_counted format b relations.0.0 relations.0.1 relations.1) (omega arith) t2.rest_fits segments.1 in
    subst (λ (y : Image × List ℕ). IsSpelled format b y.0) (ok_is (record { relations = relations.0.0; branches = branches.0.0.0; versions = versions.0.0.1; segments = segments.0.0 }, versions.0.0.0) x ended.2)
    (record {
      fits = record {
        relations_few = r0.1;
        relations = r0.2;
        branches_few = r1.1;
        branches = r1.2;
        versions_few = r2.1;
        same_count = ap (λ (l : List (List SegmentPart)). length l) t3.1 ∙ t3.3;
        segments = subst (λ (l : List (List SegmentPart)). AllFit relations.0.0 l) (sym t3.1) t3.4;
      };
      same = whole_text format (record { relations = relations.0.0; branches = branches.0.0.0; versions = versions.0.0.1; segments = segments.0.0 }) b relations.0.1 branches.0.1 versions.0.1 segments.0.1 t0 t1 t2 t3.0 t3.1 t3.2 (eqb-true (length segments.0.1) 0 (tested _ segments.0.1 ended.0 ended.1));
    })
