-- An image that keeps its rules is read from its spelling.
use Rattle.std.proofs.Common.{◌≡◌, ℕ, ◌+◌, ◌<◌, ◌==◌, Bool, true, false, cond, List, [], ◌∷◌, ◌++◌, length, drop, replicate, Result, Ok, Err, refl, sym, ap, subst, ◌∙◌, arith, append_assoc}
use Rattle.std.specs.Prelude.{nat_lt, nat_le, ◌&&◌}
use Rattle.std.specs.List.{list_all}
use Rattle.std.proofs.lemmas.Bool.{and_from, lt-ltb, le-leb}
use Rattle.std.proofs.lemmas.List.{append-nil, drop_more, length_push, nil_from_length, length-drop}
use Rattle.db_value.specs.Relations.{no_relation, has_columns, is_counted}
use Rattle.db_value.specs.Width.{is_width}
use Rattle.db_value.proofs.SchemaLemmas.{relation_widths}
use Rattle.db_value.specs.declared.schema.Column.{Column}
use Rattle.db_value.specs.declared.schema.Relation.{Relation}
use Rattle.db_value.specs.declared.version.VersionPlace.{VersionPlace}
use Rattle.image_text.specs.declared.image.Format.{Format}
use Rattle.image_text.specs.declared.image.BranchPart.{BranchPart}
use Rattle.image_text.specs.declared.image.MadeVersion.{MadeVersion}
use Rattle.image_text.specs.declared.image.SegmentPart.{SegmentPart}
use Rattle.image_text.specs.declared.image.Image.{Image}
use Rattle.image_text.specs.Reading.{◌>>=◌, test, repeat, branches_at, versions_at, next_segments, parts_at}
use Rattle.image_text.specs.Spelling.{counted, branch_bytes, version_bytes, segments_bytes, spelling}
use Rattle.image_parts.specs.Whole.{is_whole, image_at}
use Rattle.db_image.specs.Rules.{EachNext, after, onto, tells, IsNextColumn, IsNextRelation, branch_next, version_next, branches_seen, versions_seen, lasts_of, AreByRelation, IsRuled}
use Rattle.db_image.proofs.ReadSteps.{step, test_is}
use Rattle.db_image.proofs.ReadLines.{relations_back, branches_back, versions_back}
use Rattle.db_image.proofs.ReadRows.{segments_back}

abbrev no_bytes : List ℕ
no_bytes = []

abbrev no_parts : List (List SegmentPart)
no_parts = []

columns_wide : (seen cs : List Column) → EachNext onto IsNextColumn seen cs → list_all (λ c. is_width c.width) cs ≡ true
columns_wide seen [] each = refl
columns_wide seen (c ∷ cs) each = and_from (is_width c.width) (list_all (λ (d : Column). is_width d.width) cs) each.0.width (columns_wide (seen ++ c ∷ []) cs each.1)

-- a relation that keeps its rules has columns of widths
pub relation_counted : (seen : List Relation) (r : Relation) → IsNextRelation seen r → has_columns r ≡ true
relation_counted seen r is =
    and_from (nat_lt 0 (length r.columns)) (nat_le (length r.columns) 15 && list_all (λ (c : Column). is_width c.width) r.columns) (lt-ltb 0 (length r.columns) is.some)
    (and_from (nat_le (length r.columns) 15) (list_all (λ (c : Column). is_width c.width) r.columns) (le-leb (length r.columns) 15 is.few) (columns_wide [] r.columns is.columns))

each_counted : (seen rs : List Relation) → EachNext onto IsNextRelation seen rs → list_all has_columns rs ≡ true
each_counted seen [] each = refl
each_counted seen (r ∷ rs) each = and_from (has_columns r) (list_all has_columns rs) (relation_counted seen r each.0) (each_counted (seen ++ r ∷ []) rs each.1)

-- the segments of the relations from one on
all_back : (relations : List Relation) (lasts : List ℕ) → is_counted relations ≡ true → (seen sss : List (List SegmentPart)) → length seen + length sss ≡ length relations → AreByRelation relations lasts (length seen) sss
    → repeat (next_segments relations lasts) (length sss) seen (segments_bytes (drop (length seen) relations) sss) ≡ Ok (seen ++ sss, no_bytes)
unfolding repeat
all_back relations lasts counted_ seen [] e are =
    let gone : drop (length seen) relations ≡ [] = nil_from_length (drop (length seen) relations) (let n = length-drop (length seen) relations in omega (arith, n, e)) in
    (λ i. Ok (sym (append-nil seen) i, segments_bytes (gone i) no_parts))
all_back relations lasts counted_ seen (ss ∷ sss) e are =
    let here : length seen < length relations = omega (arith, e) in
    let own = relation_widths relations (length seen) counted_ here in
    let split : drop (length seen) relations ≡ _ = drop_more relations (length seen) no_relation here in
    let next : length seen + 1 ≡ length (seen ++ ss ∷ []) = sym (length_push seen ss) in
    ap (λ l. next_segments relations lasts seen (segments_bytes l (ss ∷ sss)) >>= λ y. repeat (next_segments relations lasts) (length sss) y.0 y.1) split
    ∙ step (λ y. repeat (next_segments relations lasts) (length sss) y.0 y.1) (segments_back relations lasts seen ss (segments_bytes (drop (length seen + 1) relations) sss) own are.0)
    ∙ ap (λ n. repeat (next_segments relations lasts) (length sss) (seen ++ ss ∷ []) (segments_bytes (drop n relations) sss)) next
    ∙ all_back relations lasts counted_ (seen ++ ss ∷ []) sss (let n = length_push seen ss in omega (arith, n, e)) (subst (λ n. AreByRelation relations lasts n sss) next are.1)
    ∙ ap (λ l. Ok (l, no_bytes)) (append_assoc seen (ss ∷ []) sss)

-- the branches and the versions are seen as they are
pub branches_are : (parts : List BranchPart) (bases : List VersionPlace) (bs : List BranchPart) → (after branch_next (parts, bases) bs).0 ≡ parts ++ bs
branches_are parts bases [] = sym (append-nil parts)
branches_are parts bases (b ∷ bs) = branches_are (branch_next (parts, bases) b).0 (branch_next (parts, bases) b).1 bs ∙ append_assoc parts (b ∷ []) bs

pub versions_are : (lasts : List ℕ) (seen vs : List MadeVersion) → (after version_next (lasts, seen) vs).1 ≡ seen ++ vs
versions_are lasts seen [] = sym (append-nil seen)
versions_are lasts seen (v ∷ vs) = versions_are (version_next (lasts, seen) v).0 (version_next (lasts, seen) v).1 vs ∙ append_assoc seen (v ∷ []) vs

counted_is : (i : Image) → IsRuled i → is_counted i.relations ≡ true
counted_is i is = and_from _ _ (and_from _ _ (lt-ltb 0 (length i.relations) is.some_relations) (le-leb (length i.relations) 8 is.few_relations)) (each_counted [] i.relations is.relations)

pub parts_back : (format : Format) (i : Image) → IsRuled i → tells format i.relations ≡ true → parts_at format (spelling format i) ≡ Ok (i, lasts_of i)
unfolding parts_at spelling
parts_back format i is told =
    step (λ relations. branches_at relations.1 >>= λ branches. versions_at branches.0.1 branches.1 >>= λ versions. repeat (next_segments relations.0 versions.0.0) (length relations.0) no_parts versions.1 >>= λ segments. test (length segments.1 == 0) segments.1 >>= λ ended. Ok (record { relations = relations.0; branches = branches.0.0; versions = versions.0.1; segments = segments.0 }, versions.0.0)) (relations_back format i.relations (counted branch_bytes i.branches ++ (counted version_bytes i.versions ++ segments_bytes i.relations i.segments)) is.some_relations is.few_relations is.relations told)
    ∙ step (λ branches. versions_at branches.0.1 branches.1 >>= λ versions. repeat (next_segments i.relations versions.0.0) (length i.relations) no_parts versions.1 >>= λ segments. test (length segments.1 == 0) segments.1 >>= λ ended. Ok (record { relations = i.relations; branches = branches.0.0; versions = versions.0.1; segments = segments.0 }, versions.0.0)) (branches_back i.branches (counted version_bytes i.versions ++ segments_bytes i.relations i.segments) is.some_branches is.few_branches is.branches)
    ∙ step (λ versions. repeat (next_segments i.relations versions.0.0) (length i.relations) no_parts versions.1 >>= λ segments. test (length segments.1 == 0) segments.1 >>= λ ended. Ok (record { relations = i.relations; branches = (branches_seen i).0; versions = versions.0.1; segments = segments.0 }, versions.0.0)) (versions_back (branches_seen i).1 i.versions (segments_bytes i.relations i.segments) is.few_versions is.versions)
    ∙ step (λ segments. test (length segments.1 == 0) segments.1 >>= λ ended. Ok (record { relations = i.relations; branches = (branches_seen i).0; versions = (versions_seen i).1; segments = segments.0 }, (versions_seen i).0)) (ap (λ n. repeat (next_segments i.relations (lasts_of i)) n no_parts (segments_bytes i.relations i.segments)) (sym is.same_count) ∙ all_back i.relations (lasts_of i) (counted_is i is) no_parts i.segments (let e = is.same_count in omega (arith, e)) is.segments)
    ∙ step (λ ended. Ok (record { relations = i.relations; branches = (branches_seen i).0; versions = (versions_seen i).1; segments = i.segments }, (versions_seen i).0)) (test_is (length no_bytes == 0) no_bytes refl)
    ∙ (λ j. Ok (record { relations = i.relations; branches = branches_are [] [] i.branches j; versions = versions_are (replicate (length (branches_seen i).1) 0) [] i.versions j; segments = i.segments }, lasts_of i))

abbrev done : {A : Type 0} → A → Result A ℕ
done x = Ok x

kept : (w : Bool) (i : Image) → w ≡ true → cond w (done i) (Err 0) ≡ Ok i
kept true i e = refl
kept false i e = absurd cc

pub image_back : (format : Format) (i : Image) → IsRuled i → tells format i.relations ≡ true → image_at format (spelling format i) ≡ Ok i
unfolding image_at
image_back format i is told = step (λ (parts : Image × List ℕ). cond (is_whole parts.0 parts.1) (done parts.0) (Err 0)) (parts_back format i is told) ∙ kept (is_whole i (lasts_of i)) i is.whole
