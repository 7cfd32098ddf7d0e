-- Relations, branches and versions that keep their rules are read from their spellings.
use Rattle.std.proofs.Common.{◌≡◌, ℕ, ◌+◌, ◌^◌, ◌<◌, ◌≤◌, Bool, true, not, ◌&&◌, List, [], ◌∷◌, ◌++◌, length, take, drop, replicate, Option, Some, None, Ok, refl, ap, sym, ◌∙◌, arith, append_assoc, length-append}
use Rattle.std.specs.Prelude.{nat_lt, nat_le, set, ◌==◌}
use Rattle.std.specs.List.{flat_map, list_all}
use Rattle.std.specs.Int.{w32, to_le_bytes}
use Rattle.std.proofs.Math.Seq.{take-append_seam, drop-append_seam}
use Rattle.std.proofs.lemmas.Bool.{and_from, and_parts, lt-ltb, le-leb, eqb-true}
use Rattle.db_value.specs.Text.{is_name, starts_with_letter}
use Rattle.db_value.specs.Schema.{is_declared}
use Rattle.db_value.specs.Width.{is_width}
use Rattle.db_value.specs.declared.schema.Column.{Column}
use Rattle.db_value.specs.declared.schema.Relation.{Relation}
use Rattle.db_value.specs.declared.version.VersionPlace.{VersionPlace}
use Rattle.image_text.specs.declared.image.Format.{Format}
use Rattle.image_text.specs.declared.image.Format.TheVariants.{One, Two}
use Rattle.image_text.specs.declared.image.BranchPart.{BranchPart}
use Rattle.image_text.specs.declared.image.MadeVersion.{MadeVersion}
use Rattle.image_text.specs.Reading.{◌>>=◌, test, enough, repeat, byte_at, number_at, name_at, width_at, has_column, next_column, next_relation, relations_at, has_turn, is_earlier, is_position, base_of, next_branch, branches_at, last_of, is_begun, second_at, next_version, versions_at}
use Rattle.image_text.specs.Spelling.{counted, name_bytes, width_bytes, column_bytes, relation_bytes, relations_bytes, place_bytes, branch_bytes, second_bytes, version_bytes}
use Rattle.db_image.specs.Rules.{EachNext, after, onto, tells, IsNextColumn, IsNextRelation, branch_next, IsNextBranch, version_next, IsSecond, IsNextVersion}
use Rattle.db_image.proofs.ReadSteps.{step, test_is, enough_is, number_4, repeat_back, repeat_onto}

abbrev no_columns : List Column
no_columns = []

abbrev no_relations : List Relation
no_relations = []

abbrev no_branches : List BranchPart × List VersionPlace
no_branches = ([], [])

abbrev no_versions : List MadeVersion
no_versions = []

some_letter : (name : List ℕ) → starts_with_letter name ≡ true → 0 < length name
some_letter [] e = absurd cc
some_letter (c ∷ cs) e = omega arith

-- a name has one to 32 bytes
name_counted : (name : List ℕ) → is_name name ≡ true → (nat_lt 0 (length name) && nat_le (length name) 32) ≡ true
unfolding is_name
name_counted name e =
    let a = and_parts _ _ e in
    let b = and_parts _ _ a.0 in
    let c = and_parts _ _ b.0 in
    and_from _ _ (lt-ltb 0 (length name) (some_letter name c.1)) c.0

name_back : (name rest : List ℕ) → is_name name ≡ true → name_at (name_bytes name ++ rest) ≡ Ok (name, rest)
unfolding name_at
name_back name rest named =
    step (λ counted. enough (length name) (name ++ rest) >>= λ there. test (is_name (take (length name) (name ++ rest))) (name_bytes name ++ rest) >>= λ named. Ok (take (length name) (name ++ rest), drop (length name) (name ++ rest))) (test_is (nat_lt 0 (length name) && nat_le (length name) 32) (name_bytes name ++ rest) (name_counted name named))
    ∙ step (λ there. test (is_name (take (length name) (name ++ rest))) (name_bytes name ++ rest) >>= λ named. Ok (take (length name) (name ++ rest), drop (length name) (name ++ rest))) (enough_is (length name) (name ++ rest) (let n = length-append name rest in omega (arith, n)))
    ∙ step (λ named. Ok (take (length name) (name ++ rest), drop (length name) (name ++ rest))) (test_is (is_name (take (length name) (name ++ rest))) (name_bytes name ++ rest) (ap is_name (take-append_seam name rest) ∙ named))
    ∙ (λ i. Ok (take-append_seam name rest i, drop-append_seam name rest i))

-- a format tells a width
abbrev told : Format → ℕ → Bool
told One w = w == 0
told Two w = true

width_back : (format : Format) (w : ℕ) (rest : List ℕ) → told format w ≡ true → is_width w ≡ true → width_at format (width_bytes format w ++ rest) ≡ Ok (w, rest)
unfolding width_at
width_back One w rest e is = ap (λ k. Ok (k, rest)) (sym (eqb-true w 0 e))
width_back Two w rest e is = step (λ wide. Ok (w, rest)) (test_is (is_width w) (w ∷ rest) is)

-- a column, and a relation, whose widths the format tells
abbrev IsToldColumn : Format → List Column → Column → Type 0
IsToldColumn format seen c = IsNextColumn seen c × (told format c.width ≡ true)

abbrev IsToldRelation : Format → List Relation → Relation → Type 0
IsToldRelation format seen r = IsNextRelation seen r × (list_all (λ c. told format c.width) r.columns ≡ true)

-- items that keep a rule and pass a test
each_passes : {A : Type 0} (P : List A → A → Type 0) (q : A → Bool) (seen xs : List A) → EachNext onto P seen xs → list_all q xs ≡ true → EachNext onto (λ s x. P s x × (q x ≡ true)) seen xs
each_passes P q seen [] each all = tt
each_passes P q seen (x ∷ xs) each all = let parts = and_parts (q x) (list_all q xs) all in ((each.0, parts.0), each_passes P q (seen ++ x ∷ []) xs each.1 parts.1)

all_told : (cs : List Column) → list_all (λ c. told Two c.width) cs ≡ true
all_told [] = refl
all_told (c ∷ cs) = all_told cs

each_told : (format : Format) (rs : List Relation) → tells format rs ≡ true → list_all (λ r. list_all (λ c. told format c.width) r.columns) rs ≡ true
each_told One rs e = e
each_told Two [] e = refl
each_told Two (r ∷ rs) e = and_from (list_all (λ c. told Two c.width) r.columns) (list_all (λ r. list_all (λ c. told Two c.width) r.columns) rs) (all_told r.columns) (each_told Two rs refl)

next_column_back : (format : Format) (seen : List Column) (c : Column) (rest : List ℕ) → IsToldColumn format seen c → next_column format seen (column_bytes format c ++ rest) ≡ Ok (onto seen c, rest)
unfolding next_column
next_column_back format seen c rest is =
    step (λ n. test (not (has_column seen n.0)) (column_bytes format c ++ rest) >>= λ fresh. width_at format n.1 >>= λ w. Ok (seen ++ record { name = n.0; width = w.0 } ∷ [], w.1)) (ap name_at (append_assoc (name_bytes c.name) (width_bytes format c.width) rest) ∙ name_back c.name (width_bytes format c.width ++ rest) is.0.name)
    ∙ step (λ fresh. width_at format (width_bytes format c.width ++ rest) >>= λ w. Ok (seen ++ record { name = c.name; width = w.0 } ∷ [], w.1)) (test_is (not (has_column seen c.name)) (column_bytes format c ++ rest) (ap not is.0.fresh))
    ∙ step (λ w. Ok (seen ++ record { name = c.name; width = w.0 } ∷ [], w.1)) (width_back format c.width rest is.1 is.0.width)

relation_back : (format : Format) (seen : List Relation) (r : Relation) (rest : List ℕ) → IsToldRelation format seen r → next_relation format seen (relation_bytes format r ++ rest) ≡ Ok (onto seen r, rest)
unfolding next_relation
relation_back format seen r rest is =
    step (λ name. test (not (is_declared seen name.0)) (relation_bytes format r ++ rest) >>= λ fresh. byte_at name.1 >>= λ n. test (nat_lt 0 n.0 && nat_le n.0 15) (name.1) >>= λ counted. repeat (next_column format) n.0 no_columns n.1 >>= λ columns. Ok (seen ++ record { name = name.0; columns = columns.0 } ∷ [], columns.1)) (ap name_at (append_assoc (name_bytes r.name) (length r.columns ∷ flat_map (column_bytes format) r.columns) rest) ∙ name_back r.name (length r.columns ∷ (flat_map (column_bytes format) r.columns ++ rest)) is.0.name)
    ∙ step (λ fresh. byte_at (length r.columns ∷ (flat_map (column_bytes format) r.columns ++ rest)) >>= λ n. test (nat_lt 0 n.0 && nat_le n.0 15) ((length r.columns ∷ (flat_map (column_bytes format) r.columns ++ rest))) >>= λ counted. repeat (next_column format) n.0 no_columns n.1 >>= λ columns. Ok (seen ++ record { name = r.name; columns = columns.0 } ∷ [], columns.1)) (test_is (not (is_declared seen r.name)) (relation_bytes format r ++ rest) (ap not is.0.fresh))
    ∙ step (λ (n : ℕ × List ℕ). test (nat_lt 0 n.0 && nat_le n.0 15) ((length r.columns ∷ (flat_map (column_bytes format) r.columns ++ rest))) >>= λ counted. repeat (next_column format) n.0 no_columns n.1 >>= λ columns. Ok (seen ++ record { name = r.name; columns = columns.0 } ∷ [], columns.1)) {x = ((length r.columns), (flat_map (column_bytes format) r.columns ++ rest))} (refl)
    ∙ step (λ counted. repeat (next_column format) (length r.columns) no_columns (flat_map (column_bytes format) r.columns ++ rest) >>= λ columns. Ok (seen ++ record { name = r.name; columns = columns.0 } ∷ [], columns.1)) (test_is (nat_lt 0 (length r.columns) && nat_le (length r.columns) 15) (length r.columns ∷ (flat_map (column_bytes format) r.columns ++ rest)) (and_from _ _ (lt-ltb 0 (length r.columns) is.0.some) (le-leb (length r.columns) 15 is.0.few)))
    ∙ step (λ columns. Ok (seen ++ record { name = r.name; columns = columns.0 } ∷ [], columns.1)) (repeat_onto (IsToldColumn format) (column_bytes format) (next_column format) (next_column_back format) no_columns r.columns rest (each_passes IsNextColumn (λ c. told format c.width) no_columns r.columns is.0.columns is.1))

pub relations_back : (format : Format) (rs : List Relation) (rest : List ℕ) → 0 < length rs → length rs ≤ 8 → EachNext onto IsNextRelation [] rs → tells format rs ≡ true → relations_at format (relations_bytes format rs ++ rest) ≡ Ok (rs, rest)
unfolding relations_at
relations_back format rs rest some few each known =
    step (λ (n : ℕ × List ℕ). test (nat_lt 0 n.0 && nat_le n.0 8) (relations_bytes format rs ++ rest) >>= λ counted. repeat (next_relation format) n.0 no_relations n.1) {x = ((length rs), (flat_map (relation_bytes format) rs ++ rest))} (refl)
    ∙ step (λ counted. repeat (next_relation format) (length rs) no_relations (flat_map (relation_bytes format) rs ++ rest)) (test_is (nat_lt 0 (length rs) && nat_le (length rs) 8) (relations_bytes format rs ++ rest) (and_from _ _ (lt-ltb 0 (length rs) some) (le-leb (length rs) 8 few)))
    ∙ repeat_onto (IsToldRelation format) (relation_bytes format) (next_relation format) (relation_back format) no_relations rs rest (each_passes IsNextRelation (λ r. list_all (λ c. told format c.width) r.columns) no_relations rs each (each_told format rs known))

branch_back : (seen : List BranchPart × List VersionPlace) (b : BranchPart) (rest : List ℕ) → IsNextBranch seen b → next_branch seen (branch_bytes b ++ rest) ≡ Ok (branch_next seen b, rest)
unfolding next_branch
branch_back seen b rest is =
    step (λ name. test (has_turn seen.0 name.0) (branch_bytes b ++ rest) >>= λ fresh. number_at w32 name.1 >>= λ o. test (is_earlier seen.0 o.0) (name.1) >>= λ earlier. number_at w32 o.1 >>= λ p. test (is_position seen.0 p.0) (o.1) >>= λ position. Ok ((seen.0 ++ record { name = name.0; origin = record { branch = o.0; position = p.0 } } ∷ [], seen.1 ++ base_of seen.1 (record { branch = o.0; position = p.0 }) ∷ []), p.1)) (ap name_at (append_assoc (name_bytes b.name) (place_bytes b.origin) rest) ∙ name_back b.name (place_bytes b.origin ++ rest) is.name)
    ∙ step (λ fresh. number_at w32 (place_bytes b.origin ++ rest) >>= λ o. test (is_earlier seen.0 o.0) ((place_bytes b.origin ++ rest)) >>= λ earlier. number_at w32 o.1 >>= λ p. test (is_position seen.0 p.0) (o.1) >>= λ position. Ok ((seen.0 ++ record { name = b.name; origin = record { branch = o.0; position = p.0 } } ∷ [], seen.1 ++ base_of seen.1 (record { branch = o.0; position = p.0 }) ∷ []), p.1)) (test_is (has_turn seen.0 b.name) (branch_bytes b ++ rest) is.turn)
    ∙ step (λ o. test (is_earlier seen.0 o.0) ((place_bytes b.origin ++ rest)) >>= λ earlier. number_at w32 o.1 >>= λ p. test (is_position seen.0 p.0) (o.1) >>= λ position. Ok ((seen.0 ++ record { name = b.name; origin = record { branch = o.0; position = p.0 } } ∷ [], seen.1 ++ base_of seen.1 (record { branch = o.0; position = p.0 }) ∷ []), p.1)) (number_4 b.origin.branch (to_le_bytes w32 b.origin.position ++ rest) is.origin.branch)
    ∙ step (λ earlier. number_at w32 (to_le_bytes w32 b.origin.position ++ rest) >>= λ p. test (is_position seen.0 p.0) ((to_le_bytes w32 b.origin.position ++ rest)) >>= λ position. Ok ((seen.0 ++ record { name = b.name; origin = record { branch = b.origin.branch; position = p.0 } } ∷ [], seen.1 ++ base_of seen.1 (record { branch = b.origin.branch; position = p.0 }) ∷ []), p.1)) (test_is (is_earlier seen.0 b.origin.branch) (place_bytes b.origin ++ rest) is.earlier)
    ∙ step (λ p. test (is_position seen.0 p.0) ((to_le_bytes w32 b.origin.position ++ rest)) >>= λ position. Ok ((seen.0 ++ record { name = b.name; origin = record { branch = b.origin.branch; position = p.0 } } ∷ [], seen.1 ++ base_of seen.1 (record { branch = b.origin.branch; position = p.0 }) ∷ []), p.1)) (number_4 b.origin.position rest is.origin.position)
    ∙ step (λ position. Ok ((seen.0 ++ record { name = b.name; origin = record { branch = b.origin.branch; position = b.origin.position } } ∷ [], seen.1 ++ base_of seen.1 (record { branch = b.origin.branch; position = b.origin.position }) ∷ []), rest)) (test_is (is_position seen.0 b.origin.position) (to_le_bytes w32 b.origin.position ++ rest) is.position)

pub branches_back : (bs : List BranchPart) (rest : List ℕ) → 0 < length bs → length bs ≤ 1024 → EachNext branch_next IsNextBranch ([], []) bs → branches_at (counted branch_bytes bs ++ rest) ≡ Ok (after branch_next ([], []) bs, rest)
unfolding branches_at
branches_back bs rest some few each =
    step (λ n. test (nat_lt 0 n.0 && nat_le n.0 1024) (counted branch_bytes bs ++ rest) >>= λ counted_. repeat next_branch n.0 no_branches n.1) (number_4 (length bs) (flat_map branch_bytes bs ++ rest) (omega (arith, few)))
    ∙ step (λ counted_. repeat next_branch (length bs) no_branches (flat_map branch_bytes bs ++ rest)) (test_is (nat_lt 0 (length bs) && nat_le (length bs) 1024) (counted branch_bytes bs ++ rest) (and_from _ _ (lt-ltb 0 (length bs) some) (le-leb (length bs) 1024 few)))
    ∙ repeat_back branch_next IsNextBranch branch_bytes next_branch branch_back no_branches bs rest each

second_none : (bases : List VersionPlace) (lasts rest : List ℕ) → second_at bases lasts (second_bytes None ++ rest) ≡ Ok (None, rest)
unfolding second_at
second_none bases lasts rest = refl

second_some : (bases : List VersionPlace) (lasts : List ℕ) (at : VersionPlace) (rest : List ℕ) → IsSecond bases lasts (Some at) → second_at bases lasts (second_bytes (Some at) ++ rest) ≡ Ok (Some at, rest)
unfolding second_at
second_some bases lasts at rest is =
    step (λ b. test (is_begun bases lasts b.0) (place_bytes at ++ rest) >>= λ begun. number_at w32 b.1 >>= λ p. test (nat_le p.0 (last_of lasts b.0)) (b.1) >>= λ there. Ok (Some (record { branch = b.0; position = p.0 }), p.1)) (number_4 at.branch (to_le_bytes w32 at.position ++ rest) is.0.branch)
    ∙ step (λ begun. number_at w32 (to_le_bytes w32 at.position ++ rest) >>= λ p. test (nat_le p.0 (last_of lasts at.branch)) ((to_le_bytes w32 at.position ++ rest)) >>= λ there. Ok (Some (record { branch = at.branch; position = p.0 }), p.1)) (test_is (is_begun bases lasts at.branch) (place_bytes at ++ rest) is.1)
    ∙ step (λ p. test (nat_le p.0 (last_of lasts at.branch)) ((to_le_bytes w32 at.position ++ rest)) >>= λ there. Ok (Some (record { branch = at.branch; position = p.0 }), p.1)) (number_4 at.position rest is.0.position)
    ∙ step (λ there. Ok (Some (record { branch = at.branch; position = at.position }), rest)) (test_is (nat_le at.position (last_of lasts at.branch)) (to_le_bytes w32 at.position ++ rest) (le-leb at.position (last_of lasts at.branch) is.2))

second_back : (bases : List VersionPlace) (lasts : List ℕ) (second : Option VersionPlace) (rest : List ℕ) → IsSecond bases lasts second → second_at bases lasts (second_bytes second ++ rest) ≡ Ok (second, rest)
second_back bases lasts None rest is = second_none bases lasts rest
second_back bases lasts (Some at) rest is = second_some bases lasts at rest is

version_back : (bases : List VersionPlace) (seen : List ℕ × List MadeVersion) (v : MadeVersion) (rest : List ℕ) → IsNextVersion bases seen v → next_version bases seen (version_bytes v ++ rest) ≡ Ok (version_next seen v, rest)
unfolding next_version
version_back bases seen v rest is =
    step (λ b. test (is_begun bases seen.0 b.0 && nat_lt (last_of seen.0 b.0) 65535) (version_bytes v ++ rest) >>= λ begun. second_at bases seen.0 b.1 >>= λ second. Ok ((set seen.0 b.0 (last_of seen.0 b.0 + 1), seen.1 ++ record { branch = b.0; second = second.0 } ∷ []), second.1)) (number_4 v.branch (second_bytes v.second ++ rest) is.branch)
    ∙ step (λ begun. second_at bases seen.0 (second_bytes v.second ++ rest) >>= λ second. Ok ((set seen.0 v.branch (last_of seen.0 v.branch + 1), seen.1 ++ record { branch = v.branch; second = second.0 } ∷ []), second.1)) (test_is (is_begun bases seen.0 v.branch && nat_lt (last_of seen.0 v.branch) 65535) (version_bytes v ++ rest) (and_from _ _ is.begun (lt-ltb (last_of seen.0 v.branch) 65535 is.few)))
    ∙ step (λ second. Ok ((set seen.0 v.branch (last_of seen.0 v.branch + 1), seen.1 ++ record { branch = v.branch; second = second.0 } ∷ []), second.1)) (second_back bases seen.0 v.second rest is.second)

pub versions_back : (bases : List VersionPlace) (vs : List MadeVersion) (rest : List ℕ) → length vs < 2 ^ 32 → EachNext version_next (IsNextVersion bases) (replicate (length bases) 0, []) vs → versions_at bases (counted version_bytes vs ++ rest) ≡ Ok (after version_next (replicate (length bases) 0, []) vs, rest)
unfolding versions_at
versions_back bases vs rest few each =
    step (λ n. repeat (next_version bases) n.0 (replicate (length bases) 0, no_versions) n.1) (number_4 (length vs) (flat_map version_bytes vs ++ rest) few)
    ∙ repeat_back version_next (IsNextVersion bases) version_bytes (next_version bases) (version_back bases) (replicate (length bases) 0, no_versions) vs rest each
