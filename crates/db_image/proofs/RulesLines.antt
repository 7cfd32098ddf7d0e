-- Relations, branches and versions that are read keep their rules, but for how great their numbers are.
use Rattle.std.proofs.Common.{◌≡◌, ℕ, ◌<◌, ◌≤◌, Bool, true, false, ◌&&◌, not, List, [], length, take, drop, replicate, Option, Some, None, refl, arith}
use Rattle.std.specs.Prelude.{nat_lt, nat_le, ◌==◌}
use Rattle.std.specs.Int.{w32}
use Rattle.std.proofs.lemmas.Bool.{and_parts, ltb-true, leb-true}
use Rattle.db_value.specs.Text.{is_name}
use Rattle.db_value.specs.Schema.{is_declared}
use Rattle.db_value.specs.Width.{is_width}
use Rattle.db_value.specs.declared.schema.Column.{Column}
use Rattle.db_value.specs.declared.schema.Relation.{Relation}
use Rattle.db_value.specs.declared.version.VersionPlace.{VersionPlace}
use Rattle.image_text.specs.declared.image.Format.{Format}
use Rattle.image_text.specs.declared.image.BranchPart.{BranchPart}
use Rattle.image_text.specs.declared.image.MadeVersion.{MadeVersion}
use Rattle.image_text.specs.Reading.{enough, byte_at, number_at, name_at, width_at, has_column, next_column, next_relation, relations_at, has_turn, is_earlier, is_position, next_branch, branches_at, last_of, is_begun, second_at, next_version, versions_at}
use Rattle.image_text.proofs.Counted.{width_known}
use Rattle.db_image.specs.Rules.{EachNext, after, onto, IsNextColumn, IsNextRelation, branch_next, version_next}
use Rattle.db_image.proofs.RulesSteps.{Keeps, MakesOne, first_read, then_read, if_tested, either_read, all_read, so_kept, each_read, from_none}

not_true : (b : Bool) → not b ≡ true → b ≡ false
not_true true e = absurd cc
not_true false e = refl

-- ---- names and relations

name_kept : (b : List ℕ) → Keeps (name_at b) (λ x. is_name x.0 ≡ true)
unfolding name_at
name_kept b =
    then_read (byte_at b) _ (λ n.
    if_tested (nat_lt 0 n.0 && nat_le n.0 32) b _ (λ counted.
    then_read (enough n.0 n.1) _ (λ there.
    if_tested (is_name (take n.0 n.1)) b _ (λ named.
    all_read (take n.0 n.1, drop n.0 n.1) named))))

-- a width that is read is one
width_kept : (format : Format) (b : List ℕ) → Keeps (width_at format b) (λ x. is_width x.0 ≡ true)
width_kept format b = record { holds = λ x e. width_known format b x e }

next_column_kept : (format : Format) (s : List Column) (b : List ℕ) → Keeps (next_column format s b) (MakesOne onto IsNextColumn s)
unfolding next_column
next_column_kept format s b =
    first_read _ (name_kept b) (λ n named.
    if_tested (not (has_column s n.0)) b _ (λ fresh.
    first_read _ (width_kept format n.1) (λ w wide.
    all_read _ (record { name = n.0; width = w.0 }, refl, record { name = named; fresh = not_true _ fresh; width = wide }))))

next_relation_kept : (format : Format) (s : List Relation) (b : List ℕ) → Keeps (next_relation format s b) (MakesOne onto IsNextRelation s)
unfolding next_relation
next_relation_kept format s b =
    first_read _ (name_kept b) (λ name named.
    if_tested (not (is_declared s name.0)) b _ (λ fresh.
    then_read (byte_at name.1) _ (λ n.
    if_tested (nat_lt 0 n.0 && nat_le n.0 15) name.1 _ (λ counted.
    first_read _ (each_read onto IsNextColumn (next_column format) (next_column_kept format) n.0 [] n.1) (λ columns made.
    let m = from_none IsNextColumn n.0 columns made in
    let two = and_parts (nat_lt 0 n.0) (nat_le n.0 15) counted in
    let some = ltb-true 0 n.0 two.0 in
    let few = leb-true n.0 15 two.1 in
    let count = m.0 in
    all_read _ (record { name = name.0; columns = columns.0 }, refl, record { name = named; fresh = not_true _ fresh; some = omega (arith, count, some); few = omega (arith, count, few); columns = m.1 }))))))

pub relations_kept : (format : Format) (b : List ℕ) → Keeps (relations_at format b) (λ x. EachNext onto IsNextRelation [] x.0)
unfolding relations_at
relations_kept format b =
    then_read (byte_at b) _ (λ n.
    if_tested (nat_lt 0 n.0 && nat_le n.0 8) b _ (λ counted.
    so_kept (each_read onto IsNextRelation (next_relation format) (next_relation_kept format) n.0 [] n.1) (λ rs made. (from_none IsNextRelation n.0 rs made).1)))

-- ---- branches

-- a branch may come after those before it, however great its numbers are
pub record IsBranchNext (seen : List BranchPart × List VersionPlace) (b : BranchPart) : Type 0 where
  pub name : is_name b.name ≡ true
  pub turn : has_turn seen.0 b.name ≡ true
  pub earlier : is_earlier seen.0 b.origin.branch ≡ true
  pub position : is_position seen.0 b.origin.position ≡ true

next_branch_kept : (s : List BranchPart × List VersionPlace) (b : List ℕ) → Keeps (next_branch s b) (MakesOne branch_next IsBranchNext s)
unfolding next_branch
next_branch_kept s b =
    first_read _ (name_kept b) (λ name named.
    if_tested (has_turn s.0 name.0) b _ (λ turn.
    then_read (number_at w32 name.1) _ (λ o.
    if_tested (is_earlier s.0 o.0) name.1 _ (λ earlier.
    then_read (number_at w32 o.1) _ (λ p.
    if_tested (is_position s.0 p.0) o.1 _ (λ position.
    all_read _ (record { name = name.0; origin = record { branch = o.0; position = p.0 } }, refl, record { name = named; turn = turn; earlier = earlier; position = position })))))))

-- what branches make
abbrev pub AreBranchesOf : (List BranchPart × List VersionPlace) × List ℕ → Type 0
AreBranchesOf x = (got : List BranchPart) × (x.0 ≡ after branch_next ([], []) got) × EachNext branch_next IsBranchNext ([], []) got

pub branches_kept : (b : List ℕ) → Keeps (branches_at b) AreBranchesOf
unfolding branches_at
branches_kept b =
    then_read (number_at w32 b) _ (λ n.
    if_tested (nat_lt 0 n.0 && nat_le n.0 1024) b _ (λ counted.
    so_kept (each_read branch_next IsBranchNext next_branch next_branch_kept n.0 ([], []) n.1) (λ x made. (made.0, made.2, made.3))))

-- ---- versions

-- a second parent, if there is one, was made
abbrev pub IsParent : List VersionPlace → List ℕ → Option VersionPlace → Type 0
IsParent bases lasts None = Unit {0}
IsParent bases lasts (Some at) = (is_begun bases lasts at.branch ≡ true) × (at.position ≤ last_of lasts at.branch)

-- a version may come after those before it
pub record IsVersionNext (bases : List VersionPlace) (seen : List ℕ × List MadeVersion) (v : MadeVersion) : Type 0 where
  pub begun : is_begun bases seen.0 v.branch ≡ true
  pub few : last_of seen.0 v.branch < 65535
  pub second : IsParent bases seen.0 v.second

second_kept : (bases : List VersionPlace) (lasts : List ℕ) (b : List ℕ) → Keeps (second_at bases lasts b) (λ x. IsParent bases lasts x.0)
unfolding second_at
second_kept bases lasts b =
    then_read (byte_at b) _ (λ f.
    if_tested (nat_le f.0 1) b _ (λ flag.
    either_read (f.0 == 0) _ _ (all_read (None, f.1) tt) (
    then_read (number_at w32 f.1) _ (λ n.
    if_tested (is_begun bases lasts n.0) f.1 _ (λ begun.
    then_read (number_at w32 n.1) _ (λ p.
    if_tested (nat_le p.0 (last_of lasts n.0)) n.1 _ (λ there.
    all_read (Some (record { branch = n.0; position = p.0 }), p.1) (begun, leb-true p.0 (last_of lasts n.0) there))))))))

next_version_kept : (bases : List VersionPlace) (s : List ℕ × List MadeVersion) (b : List ℕ) → Keeps (next_version bases s b) (MakesOne version_next (IsVersionNext bases) s)
unfolding next_version
next_version_kept bases s b =
    then_read (number_at w32 b) _ (λ n.
    if_tested (is_begun bases s.0 n.0 && nat_lt (last_of s.0 n.0) 65535) b _ (λ begun.
    first_read _ (second_kept bases s.0 n.1) (λ second made.
    let two = and_parts (is_begun bases s.0 n.0) (nat_lt (last_of s.0 n.0) 65535) begun in
    all_read _ (record { branch = n.0; second = second.0 }, refl, record { begun = two.0; few = ltb-true (last_of s.0 n.0) 65535 two.1; second = made }))))

-- what versions make
abbrev pub AreVersionsOf : List VersionPlace → (List ℕ × List MadeVersion) × List ℕ → Type 0
AreVersionsOf bases x = (got : List MadeVersion) × (x.0 ≡ after version_next (replicate (length bases) 0, []) got) × EachNext version_next (IsVersionNext bases) (replicate (length bases) 0, []) got

pub versions_kept : (bases : List VersionPlace) (b : List ℕ) → Keeps (versions_at bases b) (AreVersionsOf bases)
unfolding versions_at
versions_kept bases b =
    then_read (number_at w32 b) _ (λ n.
    so_kept (each_read version_next (IsVersionNext bases) (next_version bases) (next_version_kept bases) n.0 (replicate (length bases) 0, []) n.1) (λ x made. (made.0, made.2, made.3)))
