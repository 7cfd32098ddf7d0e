-- The names under which versions were lent, and a map that finds them.
use Rattle.std.specs.Prelude.{◌≡◌, ℕ, cond, List, [], ◌∷◌, ◌++◌, take, Option, Some, None}
use Rattle.std.specs.Ordering.{nat_cmp, ordering_then}
use Rattle.std.specs.Option.{option_cmp}
use Rattle.std.specs.declared.cmp.Ordering.{Ordering}
use Rattle.std.specs.BTreeMap.{BTreeMap, get}
use Rattle.std.specs.Cmp.{IsTotalOrder, nat_cmp_total, on_total, then_total}
use Rattle.std.specs.Cmp.Lexicographic.{slice_cmp, lists_total, options_total}
use Rattle.std.specs.Coded.{Coded, coded×, coded_list}
use Rattle.db_value.specs.declared.version.VersionName.{VersionName}
use Rattle.db_store.specs.Table.{Table, table_code}
use Rattle.db_store.specs.Touched.{one_further}
use Rattle.branch_tx.specs.declared.key.NameKey.{NameKey}
use Rattle.branch_tx.specs.Shown.{Shown, shown_code}
use Rattle.branch_tx.specs.Granted.{same_version, version_code}

-- the versions that were lent, with their tables, and what their views show
abbrev pub Views : Type 0
Views = List (VersionName × Table) × List Shown

-- they can be told apart from others
abbrev pub views_code : Coded Views
views_code = coded× (coded_list (coded× version_code table_code)) (coded_list shown_code)

-- no version
abbrev pub no_views : Views
no_views = ([], [])

-- one version more
abbrev pub and_view : Views → VersionName → Table → Shown → Views
and_view vs name table shown = (vs.0 ++ (name, table) ∷ [], vs.1 ++ shown ∷ [])

-- the first few
abbrev pub first_views : ℕ → Views → Views
first_views n vs = (take n vs.0, take n vs.1)

-- by the name of the branch, and then by position
abbrev pub key_cmp : NameKey → NameKey → Ordering
key_cmp a b = ordering_then (slice_cmp nat_cmp a.name.branch b.name.branch) (option_cmp nat_cmp a.name.position b.name.position)

-- this is an order
abbrev pub key_total : IsTotalOrder key_cmp
key_total = then_total (on_total (λ (k : NameKey). k.name.branch) (lists_total nat_cmp_total)) (on_total (λ (k : NameKey). k.name.position) (options_total nat_cmp_total))

-- where a name stands first among others
abbrev pub place_of : VersionName → List VersionName → Option ℕ
place_of v [] = None
place_of v (n ∷ ns) = cond (same_version n v) (Some 0) (one_further (place_of v ns))

-- the map has for each name the place where it stands first
abbrev pub ArePlaces : List VersionName → BTreeMap NameKey ℕ → Type 0
ArePlaces names places = (v : VersionName) → get key_cmp places (record { name = v }) ≡ place_of v names
