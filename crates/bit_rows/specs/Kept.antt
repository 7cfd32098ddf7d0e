-- What a branch keeps: its rows of bits with their histories, and what its last version has.
use Rattle.std.specs.Prelude.{◌≡◌, ◌<◌, ℕ, List, [], ◌∷◌, length, Option, refl}
use Rattle.std.specs.Coded.{Coded, code_by, coded×, coded_ℕ, coded_list, coded_option}
use Rattle.std.proofs.Common.{get_or}
use Rattle.db_value.specs.declared.version.VersionPlace.{VersionPlace}
use Rattle.commit_history.specs.Runs.{Next, next_of}
use Rattle.db_store.specs.Dataset.{root}
use Rattle.hybrid_view.specs.Live.{Lived, lived_code}
use Rattle.bit_rows.specs.Rows.{KeptRow, row_code, MoreRow, no_more, kept_row_at, next_at, pushed_row}

-- a branch: the second parents of its versions, its rows by relation, what its last version has, and for how many versions there is room
pub record KeptLane : Type 0 where
  pub name : List ℕ
  pub origin : VersionPlace
  pub base : VersionPlace
  pub seconds : List (Option VersionPlace)
  pub rows : List (List KeptRow)
  pub head : List Lived
  pub room : ℕ

-- places can be told apart
abbrev pub place_code : Coded VersionPlace
place_code = code_by (ℕ × ℕ) (coded× coded_ℕ coded_ℕ) (λ v. (v.branch, v.position)) (λ p. record { branch = p.0; position = p.1 }) (λ _. refl)

-- and branches
abbrev pub lane_code : Coded KeptLane
lane_code =
    code_by
    (List ℕ × (VersionPlace × (VersionPlace × (List (Option VersionPlace) × (List (List KeptRow) × (List Lived × ℕ))))))
    (coded× (coded_list coded_ℕ) (coded× place_code (coded× place_code (coded× (coded_list (coded_option place_code)) (coded× (coded_list (coded_list row_code)) (coded× (coded_list lived_code) coded_ℕ))))))
    (λ l. (l.name, (l.origin, (l.base, (l.seconds, (l.rows, (l.head, l.room)))))))
    (λ p. record { name = p.0; origin = p.1.0; base = p.1.1.0; seconds = p.1.1.1.0; rows = p.1.1.1.1.0; head = p.1.1.1.1.1.0; room = p.1.1.1.1.1.1 })
    (λ _. refl)

-- and past the last branch
abbrev pub no_kept : KeptLane
no_kept = record { name = []; origin = root; base = root; seconds = []; rows = []; head = []; room = 0 }

-- the rows of a relation
abbrev pub kept_rows : KeptLane → ℕ → List KeptRow
kept_rows k r = get_or k.rows r []

-- what is ready for the rows of a relation
abbrev pub nexts_at : List (List Next) → ℕ → List Next
nexts_at nexts r = get_or nexts r []

-- the row of master's first head, at first
abbrev pub first_row : KeptRow
first_row = record { segment = 0; from = 0; deltas = [] ∷ [] }

-- one more row, by its relation
abbrev pub more_at : List MoreRow → ℕ → MoreRow
more_at more r = get_or more r no_more

-- for each row of each relation something is ready
pub record AreReady (rows : List (List KeptRow)) (nexts : List (List Next)) : Type 0 where
  pub count : length nexts ≡ length rows
  pub counts : (r : ℕ) → r < length rows → length (nexts_at nexts r) ≡ length (get_or rows r [])
  pub ready : (r i : ℕ) → r < length rows → i < length (get_or rows r []) → next_at (nexts_at nexts r) i ≡ next_of (kept_row_at (get_or rows r []) i).deltas (next_at (nexts_at nexts r) i).delta.item

-- the second rows are the first ones, each with the delta that was ready for it
pub record ArePushed (old : List (List KeptRow)) (nexts : List (List Next)) (new : List (List KeptRow)) : Type 0 where
  pub count : length new ≡ length old
  pub counts : (r : ℕ) → r < length old → length (get_or new r []) ≡ length (get_or old r [])
  pub each : (r i : ℕ) → r < length old → i < length (get_or old r []) → kept_row_at (get_or new r []) i ≡ pushed_row (kept_row_at (get_or old r []) i) (next_at (nexts_at nexts r) i)
