-- The segments of a relation that a store keeps.
use Rattle.std.specs.Prelude.{ℕ, ◌≤◌, ◌++◌, List, [], ◌∷◌, set, Option, Some, None, refl}
use Rattle.std.specs.Coded.{Coded, code_by, coded×, coded_ℕ, coded_list, coded_option}
use Rattle.std.proofs.Common.{get_or}
use Rattle.record_page.specs.Page.{Rows, rows_code}

-- a segment, and the branch whose head it is
pub record KeptRecords : Type 0 where
  pub head : Option ℕ
  pub rows : Rows

-- the segments of a relation, and for how many in all there is room
pub record KeptList : Type 0 where
  pub all : List KeptRecords
  pub room : ℕ

-- these can be told apart
abbrev pub kept_records_code : Coded KeptRecords
kept_records_code = code_by (Option ℕ × Rows) (coded× (coded_option coded_ℕ) rows_code) (λ k. (k.head, k.rows)) (λ p. record { head = p.0; rows = p.1 }) (λ _. refl)

-- and so can the segments of a relation
abbrev pub kept_list_code : Coded KeptList
kept_list_code = code_by (List KeptRecords × ℕ) (coded× (coded_list kept_records_code) coded_ℕ) (λ k. (k.all, k.room)) (λ p. record { all = p.0; room = p.1 }) (λ _. refl)

-- what stands past the last segment
abbrev pub no_rows : KeptRecords
no_rows = record { head = None; rows = record { widths = []; records = [] } }

-- and past the last relation
abbrev pub no_list : KeptList
no_list = record { all = []; room = 0 }

-- each branch brings two segments at most
abbrev pub most_segments : ℕ
most_segments = 2048

-- a segment by its number
abbrev pub kept_at : List KeptRecords → ℕ → KeptRecords
kept_at ks s = get_or ks s no_rows

-- the segments of a relation
abbrev pub list_at : List KeptList → ℕ → List KeptRecords
list_at segments r = (get_or segments r no_list).all

-- the segments of a relation after one of them got these records
abbrev pub with_records : KeptList → ℕ → Rows → KeptList
with_records k s own = record k { all = set k.all s (record (kept_at k.all s) { rows = own }) }

-- the segments with another one, the head of a branch
abbrev pub with_head : KeptList → ℕ → Rows → KeptList
with_head k b own = record k { all = k.all ++ record { head = Some b; rows = own } ∷ [] }

-- the same after the head of a branch became internal
abbrev pub turned_list : KeptList → ℕ → ℕ → Rows → KeptList
turned_list k s b own = with_head (record k { all = set k.all s (record (kept_at k.all s) { head = None }) }) b own

-- the segments of a relation, with no regard to room
abbrev pub all_of : KeptList → List KeptRecords
all_of k = k.all

-- there is room for all segments that there can be
abbrev pub HasMost : KeptList → Type 0
HasMost k = most_segments ≤ k.room
