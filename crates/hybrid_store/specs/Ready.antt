-- What is ready for a commit: what a branch has after it, and the records of its heads.
use Rattle.std.specs.Prelude.{◌≡◌, ℕ, suc, ◌<◌, true, List, [], length, map, Option, Some, None}
use Rattle.std.proofs.Common.{get_or}
use Rattle.db_value.specs.Relations.{widths_at}
use Rattle.db_value.specs.declared.version.VersionPlace.{VersionPlace}
use Rattle.db_value.specs.declared.entry.Change.{Change}
use Rattle.db_value.specs.declared.entry.Entry.{Entry}
use Rattle.db_value.specs.declared.entry.Entry.TheVariants.{Commit, Branch as NewBranch}
use Rattle.record_page.specs.Page.{Rows}
use Rattle.db_store.specs.Fits.{fits}
use Rattle.db_store.specs.State.{State, dataset_of}
use Rattle.db_store.specs.Layout.{Segment, Row, Layout, lane_at, differ, bit, slots_where, records_at, segments_at, rows_at}
use Rattle.db_store.specs.LayoutGrowth.{is_head_of, puts, touches, segment_after, bit_after, row_after, last_in}
use Rattle.db_store.specs.LaidOut.{head_at, row_at}
use Rattle.hybrid_view.specs.Live.{Lived, piece_at, lived_at, IsLived}
use Rattle.hybrid_view.specs.RowPlaces.{Shows, IsWhole}
use Rattle.commit_history.specs.Runs.{Next, next_of}
use Rattle.bit_rows.specs.Short.{shortest}
use Rattle.bit_rows.specs.Rows.{next_at}
use Rattle.bit_rows.specs.Kept.{nexts_at}
use Rattle.hybrid_store.specs.Stored.{AreSmall, IsOwnOf}

-- the slots of a row that a commit of branch c changes
abbrev pub changed_slots : List Segment → ℕ → ℕ → ℕ → List Change → Row → List ℕ
changed_slots ss c n r cs row = slots_where (λ slot. differ (bit row n slot) (bit_after (records_at ss row.segment) (touches cs r) (bit row n) slot))
    (length (records_at (map (segment_after c (puts cs r)) ss) row.segment))

-- of one relation: what is ready for the rows, the pieces that show the rows after the commit, and the records of the head
pub record IsMadeAt (ss : List Segment) (ws : List ℕ) (c n r : ℕ) (cs : List Change) (rows : List Row) (nexts : List Next) (l : Lived) (own : Rows) : Type 0 where
  pub there : (i : ℕ) → i < length rows → (row_at rows i).segment < length ss
  pub within : (i slot : ℕ) → i < length rows → bit (row_at rows i) n slot ≡ true → slot < length (records_at ss (row_at rows i).segment)
  pub ready : length nexts ≡ length rows
  pub deltas : (i : ℕ) → i < length rows → next_at nexts i ≡ next_of (map shortest (row_at rows i).deltas) (shortest (changed_slots ss c n r cs (row_at rows i)))
  pub count : length l.pieces ≡ length rows
  pub shown : (i : ℕ) → i < length rows → Shows (map (segment_after c (puts cs r)) ss) (suc n) (row_after ss (map (segment_after c (puts cs r)) ss) (touches cs r) n (row_at rows i)) (piece_at l.pieces i)
  pub whole : (s : ℕ) → s < length ss → is_head_of c (head_at ss s) ≡ true → IsWhole (map (segment_after c (puts cs r)) ss) s l.pieces
  pub lived : IsLived l
  pub small : AreSmall l
  pub widths : (i : ℕ) → i < length rows → (piece_at l.pieces i).rows.widths ≡ ws
  pub own_widths : own.widths ≡ ws
  pub put : (s : ℕ) → s < length ss → is_head_of c (head_at ss s) ≡ true → own.records ≡ records_at (map (segment_after c (puts cs r)) ss) s

-- what stands past the last relation
abbrev pub no_own : Rows
no_own = record { widths = []; records = [] }

-- of a whole layout: the commit's branch and second parent, and each relation
pub record IsMadeOf (l : Layout) (c : ℕ) (second : Option VersionPlace) (cs : List Change) (b : ℕ) (third : Option VersionPlace) (nexts : List (List Next)) (head : List Lived) (owns : List Rows) : Type 0 where
  pub branch : b ≡ c
  pub version : third ≡ second
  pub ready : length nexts ≡ length l.schema
  pub wide : length head ≡ length l.schema
  pub counted : length owns ≡ length l.schema
  pub at : (r : ℕ) → r < length l.schema → IsMadeAt (segments_at l.segments r) (widths_at l.schema r) c (last_in (lane_at l c)) r cs (rows_at (lane_at l c) r) (nexts_at nexts r) (lived_at head r) (get_or owns r no_own)

-- of the layout of a state, if it has one
abbrev pub IsNextOf : ℕ → Option VersionPlace → List (List Next) → List Lived → List Rows → Option Layout → Entry → Type 0
IsNextOf b third nexts head owns None e = ⊥
IsNextOf b third nexts head owns (Some l) (Commit c second cs) = IsMadeOf l c second cs b third nexts head owns
IsNextOf b third nexts head owns (Some l) (NewBranch name origin) = ⊥

-- it is ready for a commit that fits
abbrev pub IsReady : ℕ → Option VersionPlace → List (List Next) → List Lived → List Rows → State → Entry → Type 0
IsReady b third nexts head owns s e = (fits (dataset_of s) e ≡ true) × IsNextOf b third nexts head owns s.layout e

-- these are the records of the heads, by their numbers, in the first relations
abbrev pub AreOwn : (ℕ → ℕ) → List Lived → ℕ → List Rows → Type 0
AreOwn heads ls n owns = (r : ℕ) → r < n → IsOwnOf (heads r) (lived_at ls r).pieces (get_or owns r no_own)
