-- What is ready for rows, by the bits before and after.
use Rattle.std.specs.Prelude.{◌≡◌, ℕ, ◌<◌, List, Option, length}
use Rattle.db_value.specs.declared.record.Record.{Record}
use Rattle.plain_bits.specs.Truth.{bit_of}
use Rattle.commit_history.specs.Runs.{Next, next_of}
use Rattle.db_store.specs.Layout.{differ, slots_where}
use Rattle.hybrid_view.specs.Live.{Piece, piece_at}
use Rattle.hybrid_view.specs.RowPlaces.{Next as NextPiece, AllNext}
use Rattle.bit_rows.specs.Short.{shortest}
use Rattle.bit_rows.specs.Rows.{KeptRow, next_at, kept_row_at}

-- the slots in which two pieces differ, where the second one is longer
abbrev pub difference_of : Piece → Piece → List ℕ
difference_of p q = slots_where (λ slot. differ (bit_of p.bits slot) (bit_of q.bits slot)) (length q.bits)

-- the second piece is the first one after a commit that touches these places
abbrev pub IsNext : List (Option (ℕ × ℕ)) → Piece → Piece → Type 0
IsNext places p q = (head : ℕ) × ((more : List Record) × NextPiece places head more p q)

-- so is each piece of a relation
abbrev pub AreNext : List (Option (ℕ × ℕ)) → List Piece → List Piece → Type 0
AreNext places ps qs = (head : ℕ) × ((more : List Record) × AllNext places head more ps qs)

-- what is ready for rows is what pieces and others differ in
pub record AreDifferences (rows : List KeptRow) (nexts : List Next) (ps qs : List Piece) : Type 0 where
  pub count : length nexts ≡ length rows
  pub each : (i : ℕ) → i < length rows → next_at nexts i ≡ next_of (kept_row_at rows i).deltas (shortest (difference_of (piece_at ps i) (piece_at qs i)))
