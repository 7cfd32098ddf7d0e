-- What the readers of a store tell of its layout.
use Rattle.std.specs.Prelude.{ℕ, ◌+◌, ◌==◌, ◌≢◌, cond, List, [], ◌∷◌, Option, Some, None}
use Rattle.std.proofs.Common.{get_or}
use Rattle.db_store.specs.Dataset.{root}
use Rattle.db_store.specs.Layout.{Row, Layout, lane_at, rows_at}
use Rattle.db_store.specs.LaidOut.{row_at}
use Rattle.hybrid_store.specs.declared.made.MadeVersion.{MadeVersion}

-- a version after the root, by its number in the order made: its branch and its second parent
abbrev pub made_version : Layout → ℕ → MadeVersion
made_version l i = record {
  branch = (get_or l.order (i + 1) root).branch;
  second = get_or (lane_at l (get_or l.order (i + 1) root).branch).seconds (get_or l.order (i + 1) root).position None;
}

-- the place of the first row of a segment among rows, which are numbered from a place on
abbrev pub place_from : ℕ → List Row → ℕ → Option ℕ
place_from i [] s = None
place_from i (row ∷ rows) s = cond (row.segment == s) (Some i) (place_from (i + 1) rows s)

-- the rows that a branch has in a relation
abbrev pub rows_in : Layout → ℕ → ℕ → List Row
rows_in l r b = rows_at (lane_at l b) r

-- the place of its row of a segment among these, if it has one
abbrev pub row_place : Layout → ℕ → ℕ → ℕ → Option ℕ
row_place l r s b = place_from 0 (rows_in l r b) s

-- the branch has a row of the segment
abbrev pub HasRow : Layout → ℕ → ℕ → ℕ → Type 0
HasRow l r s b = row_place l r s b ≢ None

-- the position at which the row at a place begins, if there is one
abbrev pub from_at : List Row → Option ℕ → Option ℕ
from_at rows None = None
from_at rows (Some i) = Some (row_at rows i).from

-- its deltas, from there on
abbrev pub deltas_at : List Row → Option ℕ → List (List ℕ)
deltas_at rows None = []
deltas_at rows (Some i) = (row_at rows i).deltas

-- the position at which a branch's row of a segment begins, if it has one
abbrev pub row_from : Layout → ℕ → ℕ → ℕ → Option ℕ
row_from l r s b = from_at (rows_in l r b) (row_place l r s b)

-- what each position of the row changes, from that one on
abbrev pub row_deltas : Layout → ℕ → ℕ → ℕ → List (List ℕ)
row_deltas l r s b = deltas_at (rows_in l r b) (row_place l r s b)
