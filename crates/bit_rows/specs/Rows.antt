-- Rows of bits with their histories.
use Rattle.std.specs.Prelude.{ℕ, ◌++◌, Bool, List, [], ◌∷◌, map, None, refl}
use Rattle.std.specs.Coded.{Coded, code_by, coded×, coded_ℕ, coded_list, coded_bool}
use Rattle.std.proofs.Common.{get_or}
use Rattle.commit_history.specs.Runs.{Next}
use Rattle.db_store.specs.Layout.{Row}
use Rattle.hybrid_view.specs.Deltas.{slots_of}
use Rattle.hybrid_view.specs.Live.{Piece}
use Rattle.bit_rows.specs.Short.{shortest}

-- a row of bits: its segment, the position at which it begins, and the delta of each position from there on
pub record KeptRow : Type 0 where
  pub segment : ℕ
  pub from : ℕ
  pub deltas : List (List Bool)

-- so can rows
abbrev pub row_code : Coded KeptRow
row_code =
    code_by (ℕ × (ℕ × List (List Bool))) (coded× coded_ℕ (coded× coded_ℕ (coded_list (coded_list coded_bool))))
    (λ r. (r.segment, (r.from, r.deltas))) (λ p. record { segment = p.0; from = p.1.0; deltas = p.1.1 }) (λ _. refl)

-- what stands past the last row
abbrev pub no_kept_row : KeptRow
no_kept_row = record { segment = 0; from = 0; deltas = [] }

-- a row by its number
abbrev pub kept_row_at : List KeptRow → ℕ → KeptRow
kept_row_at rows i = get_or rows i no_kept_row

-- a row as the layout has it
abbrev pub laid_row : KeptRow → Row
laid_row s = record { segment = s.segment; from = s.from; deltas = map slots_of s.deltas }

-- what stands past the last row's
abbrev pub no_next : Next
no_next = record { delta = record { item = []; count = 0 }; by_16 = None; by_256 = None; by_4096 = None }

-- what is ready for a row, by its number
abbrev pub next_at : List Next → ℕ → Next
next_at nexts i = get_or nexts i no_next

-- a row with one delta more
abbrev pub pushed_row : KeptRow → Next → KeptRow
pushed_row s next = record s { deltas = s.deltas ++ next.delta.item ∷ [] }

-- the row that a new branch begins of a piece, at its position 0
abbrev pub begun_row : Piece → KeptRow
begun_row p = record { segment = p.segment; from = 0; deltas = shortest (slots_of p.bits) ∷ [] }

-- a row of these deltas, each as short as it can be
abbrev pub shortest_row : ℕ → ℕ → List (List Bool) → KeptRow
shortest_row segment from deltas = record { segment = segment; from = from; deltas = map shortest (map slots_of deltas) }

-- one row more, and for how many rows in all there is room with it
pub record MoreRow : Type 0 where
  pub row : KeptRow
  pub room : ℕ

-- these can be told apart
abbrev pub more_code : Coded MoreRow
more_code = code_by (KeptRow × ℕ) (coded× row_code coded_ℕ) (λ m. (m.row, m.room)) (λ p. record { row = p.0; room = p.1 }) (λ _. refl)

-- what stands past the last one
abbrev pub no_more : MoreRow
no_more = record { row = no_kept_row; room = 0 }
