-- Layouts after a few entries, computed.
use Rattle.std.proofs.Common.{◌≡◌, ℕ, true, false, List, [], ◌∷◌, length, map, Option, Some, None, refl, get_or}
use Rattle.std.specs.Prelude.{pos, codes}
use Rattle.db_value.specs.Relations.{number_column}
use Rattle.db_value.specs.declared.value.Value.TheVariants.{Number}
use Rattle.db_value.specs.declared.schema.Relation.{Relation}
use Rattle.db_value.specs.declared.entry.Change.{Change}
use Rattle.db_value.specs.declared.entry.Entry.{Entry}
use Rattle.db_value.specs.declared.entry.Entry.TheVariants.{Commit, Branch as NewBranch}
use Rattle.db_store.specs.Layout.{Segment, Row, Layout, new_layout, lane_at, bit, live_of, segments_at, rows_at}
use Rattle.db_store.specs.LayoutGrowth.{grow_layout}

items : List Relation
items = record { name = codes "items"; columns = number_column (codes "a") ∷ number_column (codes "b") ∷ [] } ∷ []

abbrev put : ℕ → ℕ → ℕ → Change
put key a b = record { relation = 0; key = key; fields = Some (Number (pos a) ∷ Number (pos b) ∷ []); widths = Some (0 ∷ 0 ∷ []) }

abbrev one : ℕ → Change → Entry
one b c = Commit b None (c ∷ [])

abbrev grown : Layout → List Entry → Layout
grown l [] = l
grown l (e ∷ es) = grown (grow_layout l e) es

-- each segment of the first relation: its head and how many records it has
abbrev heads : Layout → List (Option ℕ × ℕ)
heads l = map (λ (s : Segment). (s.head, length s.records)) (segments_at l.segments 0)

-- each row of a branch: its segment and how many records are live at a position
abbrev lives : Layout → ℕ → ℕ → List (ℕ × ℕ)
lives l b n = map (λ (row : Row). (row.segment, length (live_of (segments_at l.segments 0) n row))) (rows_at (lane_at l b) 0)

-- a branch of a head, with equal records on both
abbrev twice : Layout
twice = grown (new_layout items) (one 0 (put 7 1 1) ∷ NewBranch (codes "dev") (record { branch = 0; position = 1 }) ∷ one 0 (put 8 5 5) ∷ one 1 (put 8 5 5) ∷ one 1 (put 7 2 1) ∷ one 1 (put 7 1 1) ∷ [])

twice_heads : heads twice ≡ (None, 1) ∷ (Some 0, 1) ∷ (Some 1, 3) ∷ []
unfolding items
twice_heads = refl

twice_master : lives twice 0 2 ≡ (0, 1) ∷ (1, 1) ∷ []
unfolding items
twice_master = refl

twice_dev : lives twice 1 3 ≡ (0, 0) ∷ (2, 2) ∷ []
unfolding items
twice_dev = refl

-- which slots of the branch's head are live at its last position
twice_slots : map (bit (get_or (rows_at (lane_at twice 1) 0) 1 (record { segment = 0; from = 0; deltas = [] })) 3) (0 ∷ 1 ∷ 2 ∷ []) ≡ true ∷ false ∷ true ∷ []
unfolding items
twice_slots = refl

-- a branch of an older position
abbrev older : Layout
older = grown (new_layout items) (one 0 (put 1 1 1) ∷ one 0 (put 2 2 2) ∷ one 0 (put 3 3 3) ∷ NewBranch (codes "dev") (record { branch = 0; position = 1 }) ∷ [])

older_heads : heads older ≡ (Some 0, 3) ∷ (Some 1, 0) ∷ []
unfolding items
older_heads = refl

older_lives : (lives older 0 3 ≡ (0, 3) ∷ []) × (lives older 1 0 ≡ (0, 1) ∷ (1, 0) ∷ [])
unfolding items
older_lives = (refl, refl)
