-- Where the keys of rows stand, and what changes make of the places.
use Rattle.std.specs.Prelude.{◌≡◌, ℕ, suc, ◌<◌, ◌≤◌, ◌==◌, ◌&&◌, nat_lt, not, cond, Bool, true, false, List, [], ◌∷◌, ◌++◌, length, take, Option, Some, None}
use Rattle.db_value.specs.Value.{Value}
use Rattle.db_value.specs.declared.entry.Change.{Change}
use Rattle.key_index.specs.declared.changes.SpotChange.{SpotChange}
use Rattle.plain_bits.specs.Truth.{bit_of}
use Rattle.db_store.specs.Layout.{Segment, Row, bit, records_at}
use Rattle.db_value.specs.declared.record.Record.{Record}
use Rattle.hybrid_view.specs.Live.{Piece, piece_at, slot_in, place_or}
use Rattle.hybrid_view.specs.Struck.{struck}

-- the slot of a row in which a key is live at a position
abbrev pub row_slot : List Segment → ℕ → Row → ℕ → Option ℕ
row_slot ss n row key = slot_in 0 (records_at ss row.segment) (bit row n) key

-- the segment and the slot of a key in rows
abbrev pub place_in_rows : List Segment → ℕ → List Row → ℕ → Option (ℕ × ℕ)
place_in_rows ss n [] key = None
place_in_rows ss n (row ∷ rows) key = place_or row.segment (row_slot ss n row key) (place_in_rows ss n rows key)

-- a piece is a row at a position: the first records of its segment, of which the same are live, and no other one is
pub record Shows (ss : List Segment) (n : ℕ) (row : Row) (p : Piece) : Type 0 where
  pub segment : p.segment ≡ row.segment
  pub front : take (length p.rows.records) (records_at ss row.segment) ≡ p.rows.records
  pub bits : (slot : ℕ) → bit_of p.bits slot ≡ bit row n slot
  pub past : (slot : ℕ) → length p.rows.records ≤ slot → bit row n slot ≡ false

-- the piece of a segment has all its records
abbrev pub IsWhole : List Segment → ℕ → List Piece → Type 0
IsWhole ss head ps = (i : ℕ) → i < length ps → (piece_at ps i).segment ≡ head → (piece_at ps i).rows.records ≡ records_at ss head

-- each piece is the row at its place
abbrev pub AllShow : List Segment → ℕ → List Row → List Piece → Type 0
AllShow ss n [] [] = Unit {0}
AllShow ss n [] (p ∷ ps) = ⊥
AllShow ss n (row ∷ rows) [] = ⊥
AllShow ss n (row ∷ rows) (p ∷ ps) = Shows ss n row p × AllShow ss n rows ps

-- the change of an index for a change of a record, where what is put next stands in a slot of the head; then the others
abbrev pub spot_before : Bool → ℕ → ℕ → ℕ → Option (List Value) → (ℕ → List SpotChange) → List SpotChange
spot_before true head next key (Some fields) rest = record { key = key; place = Some (head, next) } ∷ rest (suc next)
spot_before true head next key None rest = record { key = key; place = None } ∷ rest next
spot_before false head next key state rest = rest next

-- the changes of the index of a relation
abbrev pub spots : ℕ → ℕ → List Change → ℕ → List SpotChange
spots head next [] r = []
spots head next (c ∷ cs) r = spot_before (c.relation == r) head next c.key c.fields (λ n. spots head n cs r)

-- a piece after a commit: its segment has the new records behind its own where it is the head, and the bits are those of untouched keys and of new records
pub record Next (places : List (Option (ℕ × ℕ))) (head : ℕ) (more : List Record) (p q : Piece) : Type 0 where
  pub segment : q.segment ≡ p.segment
  pub widths : q.rows.widths ≡ p.rows.widths
  pub records : q.rows.records ≡ p.rows.records ++ cond (p.segment == head) more []
  pub bits : (slot : ℕ) → bit_of q.bits slot ≡ cond (nat_lt slot (length p.rows.records)) (bit_of p.bits slot && not (struck places p.segment slot)) (nat_lt slot (length q.rows.records))
  pub covered : length q.bits ≤ length q.rows.records
  pub longer : length p.bits ≤ length q.bits

-- so is each piece at its place
pub record AllNext (places : List (Option (ℕ × ℕ))) (head : ℕ) (more : List Record) (ps qs : List Piece) : Type 0 where
  pub count : length qs ≡ length ps
  pub each : (i : ℕ) → i < length ps → Next places head more (piece_at ps i) (piece_at qs i)
