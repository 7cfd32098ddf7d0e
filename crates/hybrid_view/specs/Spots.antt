-- The places of live records, and the index that is made of them.
use Rattle.std.specs.Prelude.{ℕ, suc, cond, Bool, List, [], ◌∷◌, length, Option, Some, None}
use Rattle.std.specs.List.{flat_map}
use Rattle.std.specs.FinMap as finite
use Rattle.db_value.specs.declared.record.Record.{Record}
use Rattle.key_index.specs.declared.changes.SpotChange.{SpotChange}
use Rattle.key_index.specs.Places.{with_changes}
use Rattle.plain_bits.specs.Truth.{bit_of}
use Rattle.hybrid_view.specs.Live.{Piece, Places, Lived}

-- the places of the live records of a list that begins at a slot, as changes of an index
abbrev pub spots_in : ℕ → ℕ → List Record → (ℕ → Bool) → List SpotChange
spots_in segment slot [] p = []
spots_in segment slot (x ∷ xs) p = cond (p slot) (record { key = x.key; place = Some (segment, slot) } ∷ spots_in segment (suc slot) xs p) (spots_in segment (suc slot) xs p)

-- of a piece
abbrev pub spots_of_piece : Piece → List SpotChange
spots_of_piece p = spots_in p.segment 0 p.rows.records (bit_of p.bits)

-- of several
abbrev pub spots_of_pieces : List Piece → List SpotChange
spots_of_pieces ps = flat_map spots_of_piece ps

-- the places of the live records of pieces
abbrev pub places_anew : List Piece → Places
places_anew ps = with_changes finite.empty (spots_of_pieces ps)

-- the places that an index has, or those of the pieces if there is none
abbrev pub places_by : Option Places → List Piece → Places
places_by None ps = places_anew ps
places_by (Some places) ps = places

-- pieces with the places of their live records
abbrev pub lived_of : List Piece → Lived
lived_of ps = record { pieces = ps; places = places_anew ps; count = length (spots_of_pieces ps) }
