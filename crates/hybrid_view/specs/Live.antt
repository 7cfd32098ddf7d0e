-- What a version has of a relation: segments with bits, and where each key stands.
use Rattle.std.specs.Prelude.{◌≡◌, ℕ, suc, ◌+◌, ◌*◌, ◌-◌, ◌^◌, ◌<◌, ◌≤◌, ◌==◌, ◌&&◌, nat_le, nat_lt, filter, cond, Bool, true, List, [], ◌∷◌, ◌++◌, length, map, Option, Some, None, refl}
use Rattle.std.specs.List.{flat_map}
use Rattle.std.specs.Ordering.{nat_cmp}
use Rattle.std.specs.FinMap as finite
use Rattle.std.specs.Coded.{Coded, code_by, coded×, coded_ℕ, coded_list, coded_bool}
use Rattle.std.proofs.Common.{get_or}
use Rattle.db_value.specs.declared.record.Record.{Record}
use Rattle.record_page.specs.Page.{Rows, rows_code}
use Rattle.plain_bits.specs.Truth.{bit_of, count_true}
use Rattle.db_store.specs.Table.{Contents, Table}
use Rattle.db_store.specs.Parts.{Part}
use Rattle.db_store.specs.Layout.{live_from, contents_of}
use Rattle.db_store.specs.LaidOut.{times}

-- a segment with its number, as it was with so many records, and bits
pub record Piece : Type 0 where
  pub segment : ℕ
  pub rows : Rows
  pub bits : List Bool

-- pieces can be told apart
abbrev pub piece_code : Coded Piece
piece_code = code_by (ℕ × (Rows × List Bool)) (coded× coded_ℕ (coded× rows_code (coded_list coded_bool))) (λ p. (p.segment, (p.rows, p.bits))) (λ p. record { segment = p.0; rows = p.1.0; bits = p.1.1 }) (λ _. refl)

-- records with whether each is live, of a list that begins at a slot
abbrev pub slots_from : ℕ → List Record → (ℕ → Bool) → List (Record × Bool)
slots_from slot [] p = []
slots_from slot (x ∷ xs) p = (x, p slot) ∷ slots_from (suc slot) xs p

-- a piece as a part of a view
abbrev pub part_of : Piece → Part
part_of p = record { id = p.segment * 2 ^ 32 + length p.rows.records; slots = slots_from 0 p.rows.records (bit_of p.bits) }

-- the live records of a piece
abbrev pub live_piece : Piece → List Record
live_piece p = live_from 0 p.rows.records (bit_of p.bits)

-- and of several
abbrev pub live_pieces : List Piece → List Record
live_pieces ps = flat_map live_piece ps

-- the slot of the first live record with a key
abbrev pub slot_in : ℕ → List Record → (ℕ → Bool) → ℕ → Option ℕ
slot_in slot [] p key = None
slot_in slot (x ∷ xs) p key = cond (p slot && x.key == key) (Some slot) (slot_in (suc slot) xs p key)

-- a segment with a slot of it, or else another place
abbrev pub place_or : ℕ → Option ℕ → Option (ℕ × ℕ) → Option (ℕ × ℕ)
place_or segment None rest = rest
place_or segment (Some slot) rest = Some (segment, slot)

-- the segment and the slot of the first live record with a key
abbrev pub place_of : List Piece → ℕ → Option (ℕ × ℕ)
place_of [] key = None
place_of (p ∷ ps) key = place_or p.segment (slot_in 0 p.rows.records (bit_of p.bits) key) (place_of ps key)

-- what stands past the last piece
abbrev pub no_piece : Piece
no_piece = record { segment = 0; rows = record { widths = []; records = [] }; bits = [] }

-- a piece by its number
abbrev pub piece_at : List Piece → ℕ → Piece
piece_at ps i = get_or ps i no_piece

-- each piece of this segment has P
abbrev pub EachOf : ℕ → List Piece → (Piece → Type 0) → Type 0
EachOf segment ps P = (i : ℕ) → i < length ps → (piece_at ps i).segment ≡ segment → P (piece_at ps i)

-- the pieces stand by ascending segment
abbrev pub rises : ℕ → List Piece → Bool
rises low [] = true
rises low (p ∷ ps) = nat_le low p.segment && rises (suc p.segment) ps

-- a segment and a slot for each key
abbrev pub Places : Type 0
Places = finite.FinMap nat_cmp (ℕ × ℕ)

-- pieces, the places of keys, and how many keys there are
pub record Lived : Type 0 where
  pub pieces : List Piece
  pub places : Places
  pub count : ℕ

-- these can be told apart
abbrev pub lived_code : Coded Lived
lived_code = code_by (List Piece × (Places × ℕ)) (coded× (coded_list piece_code) (coded× (finite.code coded_ℕ (coded× coded_ℕ coded_ℕ)) coded_ℕ)) (λ l. (l.pieces, (l.places, l.count))) (λ p. record { pieces = p.0; places = p.1.0; count = p.1.1 }) (λ _. refl)

-- what the relation has
abbrev pub contents_in : Lived → Contents
contents_in l = contents_of (live_pieces l.pieces)

-- its parts in a view
abbrev pub parts_in : Lived → List Part
parts_in l = map part_of l.pieces

-- what stands past the last relation
abbrev pub no_lived : Lived
no_lived = record { pieces = []; places = finite.empty; count = 0 }

-- one piece, without records
abbrev pub empty_lived : Piece → Lived
empty_lived head = record { pieces = head ∷ []; places = finite.empty; count = 0 }

-- the pieces stand by ascending segment, no key is live twice, the places are those of the live records, and the count is that of their keys
pub record IsLived (l : Lived) : Type 0 where
  pub ascend : rises 0 l.pieces ≡ true
  pub apart : (key : ℕ) → times key (live_pieces l.pieces) ≤ 1
  pub placed : (key : ℕ) → finite.get l.places key ≡ place_of l.pieces key
  pub counted : l.count ≡ finite.len (contents_in l)
  pub few : length l.pieces < 2 ^ 32 - 1
  pub covered : (i : ℕ) → i < length l.pieces → length (piece_at l.pieces i).bits ≤ length (piece_at l.pieces i).rows.records

-- what there is of a relation
abbrev pub lived_at : List Lived → ℕ → Lived
lived_at ls r = get_or ls r no_lived

-- all of that holds in each relation
abbrev pub AllLived : List Lived → Type 0
AllLived ls = (r : ℕ) → r < length ls → IsLived (lived_at ls r)

-- the table of what there is of each relation
abbrev pub table_of : List Lived → Table
table_of ls = map contents_in ls

-- something of the piece is live
abbrev pub has_live : Piece → Bool
has_live p = nat_lt 0 (count_true p.bits)

-- the pieces of a new branch: those in which something is live, and its head
abbrev pub begun_pieces : List Piece → Piece → List Piece
begun_pieces ps head = filter has_live ps ++ head ∷ []
