-- Slots of the parts of a view.
use Rattle.std.proofs.Common.{◌≡◌, ℕ, ◌<◌, Bool, length, arith, ap}
use Rattle.std.proofs.lemmas.List.{length-map}
use Rattle.db_value.specs.declared.record.Record.{Record}
use Rattle.db_store.specs.Parts.{part_at, slot_at}
use Rattle.plain_bits.specs.Truth.{bit_of}
use Rattle.record_page.specs.Page.{record_at}
use Rattle.hybrid_view.specs.Live.{Lived, part_of, piece_at, parts_in}
use Rattle.hybrid_view.proofs.FindLemmas.{slots_count, slot_at_is}

pub piece_there : (l : Lived) (i : ℕ) → i < length (parts_in l) → i < length l.pieces
piece_there l i h = let n = length-map l.pieces part_of in omega (arith, n, h)

pub slot_there : (l : Lived) (i slot : ℕ) → i < length (parts_in l) → slot < length (part_at (parts_in l) i).slots → slot < length (piece_at l.pieces i).rows.records
slot_there l i slot h k = let n = slots_count l.pieces i (piece_there l i h) in omega (arith, n, k)

pub live_is : (l : Lived) (i slot : ℕ) → i < length (parts_in l) → slot < length (part_at (parts_in l) i).slots → (slot_at (parts_in l) i slot).1 ≡ bit_of (piece_at l.pieces i).bits slot
live_is l i slot h k = ap (λ (s : Record × Bool). s.1) (slot_at_is l.pieces i slot (piece_there l i h) (slot_there l i slot h k))

pub row_is : (l : Lived) (i slot : ℕ) → i < length (parts_in l) → slot < length (part_at (parts_in l) i).slots → (slot_at (parts_in l) i slot).0 ≡ record_at (piece_at l.pieces i).rows.records slot
row_is l i slot h k = ap (λ (s : Record × Bool). s.0) (slot_at_is l.pieces i slot (piece_there l i h) (slot_there l i slot h k))

pub count_is : (l : Lived) (i : ℕ) → i < length (parts_in l) → length (part_at (parts_in l) i).slots ≡ length (piece_at l.pieces i).rows.records
count_is l i h = slots_count l.pieces i (piece_there l i h)
