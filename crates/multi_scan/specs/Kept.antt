-- Rows whose records stand in a list.
use Rattle.std.specs.Prelude.{ℕ, ◌<◌, ◌-◌, nat_lt, cond, List, [], length}
use Rattle.std.specs.declared.cmp.Ordering.{Ordering}
use Rattle.std.proofs.Common.{get_or}
use Rattle.db_value.specs.Order.{record_cmp}
use Rattle.db_value.specs.declared.record.Record.{Record}
use Rattle.db_value.specs.declared.record.Marked.{Marked}
use Rattle.multi_scan.specs.declared.found.FoundRow.{FoundRow}

-- a place in a list of this length: past its end, the last one
abbrev pub place_in : ℕ → ℕ → ℕ
place_in place len = cond (nat_lt place len) place (len - 1)

-- the record at a place
abbrev pub record_at : List Record → ℕ → Record
record_at records place = get_or records place (record { key = 0; fields = [] })

-- the row whose record stands there
abbrev pub row_at : List Record → FoundRow → Marked
row_at records f = record { row = record_at records (place_in f.place (length records)); positions = f.positions }

-- its record is there
abbrev pub IsThere : List Record → FoundRow → Type 0
IsThere records f = f.place < length records

-- by record
abbrev pub kept_cmp : List Record → FoundRow → FoundRow → Ordering
kept_cmp records a b = record_cmp (row_at records a).row (row_at records b).row
