-- The pages and the records of a segment that is being made.
use Rattle.std.specs.Prelude.{List, ◌++◌, map}
use Rattle.std.specs.Arc.{arc_value}
use Rattle.db_value.specs.declared.record.Record.{Record}
use Rattle.record_page.specs.Page.{Rows}
use Rattle.segment.specs.declared.tail.Tail.{Tail}
use Rattle.segment.specs.Pages.{records_of, pages_of}

-- the full pages
abbrev pub full_in : Tail → List Rows
full_in t = pages_of (arc_value t.blocks) ++ map arc_value t.pages.items

-- all records
abbrev pub rows_in : Tail → List Record
rows_in t = records_of (full_in t) ++ t.last.records
