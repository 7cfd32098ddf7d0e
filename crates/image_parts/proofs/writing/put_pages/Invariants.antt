use Rattle.std.proofs.Common.{◌≡◌, ◌++◌, ◌-◌, ◌*◌, length, drop}
use Rattle.record_page.specs.Page.{capacity}
use Rattle.image_text.specs.Reading.{pages_for}
use Rattle.image_text.specs.Spelling.{pages_bytes}
use Rattle.image_parts.proofs.writing.put_pages.Given as goal

-- the pages so far, and those of the records that are left
abbrev pub invariant-loop-index : goal.invariant-loop-index
invariant-loop-index l =
    l.out.items ++ pages_bytes l.segment.widths (pages_for l.segment.widths (length l.segment.records) - l.index) (drop (l.index * capacity l.segment.widths) l.segment.records)
    ≡ l.fn.out.items ++ pages_bytes l.segment.widths (pages_for l.segment.widths (length l.segment.records)) l.segment.records
