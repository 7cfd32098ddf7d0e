use Rattle.std.proofs.Common.{◌≡◌, ◌++◌, ◌<◌, ℕ, List, length, ap, subst, ◌∙◌}
use Rattle.record_page.specs.Page.{Rows, page_bytes as page_text}
use Rattle.segment.specs.Pages.{page_of}
use Rattle.image_text.specs.Reading.{pages_for}
use Rattle.image_text.specs.Spelling.{pages_bytes}
use Rattle.image_parts.proofs.Write.{page_next}
use Rattle.image_parts.proofs.writing.put_pages.Goals as goal

pub loop-index-preserved : goal.loop-index-preserved
loop-index-preserved c =
    let all : Rows = c.args.segment.now in
    let i : ℕ = c.loop-index.index in
    let out : List ℕ = c.loop-index.out.items in
    let pages : ℕ = pages_for all.widths (length all.records) in
    let more : i < pages = subst (λ (n : ℕ). i < n) c.pages-index-end.ensures c.loop-index-test.true in
    let put : c.extend_from_slice.new.self.items ≡ out ++ page_text (page_of all i) = c.in_ok-extend_from_slice.ensures.items ∙ ap (λ (b : List ℕ). out ++ b) (c.bytes.ensures ∙ ap page_text c.page.ensures) in
    page_next out c.extend_from_slice.new.self.items (c.args.out.now.items ++ pages_bytes all.widths pages all.records) all pages i more put c.loop-index.invariant
