use Rattle.std.proofs.Common.{[], ap, ◌∙◌}
use Rattle.record_page.specs.Page.{Rows}
use Rattle.image_text.specs.Reading.{repeat, next_page}
use Rattle.image_text.proofs.Loop.{goes_on, is_done}
use Rattle.image_text.proofs.Seen.{closed_here}
use Rattle.image_text.proofs.numbers.Reader.pages.Goals as goal

pub loop-preserved : goal.loop-preserved
loop-preserved c = record {
  read = goes_on (next_page c.args.widths.now) c.args.pages c.loop.counter (c.loop.more, c.loop.longer.records) (c.in_ok-after.after, c.in_ok-after.all.records) c.loop.self.rest.now c.next_page.new.self.rest.now
      (repeat (next_page c.args.widths.now) c.args.pages (c.args.count, []) c.args.self.now.rest.now) c.loop-test.true c.in_ok-after.ensures.exact c.loop.invariant.read;
  widths = c.in_ok-after.ensures.widths;
  count = c.in_ok-after.ensures.count ∙ c.loop.invariant.count;
}

pub returns : goal.returns
returns c =
    closed_here (repeat (next_page c.args.widths.now) c.args.pages (c.args.count, []) c.args.self.now.rest.now) c.loop.more c.loop.longer.records c.of-records.result c.loop.self.rest.now
    (is_done (next_page c.args.widths.now) c.args.pages c.loop.counter (c.loop.more, c.loop.longer.records) c.loop.self.rest.now (repeat (next_page c.args.widths.now) c.args.pages (c.args.count, []) c.args.self.now.rest.now) c.loop-test.false c.loop.invariant.read)
    (c.of-records.ensures ∙ ap (λ (r : Rows). r.records) c.in_ok-closed.ensures)
