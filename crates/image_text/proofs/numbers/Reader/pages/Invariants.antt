use Rattle.std.proofs.Common.{◌≡◌, ◌-◌, ◌+◌, [], length}
use Rattle.image_text.specs.Reading.{repeat, next_page}
use Rattle.image_text.proofs.numbers.Reader.pages.Given as goal

abbrev pub invariant-loop : goal.invariant-loop
invariant-loop l = record {
  read : repeat (next_page l.widths) (l.pages - l.counter) (l.more, l.longer.records) l.self.rest.now ≡ repeat (next_page l.widths) l.pages (l.count, []) l.fn.self.rest.now;
  widths : l.longer.widths ≡ l.widths;
  count : length l.longer.records + l.more ≡ l.count;
}
