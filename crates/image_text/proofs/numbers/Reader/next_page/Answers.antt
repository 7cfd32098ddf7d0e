use Rattle.std.proofs.Common.{◌≡◌, length, Option, IfNone, IfSome, true, false, ap, subst, ◌∙◌, arith}
use Rattle.std.proofs.lemmas.List.{length-append}
use Rattle.image_text.specs.Reading.{is_page_of}
use Rattle.record_page.specs.Page.{Rows, rows_in}
use Rattle.image_text.proofs.Seen.{page_ended, failed_here, read_here, counted_here}
use Rattle.image_text.proofs.numbers.Reader.next_page.Goals as goal

pub returns-then-left-lt-PAGE-clause-exact : goal.returns-then-left-lt-PAGE-clause-exact
returns-then-left-lt-PAGE-clause-exact c =
    let left = c.left-left.ensures in
    let short = c.if-left-lt-PAGE.true in
    page_ended c.args.widths.now c.args.more c.args.longer.records c.args.self.now.rest.now (omega (arith, left, short))

pub returns-in_default-clause-exact : goal.returns-in_default-clause-exact
returns-in_default-clause-exact c =
    let none : is_page_of c.args.widths.now c.on_page-count.result c.split_at.result.0.now ≡ false = subst (λ (o : Option Rows). IfNone o (is_page_of c.args.widths.now c.on_page-count.result c.split_at.result.0.now ≡ false)) c.in_default.is c.in_ok-page.ensures.none in
    failed_here c.args.widths.now c.args.more c.on_page-count.result c.left-left.result c.args.longer.records c.args.self.now.rest.now c.split_at.result.0.now c.on_page-count.ensures.exact c.split_at.ensures.front c.left-left.ensures c.if-left-lt-PAGE.false none

pub put_page-requires-clause-few : goal.put_page-requires-clause-few
put_page-requires-clause-few c =
    let is : is_page_of c.args.widths.now c.on_page-count.result c.split_at.result.0.now ≡ true = subst (λ (o : Option Rows). IfSome o (λ _. is_page_of c.args.widths.now c.on_page-count.result c.split_at.result.0.now ≡ true)) c.in-Some.is c.in_ok-page.ensures.is in
    let same : c.in-Some.page ≡ rows_in c.args.widths.now c.split_at.result.0.now = subst (λ (o : Option Rows). IfSome o (λ p. p ≡ rows_in c.args.widths.now c.split_at.result.0.now)) c.in-Some.is c.in_ok-page.ensures.page in
    let count = counted_here c.args.widths.now c.on_page-count.result c.in-Some.page c.split_at.result.0.now is same in
    omega (arith, count, c.on_page-count.ensures.within, c.requires.few)

pub returns-clause-exact : goal.returns-clause-exact
returns-clause-exact c =
    let is : is_page_of c.args.widths.now c.on_page-count.result c.split_at.result.0.now ≡ true = subst (λ (o : Option Rows). IfSome o (λ _. is_page_of c.args.widths.now c.on_page-count.result c.split_at.result.0.now ≡ true)) c.in-Some.is c.in_ok-page.ensures.is in
    let same : c.in-Some.page ≡ rows_in c.args.widths.now c.split_at.result.0.now = subst (λ (o : Option Rows). IfSome o (λ p. p ≡ rows_in c.args.widths.now c.split_at.result.0.now)) c.in-Some.is c.in_ok-page.ensures.page in
    let long = c.if-left-lt-PAGE.false in
    let left = c.left-left.ensures in
    read_here c.args.widths.now c.args.more c.on_page-count.result c.args.longer.records c.in_ok-all.all.records c.in-Some.page c.args.self.now.rest.now c.split_at.result.0.now c.split_at.result.1.now c.on_page-count.ensures.exact c.split_at.ensures.front c.split_at.ensures.back (omega (arith, long, left)) is same (ap (λ (r : Rows). r.records) c.in_ok-all.ensures)

pub returns-clause-count : goal.returns-clause-count
returns-clause-count c =
    let is : is_page_of c.args.widths.now c.on_page-count.result c.split_at.result.0.now ≡ true = subst (λ (o : Option Rows). IfSome o (λ _. is_page_of c.args.widths.now c.on_page-count.result c.split_at.result.0.now ≡ true)) c.in-Some.is c.in_ok-page.ensures.is in
    let same : c.in-Some.page ≡ rows_in c.args.widths.now c.split_at.result.0.now = subst (λ (o : Option Rows). IfSome o (λ p. p ≡ rows_in c.args.widths.now c.split_at.result.0.now)) c.in-Some.is c.in_ok-page.ensures.page in
    let count = counted_here c.args.widths.now c.on_page-count.result c.in-Some.page c.split_at.result.0.now is same in
    let put = ap (λ (r : Rows). length r.records) c.in_ok-all.ensures ∙ length-append c.args.longer.records c.in-Some.page.records in
    omega (arith, put, count, c.on_page-count.ensures.within)
