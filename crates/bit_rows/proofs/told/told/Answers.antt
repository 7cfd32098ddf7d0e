use Rattle.std.proofs.Common.{◌≡◌, ◌∙◌, ap, sym, length}
use Rattle.record_page.specs.Page.{Rows}
use Rattle.bit_rows.specs.Segments.{KeptRecords, kept_at}
use Rattle.bit_rows.specs.Told.{name_of_head}
use Rattle.bit_rows.proofs.told.told.Goals as goal

pub name_of-head-requires : goal.name_of-head-requires
name_of-head-requires c = λ b e. c.requires.can.heads c.args.index b c.requires.index (ap (λ (k : KeptRecords). k.head) (sym c.segment-own.ensures) ∙ sym c.head.ensures ∙ e)

pub returns : goal.returns
returns c =
    let head : c.name_of-head.result ≡ name_of_head c.args.lanes.now (kept_at c.args.kept.now.all c.args.index).head =
    c.name_of-head.ensures ∙ ap (name_of_head c.args.lanes.now) (c.head.ensures ∙ ap (λ (k : KeptRecords). k.head) c.segment-own.ensures) in
    let count : c.len-count.result ≡ length (kept_at c.args.kept.now.all c.args.index).rows.records =
    c.len-count.ensures.count ∙ ap (λ (x : Rows). length x.records) (c.records.ensures ∙ ap (λ (k : KeptRecords). k.rows) c.segment-own.ensures) in
    λ j. record { relation = c.args.name; index = c.args.index; head = head j; records = count j; live = c.in_ok-live.ensures j }
