use Rattle.std.proofs.Common.{◌≡◌, ◌∙◌, ◌++◌, ◌&&◌, ap, sym, length, List, Bool, not, cond, nat_lt}
use Rattle.std.specs.Arc.{arc_value}
use Rattle.plain_bits.specs.Truth.{bit_of}
use Rattle.record_page.specs.Page.{Rows}
use Rattle.hybrid_view.specs.Live.{Piece}
use Rattle.hybrid_view.specs.Struck.{struck}
use Rattle.hybrid_view.proofs.NextLemmas.{next_head}
use Rattle.hybrid_view.proofs.part.LivePart.with_rows.Goals as goal

pub returns : goal.returns
returns c =
    let p : Piece = c.args.self.now in
    let rows : arc_value c.in_ok-new.field-0 ≡ record p.rows { records = p.rows.records ++ c.args.rows.now } =
    c.in_ok-new.ensures.ok ∙ c.in_ok-records.ensures ∙ ap (λ (r : Rows). record r { records = r.records ++ c.args.rows.now }) (c.deref-2.ensures ∙ ap (λ (o : Piece). o.rows) c.self.view_is) in
    let to = c.len.ensures.count ∙ sym (ap (λ (r : Rows). length r.records) c.in_ok-new.ensures.ok) in
    next_head c.args.places.now c.args.rows.now p (record { segment = c.self.inside.segment; rows = arc_value c.in_ok-new.field-0; bits = arc_value c.in_ok-new-2.field-0 }) c.len-from.result c.in_ok-bits.bits
    (ap (λ (o : Piece). o.segment) c.self.view_is)
    rows
    (c.len-from.ensures.count ∙ ap (λ (r : Rows). length r.records) (c.deref.ensures ∙ ap (λ (o : Piece). o.rows) c.self.view_is))
    (λ slot. c.in_ok-bits.ensures.bits slot ∙ ap (λ (b : List Bool). bit_of b slot && not (struck c.args.places.now c.self.inside.segment slot)) c.deref-3.ensures ∙ ap (λ (o : Piece). bit_of o.bits slot && not (struck c.args.places.now o.segment slot)) c.self.view_is)
    (λ slot. ap (λ (b : List Bool). bit_of b slot) c.in_ok-new-2.ensures.ok ∙ c.in_ok-put_bits.ensures.bits slot ∙ ap (λ n. cond (nat_lt slot c.len-from.result) (bit_of c.in_ok-bits.bits slot) (nat_lt slot n)) to)
    (ap (λ (b : List Bool). length b) c.in_ok-new-2.ensures.ok ∙ c.in_ok-put_bits.ensures.len ∙ to)
    c.requires.covers
