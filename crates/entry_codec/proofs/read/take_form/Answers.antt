use Rattle.std.proofs.Common.{◌≡◌, ◌∙◌, Bool, Some, ap, sym, subst, length}
use Rattle.entry_codec.specs.Grammar.{form_in, row_of}
use Rattle.entry_codec.proofs.WideForms.{known_wide}
use Rattle.entry_codec.proofs.RowForm.{known_numbers}
use Rattle.entry_codec.proofs.read.take_form.Goals as goal

pub take_wide-requires-clause-wide : goal.take_wide-requires-clause-wide
take_wide-requires-clause-wide c = known_wide (length c.args.widths.now) c.args.widths.now c.args.b.now (subst (λ (w : Bool). form_in w (length c.args.widths.now) c.args.b.now ≡ Some c.args.widths.now) c.if-wide.true c.requires.there)

pub returns-then-wide : goal.returns-then-wide
returns-then-wide c = c.take_wide.ensures ∙ sym (ap (λ (w : Bool). row_of w c.args.widths.now c.args.b.now) c.if-wide.true)

pub take_row-requires-clause-room : goal.take_row-requires-clause-room
take_row-requires-clause-room c = (known_numbers (length c.args.widths.now) c.args.widths.now c.args.b.now (subst (λ (w : Bool). form_in w (length c.args.widths.now) c.args.b.now ≡ Some c.args.widths.now) c.if-wide.false c.requires.there)).0

pub take_row-requires-clause-row : goal.take_row-requires-clause-row
take_row-requires-clause-row c = (known_numbers (length c.args.widths.now) c.args.widths.now c.args.b.now (subst (λ (w : Bool). form_in w (length c.args.widths.now) c.args.b.now ≡ Some c.args.widths.now) c.if-wide.false c.requires.there)).1

pub returns : goal.returns
returns c = c.take_row.ensures ∙ sym (ap (λ (w : Bool). row_of w c.args.widths.now c.args.b.now) c.if-wide.false)
