use Rattle.std.proofs.Common.{◌≡◌, ◌++◌, Bool, List, ℕ, subst, sym}
use Rattle.std.specs.Prelude.{OnOk}
use Rattle.entry_codec.specs.Wide.{wide_bytes}
use Rattle.entry_codec.specs.Spelling.{row_form}
use Rattle.entry_codec.proofs.write.put_fields.Goals as goal

pub returns-then-wide-clause-bytes : goal.returns-then-wide-clause-bytes
returns-then-wide-clause-bytes c =
    subst (λ (w : Bool). OnOk c.push_wide.result (c.push_wide.new.out.items ≡ c.args.out.now.items ++ row_form w c.args.widths.now c.args.fields.now)) (sym c.if-wide.true)
    (subst (λ (ws : List ℕ). OnOk c.push_wide.result (c.push_wide.new.out.items ≡ c.args.out.now.items ++ wide_bytes ws c.args.fields.now)) c.as_slice.ensures.value c.push_wide.ensures.bytes)

pub returns-clause-bytes : goal.returns-clause-bytes
returns-clause-bytes c =
    subst (λ (w : Bool). OnOk c.push_row.result (c.push_row.new.out.items ≡ c.args.out.now.items ++ row_form w c.args.widths.now c.args.fields.now)) (sym c.if-wide.false)
    c.push_row.ensures.bytes
