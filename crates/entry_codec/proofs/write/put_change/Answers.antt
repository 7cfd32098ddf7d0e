use Rattle.std.proofs.Common.{◌∙◌, ◌++◌, ◌∷◌, [], ℕ, List, ap, sym, subst, length}
use Rattle.std.specs.Prelude.{◌<◌, ◌^◌}
use Rattle.std.specs.Int.{w64, to_le_bytes}
use Rattle.db_value.specs.Value.{Value}
use Rattle.db_value.specs.PackedChanges.{change_here}
use Rattle.db_value.specs.declared.entry.Change.{Change}
use Rattle.entry_codec.specs.Laws.{AreValuesIfAny}
use Rattle.entry_codec.specs.Spelling.{row_form}
use Rattle.entry_codec.proofs.Lists.{met_none, met_some, bytes_none, bytes_some}
use Rattle.entry_codec.proofs.write.put_change.Goals as goal

pub returns-in_ok-put_deletion-in-None-clause-ranged : goal.returns-in_ok-put_deletion-in-None-clause-ranged
returns-in_ok-put_deletion-in-None-clause-ranged c =
    let one : Change = change_here c.args.changes.now c.args.at in
    (subst (λ k. k < 2 ^ 64) c.key.ensures c.in_ok-put_deletion-in-None.ensures.ranged, subst AreValuesIfAny (sym (met_none one (sym c.widths.ensures ∙ c.in-None.is) c.requires.met)) tt)

pub returns-in_ok-put_deletion-in-None-clause-bytes : goal.returns-in_ok-put_deletion-in-None-clause-bytes
returns-in_ok-put_deletion-in-None-clause-bytes c =
    let one : Change = change_here c.args.changes.now c.args.at in
    c.in_ok-put_deletion-in-None.ensures.bytes
    ∙ ap (λ (r : ℕ). c.args.out.now.items ++ r ∷ (0 ∷ (to_le_bytes w64 c.key.result ++ []))) c.relation-relation.ensures
    ∙ ap (λ (k : ℕ). c.args.out.now.items ++ one.relation ∷ (0 ∷ (to_le_bytes w64 k ++ []))) c.key.ensures
    ∙ ap (λ (l : List ℕ). c.args.out.now.items ++ l) (sym (bytes_none c.args.wide one (sym c.widths.ensures ∙ c.in-None.is) c.requires.met))

pub put_record-requires : goal.put_record-requires
put_record-requires c = (met_some (change_here c.args.changes.now c.args.at) c.in-Some.widths c.read.new.into.fields (sym c.widths.ensures ∙ c.in-Some.is) c.requires.met c.read.ensures.fields).1

pub returns-in_ok-put_record-in-Some-clause-ranged : goal.returns-in_ok-put_record-in-Some-clause-ranged
returns-in_ok-put_record-in-Some-clause-ranged c =
    let one : Change = change_here c.args.changes.now c.args.at in
    let met = met_some one c.in-Some.widths c.read.new.into.fields (sym c.widths.ensures ∙ c.in-Some.is) c.requires.met c.read.ensures.fields in
    (subst (λ k. k < 2 ^ 64) c.read.ensures.key c.in_ok-put_record-in-Some.ensures.ranged.0, subst AreValuesIfAny (sym met.0) c.in_ok-put_record-in-Some.ensures.ranged.1)

pub returns-in_ok-put_record-in-Some-clause-bytes : goal.returns-in_ok-put_record-in-Some-clause-bytes
returns-in_ok-put_record-in-Some-clause-bytes c =
    let one : Change = change_here c.args.changes.now c.args.at in
    let fields : List Value = c.read.new.into.fields in
    let ws : List ℕ = c.in-Some.widths in
    let met = met_some one ws fields (sym c.widths.ensures ∙ c.in-Some.is) c.requires.met c.read.ensures.fields in
    c.in_ok-put_record-in-Some.ensures.bytes
    ∙ ap (λ (r : ℕ). c.args.out.now.items ++ r ∷ (length fields ∷ (to_le_bytes w64 c.read.new.into.key ++ row_form c.args.wide ws fields))) c.relation-relation.ensures
    ∙ ap (λ (k : ℕ). c.args.out.now.items ++ one.relation ∷ (length fields ∷ (to_le_bytes w64 k ++ row_form c.args.wide ws fields))) c.read.ensures.key
    ∙ ap (λ (l : List ℕ). c.args.out.now.items ++ l) (sym (bytes_some c.args.wide one ws fields (sym c.widths.ensures ∙ c.in-Some.is) met.0))
