use Rattle.std.proofs.Common.{rules, arith, ◌≡◌, ◌≤◌, ◌+◌, ◌-◌, ◌++◌, ◌∷◌, [], suc, ap, ap₂, sym, ◌∙◌, length, take, drop, set, None, Some, List, ℕ, Option, option_map}
use Rattle.std.proofs.lemmas.List.{take_rest, take_more_set, length-set, drop-drop, length-drop}
use Rattle.db_value.specs.RowForm.{field_size}
use Rattle.db_store.specs.Body.{wide_size}
use Rattle.entry_codec.specs.Wide.{widths_in, ahead, first_width}
use Rattle.entry_codec.proofs.WideForms.{widths_stop, widths_go, ahead_onto, size_further}
use Rattle.entry_codec.proofs.wide_read.first_widths.Goals as goal

pub returns-in-None-clause-none : goal.returns-in-None-clause-none
returns-in-None-clause-none c =
    let bytes : List ℕ = c.args.bytes.now in
    let at : ℕ = c.loop-i.at in
    let more = c.loop-i-test.true in
    let none : first_width (drop at bytes) ≡ None = ap first_width (sym (take_rest bytes at)) ∙ sym c.width_of.ensures.value ∙ c.in-None.is in
    c.loop-i.invariant.same ∙ ap (λ (o : Option (List ℕ)). option_map (ahead (take c.loop-i.i c.loop-i.widths)) o) (widths_stop (c.args.count - c.loop-i.i) (drop at bytes) (omega (arith, more)) none)

pub loop-i-preserved : goal.loop-i-preserved
loop-i-preserved c =
    let bytes : List ℕ = c.args.bytes.now in
    let at : ℕ = c.loop-i.at in
    let i : ℕ = c.loop-i.i in
    let w : ℕ = c.in-Some.width in
    let us : List ℕ = take i c.loop-i.widths in
    let more = c.loop-i-test.true in
    let count = c.requires in
    let long = c.loop-i.invariant.long in
    let fs = c.size_of_field.ensures.value in
    let some : first_width (drop at bytes) ≡ Some w = ap first_width (sym (take_rest bytes at)) ∙ sym c.width_of.ensures.value ∙ c.in-Some.is in
    let go = widths_go (c.args.count - i) (drop at bytes) w (omega (arith, more)) some in
    let left : c.args.count - i - 1 ≡ c.args.count - (i + 1) = omega arith in
    let next : at + suc (field_size w) ≡ at + (1 + c.size_of_field.result) = omega (arith, fs) in
    let rest : drop (suc (field_size w)) (drop at bytes) ≡ drop (at + (1 + c.size_of_field.result)) bytes = drop-drop (suc (field_size w)) at bytes ∙ ap (λ (k : ℕ). drop k bytes) next in
    let front : take (i + 1) (set c.loop-i.widths i w) ≡ us ++ w ∷ [] = take_more_set c.loop-i.widths i w (omega (arith, more, count, long)) in
    let size = c.loop-i.invariant.size in
    let further = size_further us w in
    let whole = ap wide_size front in
    let n = ap length (take_rest bytes at) in
    let d = length-drop at bytes in
    let fits : field_size w + 1 ≤ length (take (length bytes - at) (drop at bytes)) = search (rules, c.in-Some.ensures.within) in
    record {
      long = length-set c.loop-i.widths i w ∙ long;
      within = omega (arith, fs, n, d, fits);
      size = omega (arith, size, further, whole, fs);
      same =
          c.loop-i.invariant.same
          ∙ ap (λ (o : Option (List ℕ)). option_map (ahead us) o) (go ∙ ap₂ (λ (k : ℕ) (xs : List ℕ). option_map (λ ws. w ∷ ws) (widths_in k xs)) left rest)
          ∙ ahead_onto us w (widths_in (c.args.count - (i + 1)) (drop (at + (1 + c.size_of_field.result)) bytes))
          ∙ ap (λ (xs : List ℕ). option_map (ahead xs) (widths_in (c.args.count - (i + 1)) (drop (at + (1 + c.size_of_field.result)) bytes))) (sym front);
    }
