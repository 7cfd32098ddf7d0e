use Rattle.std.proofs.Common.{arith, ◌≡◌, ◌+◌, ◌++◌, ◌∷◌, [], ◌∙◌, ◌&&◌, nat_le, suc, ap, ap₂, sym, subst, true, List, ℕ, length, drop, get_or, append_assoc, length-append}
use Rattle.std.proofs.lemmas.List.{drop_more}
use Rattle.db_value.specs.Value.{Value}
use Rattle.db_value.specs.RowForm.{field_size, is_field}
use Rattle.db_value.proofs.RowForms.{both}
use Rattle.entry_codec.specs.Wide.{wide_in, are_wide}
use Rattle.entry_codec.proofs.wide_read.take_wide.Goals as goal

pub loop-at-preserved : goal.loop-at-preserved
loop-at-preserved c =
    let ws : List ℕ = c.args.widths.now in
    let at : ℕ = c.loop-at.at in
    let rest : List ℕ = c.loop-at.rest.now in
    let w : ℕ = get_or ws at 0 in
    let more : List ℕ = drop (at + 1) ws in
    let after : List ℕ = drop (suc (field_size w)) rest in
    let step : drop at ws ≡ w ∷ more = drop_more ws at 0 c.loop-at-test.true in
    let wide : are_wide (w ∷ more) rest ≡ true = subst (λ (us : List ℕ). are_wide us rest ≡ true) step c.loop-at.invariant.wide in
    let p = both (nat_le (field_size w) (length (drop 1 rest))) (is_field w (drop 1 rest) && are_wide more after) wide in
    let q = both (is_field w (drop 1 rest)) (are_wide more after) p.1 in
    let n = ap length c.push.ensures ∙ length-append c.loop-at.into (c.known_field-in-loop-at.result ∷ []) in
    let many = c.loop-at.invariant.many in
    record {
      many = omega (arith, n, many);
      wide = ap (are_wide more) c.behind-rest-in-loop-at.ensures ∙ q.1;
      same =
          ap₂ (λ (into : List Value) (r : List ℕ). into ++ wide_in more r) c.push.ensures c.behind-rest-in-loop-at.ensures
          ∙ append_assoc c.loop-at.into (c.known_field-in-loop-at.result ∷ []) (wide_in more after)
          ∙ ap (λ (v : Value). c.loop-at.into ++ v ∷ wide_in more after) c.known_field-in-loop-at.ensures
          ∙ sym (ap (λ (us : List ℕ). c.loop-at.into ++ wide_in us rest) step) ∙ c.loop-at.invariant.same;
    }
