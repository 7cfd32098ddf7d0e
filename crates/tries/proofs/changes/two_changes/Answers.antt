use Rattle.std.proofs.Common.{◌∙◌, ◌++◌, ◌∷◌, [], ℕ, List, Some, ap}
use Rattle.db_value.specs.Value.{Value}
use Rattle.db_value.specs.declared.entry.Change.{Change}
use Rattle.tries.proofs.changes.two_changes.Goals as goal

pub returns : goal.returns
returns c =
    let put : ℕ → List Value → Change = λ key fs. record { relation = 0; key = key; fields = Some fs; widths = Some c.args.widths.now } in
    let fields = c.two_fields-fields.result in
    c.in_ok-put-2.ensures.put
    ∙ ap (λ (cs : List Change). cs ++ put 2 fields ∷ []) (c.in_ok-put.ensures.put ∙ ap (λ (cs : List Change). cs ++ put 1 fields ∷ []) c.new-changes.ensures)
    ∙ ap (λ (fs : List Value). put 1 fs ∷ put 2 fs ∷ []) c.two_fields-fields.ensures
