use Rattle.std.proofs.Common.{◌≡◌, ◌∙◌, sym, None}
use Rattle.std.specs.BTreeMap.{get}
use Rattle.branch_tx.specs.Lending.{key_cmp}
use Rattle.branch_tx.proofs.LentLemmas.{places_stay, places_more, none_there}
use Rattle.branch_tx.proofs.lent.note.Goals as goal

pub returns-then-contains_key-clause-ok : goal.returns-then-contains_key-clause-ok
returns-then-contains_key-clause-ok c = λ names at a. places_stay names c.args.name.now c.of-key.result c.args.places.now c.of-key.ensures (sym c.contains_key.ensures ∙ c.if-contains_key.true) a

pub returns-in-Ok-clause-ok : goal.returns-in-Ok-clause-ok
returns-in-Ok-clause-ok c =
    let absent : get key_cmp c.args.places.now c.of-key.result ≡ None = none_there _ (sym c.contains_key.ensures ∙ c.if-contains_key.false) in
    λ names at a. places_more names c.args.name.now c.of-key.result c.args.places.now c.insert.new.self c.args.place c.of-key.ensures at absent a c.in-Ok.ensures.updates.0
