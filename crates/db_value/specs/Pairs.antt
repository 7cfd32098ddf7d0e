-- Pairs of records with one key: two lists of records, side by side.
use Rattle.std.specs.Prelude.{ℕ, List, [], ◌∷◌, refl}
use Rattle.std.specs.Coded.{Coded, code_by, coded×, coded_ℕ, coded_list}
use Rattle.std.proofs.Common.{get_or}
use Rattle.db_value.specs.Value.{Value, coded_value}
use Rattle.db_value.specs.declared.record.Record.{Record}
use Rattle.db_value.specs.declared.pairs.Pair.{Pair}

-- a pair can be written as numbers
abbrev pub pair_code : Coded Pair
pair_code = code_by (ℕ × (List Value × List Value)) (coded× coded_ℕ (coded× (coded_list coded_value) (coded_list coded_value)))
    (λ p. (p.key, (p.left, p.right))) (λ p. record { key = p.0; left = p.1.0; right = p.1.1 }) (λ _. refl)

-- a record, and the fields of the one beside it
abbrev pub beside : Record → Record → Pair
beside left right = record { key = left.key; left = left.fields; right = right.fields }

-- records, each beside the one at its place in another list
abbrev pub paired : List Record → List Record → List Pair
paired [] right = []
paired (l ∷ ls) [] = []
paired (l ∷ ls) (r ∷ rs) = beside l r ∷ paired ls rs

-- the pair at a place
abbrev pub pair_here : List Pair → ℕ → Pair
pair_here pairs place = get_or pairs place (record { key = 0; left = []; right = [] })
