-- What views show, as plain data.
use Rattle.std.specs.Prelude.{◌≡◌, ℕ, Bool, List, [], map, refl}
use Rattle.std.specs.List.{range_with_len}
use Rattle.std.specs.Coded.{Coded, code_by, coded×, coded_ℕ, coded_bool, coded_list}
use Rattle.std.proofs.Common.{get_or}
use Rattle.db_value.specs.Packed.{record_code}
use Rattle.db_value.specs.Schema.{most_relations}
use Rattle.db_value.specs.declared.record.Record.{Record}
use Rattle.db_store.specs.State.{State}
use Rattle.db_store.specs.Parts.{Part, AreOf}
use Rattle.multi_scan.specs.Agree.{AgreeOn}

-- the parts of a view, by relation
abbrev pub Shown : Type 0
Shown = List (List Part)

-- what a view shows
abbrev pub parts_by : (ℕ → List Part) → Shown
parts_by parts = map parts (range_with_len 0 most_relations)

-- the parts of a relation
abbrev pub parts_at : Shown → ℕ → List Part
parts_at shown r = get_or shown r []

-- the parts of a relation that one of several views shows
abbrev pub parts_in : List Shown → ℕ → ℕ → List Part
parts_in views v r = parts_at (get_or views v []) r

-- in each relation parts of any two views have the same records if they have one id
abbrev pub ViewsAgree : List Shown → Type 0
ViewsAgree views = (r v w : ℕ) → AgreeOn (parts_in views v r) (parts_in views w r)

-- all views are of one state
abbrev pub ViewsOf : State → List Shown → Type 0
ViewsOf s views = (v : ℕ) → AreOf s (parts_in views v)

-- one of several views shows this
abbrev pub IsAmong : List Shown → Shown → Type 0
IsAmong views shown = (v : ℕ) × (get_or views v [] ≡ shown)

-- a part can be written as numbers
abbrev pub part_code : Coded Part
part_code = code_by (ℕ × List (Record × Bool)) (coded× coded_ℕ (coded_list (coded× record_code coded_bool))) (λ p. (p.id, p.slots)) (λ p. record { id = p.0; slots = p.1 }) (λ _. refl)

-- what is shown can be told apart
abbrev pub shown_code : Coded Shown
shown_code = coded_list (coded_list part_code)
