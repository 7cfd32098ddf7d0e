use Rattle.std.proofs.Common.{◌≡◌, ◌∙◌, ◌++◌, ◌∷◌, ap, drop, length, refl, sym, suc, take, List}
use Rattle.std.specs.Prelude.{Some, slice_get}
use Rattle.std.proofs.Math.Seq.{drop-cons}
use Rattle.std.proofs.lemmas.List.{take-append-drop}
use Rattle.std.proofs.lemmas.Option.{get_or_from_slice_get, slice_get_read}
use Rattle.db_value.specs.declared.step.Step.{Step}
use Rattle.core_tests.proofs.desk_tests.is_step_of.Goals as goal

pub is_told-requires : goal.is_told-requires
is_told-requires g c =
    let xs : List Step = c.steps.result.now in
    let i = c.args.place in
    let step : Step = c.in-Some.step.now in
    let within = c.in-Some.ensures.lookup.3.0 in
    let get : slice_get xs i ≡ Some step = slice_get_read xs (length xs) i step refl within c.in-Some.ensures.lookup.1 in
    let cut : xs ≡ take i xs ++ step ∷ drop (suc i) xs =
    sym (take-append-drop i xs) ∙ ap (λ (r : List Step). take i xs ++ r) (drop-cons xs i step within ∙ ap (λ (s : Step). s ∷ drop (suc i) xs) (get_or_from_slice_get xs i step step get)) in
    (c.step_law.ensures c.args.board.now.kept (take i xs) (drop (suc i) xs) step c.requires (sym c.steps.ensures ∙ cut)).named
