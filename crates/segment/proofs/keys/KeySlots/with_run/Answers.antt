use Rattle.std.proofs.Common.{Global, ◌≡◌, ◌∷◌, ◌++◌, [], ℕ, List, map, take, ap, sym, ◌∙◌, subst}
use Rattle.std.specs.Arc.{arc_value}
use Rattle.std.specs.declared.sync.Arc.{Arc}
use Rattle.std.proofs.lemmas.List.{map-append, take-append-drop}
use Rattle.segment.specs.declared.run.Run.{Run}
use Rattle.segment.specs.declared.keys.Runs.{Runs}
use Rattle.segment.specs.Keys.{AreRuns, runs_of}
use Rattle.segment.proofs.SlotLemmas.{slots_with_run}
use Rattle.segment.proofs.keys.KeySlots.with_run.Goals as goal

pub returns : goal.returns
returns c = λ records e is runs.
    let s : List (Arc Run Global) = c.as_slice-runs.result.now in
    let near : List (Arc Run Global) = c.split_at.result.0.now in
    let far : List (Arc Run Global) = c.split_at.result.1.now in
    let older : List Run = map arc_value far in
    let from : ℕ = c.args.self.now.from in
    let whole : near ++ far ≡ s = ap (λ (xs : List (Arc Run Global)). xs ++ far) c.split_at.ensures.front ∙ ap (λ (xs : List (Arc Run Global)). take c.count_to_join.result s ++ xs) c.split_at.ensures.back ∙ take-append-drop c.count_to_join.result s in
    let own : runs_of c.args.self.now ≡ map arc_value near ++ older = ap (map arc_value) (sym (whole ∙ c.as_slice-runs.ensures.value ∙ ap (λ (r : Runs). r.items.items) c.deref.ensures)) ∙ map-append arc_value near far in
    let run : Run = c.in_ok-run.run' in
    let joined : AreRuns records (run ∷ older) c.args.to = c.in_ok-run.ensures records c.args.to older is (subst (λ (rs : List Run). AreRuns records rs from) own runs) in
    let link : Arc Run Global = c.in_ok-new.field-0 in
    let first : c.push.new.self.items ≡ link ∷ [] = c.in_ok-push.ensures.items ∙ ap (λ (xs : List (Arc Run Global)). xs ++ link ∷ []) c.in_ok-items.ensures.items in
    let links : map arc_value c.share.new.to.items ≡ run ∷ older = c.in_ok-share.ensures ∙ ap (λ (xs : List (Arc Run Global)). map arc_value xs ++ older) first ∙ ap (λ (r : Run). r ∷ older) c.in_ok-new.ensures.ok in
    let now : map arc_value (arc_value c.in_ok-new-2.field-0).items.items ≡ run ∷ older = ap (λ (r : Runs). map arc_value r.items.items) c.in_ok-new-2.ensures.ok ∙ links in
    slots_with_run records (record { runs = c.in_ok-new-2.field-0; from = c.args.to; newest = c.new-3.result }) run older (sym e) c.new-3.ensures.items now (subst (AreRuns records (run ∷ older)) (sym e) joined)
