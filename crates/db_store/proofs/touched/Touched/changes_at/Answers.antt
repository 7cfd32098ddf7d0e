use Rattle.std.proofs.Common.{◌+◌, ◌<◌, ◌≤◌, ◌∙◌, ◌++◌, ◌∷◌, [], ℕ, List, ap, sym, map, take, get_or, length, arith, append_assoc}
use Rattle.std.proofs.lemmas.List.{take_all, take_more, map-append}
use Rattle.db_value.specs.declared.entry.Change.{Change}
use Rattle.work_region.specs.declared.rows.RowFrame.{RowFrame as Touch}
use Rattle.db_store.proofs.ChangeLemmas.{listed_at, changes_are, place_is}
use Rattle.db_store.proofs.TouchLemmas.{place_some}
use Rattle.db_store.proofs.touched.Touched.changes_at.Goals as goal

pub put_change-requires : goal.put_change-requires
put_change-requires c =
    let places : List (ℕ × ℕ) = c.args.places.now in
    let here : c.loop-key.key-index < length places = omega arith in
    (place_some c.args.self.now.keys c.args.relation _ _ (place_is c.args.relation c.args.self.now.keys places c.loop-key.key-index (0, 0) c.requires here)).0

pub loop-key-preserved : goal.loop-key-preserved
loop-key-preserved c =
    let r = c.args.relation in
    let ts : List Touch = c.args.self.now.keys in
    let ws : List ℕ = c.args.widths.now in
    let places : List (ℕ × ℕ) = c.args.places.now in
    let i : ℕ = c.loop-key.key-index in
    let old : List Change = c.args.all.now in
    let here : i < length places = omega arith in
    c.in_ok-put_change.ensures
    ∙ ap (λ (cs : List Change). cs ++ listed_at ws r ts (get_or places i (0, 0)) ∷ []) c.loop-key.invariant
    ∙ append_assoc old (map (listed_at ws r ts) (take i places)) (listed_at ws r ts (get_or places i (0, 0)) ∷ [])
    ∙ ap (λ (cs : List Change). old ++ cs) (sym (map-append (listed_at ws r ts) (take i places) (get_or places i (0, 0) ∷ [])) ∙ sym (ap (map (listed_at ws r ts)) (take_more places i (0, 0) here)))

pub returns : goal.returns
returns c =
    let r = c.args.relation in
    let ts : List Touch = c.args.self.now.keys in
    let ws : List ℕ = c.args.widths.now in
    let places : List (ℕ × ℕ) = c.args.places.now in
    let end : length places ≤ c.loop-key.key-index = omega arith in
    c.loop-key.invariant
    ∙ ap (λ (es : List (ℕ × ℕ)). c.args.all.now ++ map (listed_at ws r ts) es) (take_all c.loop-key.key-index places end)
    ∙ ap (λ (cs : List Change). c.args.all.now ++ cs) (changes_are ws r ts places c.requires)
