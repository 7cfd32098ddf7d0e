use Rattle.std.proofs.Common.{◌≡◌, ◌∙◌, ◌+◌, ◌<◌, ◌++◌, ◌∷◌, [], ℕ, List, length, drop, append_assoc, arith, ap, sym}
use Rattle.std.proofs.lemmas.List.{append-nil}
use Rattle.db_value.specs.PackedChanges.{change_here}
use Rattle.db_value.specs.declared.entry.Change.{Change}
use Rattle.key_index.specs.declared.changes.SpotChange.{SpotChange}
use Rattle.db_store.specs.LayoutGrowth.{puts}
use Rattle.hybrid_view.specs.RowPlaces.{spots}
use Rattle.bit_rows.proofs.ChangedLemmas.{spots_drop, spots_past}
use Rattle.bit_rows.proofs.changed.spots_of.Goals as goal

pub loop-at-preserved : goal.loop-at-preserved
loop-at-preserved c =
    let i : ℕ = c.loop-at.at in
    let r : ℕ = c.args.relation in
    let head : ℕ = c.args.head in
    let next : ℕ = c.loop-at.next in
    let cs : List Change = c.args.changes.now in
    let own : List SpotChange = c.loop-at.all.items in
    let one : List SpotChange = spots head next (change_here cs i ∷ []) r in
    let rest : List SpotChange = spots head (next + length (puts (change_here cs i ∷ []) r)) (drop (i + 1) cs) r in
    let within : i < length cs = omega (arith, c.loop-at-test.true, c.len-at-end.ensures.count) in
    record {
      spots = ap (λ (k : ℕ). c.put_spot.new.all.items ++ spots head k (drop (i + 1) cs) r) c.in_ok-next.ensures.next
          ∙ ap (λ (xs : List SpotChange). xs ++ rest) c.in_ok-next.ensures.spots
          ∙ append_assoc own one rest
          ∙ ap (λ (xs : List SpotChange). own ++ xs) (sym (spots_drop cs head next r i within))
          ∙ c.loop-at.invariant.spots;
      few = omega (arith, c.loop-at.invariant.few, c.in_ok-next.ensures.more);
    }

pub returns : goal.returns
returns c =
    let cs : List Change = c.args.changes.now in
    c.of.ensures
    ∙ sym (append-nil c.loop-at.all.items)
    ∙ ap (λ (xs : List SpotChange). c.loop-at.all.items ++ xs) (sym (spots_past cs c.args.head c.loop-at.next c.args.relation c.loop-at.at (omega (arith, c.loop-at-test.false, c.len-at-end.ensures.count))))
    ∙ c.loop-at.invariant.spots
