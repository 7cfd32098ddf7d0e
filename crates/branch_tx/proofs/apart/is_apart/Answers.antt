use Rattle.std.proofs.Common.{◌≡◌, ◌+◌, ◌-◌, ℕ, List, length, sym, subst, ◌∙◌, arith}
use Rattle.db_store.specs.Parts.{Part}
use Rattle.work_region.specs.declared.rows.RowFrame.{RowFrame as Touch}
use Rattle.db_store.proofs.WorkLemmas.{length_parts}
use Rattle.branch_tx.specs.SeenFrom.{IsApart}
use Rattle.branch_tx.proofs.SeenAgree.{masked_ids}
use Rattle.branch_tx.proofs.apart.is_apart.Goals as goal

pub returns-in-Own : goal.returns-in-Own
returns-in-Own g c =
    let r : ℕ = c.args.relation in
    let ps : List Part = g.V.View.parts_of c.in-Own.work.now.view r in
    let ts : List Touch = c.in-Own.work.now.touched.keys in
    let count : ℕ = c.parts-count-in-Own.result in
    let n : count ≡ length ps + 1 = c.parts-count-in-Own.ensures ∙ length_parts ps r ts in
    λ e. subst (λ s. IsApart s r) (sym c.in-Own.is) (λ i h. masked_ids ps r ts (count - 1) (omega (arith, n)) (c.lacks_own_id-in-Own.ensures e) i (omega (arith, n, h)))
