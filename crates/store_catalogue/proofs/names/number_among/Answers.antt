use Rattle.std.proofs.Common.{◌≡◌, ◌∙◌, ap, sym, arith, false, get_or, Some}
use Rattle.std.proofs.lemmas.List.{get_or_default}
use Rattle.db_value.specs.Text.{same}
use Rattle.store_catalogue.specs.declared.names.NamedBranch.{NamedBranch}
use Rattle.store_catalogue.proofs.NameLemmas.{found_at, found_not, next_above}
use Rattle.store_catalogue.proofs.names.number_among.Goals as goal

pub returns-then-at-sorted : goal.returns-then-at-sorted
returns-then-at-sorted c = sym (found_not c.args.name.now c.args.sorted.now c.below-at.result c.requires c.below-at.ensures.parted.0 (λ h d. absurd (omega arith)))

pub returns-then-eq : goal.returns-then-eq
returns-then-eq c =
    let next = c.index-sorted-at.result in
    let here = ap (λ (n : NamedBranch). same n.name c.args.name.now) (sym c.index-sorted-at.is) ∙ sym c.eq.ensures ∙ c.if-eq.true in
    ap (λ (n : NamedBranch). Some n.branch) c.index-sorted-at.is ∙ sym (found_at c.args.name.now c.args.sorted.now c.below-at.result next c.below-at.ensures.parted.0 (omega arith) here)

pub returns : goal.returns
returns c =
    let next = c.index-sorted-at.result in
    sym (found_not c.args.name.now c.args.sorted.now c.below-at.result c.requires c.below-at.ensures.parted.0 (λ h d.
    let other : same (get_or c.args.sorted.now c.below-at.result d).name c.args.name.now ≡ false =
    ap (λ (n : NamedBranch). same n.name c.args.name.now) (get_or_default c.args.sorted.now c.below-at.result d next h ∙ sym c.index-sorted-at.is) ∙ sym c.eq.ensures ∙ c.if-eq.false in
    next_above c.args.name.now (get_or c.args.sorted.now c.below-at.result d).name (c.below-at.ensures.parted.1 c.below-at.result d (omega arith) h) other))
