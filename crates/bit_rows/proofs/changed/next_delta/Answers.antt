use Rattle.std.proofs.Common.{◌≡◌, ◌∙◌, ℕ, List, Bool, IfOk, ap, subst, length}
use Rattle.plain_bits.specs.Truth.{bit_of, differ as differ_bits}
use Rattle.commit_history.specs.Runs.{next_of}
use Rattle.hybrid_view.specs.Deltas.{slots_of}
use Rattle.bit_rows.specs.Short.{shortest}
use Rattle.bit_rows.specs.Differences.{difference_of}
use Rattle.bit_rows.proofs.ChangedLemmas.{delta_slots}
use Rattle.bit_rows.proofs.changed.next_delta.Goals as goal

pub returns : goal.returns
returns c =
    let slots : slots_of c.in_ok-bits.bits ≡ difference_of c.args.old.now c.args.new.now =
    delta_slots c.args.old.now.bits c.args.new.now.bits c.in_ok-bits.bits (c.in_ok-bits.ensures.len ∙ ap (λ (b : List Bool). length b) c.bits-2.ensures)
    (λ slot. c.in_ok-bits.ensures.bits slot ∙ (λ k. differ_bits (bit_of (c.bits.ensures k) slot) (bit_of (c.bits-2.ensures k) slot))) in
    subst (λ (changed : List ℕ). IfOk c.ready-2.result (λ next. next ≡ next_of c.args.row.now.deltas (shortest changed))) slots c.ready-2.ensures
