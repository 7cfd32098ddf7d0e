use Rattle.std.proofs.Common.{◌≡◌, ℕ, false, length, arith, subst}
use Rattle.std.proofs.lemmas.Bool.{not-true}
use Rattle.hybrid_view.specs.Struck.{struck}
use Rattle.bit_rows.proofs.ChangedLemmas.{still}
use Rattle.bit_rows.proofs.changed.is_still.Goals as goal

pub returns : goal.returns
returns c = λ is.
    let same : length c.args.old.now.rows.records ≡ length c.args.new.now.rows.records = omega (arith, c.if-slots.false, c.slots.ensures, c.slots-2.ensures) in
    still c.args.places.now c.args.old.now c.args.new.now c.requires.next c.requires.covered same
    (subst (λ segment. (slot : ℕ) → struck c.args.places.now segment slot ≡ false) c.segment.ensures (c.strikes.ensures (not-true c.strikes.result is)))
