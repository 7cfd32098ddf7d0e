use Rattle.std.proofs.Common.{refl, sym, ◌∙◌}
use Rattle.generations.proofs.Besides.{closed_keeps, not_closed_keeps}
use Rattle.generations.proofs.beside.Beside.close.Goals as goal

pub returns-in_err-close_first-clause-stands : goal.returns-in_err-close_first-clause-stands
returns-in_err-close_first-clause-stands g c second n s stands =
    not_closed_keeps second n s c.args.self.now _ c.requires (sym c.is_shut.ensures ∙ c.if-is_shut.false) stands c.close_first.ensures.any_moment
    (λ i now. g.met.D.Disk.counts_now c.close_first.new.disk (g.D.Disk.moment c.args.self.now.disk) i c.close_first.ensures.any_moment.later now) refl

pub returns-clause-stands : goal.returns-clause-stands
returns-clause-stands g c second n s stands =
    closed_keeps second n s c.args.self.now _ c.requires (sym c.is_shut.ensures ∙ c.if-is_shut.false) stands c.close_first.ensures.any_moment c.in_ok-close_first.ensures.shut
