use Rattle.std.proofs.Common.{◌≡◌, true, false, sym, ◌∙◌}
use Rattle.generations.specs.AsideLaws.{open_behind}
use Rattle.generations.specs.KeptLaws.{by_result}
use Rattle.generations.proofs.Besides.{opened_keeps}
use Rattle.generations.proofs.beside.Beside.fill.Goals as goal

pub returns-clause-stands : goal.returns-clause-stands
returns-clause-stands g c second n s stands next =
    opened_keeps second n s c.args.self.now _ c.args.bytes.now next c.publish-done.ensures.any_moment c.publish-done.new.shut c.gate_after-self.ensures
    (λ is d now. by_result c.publish-done.result c.publish-done.ensures.published c.publish-done.ensures.failed (λ published. let bad : true ≡ false = sym is ∙ published.past in absurd (cc bad)) (λ failed. failed.closed is d now))
    (λ is d now. by_result c.publish-done.result c.publish-done.ensures.published c.publish-done.ensures.failed (λ published. open_behind c.args.bytes.now d (published.opened d now)) (λ failed. failed.behind is d now))
