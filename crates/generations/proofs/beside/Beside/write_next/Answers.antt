use Rattle.generations.proofs.Besides.{both_keep}
use Rattle.generations.proofs.beside.Beside.write_next.Goals as goal

pub returns-in_err-close-clause-stands : goal.returns-in_err-close-clause-stands
returns-in_err-close-clause-stands g c second n s stands next =
    let a = c.look.ensures.stands second n s stands in
    both_keep second n s c.args.self.now c.look.new.self c.close.new.self a (c.close.ensures.stands second n s a.stands)

pub returns-clause-stands : goal.returns-clause-stands
returns-clause-stands g c second n s stands next =
    let a = c.look.ensures.stands second n s stands in
    let b = c.close.ensures.stands second n s a.stands in
    both_keep second n s c.args.self.now c.close.new.self c.fill.new.self (both_keep second n s c.args.self.now c.look.new.self c.close.new.self a b) (c.fill.ensures.stands second n s b.stands next)
