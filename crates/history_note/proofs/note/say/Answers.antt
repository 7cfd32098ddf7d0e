use Rattle.std.proofs.Common.{sym, ap, ◌∙◌, subst, arith}
use Rattle.history_note.specs.Rule.{PenIs}
use Rattle.history_note.proofs.Calls as calls
use Rattle.history_note.proofs.note.say.Goals as goal

pub compare_exchange-requires : goal.compare_exchange-requires
compare_exchange-requires g c = (c.requires.table.0, omega (arith, c.requires.table.1), calls.numbers _ _ _ _ _ c.requires.pen)

pub compare_exchange-requires-2 : goal.compare_exchange-requires-2
compare_exchange-requires-2 g c =
    let e = c.compare_exchange.ensures in
    let is : PenIs c.compare_exchange.new.seat.me.0 = subst PenIs (sym (ap (λ m. m.0) e.2.0)) (calls.number_said c.args.seat.now.me.0 c.args.number c.requires.pen) in
    (e.0 ∙ c.requires.table.0, omega (arith, c.requires.table.1), calls.sessions _ _ _ _ _ is)
