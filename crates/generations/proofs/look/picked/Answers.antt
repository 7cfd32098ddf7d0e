use Rattle.std.proofs.Common.{sym, subst}
use Rattle.generations.specs.Looks.{IsPicked, SaysPicked}
use Rattle.generations.proofs.Picking.{picked_is, says_picked}
use Rattle.generations.proofs.look.picked.Goals as goal

pub returns-clause-told : goal.returns-clause-told
returns-clause-told g c s d told_s told_d =
    subst (λ o. IsPicked o s d) (sym c.pick.ensures) (picked_is s d c.in_ok-a.a c.in_ok-b.b (c.in_ok-a.ensures.told s told_s) (c.in_ok-b.ensures.told d told_d))

pub returns-clause-says : goal.returns-clause-says
returns-clause-says g c =
    subst (λ o. SaysPicked g.D.Disk c.args.disks.now o) (sym c.pick.ensures)
    (says_picked g.D.Disk c.args.disks.now c.in_ok-a.a c.in_ok-b.b c.in_ok-a.ensures.told c.in_ok-b.ensures.told)
