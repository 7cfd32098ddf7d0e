use Rattle.gate_journal.proofs.Runs.{repaired}
use Rattle.gate_journal.proofs.place.Journal.repair.Goals as goal

pub returns-in_err-set_gate-clause-any_moment : goal.returns-in_err-set_gate-clause-any_moment
returns-in_err-set_gate-clause-any_moment g c =
    repaired g.D.Disk.moment g.D.Disk.since g.D.Disk.image g.met.D.Disk.only_now c.args.self.now.at c.args.disk.now c.set_gate.new.disk c.requires.there c.set_gate.ensures.any_moment

pub returns-clause-any_moment : goal.returns-clause-any_moment
returns-clause-any_moment g c =
    repaired g.D.Disk.moment g.D.Disk.since g.D.Disk.image g.met.D.Disk.only_now c.args.self.now.at c.args.disk.now c.set_gate.new.disk c.requires.there c.set_gate.ensures.any_moment
