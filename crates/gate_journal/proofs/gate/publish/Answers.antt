use Rattle.std.proofs.Common.{refl}
use Rattle.gate_journal.proofs.Gates.{opened}
use Rattle.gate_journal.proofs.Runs.{staged, second, kept_behind}
use Rattle.gate_journal.proofs.gate.publish.Goals as goal

pub returns-in_err-stage-clause-any_moment : goal.returns-in_err-stage-clause-any_moment
returns-in_err-stage-clause-any_moment g c =
    staged g.D.Disk.moment g.D.Disk.since g.D.Disk.image g.met.D.Disk.only_now c.args.at c.args.bytes.now c.args.disk.now c.stage.new.disk c.requires.closed c.stage.ensures.any_moment

pub returns-in_err-set_gate-clause-any_moment : goal.returns-in_err-set_gate-clause-any_moment
returns-in_err-set_gate-clause-any_moment g c =
    second g.D.Disk.moment g.D.Disk.since g.D.Disk.image g.met.D.Disk.only_now c.args.at c.args.bytes.now c.args.disk.now c.stage.new.disk c.set_gate.new.disk
    (λ f now. g.met.D.Disk.counts_now c.stage.new.disk (g.D.Disk.moment c.args.disk.now) f c.stage.ensures.any_moment.later now)
    c.stage.ensures.any_moment c.requires.closed c.in_ok-stage.ensures.staged c.set_gate.ensures.any_moment

pub returns-clause-any_moment : goal.returns-clause-any_moment
returns-clause-any_moment g c =
    second g.D.Disk.moment g.D.Disk.since g.D.Disk.image g.met.D.Disk.only_now c.args.at c.args.bytes.now c.args.disk.now c.stage.new.disk c.set_gate.new.disk
    (λ f now. g.met.D.Disk.counts_now c.stage.new.disk (g.D.Disk.moment c.args.disk.now) f c.stage.ensures.any_moment.later now)
    c.stage.ensures.any_moment c.requires.closed c.in_ok-stage.ensures.staged c.set_gate.ensures.any_moment

pub returns-clause-published : goal.returns-clause-published
returns-clause-published g c =
    let kept = kept_behind g.D.Disk.moment g.D.Disk.since g.D.Disk.image g.met.D.Disk.only_now c.args.at c.args.bytes.now c.stage.new.disk c.set_gate.new.disk
    (λ f now. g.met.D.Disk.counts_now c.set_gate.new.disk (g.D.Disk.moment c.stage.new.disk) f c.set_gate.ensures.any_moment.later now) c.in_ok-stage.ensures.staged c.set_gate.ensures.any_moment in
    record { opened = λ f now. opened c.args.at c.args.bytes.now f (c.in_ok-set_gate.ensures.set f now) (kept f now); past = refl; end = c.in_ok-stage.ensures.end }
