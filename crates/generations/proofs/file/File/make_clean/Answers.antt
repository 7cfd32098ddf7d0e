use Rattle.std.proofs.Common.{ℕ, None, true, false, sym, subst}
use Rattle.db_outside.specs.Disk.{InAll}
use Rattle.gate_journal.specs.Gate.{IsShut}
use Rattle.generations.specs.KeptLaws.{repairs, repair_done, repair_failed, same_kept, on_err}
use Rattle.generations.proofs.file.File.make_clean.Goals as goal

pub returns-in_err-repair-clause-any_moment : goal.returns-in_err-repair-clause-any_moment
returns-in_err-repair-clause-any_moment g c a f kept =
    repairs g.D.Disk.moment g.D.Disk.since g.D.Disk.image c.args.self.now.disk c.repair.new.disk c.args.self.now.journal.at a f c.args.self.now.journal.clean c.if-self.false kept c.repair.ensures.any_moment

pub returns-clause-any_moment : goal.returns-clause-any_moment
returns-clause-any_moment g c a f kept =
    repairs g.D.Disk.moment g.D.Disk.since g.D.Disk.image c.args.self.now.disk c.repair.new.disk c.args.self.now.journal.at a f c.args.self.now.journal.clean c.if-self.false kept c.repair.ensures.any_moment

pub returns-in_err-repair-clause-failed : goal.returns-in_err-repair-clause-failed
returns-in_err-repair-clause-failed g c = on_err c.from_residual.result (λ a f kept.
    let later = c.repair.ensures.any_moment.later in
    same_kept c.args.self.now.journal.at c.repair.new.self.at false c.repair.new.self.clean (g.D.Disk.image c.repair.new.disk) a f (sym c.repair.ensures.stays) (sym c.in_err-repair.ensures.unclean.unclean)
    (repair_failed g.D.Disk.moment g.D.Disk.since g.D.Disk.image c.args.self.now.disk c.repair.new.disk c.args.self.now.journal.at a f c.args.self.now.journal.clean c.if-self.false kept c.repair.ensures.any_moment
    (λ i now. g.met.D.Disk.counts_now c.repair.new.disk (g.D.Disk.moment c.args.self.now.disk) i later now)))

pub returns-clause-done : goal.returns-clause-done
returns-clause-done g c a f kept =
    let later = c.repair.ensures.any_moment.later in
    same_kept c.args.self.now.journal.at c.repair.new.self.at true c.repair.new.self.clean (g.D.Disk.image c.repair.new.disk) a None (sym c.repair.ensures.stays) (sym c.in_ok-repair.ensures.clean.clean)
    (repair_done g.D.Disk.moment g.D.Disk.since g.D.Disk.image c.args.self.now.disk c.repair.new.disk c.args.self.now.journal.at a f c.args.self.now.journal.clean c.if-self.false kept c.repair.ensures.any_moment
    (λ i now. g.met.D.Disk.counts_now c.repair.new.disk (g.D.Disk.moment c.args.self.now.disk) i later now) (subst (λ (n : ℕ). InAll (g.D.Disk.image c.repair.new.disk) (IsShut n)) c.repair.ensures.stays c.in_ok-repair.ensures.clean.shut))
