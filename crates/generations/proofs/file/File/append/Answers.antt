use Rattle.std.proofs.Common.{◌≡◌, ◌⊎◌, inl, inr, ⊎_elim, ℕ, None, Some, true, false, refl, sym, ◌∙◌, subst, arith}
use Rattle.db_outside.proofs.Moments.{weakened}
use Rattle.gate_journal.specs.Gate.{IsShut}
use Rattle.gate_journal.proofs.Gates.{ready_there}
use Rattle.db_outside.specs.Disk.{InAll}
use Rattle.generations.specs.Ends.{MayEnd, EndsInOneOf}
use Rattle.generations.specs.KeptLaws.{both, same_kept, on_err, longer, failed_either, by_result}
use Rattle.generations.proofs.file.File.append.Goals as goal

pub returns-in_err-make_clean-clause-any_moment : goal.returns-in_err-make_clean-clause-any_moment
returns-in_err-make_clean-clause-any_moment g c a f kept =
    weakened g.D.Disk.moment g.D.Disk.since c.args.self.now.disk c.make_clean.new.self.disk (MayEnd a f) (EndsInOneOf a f c.args.batch.now) (c.make_clean.ensures.any_moment a f kept) (λ i may. inl may)

pub returns-in_err-make_clean-clause-failed : goal.returns-in_err-make_clean-clause-failed
returns-in_err-make_clean-clause-failed g c = on_err c.from_residual.result (λ a f kept. (f, inr (inl refl), c.in_err-make_clean.ensures.failed a f kept))

pub returns-in_err-append-clause-any_moment : goal.returns-in_err-append-clause-any_moment
returns-in_err-append-clause-any_moment g c a f kept =
    let clean = same_kept c.make_clean.new.self.journal.at c.make_clean.new.self.journal.at c.make_clean.new.self.journal.clean true (g.D.Disk.image c.make_clean.new.self.disk) a None
    refl c.in_ok-make_clean.ensures.clean (c.in_ok-make_clean.ensures.done a f kept) in
    both g.D.Disk.moment g.D.Disk.since g.D.Disk.image c.args.self.now.disk c.make_clean.new.self.disk c.append.new.disk c.make_clean.new.self.journal.at a f c.args.batch.now (c.make_clean.ensures.any_moment a f kept) clean c.append.ensures.any_moment

pub returns-clause-any_moment : goal.returns-clause-any_moment
returns-clause-any_moment g c a f kept =
    let clean = same_kept c.make_clean.new.self.journal.at c.make_clean.new.self.journal.at c.make_clean.new.self.journal.clean true (g.D.Disk.image c.make_clean.new.self.disk) a None
    refl c.in_ok-make_clean.ensures.clean (c.in_ok-make_clean.ensures.done a f kept) in
    both g.D.Disk.moment g.D.Disk.since g.D.Disk.image c.args.self.now.disk c.make_clean.new.self.disk c.append.new.disk c.make_clean.new.self.journal.at a f c.args.batch.now (c.make_clean.ensures.any_moment a f kept) clean c.append.ensures.any_moment

pub returns-in_err-append-clause-failed : goal.returns-in_err-append-clause-failed
returns-in_err-append-clause-failed g c = on_err c.from_residual-in_err-append.result (λ a f kept.
    let clean = same_kept c.make_clean.new.self.journal.at c.make_clean.new.self.journal.at c.make_clean.new.self.journal.clean true (g.D.Disk.image c.make_clean.new.self.disk) a None
    refl c.in_ok-make_clean.ensures.clean (c.in_ok-make_clean.ensures.done a f kept) in
    let either = failed_either c.make_clean.new.self.journal.at (g.D.Disk.image c.make_clean.new.self.disk) (g.D.Disk.image c.append.new.disk) a None c.args.batch.now c.append.new.self.clean clean
    (λ i now. c.append.ensures.any_moment.each i (g.met.D.Disk.counts_now c.append.new.disk (g.D.Disk.moment c.make_clean.new.self.disk) i c.append.ensures.any_moment.later now))
    c.in_err-append.ensures.failed.shut c.in_err-append.ensures.failed.behind in
    let which : (either.0 ≡ None) ⊎ (either.0 ≡ f) ⊎ (either.0 ≡ Some c.args.batch.now) = ⊎_elim (λ p. inl p) (λ p. inr (inr p)) either.1 in (
      either.0,
      which,
      same_kept c.make_clean.new.self.journal.at c.append.new.self.at c.append.new.self.clean c.append.new.self.clean (g.D.Disk.image c.append.new.disk) a either.0
          (sym c.in_err-append.ensures.failed.stays) refl either.2,
    ))

pub returns-clause-done : goal.returns-clause-done
returns-clause-done g c a f kept =
    let clean = same_kept c.make_clean.new.self.journal.at c.make_clean.new.self.journal.at c.make_clean.new.self.journal.clean true (g.D.Disk.image c.make_clean.new.self.disk) a None
    refl c.in_ok-make_clean.ensures.clean (c.in_ok-make_clean.ensures.done a f kept) in
    let is_longer = longer c.make_clean.new.self.journal.at (g.D.Disk.image c.make_clean.new.self.disk) (g.D.Disk.image c.append.new.disk) a None c.args.batch.now c.append.new.self.at clean
    (λ i now. c.append.ensures.any_moment.each i (g.met.D.Disk.counts_now c.append.new.disk (g.D.Disk.moment c.make_clean.new.self.disk) i c.append.ensures.any_moment.later now))
    c.in_ok-append.ensures.appended.opened c.in_ok-append.ensures.appended.moved c.in_ok-append.ensures.appended.next.shut in
    same_kept c.append.new.self.at c.append.new.self.at true c.append.new.self.clean (g.D.Disk.image c.append.new.disk) _ None refl (sym c.in_ok-append.ensures.appended.next.clean) is_longer

pub invariant_of-self : goal.invariant_of-self
invariant_of-self g c = record {
  shut = λ is. by_result c.append.result c.append.ensures.appended c.append.ensures.failed
      (λ done. done.next.shut)
      (λ failed. subst (λ (n : ℕ). InAll (g.D.Disk.image c.append.new.disk) (IsShut n)) (sym failed.stays) (failed.shut is));
  there = λ unclean i now. by_result c.append.result c.append.ensures.appended c.append.ensures.failed
      (λ done. let bad : true ≡ false = sym done.next.clean ∙ unclean in cc bad)
      (λ failed. omega (arith, failed.stays, ready_there c.make_clean.new.self.journal.at c.args.batch.now i (failed.behind unclean i now)));
}
