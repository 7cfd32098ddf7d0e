use Rattle.std.proofs.Common.{rules, ◌≡◌, inl, inr, None, Some, true, false, refl, sym, ◌∙◌, ap, arith}
use Rattle.entry_codec.specs.Logs.{GivesOneOf}
use Rattle.generations.specs.declared.beside.Beside.{Beside}
use Rattle.generations.specs.AsideLaws.{stands_any, stands_beside}
use Rattle.generations.specs.Ends.{EndsInOneOf}
use Rattle.generations.specs.FrontLaws.{more_front, pending_fits}
use Rattle.generations.specs.KeptLaws.{on_err}
use Rattle.generations.proofs.Appending.{none_earlier, any_pair_beside, adds_pair_beside, stays_beside, one_batch}
use Rattle.generations.proofs.Owing.{one_of_them, while_both, while_closing}
use Rattle.generations.proofs.dataset.DatasetLogDatasetStore.append.Goals as goal

pub returns-in_err-close_owed-clause-any_moment : goal.returns-in_err-close_owed-clause-any_moment
returns-in_err-close_owed-clause-any_moment g c s es f follows keeps = let bad : true ≡ false = sym c.in_err-close_owed.ensures.failed ∙ keeps.gate_is in absurd (cc bad)

pub returns-in_err-close_owed-clause-failed : goal.returns-in_err-close_owed-clause-failed
returns-in_err-close_owed-clause-failed g c = on_err c.from_residual.result (λ s es f follows keeps. let bad : true ≡ false = sym c.in_err-close_owed.ensures.failed ∙ keeps.gate_is in absurd (cc bad))

pub returns-in_err-close_owed-clause-goes_on : goal.returns-in_err-close_owed-clause-goes_on
returns-in_err-close_owed-clause-goes_on g c =
    let l = c.args.self.now in
    record { generation_stays = refl; time = none_earlier g.D.Disk.moment l.file.disk l.file.disk l.beside.disk c.close_owed.new.self.disk l.second (omega arith) c.close_owed.ensures.time; each = none_earlier g.D.Disk.faults l.file.disk l.file.disk l.beside.disk c.close_owed.new.self.disk l.second (omega arith) c.close_owed.ensures.faults.later }

pub returns-in_err-close_owed-clause-owed : goal.returns-in_err-close_owed-clause-owed
returns-in_err-close_owed-clause-owed g c s es f follows owes =
    let l = c.args.self.now in
    let keeps = c.close_owed.ensures.stands l.second l.generation s owes.other in
    record {
      any_moment = while_closing g.D.Disk g.met.D.Disk.only_now l.second l.generation l.file.journal.at l.file.journal.clean l.file.disk l.beside.disk c.close_owed.new.self.disk s es f owes.file keeps.any_moment c.args.batch.now;
      done = search rules;
      failed = on_err c.from_residual.result (
        f,
        inr (inl refl),
        one_of_them l.second l.generation l.file.journal.at l.file.journal.clean c.close_owed.new.self.gate (g.D.Disk.image l.file.disk) (g.D.Disk.image c.close_owed.new.self.disk) s es f owes.file keeps.stands,
      );
    }

pub returns-in_err-append-clause-any_moment : goal.returns-in_err-append-clause-any_moment
returns-in_err-append-clause-any_moment g c s es f follows keeps =
    let l = c.args.self.now in
    let new = c.append.new.self.disk in
    let file = keeps.file in
    let same = ap (λ (b : Beside _ _). b.disk) (c.close_owed.ensures.same keeps.gate_is) in
    let leaves = c.append.ensures.any_moment file.front f file.kept in
    let ends = EndsInOneOf file.front f c.args.batch.now in
    let gives = GivesOneOf l.generation s es f c.args.batch.now in
    let so = one_batch l.second l.generation s es file.front file.is_front f c.args.batch.now file.fits follows in
    let other = stands_beside l.beside.gate l.second l.generation s (g.D.Disk.image l.beside.disk) keeps.gate_is keeps.other in
    record {
      any_moment = any_pair_beside g.D.Disk l.file.disk new l.beside.disk c.close_owed.new.self.disk same l.generation ends gives leaves l.second so (g.met.D.Disk.only_now l.beside.disk) other;
      quiet = record {
        stays = λ t quiet. stays_beside g.D.Disk l.file.disk new l.beside.disk c.close_owed.new.self.disk same l.second l.generation t quiet;
        adds = adds_pair_beside g.D.Disk l.file.disk new l.beside.disk c.close_owed.new.self.disk same l.generation ends gives leaves l.second so;
      };
    }

pub returns-clause-any_moment : goal.returns-clause-any_moment
returns-clause-any_moment g c s es f follows keeps =
    let l = c.args.self.now in
    let new = c.append.new.self.disk in
    let file = keeps.file in
    let same = ap (λ (b : Beside _ _). b.disk) (c.close_owed.ensures.same keeps.gate_is) in
    let leaves = c.append.ensures.any_moment file.front f file.kept in
    let ends = EndsInOneOf file.front f c.args.batch.now in
    let gives = GivesOneOf l.generation s es f c.args.batch.now in
    let so = one_batch l.second l.generation s es file.front file.is_front f c.args.batch.now file.fits follows in
    let other = stands_beside l.beside.gate l.second l.generation s (g.D.Disk.image l.beside.disk) keeps.gate_is keeps.other in
    record {
      any_moment = any_pair_beside g.D.Disk l.file.disk new l.beside.disk c.close_owed.new.self.disk same l.generation ends gives leaves l.second so (g.met.D.Disk.only_now l.beside.disk) other;
      quiet = record {
        stays = λ t quiet. stays_beside g.D.Disk l.file.disk new l.beside.disk c.close_owed.new.self.disk same l.second l.generation t quiet;
        adds = adds_pair_beside g.D.Disk l.file.disk new l.beside.disk c.close_owed.new.self.disk same l.generation ends gives leaves l.second so;
      };
    }

pub returns-in_err-append-clause-goes_on : goal.returns-in_err-append-clause-goes_on
returns-in_err-append-clause-goes_on g c =
    let l = c.args.self.now in
    record { generation_stays = refl; time = none_earlier g.D.Disk.moment l.file.disk c.append.new.self.disk l.beside.disk c.close_owed.new.self.disk l.second c.append.ensures.time c.close_owed.ensures.time; each = none_earlier g.D.Disk.faults l.file.disk c.append.new.self.disk l.beside.disk c.close_owed.new.self.disk l.second c.append.ensures.faults.later c.close_owed.ensures.faults.later }

pub returns-clause-goes_on : goal.returns-clause-goes_on
returns-clause-goes_on g c =
    let l = c.args.self.now in
    record { generation_stays = refl; time = none_earlier g.D.Disk.moment l.file.disk c.append.new.self.disk l.beside.disk c.close_owed.new.self.disk l.second c.append.ensures.time c.close_owed.ensures.time; each = none_earlier g.D.Disk.faults l.file.disk c.append.new.self.disk l.beside.disk c.close_owed.new.self.disk l.second c.append.ensures.faults.later c.close_owed.ensures.faults.later }

pub returns-clause-done : goal.returns-clause-done
returns-clause-done g c s es f follows keeps =
    let l = c.args.self.now in
    let file = keeps.file in
    let aside = c.close_owed.ensures.stands l.second l.generation s keeps.other in
    record {
      file = record {
        front = _;
        is_front = more_front file.front c.args.batch.now l.generation s es follows file.is_front;
        kept = c.in_ok-append.ensures.done file.front f file.kept;
        fits = λ body is. let bad : None ≡ Some body = is in absurd (cc bad);
      };
      gate_is = c.in_ok-close_owed.ensures.closed;
      other = stands_any c.close_owed.new.self.gate l.second l.generation s follows.state (g.D.Disk.image c.close_owed.new.self.disk) c.in_ok-close_owed.ensures.closed aside.stands;
    }

pub returns-in_err-append-clause-failed : goal.returns-in_err-append-clause-failed
returns-in_err-append-clause-failed g c = on_err c.from_residual-in_err-append.result (λ s es f follows keeps.
    let l = c.args.self.now in
    let file = keeps.file in
    let aside = c.close_owed.ensures.stands l.second l.generation s keeps.other in
    let after = c.in_err-append.ensures.failed file.front f file.kept in (
      after.0,
      after.1,
      record {
        file = record {
          front = file.front;
          is_front = file.is_front;
          kept = after.2;
          fits = pending_fits s f c.args.batch.now after.0 file.fits follows after.1;
        };
        gate_is = c.in_ok-close_owed.ensures.closed;
        other = aside.stands;
      },
    ))

pub returns-in_err-append-clause-owed : goal.returns-in_err-append-clause-owed
returns-in_err-append-clause-owed g c s es f follows owes =
    let l = c.args.self.now in
    let file = owes.file in
    let aside = c.close_owed.ensures.stands l.second l.generation s owes.other in
    let after = c.in_err-append.ensures.failed file.front f file.kept in
    record {
      any_moment = while_both g.D.Disk g.met.D.Disk.only_now l.second l.generation l.file.journal.at l.file.journal.clean l.file.disk l.beside.disk c.close_owed.new.self.disk s es f file aside.any_moment c.append.new.self.disk c.args.batch.now follows
          (c.append.ensures.any_moment file.front f file.kept);
      done = search rules;
      failed = on_err c.from_residual-in_err-append.result (
        after.0,
        after.1,
        inl (record {
          file = record {
            front = file.front;
            is_front = file.is_front;
            kept = after.2;
            fits = pending_fits s f c.args.batch.now after.0 file.fits follows after.1;
          };
          gate_is = c.in_ok-close_owed.ensures.closed;
          other = aside.stands;
        }),
      );
    }

pub returns-clause-owed : goal.returns-clause-owed
returns-clause-owed g c s es f follows owes =
    let l = c.args.self.now in
    let file = owes.file in
    let aside = c.close_owed.ensures.stands l.second l.generation s owes.other in
    record {
      any_moment = while_both g.D.Disk g.met.D.Disk.only_now l.second l.generation l.file.journal.at l.file.journal.clean l.file.disk l.beside.disk c.close_owed.new.self.disk s es f file aside.any_moment c.append.new.self.disk c.args.batch.now follows
          (c.append.ensures.any_moment file.front f file.kept);
      done = record {
        file = record {
          front = _;
          is_front = more_front file.front c.args.batch.now l.generation s es follows file.is_front;
          kept = c.in_ok-append.ensures.done file.front f file.kept;
          fits = λ body is. let bad : None ≡ Some body = is in absurd (cc bad);
        };
        gate_is = c.in_ok-close_owed.ensures.closed;
        other = stands_any c.close_owed.new.self.gate l.second l.generation s follows.state (g.D.Disk.image c.close_owed.new.self.disk) c.in_ok-close_owed.ensures.closed aside.stands;
      };
      failed = tt;
    }
