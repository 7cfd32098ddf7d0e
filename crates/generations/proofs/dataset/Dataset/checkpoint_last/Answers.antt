use Rattle.std.proofs.Common.{rules, ◌≡◌, false, inr, List, None, Some, refl, sym, subst}
use Rattle.db_value.specs.declared.entry.Entry.{Entry}
use Rattle.generations.specs.AsideLaws.{stands_or}
use Rattle.generations.specs.Fronts.{KeepsBy}
use Rattle.generations.specs.KeptLaws.{on_err}
use Rattle.generations.proofs.Owing.{either_file, either_stands, one_of_them, last_closed, while_repaired, same_after}
use Rattle.generations.proofs.dataset.Dataset.checkpoint_last.Goals as goal

pub returns-in_err-make_clean-clause-kept : goal.returns-in_err-make_clean-clause-kept
returns-in_err-make_clean-clause-kept g c s es f either =
    let l = c.args.self.now in
    let new = c.make_clean.new.self in
    let file = either_file l s es f either in
    let stands = either_stands l s es f either in
    record {
      any_moment = while_repaired g.D.Disk g.met.D.Disk.only_now l.second l.generation l.file.journal.at l.file.journal.clean l.file.disk new.disk l.beside.disk s es f file
          (stands_or l.beside.gate l.second l.generation s (g.D.Disk.image l.beside.disk) stands) (c.make_clean.ensures.any_moment file.front f file.kept);
      done = search rules;
      failed = on_err c.from_residual.result (
        f,
        inr refl,
        one_of_them l.second l.generation new.journal.at new.journal.clean l.beside.gate (g.D.Disk.image new.disk) (g.D.Disk.image l.beside.disk) s es f
            (record { front = file.front; is_front = file.is_front; kept = c.in_err-make_clean.ensures.failed file.front f file.kept; fits = file.fits }) stands,
      );
    }

pub returns-clause-kept : goal.returns-clause-kept
returns-clause-kept g c s es f either =
    let l = c.args.self.now in
    let new = c.make_clean.new.self in
    let file = either_file l s es f either in
    let stands = either_stands l s es f either in
    record {
      any_moment = while_repaired g.D.Disk g.met.D.Disk.only_now l.second l.generation l.file.journal.at l.file.journal.clean l.file.disk new.disk l.beside.disk s es f file
          (stands_or l.beside.gate l.second l.generation s (g.D.Disk.image l.beside.disk) stands) (c.make_clean.ensures.any_moment file.front f file.kept);
      done = subst (λ (xs : List Entry). KeepsBy false l.second l.generation new.journal.at new.journal.clean l.beside.gate (g.D.Disk.image new.disk) (g.D.Disk.image l.beside.disk) s xs None) (sym (same_after l.generation es c.requires)) (record {
        file = record {
          front = file.front;
          is_front = file.is_front;
          kept = c.in_ok-make_clean.ensures.done file.front f file.kept;
          fits = λ body is. let bad : None ≡ Some body = is in absurd (cc bad);
        };
        gate_is = last_closed l.beside.gate l.second l.generation s (g.D.Disk.image l.beside.disk) c.requires stands;
        other = stands;
      });
      failed = tt;
    }
