use Rattle.std.proofs.Common.{rules, ◌⊎◌, inr, List, ℕ, length, None, refl, sym, ap, subst, arith}
use Rattle.db_value.specs.declared.entry.Entry.{Entry}
use Rattle.entry_codec.specs.Logs.{MayGive, GivesImage}
use Rattle.gate_journal.specs.Gate.{IsOpen}
use Rattle.gate_journal.proofs.Gates.{shut_behind}
use Rattle.generations.specs.Datasets.{KeepsIn, moment_in}
use Rattle.generations.specs.KeptLaws.{on_err}
use Rattle.generations.proofs.Owing.{either_file, either_stands, one_of_them, while_aside, turned_since, turned_in, none_after}
use Rattle.generations.proofs.dataset.Dataset.write_next.Goals as goal

pub returns-in_err-write_next-clause-kept : goal.returns-in_err-write_next-clause-kept
returns-in_err-write_next-clause-kept g c s es f next either =
    let l = c.args.self.now in
    let new = c.write_next.new.self in
    let file = either_file l s es f either in
    let aside = c.write_next.ensures.stands l.second l.generation s (either_stands l s es f either) next in
    record {
      any_moment = while_aside g.D.Disk g.met.D.Disk.only_now l.second l.generation l.file.journal.at l.file.journal.clean l.file.disk l.beside.disk new.disk s es f file aside.any_moment;
      done = search rules;
      failed = on_err c.from_residual.result (
        f,
        inr refl,
        one_of_them l.second l.generation l.file.journal.at l.file.journal.clean new.gate (g.D.Disk.image l.file.disk) (g.D.Disk.image new.disk) s es f file aside.stands,
      );
    }

pub turn-requires-clause-shut : goal.turn-requires-clause-shut
turn-requires-clause-shut g c d now =
    shut_behind 0 c.args.journal.at c.requires.ends.0 d (omega (arith, c.requires.ends.2, ap length c.requires.ends.1))
    (subst (λ (l : List ℕ). IsOpen 0 l d) c.requires.ends.1 (c.in_ok-write_next.ensures.opened d now))

pub returns-clause-kept : goal.returns-clause-kept
returns-clause-kept g c s es f next either =
    let l = c.args.self.now in
    let new = c.write_next.new.self in
    let file = either_file l s es f either in
    let aside = c.write_next.ensures.stands l.second l.generation s (either_stands l s es f either) next in
    record {
      any_moment = turned_since _ _ _ c.turn.ensures (moment_in l) (λ o. MayGive l.generation s es f o ⊎ GivesImage l.generation s o)
          (while_aside g.D.Disk g.met.D.Disk.only_now l.second l.generation l.file.journal.at l.file.journal.clean l.file.disk l.beside.disk new.disk s es f file aside.any_moment);
      done = subst (λ (xs : List Entry). KeepsIn c.turn.new.self s xs None) (sym (none_after l.generation es c.requires.more))
          (turned_in _ _ _ c.turn.ensures s es f c.args.bytes.now file next c.in_ok-write_next.ensures.opened c.requires.ends.2 c.requires.clean);
      failed = tt;
    }
