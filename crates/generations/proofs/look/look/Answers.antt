use Rattle.std.proofs.Common.{ℕ, sym, ◌∙◌, ap, subst}
use Rattle.generations.specs.declared.open.Opened.{Opened}
use Rattle.generations.specs.Files.{counts, damaged}
use Rattle.generations.specs.Looks.{IsPicked, SaysPicked}
use Rattle.generations.specs.Openings.{IsOpened, IsCleanOpened}
use Rattle.generations.specs.Picks.{of_two}
use Rattle.generations.specs.Stored.{state_in}
use Rattle.generations.proofs.Both.{one_read, one_on_disk, one_told, both_read}
use Rattle.generations.proofs.Looking.{damaged_by, looked_by}
use Rattle.generations.proofs.Reopening.{shut_found}
use Rattle.generations.proofs.look.look.Goals as goal

pub returns-in-Ok-None-clause-stop : goal.returns-in-Ok-None-clause-stop
returns-in-Ok-None-clause-stop g c s d told_s told_d =
    subst (λ o. IsPicked o s d) c.in-Ok-None.field-0-is (c.in-Ok-None.ensures.told s d (c.sync_both.ensures.reads.first.seen_stays ∙ told_s) (c.sync_both.ensures.reads.second.seen_stays ∙ told_d))

pub open_one-requires-clause-says : goal.open_one-requires-clause-says
open_one-requires-clause-says g c s told =
    let only = one_read g.D.Disk c.in-Ok-Some.found.0 c.sync_both.new.disks c.picked.new.disks c.picked.ensures.reads in
    subst (λ o. SaysPicked g.D.Disk c.sync_both.new.disks o) c.in-Ok-Some.field-0-is c.in-Ok-Some.ensures.says s (sym only.seen_stays ∙ told)

pub returns-in-Ok-Damaged-clause-stop : goal.returns-in-Ok-Damaged-clause-stop
returns-in-Ok-Damaged-clause-stop g c s d told_s told_d =
    let seen_s = c.sync_both.ensures.reads.first.seen_stays ∙ told_s in
    let seen_d = c.sync_both.ensures.reads.second.seen_stays ∙ told_d in
    let q = c.in-Ok-Some.found.0 in
    let picked = subst (λ o. IsPicked o s d) c.in-Ok-Some.field-0-is (c.in-Ok-Some.ensures.told s d seen_s seen_d) in
    let seen = one_told g.D.Disk q c.picked.new.disks s d (c.picked.ensures.reads.first.seen_stays ∙ seen_s) (c.picked.ensures.reads.second.seen_stays ∙ seen_d) in
    let read = subst (λ (o : Opened). IsOpened o (of_two q s d)) c.in-Ok-Damaged.field-0-is (c.in-Ok-Damaged.ensures.told (of_two q s d) seen) in
    let is = damaged_by c.in-Ok-Some.found s d c.in-Ok-Damaged.at c.in-Ok-Damaged.cause picked read in
    (is.0, is.1 ∙ ap (λ (n : ℕ). counts n is.0 (damaged c.in-Ok-Damaged.at c.in-Ok-Damaged.cause)) (sym c.number.ensures))

pub returns-in-Ok-Whole-clause-told : goal.returns-in-Ok-Whole-clause-told
returns-in-Ok-Whole-clause-told g c s d told_s told_d =
    let seen_s = c.sync_both.ensures.reads.first.seen_stays ∙ told_s in
    let seen_d = c.sync_both.ensures.reads.second.seen_stays ∙ told_d in
    let q = c.in-Ok-Some.found.0 in
    let picked = subst (λ o. IsPicked o s d) c.in-Ok-Some.field-0-is (c.in-Ok-Some.ensures.told s d seen_s seen_d) in
    let seen = one_told g.D.Disk q c.picked.new.disks s d (c.picked.ensures.reads.first.seen_stays ∙ seen_s) (c.picked.ensures.reads.second.seen_stays ∙ seen_d) in
    let read = subst (λ (o : Opened). IsOpened o (of_two q s d)) c.in-Ok-Whole.field-0-is (c.in-Ok-Whole.ensures.told (of_two q s d) seen) in
    looked_by c.in-Ok-Some.found s d c.in-Ok-Whole.journal c.in-Ok-Whole.store c.in-Ok-Whole.entries picked read

pub returns-in-Ok-Whole-clause-clean : goal.returns-in-Ok-Whole-clause-clean
returns-in-Ok-Whole-clause-clean g c =
    let q = c.in-Ok-Some.found.0 in
    let picked = one_read g.D.Disk q c.sync_both.new.disks c.picked.new.disks c.picked.ensures.reads in
    let opened = one_read g.D.Disk q c.picked.new.disks c.open_one.new.disks c.open_one.ensures.reads in
    record {
      clean = subst (λ (o : Opened). IsCleanOpened o) c.in-Ok-Whole.field-0-is c.in-Ok-Whole.ensures.clean;
      shut = λ s now.
          let synced = one_on_disk g.D.Disk q c.sync_both.new.disks c.in-Ok.ensures.durable s (picked.crash s (opened.crash s now)) in
          let header = (subst (λ o. SaysPicked g.D.Disk c.sync_both.new.disks o) c.in-Ok-Some.field-0-is c.in-Ok-Some.ensures.says s synced).0 in
          let read = subst (λ (o : Opened). IsOpened o s) c.in-Ok-Whole.field-0-is (c.in-Ok-Whole.ensures.told s (picked.seen_stays ∙ synced)) in
          shut_found s (state_in c.in-Ok-Whole.store) read.0 c.in-Ok-Whole.journal.at header read.2;
    }

pub returns-in-Ok-Whole-clause-reads : goal.returns-in-Ok-Whole-clause-reads
returns-in-Ok-Whole-clause-reads g c =
    both_read g.D.Disk g.met.D.Disk.only_now c.args.disks.now c.picked.new.disks c.open_one.new.disks
    (both_read g.D.Disk g.met.D.Disk.only_now c.args.disks.now c.sync_both.new.disks c.picked.new.disks c.sync_both.ensures.reads c.picked.ensures.reads) c.open_one.ensures.reads
