use Rattle.std.proofs.Common.{◌≡◌, cond, true, sym, ◌∙◌, ap, subst}
use Rattle.gate_journal.specs.declared.place.Journal.{Journal}
use Rattle.generations.specs.declared.pair.Pair.{Pair}
use Rattle.generations.specs.Pairs.{AreAllOnDisk, NoneRose, BothOnlyRead}
use Rattle.generations.specs.Stored.{state_in}
use Rattle.generations.proofs.Quieting.{stays_quiet, read_as}
use Rattle.generations.proofs.Reopening.{keeps_it, one_image, file_of, beside_of, all_two}
use Rattle.generations.proofs.again.reopen.Goals as goal

pub returns-in-Ok-clause-opens : goal.returns-in-Ok-clause-opens
returns-in-Ok-clause-opens g c s d told_s told_d =
    let l = c.in-Ok.looked in
    let r = c.assembled-dataset.result in
    let made = c.assembled-dataset.ensures in
    let t = c.in-Ok.ensures.told s d told_s told_d in
    let read = read_as g.D.Disk l r t.0 s d t.2 made.told.0 made.told.1 made.gates.0 in
    let first = c.look.new.disks.first in
    let second = c.look.new.disks.second in
    let all_first = one_image (g.D.Disk.seen c.args.disks.first) (g.D.Disk.seen first) (g.D.Disk.image first) s told_s c.look.ensures.reads.first.seen_stays c.in-Ok.ensures.durable.0 in
    let all_second = one_image (g.D.Disk.seen c.args.disks.second) (g.D.Disk.seen second) (g.D.Disk.image second) d told_d c.look.ensures.reads.second.seen_stays c.in-Ok.ensures.durable.1 in
    let disk = sym (file_of r.second r.file.disk r.beside.disk) ∙ ap (λ (p : Pair g.row.D.Denot). cond r.second p.second p.first) made.disks in
    let beside = sym (beside_of r.second r.file.disk r.beside.disk) ∙ ap (λ (p : Pair g.row.D.Denot). cond r.second p.first p.second) made.disks in
    let clean : r.file.journal.clean ≡ true = ap (λ (j : Journal). j.clean) made.gates.0 ∙ c.in-Ok.ensures.clean.clean in (
      t.0,
      t.1 ∙ sym made.told.2,
      read,
      keeps_it r.second r.generation r.file.journal.at r.file.journal.clean r.beside.gate (g.D.Disk.image r.file.disk) (g.D.Disk.image r.beside.disk) (state_in l.store) t.0 s d clean made.gates.1 read
          (all_two g.D.Disk.image r.second first second r.file.disk s d disk all_first all_second)
          (all_two g.D.Disk.image r.second second first r.beside.disk d s beside all_second all_first),
    )

pub returns-in-Ok-clause-quiet : goal.returns-in-Ok-clause-quiet
returns-in-Ok-clause-quiet g c all s d told_s told_d =
    let l = c.in-Ok.looked in
    let r = c.assembled-dataset.result in
    let made = c.assembled-dataset.ensures in
    let t = c.in-Ok.ensures.told s d told_s told_d in
    stays_quiet g.D.Disk c.args.disks r (state_in l.store) t.0 s d told_s told_d all
    (subst (λ (p : Pair g.row.D.Denot). BothOnlyRead g.D.Disk c.args.disks p) (sym made.disks) c.look.ensures.reads)
    (read_as g.D.Disk l r t.0 s d t.2 made.told.0 made.told.1 made.gates.0)

pub returns-in-Ok-clause-reads : goal.returns-in-Ok-clause-reads
returns-in-Ok-clause-reads g c = subst (λ (p : Pair g.row.D.Denot). BothOnlyRead g.D.Disk c.args.disks p) (sym c.assembled-dataset.ensures.disks) c.look.ensures.reads

pub returns-in-Ok-clause-still : goal.returns-in-Ok-clause-still
returns-in-Ok-clause-still g c = subst (λ (p : Pair g.row.D.Denot). NoneRose g.D.Disk c.args.disks p) (sym c.assembled-dataset.ensures.disks) c.in-Ok.ensures.still

pub returns-in-Ok-clause-durable : goal.returns-in-Ok-clause-durable
returns-in-Ok-clause-durable g c = subst (λ (p : Pair g.row.D.Denot). AreAllOnDisk g.D.Disk p) (sym c.assembled-dataset.ensures.disks) c.in-Ok.ensures.durable
