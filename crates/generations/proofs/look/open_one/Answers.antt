use Rattle.std.proofs.Common.{◌∙◌, ap}
use Rattle.generations.specs.Pairs.{disk_of}
use Rattle.generations.proofs.Both.{first_read, second_read}
use Rattle.generations.proofs.look.open_one.Goals as goal

pub open_file-requires-clause-says : goal.open_file-requires-clause-says
open_file-requires-clause-says g c s told = c.requires.says s (ap (λ q. g.D.Disk.seen (disk_of q c.args.disks.now)) c.if-second.true ∙ told)

pub open_file-requires-2-clause-says : goal.open_file-requires-2-clause-says
open_file-requires-2-clause-says g c s told = c.requires.says s (ap (λ q. g.D.Disk.seen (disk_of q c.args.disks.now)) c.if-second.false ∙ told)

pub returns-then-second-clause-reads : goal.returns-then-second-clause-reads
returns-then-second-clause-reads g c = second_read g.D.Disk g.met.D.Disk.only_now c.args.disks.now c.open_file.new.disk c.open_file.ensures.reads

pub returns-clause-reads : goal.returns-clause-reads
returns-clause-reads g c = first_read g.D.Disk g.met.D.Disk.only_now c.args.disks.now c.open_file-2.new.disk c.open_file-2.ensures.reads
