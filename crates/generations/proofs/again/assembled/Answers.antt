use Rattle.std.proofs.Common.{◌≡◌, Bool, true, false, sym, ◌∙◌, subst}
use Rattle.db_outside.specs.Disk.{InAll}
use Rattle.gate_journal.specs.Gate.{IsShut}
use Rattle.generations.specs.Pairs.{disk_of}
use Rattle.generations.proofs.again.assembled.Goals as goal

pub invariant_of-result : goal.invariant_of-result
invariant_of-result g c = record {
  shut = λ _. subst (λ (q : Bool). InAll (g.D.Disk.image (disk_of q c.args.disks)) (IsShut c.args.journal.at)) c.if-second.true c.requires.shut;
  there = λ unclean. let bad : true ≡ false = sym c.requires.clean ∙ unclean in absurd (cc bad);
}

pub invariant_of-result-2 : goal.invariant_of-result-2
invariant_of-result-2 g c = record {
  shut = λ _. subst (λ (q : Bool). InAll (g.D.Disk.image (disk_of q c.args.disks)) (IsShut c.args.journal.at)) c.if-second.false c.requires.shut;
  there = λ unclean. let bad : true ≡ false = sym c.requires.clean ∙ unclean in absurd (cc bad);
}
