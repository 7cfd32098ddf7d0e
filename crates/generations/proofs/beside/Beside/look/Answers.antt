use Rattle.std.proofs.Common.{◌≡◌, true, false, sym, ◌∙◌, ap, subst}
use Rattle.generations.specs.declared.other_gate.OtherGate.{OtherGate}
use Rattle.generations.specs.Asides.{StandsBy, is_unread}
use Rattle.generations.specs.AsideLaws.{read_stands, unread_is, shut_by}
use Rattle.generations.proofs.Besides.{still, reads_keep}
use Rattle.generations.proofs.beside.Beside.look.Goals as goal

pub returns-then-not-is_unread-clause-stands : goal.returns-then-not-is_unread-clause-stands
returns-then-not-is_unread-clause-stands g c second n s stands = still second n s g.met.D.Disk.only_now c.args.self.now stands

pub invariant_of-self-2 : goal.invariant_of-self-2
invariant_of-self-2 g c =
    let all = c.args.self.now.unread (unread_is c.args.self.now.gate (sym c.is_unread.ensures ∙ c.if-not-is_unread.false)) in
    record {
      unread = λ is. let bad : true ≡ false = sym (ap is_unread is) ∙ c.in_ok-gate.ensures.read.0 in absurd (cc bad);
      shut = λ is d now. shut_by c.in_ok-gate.gate d is (c.in_ok-gate.ensures.told d (all d (c.first_gate.ensures.reads.crash d now)));
    }

pub returns-clause-stands : goal.returns-clause-stands
returns-clause-stands g c second n s stands =
    let unread = unread_is c.args.self.now.gate (sym c.is_unread.ensures ∙ c.if-not-is_unread.false) in
    let all = c.args.self.now.unread unread in
    let none = c.first_gate.ensures.reads.crash in
    let was = subst (λ (x : OtherGate). StandsBy x second n s (g.D.Disk.image c.args.self.now.disk)) unread stands in
    reads_keep second n s c.args.self.now _ stands c.first_gate.ensures.reads
    (read_stands c.in_ok-gate.gate second n s (g.D.Disk.image c.args.self.now.disk) (g.D.Disk.image c.first_gate.new.disk) c.in_ok-gate.ensures.read.1 none (λ d now. c.in_ok-gate.ensures.told d (all d (none d now))) was)
