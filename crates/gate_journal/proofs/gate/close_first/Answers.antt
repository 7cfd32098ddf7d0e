use Rattle.std.proofs.Common.{[], ◌∷◌, sym, ◌∙◌, ap, drop, List, ℕ, arith}
use Rattle.gate_journal.proofs.Gates.{told_before, put_behind, shut_first, on_ok}
use Rattle.gate_journal.proofs.Runs.{firsts, firsts_too}
use Rattle.gate_journal.proofs.gate.close_first.Goals as goal

pub returns-in_err-write_at-clause-any_moment : goal.returns-in_err-write_at-clause-any_moment
returns-in_err-write_at-clause-any_moment g c =
    firsts g.D.Disk.moment g.D.Disk.since g.D.Disk.image g.met.D.Disk.only_now c.args.disk.now c.write_at.new.self c.write_at.ensures.leaves.crash c.write_at.ensures.leaves.time

pub returns-clause-any_moment : goal.returns-clause-any_moment
returns-clause-any_moment g c =
    firsts_too g.D.Disk.moment g.D.Disk.since g.D.Disk.image g.met.D.Disk.only_now c.args.disk.now c.write_at.new.self c.sync.new.self c.write_at.ensures.leaves.crash c.write_at.ensures.leaves.time c.sync.ensures.stays.crash c.sync.ensures.stays.time

pub returns-clause-shut : goal.returns-clause-shut
returns-clause-shut g c = on_ok c.sync.result c.sync.ensures.durable (λ durable f now.
    let told = told_before 0 (0 ∷ []) (g.D.Disk.seen c.args.disk.now) f (sym c.in_ok-write_at.ensures.written.over ∙ sym c.sync.ensures.stays.seen_stays ∙ durable f now) in
    shut_first f (drop 1 told.0, ap (λ (l : List ℕ). drop 0 l) told.2 ∙ put_behind 0 (0 ∷ []) told.0 (omega arith)))
