use Rattle.std.proofs.Common.{rules, ◌≡◌, ℕ, List, subst, sym}
use Rattle.flush_queue.specs.Appends.{Appends}
use Rattle.flush_queue.proofs.queue.FlushQueue.settle_waiting.Goals as goal

pub returns-clause-log : goal.returns-clause-log
returns-clause-log g c =
    let same : c.args.self.now.waiting ≡ c.self.inside.batch = search rules in
    subst (λ (b : List ℕ). Appends g.J.Log b c.args.log.now c.append-told.new.self c.append-told.result) (sym same) (record {
      any_moment = c.append-told.ensures.any_moment;
      done = c.append-told.ensures.done;
      failed = c.append-told.ensures.failed;
      owed = c.append-told.ensures.owed;
      goes_on = c.append-told.ensures.goes_on;
      counts = c.append-told.ensures.faults;
    })
