use Rattle.std.proofs.Common.{rules, ◌≡◌, ◌++◌, ◌∙◌, length, ap, arith}
use Rattle.flush_queue.specs.Queue.{AtQueue}
use Rattle.flush_queue.proofs.Sizes.{ready_long}
use Rattle.flush_queue.proofs.Tickets.{offered_given}
use Rattle.flush_queue.proofs.queue.FlushQueue.offer.Goals as goal

pub returns-then-entry-bytes-clause-full : goal.returns-then-entry-bytes-clause-full
returns-then-entry-bytes-clause-full c =
    let size = ready_long c.self.inside.batch in
    let same : length c.args.self.now.waiting ≡ length c.self.inside.batch = search rules in
    let bytes = ap length c.bytes.ensures.value in
    let over = c.if-entry-bytes.true in
    let few = c.bytes.ensures.few in
    (λ is. omega (arith, size, same, bytes, over, few), λ long. search rules)

pub returns-then-is_err-clause-full : goal.returns-then-is_err-clause-full
returns-then-is_err-clause-full c =
    let size = ready_long c.self.inside.batch in
    let same : length c.args.self.now.waiting ≡ length c.self.inside.batch = search rules in
    let bytes = ap length c.bytes.ensures.value in
    let within = c.if-entry-bytes.false in
    let few = c.bytes.ensures.few in
    (λ is. absurd (cc is), λ long. absurd (omega (arith, size, same, bytes, within, few, long)))

pub returns-clause-given : goal.returns-clause-given
returns-clause-given c =
    offered_given c.args.self.now _ c.args.entry.now _ (c.in_ok-add.ensures.added ∙ ap (λ (q : AtQueue). q.waiting ++ c.args.entry.now) c.self.view_is)
    (c.reserve.ensures.items ∙ ap (λ (q : AtQueue). q.results) c.self.view_is)
