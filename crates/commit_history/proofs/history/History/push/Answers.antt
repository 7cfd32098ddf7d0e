use Rattle.std.proofs.Common.{◌≡◌, Some, List, [], ◌∷◌, ◌++◌, ap, sym, ◌∙◌, subst}
use Rattle.commit_history.specs.Runs.{Next, next_of, completed, completed_by, with_next, Placed, AreLevels, composites}
use Rattle.commit_history.proofs.Composed.{counted_as, pushed, same_levels}
use Rattle.commit_history.proofs.history.History.push.Goals as goal

pub push_if-requires : goal.push_if-requires
push_if-requires c =
    let s = c.self.inside in
    let n = c.next.inside in
    let is = c.next.view_is ∙ c.requires ∙ ap (λ ds. next_of ds c.args.next.delta.item) (sym c.self.view_is) in
    counted_as s.deltas s.by_16 (Some (record { item = c.args.next.delta.item; count = 0 })) n.by_16 c.self.invariant.sixteens (ap (λ (x : Next). x.by_16) is)

pub push_if-requires-2 : goal.push_if-requires-2
push_if-requires-2 c =
    let s = c.self.inside in
    let n = c.next.inside in
    let is = c.next.view_is ∙ c.requires ∙ ap (λ ds. next_of ds c.args.next.delta.item) (sym c.self.view_is) in
    let made = completed s.deltas c.args.next.delta.item in
    counted_as s.by_16 s.by_256 made n.by_256 c.self.invariant.more (ap (λ (x : Next). x.by_256) is ∙ ap (λ xs. completed_by xs made) (sym c.self.invariant.sixteens))

pub push_if-requires-3 : goal.push_if-requires-3
push_if-requires-3 c =
    let s = c.self.inside in
    let n = c.next.inside in
    let is = c.next.view_is ∙ c.requires ∙ ap (λ ds. next_of ds c.args.next.delta.item) (sym c.self.view_is) in
    let made = completed_by (composites s.deltas) (completed s.deltas c.args.next.delta.item) in
    counted_as s.by_256 s.by_4096 made n.by_4096 c.self.invariant.most (ap (λ (x : Next). x.by_4096) is ∙ ap (λ xs. completed_by xs made) (sym (c.self.invariant.more ∙ ap composites c.self.invariant.sixteens)))

pub invariant_of-self : goal.invariant_of-self
invariant_of-self c =
    let s = c.self.inside in
    let n = c.next.inside in
    let is = c.next.view_is ∙ c.requires ∙ ap (λ ds. next_of ds c.args.next.delta.item) (sym c.self.view_is) in
    same_levels (s.deltas ++ n.delta.item ∷ []) (with_next s.by_16 n.by_16) (with_next s.by_256 n.by_256) (with_next s.by_4096 n.by_4096)
    c.push.new.self c.push_if.new.self c.push_if-2.new.self c.push_if-3.new.self c.push.ensures c.push_if.ensures c.push_if-2.ensures c.push_if-3.ensures
    (pushed s.deltas s.by_16 s.by_256 s.by_4096 n.delta n.by_16 n.by_256 n.by_4096 c.args.next.delta.item c.self.invariant is c.next.invariant)
