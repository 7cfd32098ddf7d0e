use Rattle.std.proofs.Common.{arith, ◌≡◌, ◌-◌, ◌++◌, ◌∷◌, [], ap, sym, ◌∙◌, List, suc, append-nil, refl}
use Rattle.db_value.specs.declared.report.LogLine.{LogLine}
use Rattle.db_store.specs.Dataset.{last_of}
use Rattle.db_store.specs.State.{dataset_of}
use Rattle.version_log.specs.Log.{log_line, branch_log}
use Rattle.version_log.proofs.LogLemmas.{below, below_more}
use Rattle.version_log.proofs.log.push_log.Goals as goal

pub loop-left-preserved : goal.loop-left-preserved
loop-left-preserved g c =
    let d = dataset_of (g.St.Store.state c.args.store.now) in
    let b = c.args.branch in
    let n = c.loop-left.left - 1 in
    let all : List LogLine = c.push.new.self.items ++ below d b (last_of d b) in
    let one : c.loop-left.left ≡ suc n = omega (arith, c.loop-left-test.true) in
    let pushed : c.push-in-loop-left.new.self.items ≡ c.loop-left.lines.items ++ log_line d b n ∷ [] = c.in_ok-push-2.ensures.items ∙ ap (λ (x : LogLine). c.loop-left.lines.items ++ x ∷ []) c.line_at-in-loop-left.ensures in
    let before : all ≡ c.loop-left.lines.items ++ below d b (suc n) = c.loop-left.invariant.lines ∙ ap (λ m. c.loop-left.lines.items ++ below d b m) one in
    record {
      lines = below_more d b n all c.loop-left.lines.items before ∙ ap (λ (t : List LogLine). t ++ below d b n) (sym pushed);
      within = omega arith;
    }

pub returns : goal.returns
returns g c =
    let d = dataset_of (g.St.Store.state c.args.store.now) in
    let b = c.args.branch in
    let n = last_of d b in
    let old : List LogLine = c.args.lines.now.items in
    let none : c.loop-left.left ≡ 0 = omega (arith, c.loop-left-test.false) in
    let first : c.push.new.self.items ≡ old ++ log_line d b n ∷ [] = c.in_ok-push.ensures.items ∙ ap (λ (x : LogLine). old ++ x ∷ []) (c.line_at.ensures ∙ ap (log_line d b) c.last-left.ensures) in
    let ended : c.push.new.self.items ++ below d b n ≡ c.loop-left.lines.items = c.loop-left.invariant.lines ∙ ap (λ m. c.loop-left.lines.items ++ below d b m) none ∙ append-nil c.loop-left.lines.items in
    sym ended ∙ ap (λ (t : List LogLine). t ++ below d b n) first ∙ sym (below_more d b n (old ++ branch_log d b) old refl)
