use Rattle.std.proofs.Common.{◌≡◌, ◌<◌, ◌+◌, ◌∙◌, ◌++◌, ℕ, List, [], ap, sym, subst, arith, drop, length, append_assoc, append-nil}
use Rattle.std.proofs.lemmas.List.{drop_all}
use Rattle.db_value.specs.PackedChanges.{change_here}
use Rattle.db_value.specs.declared.entry.Change.{Change}
use Rattle.entry_codec.specs.Spelling.{is_met, change_bytes, changes_bytes}
use Rattle.entry_codec.specs.Laws.{AreRanged}
use Rattle.entry_codec.proofs.Lists.{next_is, all_here}
use Rattle.entry_codec.proofs.write.put_changes.Goals as goal

pub put_change-requires-clause-met : goal.put_change-requires-clause-met
put_change-requires-clause-met c = all_here is_met c.args.changes.now c.loop-at.at (omega (arith, c.loop-at-test.true, c.len-at-end.ensures)) c.requires

pub loop-at-preserved : goal.loop-at-preserved
loop-at-preserved c =
    let cs : List Change = c.args.changes.now in
    let i : ℕ = c.loop-at.at in
    let here : i < length cs = omega (arith, c.loop-at-test.true, c.len-at-end.ensures) in
    let rest : List ℕ = changes_bytes c.args.wide (drop (i + 1) cs) in
    record {
      bytes =
          ap (λ (l : List ℕ). l ++ rest) c.in_ok-put_change.ensures.bytes
          ∙ append_assoc c.loop-at.out.items (change_bytes c.args.wide (change_here cs i)) rest
          ∙ sym (ap (λ (ds : List Change). c.loop-at.out.items ++ changes_bytes c.args.wide ds) (next_is cs i here))
          ∙ c.loop-at.invariant.bytes;
      ranged = λ rest. c.loop-at.invariant.ranged (subst AreRanged (sym (next_is cs i here)) (c.in_ok-put_change.ensures.ranged, rest));
    }

pub returns-clause-ranged : goal.returns-clause-ranged
returns-clause-ranged c = c.loop-at.invariant.ranged (subst AreRanged (sym (drop_all c.loop-at.at c.args.changes.now (omega (arith, c.loop-at-test.false, c.len-at-end.ensures)))) tt)

pub returns-clause-bytes : goal.returns-clause-bytes
returns-clause-bytes c =
    let none : drop c.loop-at.at c.args.changes.now ≡ [] = drop_all c.loop-at.at c.args.changes.now (omega (arith, c.loop-at-test.false, c.len-at-end.ensures)) in
    sym (append-nil c.loop-at.out.items) ∙ sym (ap (λ (ds : List Change). c.loop-at.out.items ++ changes_bytes c.args.wide ds) none) ∙ c.loop-at.invariant.bytes
