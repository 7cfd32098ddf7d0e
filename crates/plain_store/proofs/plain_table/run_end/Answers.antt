use Rattle.std.proofs.Common.{◌∙◌, sym, arith}
use Rattle.plain_store.proofs.RunLemmas.{first_of, one_more_of}
use Rattle.plain_store.proofs.plain_table.run_end.Goals as goal

pub loop-at-init : goal.loop-at-init
loop-at-init c = record { some = omega arith; same = first_of c.args.relation c.args.from c.args.changes.now c.requires.from c.requires.first }

pub loop-at-preserved : goal.loop-at-preserved
loop-at-preserved c = record {
  some = omega (arith, c.loop-at.invariant.some);
  same = one_more_of c.args.relation c.args.from c.loop-at.at c.args.changes.now (omega (arith, c.loop-at.invariant.some)) (omega (arith, c.loop-at-test.true, c.len-len.ensures.count)) (sym c.relation-own.ensures ∙ c.if-own-relation.false) c.loop-at.invariant.same;
}
