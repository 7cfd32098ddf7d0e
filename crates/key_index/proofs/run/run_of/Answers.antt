use Rattle.std.proofs.Common.{◌<◌, List, None, length, take, get_or, sym, ◌∙◌, subst, arith}
use Rattle.std.proofs.lemmas.List.{take_more}
use Rattle.key_index.specs.declared.changes.SpotChange.{SpotChange}
use Rattle.key_index.specs.Runs.{Each, IsWithin, first_of}
use Rattle.key_index.proofs.Runs.{each_push}
use Rattle.key_index.proofs.run.run_of.Goals as goal

pub loop-n-preserved : goal.loop-n-preserved
loop-n-preserved c =
    let all : List SpotChange = c.args.changes.now in
    let n = c.loop-n.n in
    let d : SpotChange = record { key = 0; place = None } in
    let here : n < length all = omega arith in
    record {
      some = omega arith;
      within = omega arith;
      rises = omega arith;
      keys = subst (λ (cs : List SpotChange). Each (IsWithin (first_of all) c.args.end) cs) (sym (take_more all n d here))
          (each_push (IsWithin (first_of all) c.args.end) (take n all) (get_or all n d) c.loop-n.invariant.keys (record { above = omega arith; under = sym c.is_under.ensures ∙ c.if-not-is_under.false }));
    }
