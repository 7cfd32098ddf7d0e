use Rattle.std.proofs.Common.{◌∙◌, ap, sym, List}
use Rattle.db_store.specs.Overlay.{Overlay}
use Rattle.db_store.specs.State.{dataset_of}
use Rattle.branch_tx.specs.Act.{Outcome}
use Rattle.store_tx.proofs.KeepsLemmas.{goes_on, step_acts}
use Rattle.store_tx.proofs.Telling.{other_told}
use Rattle.store_tx.proofs.inside.go_on.Goals as goal

pub returns-in_ok-answer-in_default : goal.returns-in_ok-answer-in_default
returns-in_ok-answer-in_default g c =
    let d = dataset_of (g.St.Store.state c.args.store.now) in
    let x = c.args.stmt.now in
    let not = c.in_default in
    let one = step_acts d c.args.branch c.args.tx.now x (goes_on x c.requires.goes_on not.not-Begin not.not-On not.not-LogOf not.not-Branch not.not-Graph not.not-Segments not.not-Checkpoint) in
    record {
      reply = c.in_ok-answer-in_default.ensures.reply ∙ ap (λ (o : Outcome (List Overlay)). o.reply) (sym one) ∙ sym (other_told (g.St.Store.state c.args.store.now) x _ not.not-Segments);
      tx = record { tx = c.in_ok-answer-in_default.ensures.tx.tx ∙ ap (λ (o : Outcome (List Overlay)). o.tx) (sym one); keeps = c.in_ok-answer-in_default.ensures.tx.keeps };
      shown = c.in_ok-answer-in_default.ensures.shown;
      err = tt;
    }
