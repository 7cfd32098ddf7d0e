use Rattle.std.proofs.Common.{List, refl, sym, subst}
use Rattle.db_value.specs.Value.{Value}
use Rattle.stmt_text.specs.declared.stmt.Stmt.TheVariants.{Insert}
use Rattle.db_core.specs.Cores.{StaysIn}
use Rattle.db_core.proofs.Answering.{on_err}
use Rattle.csv_port.specs.Lines.{ReadsAs}
use Rattle.csv_port.specs.Ran.{RanStmt}
use Rattle.csv_port.proofs.imports.run_insert.Goals as goal

pub returns-in_err-fields-clause-err : goal.returns-in_err-fields-clause-err
returns-in_err-fields-clause-err g c = on_err c.from_residual.result (StaysIn c.args.core.now c.args.core.now) (record { stands = λ w h. h; log = refl })

pub run_stmt-requires : goal.run_stmt-requires
run_stmt-requires g c = subst (λ (fs : List Value). ReadsAs (Insert c.args.relation.now c.args.row.now.key fs)) (sym c.in_ok-fields.ensures) c.requires

pub returns-clause-ran : goal.returns-clause-ran
returns-clause-ran g c = λ w h.
    subst (λ (fs : List Value). RanStmt g.J.Log w c.args.core.now c.run_stmt.new.core (Insert c.args.relation.now c.args.row.now.key fs) c.in_ok-reply.reply) c.in_ok-fields.ensures (c.in_ok-reply.ensures.ran w h)
