use Rattle.core_tests.proofs.desk_tests.run.Given as goal

abbrev pub ghosts-run_on : goal.ghosts-run_on
ghosts-run_on g a = record { opened = g.St.Store.state a.store; first = 0 }
