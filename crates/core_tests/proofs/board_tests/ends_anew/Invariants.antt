use Rattle.core_tests.proofs.board_tests.ends_anew.Given as goal

abbrev pub ghosts-ends_on : goal.ghosts-ends_on
ghosts-ends_on g a = record { opened = g.St.Store.state a.store; first = 0 }
