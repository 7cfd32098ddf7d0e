use Rattle.core_tests.proofs.board_tests.answers_anew.Given as goal

abbrev pub ghosts-answers_on : goal.ghosts-answers_on
ghosts-answers_on g a = record { opened = g.St.Store.state a.store; first = 0 }
