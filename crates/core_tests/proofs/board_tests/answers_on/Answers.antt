use Rattle.core_tests.proofs.board_tests.answers_on.Goals as goal

pub answers-requires-clause-first : goal.answers-requires-clause-first
answers-requires-clause-first g c = c.in_ok-board.ensures.first.desk.agree

pub answers-requires-clause-second : goal.answers-requires-clause-second
answers-requires-clause-second g c = c.in_ok-board.ensures.second.desk.agree

pub answers-requires-clause-session : goal.answers-requires-clause-session
answers-requires-clause-session g c = c.in_ok-board.ensures.second.desk.session_is
