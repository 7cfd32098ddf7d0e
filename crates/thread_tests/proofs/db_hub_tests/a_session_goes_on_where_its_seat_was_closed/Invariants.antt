use Rattle.std.specs.Prelude.{◌+◌, ◌∷◌, [], Some, false}
use Rattle.thread_tests.proofs.db_hub_tests.a_session_goes_on_where_its_seat_was_closed.Given as goal

abbrev pub ghosts-go_on_named-T-Opened : goal.ghosts-go_on_named-T-Opened
ghosts-go_on_named-T-Opened g a = record { opened = a.note.opening; first = 0 }

abbrev pub ghosts-go_on_named-T-Tag : goal.ghosts-go_on_named-T-Tag
ghosts-go_on_named-T-Tag g a = record { note = a.note.note; numbers = (0, 1) ∷ (1, 1) ∷ []; since = λ n. n + n; stays = false }

abbrev pub ghosts-go_on_named-T-LogTag : goal.ghosts-go_on_named-T-LogTag
ghosts-go_on_named-T-LogTag g a = record { log = Some a.log }
