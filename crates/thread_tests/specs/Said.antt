-- What one line makes of a room and a seat.
use Rattle.std.specs.Prelude.{◌≡◌, ◌+◌, [], ◌∷◌, ℕ, length}
use Rattle.db_core.specs.Desk.{AtDesk}
use Rattle.db_hub.specs.Rooms.{AtRoom}
use Rattle.db_hub.specs.Seats.{AtSeat}

-- the room has so many steps more, and the seat of session 1 is out as before, with no line that waits
pub record HasSaid {J : Type 0} (count : ℕ) (old new : AtRoom J) (s t : AtSeat) : Type 0 where
  pub out : new.out ≡ old.out
  pub desks : new.desks ≡ old.desks
  pub issued : new.issued ≡ old.issued
  pub steps : length new.board.kept.steps ≡ length old.board.kept.steps + count
  pub number : t.number ≡ s.number
  pub session : t.desk.session ≡ s.desk.session
  pub none : t.desk.waiting ≡ []

-- the room has two steps, and the one seat that it gave is out, that of session 1, with no line that waits
pub record MayLeave {J : Type 0} (r : AtRoom J) (s : AtSeat) : Type 0 where
  pub out : r.out ≡ (0, 1) ∷ []
  pub desks : r.desks ≡ []
  pub issued : r.issued ≡ 1
  pub steps : length r.board.kept.steps ≡ 2
  pub number : s.number ≡ 0
  pub session : s.desk.session ≡ 1
  pub none : s.desk.waiting ≡ []

-- the room has two steps, and the one seat that it gave was closed, that of session 1
pub record HasLeft {J : Type 0} (r : AtRoom J) : Type 0 where
  pub out : r.out ≡ []
  pub issued : r.issued ≡ 1
  pub steps : length r.board.kept.steps ≡ 2
  pub desk : AtDesk
  pub desks : r.desks ≡ (1, desk) ∷ []
  pub none : desk.waiting ≡ []
