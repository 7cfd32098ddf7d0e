use Rattle.benches.proofs.pages.StoredRound.make.Given as goal

abbrev pub ghosts-read_stored : goal.ghosts-read_stored
ghosts-read_stored a = record { name = a.blank.name; parts = a.blank.parts }
