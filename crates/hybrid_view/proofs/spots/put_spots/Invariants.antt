use Rattle.hybrid_view.proofs.spots.put_spots.Given as goal

abbrev pub ghosts-put_counted : goal.ghosts-put_counted
ghosts-put_counted a = record { name = a.blank.name; parts = a.blank.parts }
